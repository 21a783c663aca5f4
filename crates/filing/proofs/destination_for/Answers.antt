use Rattle.std.proofs.Common.{sym, ◌∙◌, ap}
use Rattle.std.proofs.lemmas.Result.{err_from_is_err_and}
use Rattle.rules.specs.Archive.{kind_of}
use Rattle.rules.proofs.AppendSteps.{append_no_head, append_bad_record, append_bad_owner}
use Rattle.archive.proofs.Laws.{opened}
use Rattle.filing.proofs.Destinations.{Tested, walk_needs, chain_refused, chain_full, chain_joined}
use Rattle.filing.proofs.destination_for.Goals as goal
use Rattle.filing.proofs.destination_for.Goals.{In_ok-offset}

-- what the tests before the walk have shown
tested : (c : In_ok-offset) → Tested c.args.archive.now c.args.owner c.args.new.now c.in_ok-used.used c.kind_of-kind.result c.in_ok-offset.offset
tested c = record {
  used_is = sym c.in_ok-used.ensures;
  allowed = c.in-Some.ensures.0;
  kind_is = c.kind_of-kind.ensures ∙ ap kind_of c.in-Some.ensures.1;
  offset_is = sym c.in_ok-offset.ensures;
}

pub returns-in_err-used : goal.returns-in_err-used
returns-in_err-used c =
    let a = c.args in
    let p = err_from_is_err_and c.from_residual.result c.from_residual.ensures.1 in
    rw (p.1, p.2) (append_no_head a.archive.now a.owner a.new.now _ (sym c.in_err-used.ensures))

pub returns-in_default : goal.returns-in_default
returns-in_default c =
    let a = c.args in
    append_bad_record a.archive.now a.owner a.new.now _ (sym c.in_ok-used.ensures) c.in_default.ensures

pub offset_for-requires : goal.offset_for-requires
offset_for-requires c = (opened _ _ c.in_ok-used.ensures).within

pub returns-in_err-offset : goal.returns-in_err-offset
returns-in_err-offset c =
    let a = c.args in
    let p = err_from_is_err_and c.from_residual-in_err-offset.result c.from_residual-in_err-offset.ensures.1 in
    rw (p.1, p.2)
    (append_bad_owner a.archive.now a.owner a.new.now _ (sym c.in_ok-used.ensures) c.in-Some.ensures.0 c.kind_of-kind.result
    (c.kind_of-kind.ensures ∙ ap kind_of c.in-Some.ensures.1) _ (sym c.in_err-offset.ensures))

pub walk_all-requires : goal.walk_all-requires
walk_all-requires c = walk_needs (tested (goal.at.walk_all-requires c).In_ok-offset)

pub returns-in_err-last : goal.returns-in_err-last
returns-in_err-last c =
    let p = err_from_is_err_and c.from_residual-in_err-last.result c.from_residual-in_err-last.ensures.1 in
    rw (p.1, p.2) (chain_refused (tested (goal.at.returns-in_err-last c).In_ok-offset) c.in_err-last.ensures)

pub returns-then-archive-used : goal.returns-then-archive-used
returns-then-archive-used c = chain_full (tested (goal.at.returns-then-archive-used c).In_ok-offset) c.in_ok-last.ensures c.if-archive-used.true

pub returns : goal.returns
returns c = chain_joined (tested (goal.at.returns c).In_ok-offset) c.in_ok-last.ensures c.if-archive-used.false
