use Rattle.std.proofs.Common.{◌+◌, ◌*◌, ◌-◌, arith, ◌∙◌, drop}
use Rattle.std.proofs.lemmas.List.{take_all, length-take}
use Rattle.std.proofs.lemmas.Option.{MatchOption-at_some}
use Rattle.rules.proofs.Chains.{record_part}
use Rattle.record.proofs.record_at.Goals as goal

pub returns : goal.returns
returns c =
    let a = c.args in
    let h = MatchOption-at_some _ _ _ c.unwrap.ensures c.first_chunk.ensures.cases in
    h.same ∙ take_all 32 _ (omega (arith, length-take (32 * a.n + 32 - 32 * a.n) (drop (32 * a.n) a.archive.now))) ∙ record_part a.archive.now a.n
