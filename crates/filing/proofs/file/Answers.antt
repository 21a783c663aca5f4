use Rattle.std.proofs.Common.{refl, ◌∙◌, arith}
use Rattle.std.proofs.lemmas.List.{take_all}
use Rattle.std.proofs.lemmas.Option.{MatchOption-at_some}
use Rattle.rules.specs.Filing.{append_after}
use Rattle.filing.proofs.file.Goals as goal

pub returns : goal.returns
unfolding append_after
returns c =
    let h = MatchOption-at_some _ _ _ c.unwrap-new.ensures c.first_chunk.ensures.cases in
    c.write.ensures ∙ rw (h.same ∙ take_all 32 c.args.new.now (omega (arith, c.requires.size))) refl
