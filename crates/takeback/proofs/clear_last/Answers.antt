use Rattle.std.proofs.Common.{◌≡◌, ◌+◌, ◌-◌, refl, sym, ◌∙◌, arith}
use Rattle.rules.specs.TakeBack.{taken_back}
use Rattle.takeback.proofs.clear_last.Goals as goal

pub returns : goal.returns
unfolding taken_back
returns c =
    let n = c.args.last.number in
    let e : n + 1 - 1 ≡ n = omega arith in
    c.write.ensures ∙ sym (rw e refl)
