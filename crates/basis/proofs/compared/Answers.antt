use Rattle.std.proofs.Common.{refl}
use Rattle.std.proofs.lemmas.Result.{err_from_is_err_and}
use Rattle.rules.specs.Outcome.{◌>>=◌}
use Rattle.basis.proofs.compared.Goals as goal

pub returns-in_err-gathered : goal.returns-in_err-gathered
unfolding ◌>>=◌
returns-in_err-gathered c =
    let p = err_from_is_err_and c.from_residual.result c.from_residual.ensures.1 in
    record { by = λ choice m. rw (p.1, p.2, ← c.in_err-gathered.ensures.gathers choice m) refl }

pub returns : goal.returns
unfolding ◌>>=◌
returns c =
    let a = c.args in
    record { by = λ choice m. rw (← c.in_ok-gathered.ensures.gathers choice m) (c.on_sums.ensures.on a.powers.now choice m) }
