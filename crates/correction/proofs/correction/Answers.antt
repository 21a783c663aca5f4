use mathlib.Core.Logic.{⊎_elim}
use mathlib.Core.Path.{◌∙◌}
use borrow.Author.Tests.{eq-eqb, ne_eqb}
use Rattle.correction.proofs.Passes.{balanced_differ, prices_differ, as_long, corrects}
use Rattle.correction.proofs.correction.Goals as goal

pub returns-then-balanced-amounts : goal.returns-then-balanced-amounts
returns-then-balanced-amounts c =
    let a = c.args in
    let e = ⊎_elim
    (λ w. balanced_differ a.amounts.now a.balanced.now a.prices.now (ne_eqb _ _ w))
    (λ w. prices_differ a.amounts.now a.balanced.now a.prices.now (eq-eqb _ _ w.0) (ne_eqb _ _ w.1))
    c.then-balanced-amounts.either in
    record { is = e; corrects = corrects e }

pub returns : goal.returns
returns c =
    let a = c.args in
    let e = c.correction_over.ensures ∙ as_long a.amounts.now a.balanced.now a.prices.now (eq-eqb _ _ c.if-balanced-amounts.false) (eq-eqb _ _ c.if-prices-amounts.false) in
    record { is = e; corrects = corrects e }
