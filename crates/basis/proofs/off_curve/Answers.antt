use Rattle.std.proofs.Common.{refl, sym, ◌∙◌}
use Rattle.place.specs.Places.{meant}
use Rattle.basis.proofs.Pairings.{on_comparison, on_terms}
use Rattle.basis.proofs.off_curve.Goals as goal

pub returns-in-Comparison : goal.returns-in-Comparison
returns-in-Comparison c =
    let a = c.args in
    let e = sym c.ground_of.ensures ∙ c.in-Comparison.is in
    on_comparison a.archive.now (meant a.archive.now a.place) a.powers.now c.compared.result _ c.compared.ensures a.place.terms.technology a.place.terms.variant a.place.terms.nominal c.requires.variant_value e

pub returns-in-ByTerms : goal.returns-in-ByTerms
returns-in-ByTerms c =
    let a = c.args in
    let e = sym c.ground_of.ensures ∙ c.in-ByTerms.is in
    on_terms a.archive.now (meant a.archive.now a.place) a.powers.now a.place.terms.nominal c.requires.lies.nominal_natural refl a.place.terms.technology a.place.terms.variant _ e
