use Rattle.std.proofs.Common.{ℕ, ◌+◌, ◌*◌, Ok, Err, refl, ap, arith}
use Rattle.std.proofs.lemmas.Result.{err_from_is_err_and}
use Rattle.place.specs.Places.{meant}
use Rattle.prepare.proofs.Bases.{not_based, standing_at, on_standing}
use Rattle.prepare.proofs.Ready.{counted, walk_refused, stands}
use Rattle.prepare.proofs.on_basis.Goals as goal

pub returns-in_err-basis : goal.returns-in_err-basis
returns-in_err-basis c =
    let a = c.args in
    let p = err_from_is_err_and c.from_residual.result c.from_residual.ensures.1 in
    let h = rw c.in_err-basis.was at c.requires.finds in
    rw (p.1, p.2) (not_based a.archive.now (meant a.archive.now a.place) h)

pub denominator-d-requires : goal.denominator-d-requires
denominator-d-requires c =
    let h = rw c.in_ok-basis.was at c.requires.finds in
    (standing_at c.requires.lies h).held.bounded

pub walk-requires-clause-divided : goal.walk-requires-clause-divided
walk-requires-clause-divided c =
    let h = rw c.in_ok-basis.was at c.requires.finds in
    record { held = (standing_at c.requires.lies h).held; divides = c.denominator-d.ensures }

pub walk-requires-clause-fits : goal.walk-requires-clause-fits
walk-requires-clause-fits c =
    let h = rw c.in_ok-basis.was at c.requires.finds in
    (standing_at c.requires.lies h).fits

pub returns-in_err-count : goal.returns-in_err-count
returns-in_err-count c =
    let a = c.args in
    let h = rw c.in_ok-basis.was at c.requires.finds in
    let p = err_from_is_err_and c.from_residual-in_err-count.result c.from_residual-in_err-count.ensures.1 in
    let w = rw c.in_err-count.was at (c.walk.ensures.by h.book h.stands.means) in
    rw (p.1, p.2)
    (on_standing a.archive.now (meant a.archive.now a.place) a.powers.now c.in_ok-basis.basis h c.walk.new.sheet (Err _) (walk_refused a.archive.now (meant a.archive.now a.place) h.book _ w))

pub overflow_add-result : goal.overflow_add-result
overflow_add-result c =
    let h = rw c.in_ok-basis.was at c.requires.finds in
    let s = standing_at c.requires.lies h in
    record { fits = omega (arith, s.links_few, c.requires.lies.links_few) }

pub overflow_add-result-2 : goal.overflow_add-result-2
overflow_add-result-2 c =
    let a = c.args in
    let h = rw c.in_ok-basis.was at c.requires.finds in
    let s = standing_at c.requires.lies h in
    let w = rw c.in_ok-count.was at (c.walk.ensures.by h.book h.stands.means) in
    let k = counted a.archive.now (meant a.archive.now a.place) h.book _ w in
    record { fits = omega (arith, k.few, s.links_few, c.requires.lies.links_few) }

pub returns : goal.returns
returns c =
    let a = c.args in
    let h = rw c.in_ok-basis.was at c.requires.finds in
    let d = c.denominator-d.ensures in
    let w = rw c.in_ok-count.was at (c.walk.ensures.by h.book h.stands.means) in
    on_standing a.archive.now (meant a.archive.now a.place) a.powers.now c.in_ok-basis.basis h _ (Ok _)
    (stands a.archive.now (meant a.archive.now a.place) h.book _ w _ refl refl
    (ap (λ (c : ℕ). 4 * c) (d.is a.powers.now h.book.reference h.stands.means))
    (ap (λ (i : ℕ). a.place.links + i + c.in_ok-count.count) h.stands.links_are) (omega (arith, d.some)) (omega (arith, d.small)))
