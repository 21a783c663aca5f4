use Rattle.std.proofs.Common.{refl, Err, arith}
use Rattle.std.proofs.lemmas.Result.{err_from_is_err_and}
use Rattle.rules.proofs.Bounds.{points_few}
use Rattle.place.specs.Places.{meant}
use Rattle.basis.proofs.Pairings.{wind_refused, wind_on, is_wind, by_told}
use Rattle.basis.proofs.on_curve.Goals as goal

pub returns-in_err-read : goal.returns-in_err-read
returns-in_err-read c =
    let a = c.args in
    let p = err_from_is_err_and c.from_residual.result c.from_residual.ensures.1 in
    let i = is_wind a.place.terms.technology a.place.terms.variant c.requires.for_curve.needs in
    rw (p.1, p.2)
    (by_told a.archive.now (meant a.archive.now a.place) c.read_points.new.powers (Err _) i.0 i.1 (wind_refused a.archive.now (meant a.archive.now a.place) c.in_err-read.ensures))

pub compared-requires-clause-comparison_ready : goal.compared-requires-clause-comparison_ready
compared-requires-clause-comparison_ready c =
    let a = c.args in
    let q = c.in_ok-read.ensures in
    let r = c.requires.lies in
    record {
      ready = record { natural = r.nominal_natural; nominal = r.nominal_low; size = q.tabulates.size; low = q.tabulates.low };
      few = omega (arith, q.count, (points_few a.archive.now (meant a.archive.now a.place)).of q.points q.is, r.few);
    }

pub returns : goal.returns
returns c =
    let a = c.args in
    let i = is_wind a.place.terms.technology a.place.terms.variant c.requires.for_curve.needs in
    by_told a.archive.now (meant a.archive.now a.place) _ c.compared.result i.0 i.1
    (wind_on a.archive.now (meant a.archive.now a.place) _ _ c.in_ok-read.ensures a.place.terms.nominal refl c.compared.result c.compared.ensures)
