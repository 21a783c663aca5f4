use Rattle.std.proofs.Common.{sym, ◌∙◌, ap}
use Rattle.rules.specs.Outcome.{given}
use Rattle.preview.proofs.Undoing.{undoes}
use Rattle.preview.proofs.append_for_now.Goals as goal

pub returns : goal.returns
returns c =
    let g = c.in_ok-destination.ensures in
    let u = undoes g.1 g.2 (λ i. (c.slice_known-1.given i).fits) c.file.ensures c.record_at-before.ensures in
    (g.0 ∙ ap given (sym c.file.ensures), u.0, u.1)
