use Rattle.std.proofs.Common.{eqb, refl, ◌∙◌}
use mathlib.Core.Bool.{or_assoc}
use Rattle.takeback.specs.Namings.{holds_number}
use Rattle.takeback.proofs.holds.Goals as goal

pub returns : goal.returns
unfolding holds_number
returns c =
    let n = c.args.number in
    or_assoc (eqb c.link_of-a.result n) (eqb c.link_of-b.result n) (eqb c.link_of-c.result n)
    ∙ rw (c.link_of-a.ensures.0, c.link_of-b.ensures.0, c.link_of-c.ensures.0) refl
