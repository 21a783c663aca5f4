-- The worked examples of the rules of October 2026 hold, by computation.
use mathlib.Core.Path.{refl}
use Rattle.rules.specs.Figures.{Hold}
use Rattle.rules.specs.OctoberFigures.{october_case, bounded_references, bounded_limitations, tested_readings, across_october}
use Rattle.rules.proofs.Figures.{integers, lists, hold, rules}

pub bounded_references_hold : Hold bounded_references
unfolding rules bounded_references october_case
bounded_references_hold = hold (lists integers) bounded_references refl

pub bounded_limitations_hold : Hold bounded_limitations
unfolding rules bounded_limitations october_case
bounded_limitations_hold = hold (lists integers) bounded_limitations refl

pub tested_readings_hold : Hold tested_readings
unfolding rules tested_readings october_case
tested_readings_hold = hold (lists integers) tested_readings refl

pub across_october_hold : Hold across_october
unfolding rules across_october
across_october_hold = hold (lists integers) across_october refl
