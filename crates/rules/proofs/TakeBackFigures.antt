-- The worked examples of taking back hold, by computation.
use mathlib.Core.Path.{refl}
use Rattle.rules.specs.Figures.{Hold}
use Rattle.rules.specs.TakeBack.{taken_back, take_back}
use Rattle.rules.specs.TakeBackFigures.{two_measures, takings}
use Rattle.rules.proofs.Figures.{naturals, lists, hold, rules}

pub takings_hold : Hold takings
unfolding rules taken_back take_back two_measures takings
takings_hold = hold (lists naturals) takings refl
