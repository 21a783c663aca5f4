-- The worked examples of the financial correction hold, by computation.
use mathlib.Core.Path.{refl}
use Rattle.rules.specs.Figures.{Hold}
use Rattle.rules.specs.Correction.{cost_of, money_of, correction_over, correction}
use Rattle.rules.specs.CorrectionFigures.{corrections}
use Rattle.rules.proofs.Figures.{integers, lists, hold, rules}

pub corrections_hold : Hold corrections
unfolding rules cost_of money_of correction_over correction corrections
corrections_hold = hold (lists integers) corrections refl
