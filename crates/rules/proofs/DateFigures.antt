-- The worked examples of the calendar and of dated measures hold, by computation.
use mathlib.Core.Path.{refl}
use Rattle.rules.specs.Figures.{Hold}
use Rattle.rules.specs.DateFigures.{dates, deliveries, dated_case, over_months, dated_measures}
use Rattle.rules.proofs.Figures.{naturals, integers, lists, hold, rules}

pub dates_hold : Hold dates
unfolding rules dates
dates_hold = hold (lists naturals) dates refl

pub deliveries_hold : Hold deliveries
unfolding rules deliveries
deliveries_hold = hold (lists naturals) deliveries refl

pub dated_measures_hold : Hold dated_measures
unfolding rules dated_measures dated_case
dated_measures_hold = hold (lists integers) dated_measures refl

pub over_months_hold : Hold over_months
unfolding rules over_months dated_case
over_months_hold = hold (lists integers) over_months refl
