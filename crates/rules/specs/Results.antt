-- What the code gives, a value or a refusal, as the book's outcome.
use Rattle.std.specs.Prelude.{ℕ, Option, None, Some, Result, Ok, Err}
use Rattle.rules.specs.Outcome.{Outcome, refused, given}
use Rattle.rules.specs.Refusals.{not_archive, bad_link, wrong_kind, no_plant, no_measure, bad_plant, bad_measure, bad_count, out_of_range, bad_curve, too_few_usable, divisor_zero, no_room, bad_record, bad_owner, archive_full, not_named_once, not_in_calendar, last_not_named_once, bad_energies, bad_price, unequal_lists}
use Rattle.rules.specs.declared.refusal.Refusal.{Refusal}
use Rattle.rules.specs.declared.refusal.Refusal.TheVariants.{NotArchive, BadLink, WrongKind, NoPlant, NoMeasure, BadPlant, BadMeasure, BadCount, OutOfRange, BadCurve, TooFewUsable, DivisorZero, NoRoom, BadRecord, BadOwner, ArchiveFull, NotNamedOnce, NotInCalendar, LastNotNamedOnce, BadEnergies, BadPrice, UnequalLists}

-- the number of a refusal
abbrev pub number : Refusal → ℕ
number NotArchive = not_archive
number BadLink = bad_link
number WrongKind = wrong_kind
number NoPlant = no_plant
number NoMeasure = no_measure
number BadPlant = bad_plant
number BadMeasure = bad_measure
number BadCount = bad_count
number OutOfRange = out_of_range
number BadCurve = bad_curve
number TooFewUsable = too_few_usable
number DivisorZero = divisor_zero
number NoRoom = no_room
number BadRecord = bad_record
number BadOwner = bad_owner
number ArchiveFull = archive_full
number NotNamedOnce = not_named_once
number NotInCalendar = not_in_calendar
number LastNotNamedOnce = last_not_named_once
number BadEnergies = bad_energies
number BadPrice = bad_price
number UnequalLists = unequal_lists

-- what a call of the code gives
abbrev pub outcome : {A : Type 0} → Result A Refusal → Outcome A
outcome (Ok a) = given a
outcome (Err e) = refused (number e)

-- the same, where the book has another value for it
abbrev pub outcome_by : {A B : Type 0} → (A → B) → Result A Refusal → Outcome B
outcome_by f (Ok a) = given (f a)
outcome_by f (Err e) = refused (number e)

-- a value that may be missing; where it is, this refusal
abbrev pub some_or : {A : Type 0} → ℕ → Option A → Outcome A
some_or n (Some a) = given a
some_or n None = refused n
