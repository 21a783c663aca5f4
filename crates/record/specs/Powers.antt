-- What the code says of a power in a record.
use Rattle.std.specs.Prelude.{◌≡◌, true, false, List, ℤ, Option, Some, None}
use Rattle.rules.specs.Numbers.{all}
use Rattle.rules.specs.Terms.{is_power, Reading}
use Rattle.rules.specs.October.{smallest, reading_allowed}
use Rattle.units.specs.declared.Watt.{Watt}

-- a measured power, limit or plan; or it is out of range
abbrev pub PowerOf : ℤ → Option Watt → Type 0
PowerOf z (Some p) = (is_power z ≡ true) × (p.0 ≡ z)
PowerOf z None = is_power z ≡ false

-- the smallest of a power and readings; or a reading is out of range
abbrev pub SmallestOf : List Reading → ℤ → Option Watt → Type 0
SmallestOf readings n (Some p) = (all reading_allowed readings ≡ true) × (p.0 ≡ smallest n readings)
SmallestOf readings n None = all reading_allowed readings ≡ false
