-- What the code says of a quarter's limitation value.
use Rattle.std.specs.Prelude.{◌≡◌, true, false, ℤ, Option, Some, None}
use Rattle.rules.specs.Terms.{Terms}
use Rattle.rules.specs.Reference.{limitation}
use Rattle.rules.specs.Settle.{limit_readable}
use Rattle.units.specs.declared.Watt.{Watt}

-- L, from measured power and limit; or one that it needs is out of range
abbrev pub LimitedTo : Terms → ℤ → ℤ → Option Watt → Type 0
LimitedTo terms measured limit (Some l) =
    (limit_readable terms.execution measured limit ≡ true) × (l.0 ≡ limitation terms.direction terms.execution measured limit)
LimitedTo terms measured limit None = limit_readable terms.execution measured limit ≡ false
