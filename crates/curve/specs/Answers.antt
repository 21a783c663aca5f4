-- What each answer of the code stands for: document 01's value for each case.
use Rattle.std.specs.Prelude.{pos}
use Rattle.rules.specs.Reference as reference
use Rattle.curve.specs.declared.CurveReading.{CurveReading}
use Rattle.curve.specs.declared.CurveReading.TheVariants as reading

-- below the first point, on the curve with a power in W, or above the last point
abbrev pub reading_answer : reference.CurveReading → CurveReading
reading_answer reference.below = reading.Below
reading_answer (reference.on power) = reading.On (record { 0 = pos power })
reading_answer reference.above = reading.Above
