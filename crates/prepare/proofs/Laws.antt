-- What the answer of the tests says to the one who books.
use mathlib.Core.Path.{◌≡◌}
use mathlib.Core.List.{List}
use Prim.Native.Nat.{ℕ, ◌≤◌, min}
use native.Mathlib.Omega.{arith}
use lib.ListN.{length, take}
use lib.Seq.{length-take-le}
use Rattle.rules.specs.Outcome.{Outcome}
use Rattle.rules.specs.Settle.{Settlement}
use Rattle.prepare.specs.declared.Measure.{Measure}
use Rattle.prepare.specs.Answers.{Stands}

-- a sheet that has a place for each quarter that a list of so many places can take
module _ {o : Outcome Settlement} {sheet : List ℕ} {m : Measure} (s : Stands o sheet m) {places : ℕ} (room : min places 2976 ≤ length sheet) (h : m.count ≤ places) where
  pub in_sheet : m.count ≤ length sheet
  in_sheet = omega (arith, s.few)

  pub sheet_length : length (take m.count sheet) ≡ m.count
  sheet_length = length-take-le m.count sheet in_sheet
