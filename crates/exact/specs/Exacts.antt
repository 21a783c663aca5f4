-- What the code says of a quarter's exact magnitude.
use Rattle.std.specs.Prelude.{◌≡◌, Bool, true, false, List, ℕ, ◌≤◌, ℤ, Option, Some, None}
use Rattle.std.specs.Int.Signed.{mag}
use Rattle.rules.specs.Archive.{field_at}
use Rattle.rules.specs.Terms.{Terms, reading_at, Quarter}
use Rattle.rules.specs.Reference.{Reference, exact_of}
use Rattle.rules.specs.Settle.{readable}

-- numbers whose magnitude 64 bits hold
pub record Room (d : ℕ) (t l : ℤ) : Type 0 where
  pub divisor : d ≤ 4000000000
  pub reference : mag t ≤ 4000000000000000000
  pub limit : mag l ≤ 1000000000

-- a quarter whose powers are those of a record's bytes
pub record ReadFrom (r : List ℕ) (q : Quarter) : Type 0 where
  pub measured : q.measured ≡ field_at r 8
  pub limit : q.limit ≡ field_at r 12
  pub nonavailability : q.nonavailability ≡ reading_at r 24
  pub market_adjustment : q.market_adjustment ≡ reading_at r 28

-- the numerator of the exact magnitude over 4 × D; or a needed field is out of range
abbrev pub exact_answer : Bool → ℕ → Option ℕ
exact_answer true m = Some m
exact_answer false m = None

-- the answer to a quarter of a measure
abbrev pub quarter_answer : Terms → Reference → Quarter → Option ℕ
quarter_answer terms ref q = exact_answer (readable terms ref q) (exact_of terms ref q)
