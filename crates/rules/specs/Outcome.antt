-- An answer or one refusal (01, 'Refused sheets'), and what a call leaves behind.
use Rattle.std.specs.Prelude.{ℕ, Bool, true, false}

-- a refusal number of 01's table, or what is given
pub data Outcome (A : Type 0) : Type 0 where
  refused : ℕ → Outcome A
  given : A → Outcome A

infixl 20 ◌>>=◌ ◌>>◌
-- go on with what is given; a refusal leaves there
unfoldable pub ◌>>=◌ : {A B : Type 0} → Outcome A → (A → Outcome B) → Outcome B
refused n >>= f = refused n
given a >>= f = f a

unfoldable pub ◌>>◌ : {A B : Type 0} → Outcome A → Outcome B → Outcome B
refused n >> b = refused n
given a >> b = b

-- refused with this number unless the test passes
unfoldable pub require : Bool → ℕ → Outcome (Unit {0})
require true n = given tt
require false n = refused n

-- the number that a call returns: 0 if it isn't refused
abbrev pub number_of : {A : Type 0} → Outcome A → ℕ
number_of (refused n) = n
number_of (given a) = 0

-- what a call leaves where `was` stood: a refusal changes nothing
abbrev pub after : {A B : Type 0} → Outcome A → (A → B) → B → B
after (refused n) later was = was
after (given a) later was = later a
