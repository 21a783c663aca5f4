-- What a sheet of exact magnitudes must be to be booked, and how an amount is put into a list.
use Rattle.std.specs.Prelude.{ℕ, ◌+◌, ◌/◌, ◌^◌, ◌≤◌, ◌<◌, ◌≡◌, refl, List, ◌++◌, length, take, drop, ℤ}
use Rattle.rules.specs.Numbers.{sum}
use Rattle.rules.specs.Encoding.{bits, double_word}

-- magnitudes over this denominator, for which so many of so many places are wanted
pub record Bookable (denominator : ℕ) (sheet : List ℕ) (wanted places : ℕ) : Type 0 where
  pub positive : 0 < denominator
  pub low : denominator ≤ 2 ^ 63
  pub fits : sum sheet / denominator < 2 ^ 63
  pub room : wanted ≤ places

-- the book's `put`, in a list of any type
abbrev pub place_put : {A : Type 0} → List A → ℕ → List A → List A
place_put list place part = take place list ++ (part ++ drop (place + length part) list)

pub double_word_long : (z : ℤ) → length (double_word (bits z)) ≡ 8
unfolding double_word
double_word_long z = refl
