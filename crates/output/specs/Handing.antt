-- The output of an input, handed over part after part.
use Rattle.std.specs.Prelude.{◌≡◌, List, ◌++◌, ℕ, ◌+◌, length, Result, Ok, Err}
use Rattle.rules.specs.Output.{output, text_of_all}
use Rattle.output.specs.declared.Output.{Output}
use Rattle.output.specs.declared.Failure.{Failure}

-- so many bytes are handed over, and this text is left
pub record Left (input : List ℕ) (count : ℕ) (text : List ℕ) : Type 0 where
  pub before : List ℕ
  pub is : text_of_all (output input) ≡ before ++ text
  pub counted : length before ≡ count

-- what comes next, behind so many bytes
pub record NextPart (input : List ℕ) (count : ℕ) (part : List ℕ) : Type 0 where
  pub after : List ℕ
  pub left : Left input count (part ++ after)

-- so many bytes more, unless a write failed
abbrev pub Hands : ℕ → ℕ → Result Output Failure → Type 0
Hands count size (Ok o) = o.handed ≡ count + size
Hands count size (Err f) = Unit {0}

-- the whole output, unless a write failed
abbrev pub HandsAll : List ℕ → Result Output Failure → Type 0
HandsAll input (Ok o) = o.handed ≡ length (text_of_all (output input))
HandsAll input (Err f) = Unit {0}
