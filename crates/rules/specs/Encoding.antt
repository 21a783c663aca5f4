-- Numbers as bytes, little-endian, and writes into bytes (01, 'The archive' and 'Calls on the archive').
use Rattle.std.specs.Prelude.{ℕ, suc, ◌+◌, ◌-◌, ◌/◌, ◌%◌, ◌^◌, List, [], ◌∷◌, ◌++◌, ℤ, pos, negsuc, length, take, drop}

-- four bytes
unfoldable pub word : ℕ → List ℕ
word n = n % 2 ^ 8 ∷ n / 2 ^ 8 % 2 ^ 8 ∷ n / 2 ^ 16 % 2 ^ 8 ∷ n / 2 ^ 24 % 2 ^ 8 ∷ []

-- eight bytes
unfoldable pub double_word : ℕ → List ℕ
double_word n =
    n % 2 ^ 8 ∷ n / 2 ^ 8 % 2 ^ 8 ∷ n / 2 ^ 16 % 2 ^ 8 ∷ n / 2 ^ 24 % 2 ^ 8
    ∷ n / 2 ^ 32 % 2 ^ 8 ∷ n / 2 ^ 40 % 2 ^ 8 ∷ n / 2 ^ 48 % 2 ^ 8 ∷ n / 2 ^ 56 % 2 ^ 8 ∷ []

-- a signed number of 64 bits in two's complement
abbrev pub bits : ℤ → ℕ
bits (pos n) = n
bits (negsuc n) = 2 ^ 64 - suc n

-- signed numbers, 8 bytes to a place
unfoldable pub encoded : List ℤ → List ℕ
encoded [] = []
encoded (z ∷ zs) = double_word (bits z) ++ encoded zs

-- these bytes in place of as many from a place on
unfoldable pub put : List ℕ → ℕ → List ℕ → List ℕ
put archive place bytes = take place archive ++ (bytes ++ drop (place + length bytes) archive)
