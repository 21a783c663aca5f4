-- What a write changes: bytes, links and records.
use mathlib.Core.Path.{◌≡◌, sym, ◌∙◌, ap}
use mathlib.Core.List.{List, ◌++◌}
use mathlib.Core.Logic.{◌⊎◌, inl, inr}
use Prim.Native.Nat.{ℕ, ◌+◌, ◌*◌, ◌-◌, ◌/◌, ◌%◌, ◌^◌, ◌≤◌, ◌<◌}
use native.Mathlib.Omega.{arith}
use lib.ListN.{length, get_or, take, drop, length-append, length-take, length-drop, get_or-append}
use lib.Seq.{get_or-take, get_or-drop, get_or-append-add, length-take-le}
use Rattle.rules.specs.Archive.{byte_at, link_at, record_at}
use Rattle.rules.specs.Encoding.{word, put}

-- ---- bytes of a record

pub byte_of : (a : List ℕ) (n at : ℕ) → at < 32 → byte_at (record_at a n) at ≡ byte_at a (32 * n + at)
unfolding record_at
byte_of a n at h = get_or-take 32 (drop (32 * n) a) at 0 h ∙ get_or-drop (32 * n) a at 0

pub link_of : (a : List ℕ) (n at : ℕ) → at + 4 ≤ 32 → link_at (record_at a n) at ≡ link_at a (32 * n + at)
unfolding link_at
link_of a n at h =
    let e1 : 32 * n + (at + 1) ≡ 32 * n + at + 1 = omega arith in
    let e2 : 32 * n + (at + 2) ≡ 32 * n + at + 2 = omega arith in
    let e3 : 32 * n + (at + 3) ≡ 32 * n + at + 3 = omega arith in
    rw (byte_of a n at (omega arith), byte_of a n (at + 1) (omega arith), byte_of a n (at + 2) (omega arith), byte_of a n (at + 3) (omega arith), e1, e2, e3)

pub record_length : (a : List ℕ) (n : ℕ) → 32 * n + 32 ≤ length a → length (record_at a n) ≡ 32
unfolding record_at
record_length a n h = simp (length-take, length-drop) (omega arith)

-- ---- a write

module _ (a : List ℕ) (place : ℕ) (bytes : List ℕ) (fits : place + length bytes ≤ length a) where
  front : length (take place a) ≡ place
  front = length-take-le place a (omega arith)

  pub put_length : length (put a place bytes) ≡ length a
  unfolding put
  put_length = simp (length-append, length-take, length-drop) (omega arith)

  pub put_below : (i : ℕ) → i < place → byte_at (put a place bytes) i ≡ byte_at a i
  unfolding put
  put_below i h =
      get_or-append (take place a) (bytes ++ drop (place + length bytes) a) 0 i (omega (arith, front))
      ∙ get_or-take place a i 0 h

  pub put_in : (i : ℕ) → i < length bytes → byte_at (put a place bytes) (place + i) ≡ byte_at bytes i
  unfolding put
  put_in i h =
      ap (λ (k : ℕ). get_or (take place a ++ (bytes ++ drop (place + length bytes) a)) (k + i) 0) (sym front)
      ∙ get_or-append-add (take place a) (bytes ++ drop (place + length bytes) a) i 0
      ∙ get_or-append bytes (drop (place + length bytes) a) 0 i h

  pub put_above : (i : ℕ) → place + length bytes ≤ i → byte_at (put a place bytes) i ≡ byte_at a i
  unfolding put
  put_above i h =
      let k : ℕ = i - (place + length bytes) in
      let e : length (take place a) + (length bytes + k) ≡ i = omega (arith, front) in
      let e' : place + length bytes + k ≡ i = omega arith in
      ap (λ (m : ℕ). get_or (take place a ++ (bytes ++ drop (place + length bytes) a)) m 0) (sym e)
      ∙ get_or-append-add (take place a) (bytes ++ drop (place + length bytes) a) (length bytes + k) 0
      ∙ get_or-append-add bytes (drop (place + length bytes) a) k 0
      ∙ get_or-drop (place + length bytes) a k 0
      ∙ ap (λ (m : ℕ). get_or a m 0) e'

  -- links that the write doesn't touch
  pub put_link : (q : ℕ) → (q + 4 ≤ place) ⊎ (place + length bytes ≤ q) → link_at (put a place bytes) q ≡ link_at a q
  unfolding link_at
  put_link q (inl h) = rw (put_below q (omega arith), put_below (q + 1) (omega arith), put_below (q + 2) (omega arith), put_below (q + 3) (omega arith))
  put_link q (inr h) = rw (put_above q (omega arith), put_above (q + 1) (omega arith), put_above (q + 2) (omega arith), put_above (q + 3) (omega arith))

word_number : (n : ℕ) → n < 2 ^ 32 → n % 2 ^ 8 + 2 ^ 8 * (n / 2 ^ 8 % 2 ^ 8) + 2 ^ 16 * (n / 2 ^ 16 % 2 ^ 8) + 2 ^ 24 * (n / 2 ^ 24 % 2 ^ 8) ≡ n
word_number n h =
    let e : n / 2 ^ 16 ≡ n / 2 ^ 8 / 2 ^ 8 = omega arith in
    let f : n / 2 ^ 24 ≡ n / 2 ^ 16 / 2 ^ 8 = omega arith in
    go (n % 2 ^ 8) (n / 2 ^ 8) (n / 2 ^ 8 % 2 ^ 8) (n / 2 ^ 16) (n / 2 ^ 16 % 2 ^ 8) (n / 2 ^ 24) (n / 2 ^ 24 % 2 ^ 8) (omega arith) (omega arith) (omega arith) (omega arith)
  where
    go : (r₀ q₁ r₁ q₂ r₂ q₃ r₃ : ℕ) → n ≡ 2 ^ 8 * q₁ + r₀ → q₁ ≡ 2 ^ 8 * q₂ + r₁ → q₂ ≡ 2 ^ 8 * q₃ + r₂ → q₃ ≡ r₃
        → r₀ + 2 ^ 8 * r₁ + 2 ^ 16 * r₂ + 2 ^ 24 * r₃ ≡ n
    go r₀ q₁ r₁ q₂ r₂ q₃ r₃ a b c d = omega arith

-- a link written is read
pub put_word : (a : List ℕ) (place n : ℕ) → place + 4 ≤ length a → n < 2 ^ 32 → link_at (put a place (word n)) place ≡ n
unfolding link_at word
put_word a place n h k =
    let e : place + 0 ≡ place = omega arith in
    ap (λ (i : ℕ). byte_at (put a place w) i + 2 ^ 8 * byte_at (put a place w) (place + 1) + 2 ^ 16 * byte_at (put a place w) (place + 2) + 2 ^ 24 * byte_at (put a place w) (place + 3)) (sym e)
    ∙ rw (put_in a place w h 0 (omega arith), put_in a place w h 1 (omega arith), put_in a place w h 2 (omega arith), put_in a place w h 3 (omega arith)) (word_number n k)
  where
    w : List ℕ
    w = word n
