-- What holds at the test of the loop that books a sheet of magnitudes: of its carry and its total, and of the list that it writes.
use mathlib.Core.Path.{◌≡◌, refl, sym, ◌∙◌, ap}
use mathlib.Core.List.{List, [], ◌∷◌, ◌++◌, map, append_assoc, append-nil}
use Prim.Native.Nat.{ℕ, ◌+◌, ◌*◌, ◌/◌, ◌%◌, ◌^◌, ◌≤◌, ◌<◌}
use native.Mathlib.Nat.{mod-lt, zero-div, zero-mod, zero-add, mul-le-mul_left}
use native.Mathlib.Numerals.{add-one}
use native.Mathlib.Omega.{arith}
use lib.IntN.{ℤ}
use lib.ListN.{length, get_or, take, drop, length-append, length-drop, take-append-drop}
use lib.Seq.{drop-cons, drop-drop, drop-length, take_at, drop_at, length-take-le}
use Rattle.std.specs.List.{flat_map}
use Rattle.rules.specs.declared.Direction.{Direction}
use Rattle.rules.specs.Numbers.{sum, sumℤ}
use Rattle.rules.specs.Booking.{signed, booked_from, amounts_of, carried_from}
use Rattle.rules.specs.Encoding.{bits, double_word, encoded}
use Rattle.rules.proofs.Stretch.{booked_sum, carried, sum_signed}
use Rattle.booking.specs.Sheets.{place_put}

-- the amounts of the whole sheet, from a carry of 0
module _ (d : ℕ) (ms : List ℕ) (p : 0 < d) where
  from_zero : booked_from d 0 ms ≡ carried_from d 0 ms
  from_zero = carried d 0 ms p ∙ ap (λ (r : ℕ). carried_from d r ms) (zero-mod d)

  whole : sum (carried_from d 0 ms) ≡ sum ms / d
  whole = ap sum (sym from_zero) ∙ omega (arith, booked_sum d 0 ms p, zero-div d, ap (λ (n : ℕ). n / d) (zero-add (sum ms)))

  amounts_are : (s : Direction) → amounts_of s d ms ≡ map (signed s) (carried_from d 0 ms)
  unfolding amounts_of
  amounts_are s = ap (map (signed s)) from_zero

-- after i quarters the carry is r over d, and the total is t
pub record Running (d : ℕ) (ms : List ℕ) (r t i : ℕ) : Type 0 where
  pub inside : i ≤ length ms
  pub small : r < d
  pub summed : t + sum (carried_from d r (drop i ms)) ≡ sum (carried_from d 0 ms)

-- and the list, which was ys₀, is ys: each amount takes so many elements
pub record Placed {A : Type 0} (written : ℤ → List A) (size : ℕ) (s : Direction) (d : ℕ) (ms : List ℕ) (ys₀ ys : List A) (r i : ℕ) : Type 0 where
  pub as_long : length ys ≡ length ys₀
  pub so_far : take (size * i) ys ++ flat_map written (map (signed s) (carried_from d r (drop i ms))) ≡ flat_map written (map (signed s) (carried_from d 0 ms))
  pub kept : drop (size * i) ys ≡ drop (size * i) ys₀

pub running_none : (d : ℕ) (ms : List ℕ) → 0 < d → Running d ms 0 0 0
running_none d ms p = record { inside = omega arith; small = p; summed = zero-add (sum (carried_from d 0 ms)) }

pub placed_none : {A : Type 0} (written : ℤ → List A) (size : ℕ) (s : Direction) (d : ℕ) (ms : List ℕ) (ys₀ : List A) → Placed written size s d ms ys₀ ys₀ 0 0
placed_none written size s d ms ys₀ = let e : size * 0 ≡ 0 = omega arith in record { as_long = refl; so_far = rw e; kept = refl }

-- one quarter more
module _ (d : ℕ) (ms : List ℕ) (r t i : ℕ) (h : Running d ms r t i) (within : i < length ms) where
  some : 0 < d
  some = omega (arith, h.small)

  abbrev amount : ℕ
  amount = (r + get_or ms i 0) / d

  abbrev left : ℕ
  left = (r + get_or ms i 0) % d

  onward : carried_from d r (drop i ms) ≡ amount ∷ carried_from d left (drop (i + 1) ms)
  onward = rw (drop-cons ms i 0 within, add-one i)

  pub running_next : Running d ms left (t + amount) (i + 1)
  running_next = record { inside = omega arith; small = mod-lt (r + get_or ms i 0) some; summed = omega (arith, h.summed, ap sum onward) }

  -- the total, and so the amount, is at most the whole sheet's
  pub total_fits : sum ms / d < 2 ^ 63 → t + amount < 2 ^ 63
  total_fits fits = omega (arith, h.summed, ap sum onward, whole d ms some)

  module _ {A : Type 0} (written : ℤ → List A) (size : ℕ) (long : (z : ℤ) → length (written z) ≡ size) (s : Direction) (ys₀ ys : List A)
      (w : Placed written size s d ms ys₀ ys r i) (room : size * length ms ≤ length ys₀) where
    pub fits : size * i + size ≤ length ys
    fits = omega (arith, w.as_long, mul-le-mul_left size within)

    pub placed_next : Placed written size s d ms ys₀ (place_put ys (size * i) (written (signed s amount))) left (i + 1)
    placed_next =
        let part : List A = written (signed s amount) in
        let front : List A = take (size * i) ys ++ part in
        let back : List A = drop (size * i + length part) ys in
        let whole : place_put ys (size * i) part ≡ front ++ back = sym (append_assoc (take (size * i) ys) part back) in
        let n : size * (i + 1) ≡ size * i + length part = omega (arith, long (signed s amount)) in
        let front_long : length front ≡ size * (i + 1) = length-append (take (size * i) ys) part ∙ omega (arith, n, length-take-le (size * i) ys (omega (arith, fits))) in
        record {
          as_long = ap length whole ∙ length-append front back ∙ omega (arith, front_long, length-drop (size * i + length part) ys, w.as_long, fits);
          so_far =
              rw (whole, take_at front back (size * (i + 1)) front_long, append_assoc)
              (rw onward at w.so_far);
          kept = rw (whole, drop_at front back (size * (i + 1)) front_long, n)
              (sym (drop-drop (length part) (size * i) ys) ∙ ap (drop (length part)) w.kept ∙ drop-drop (length part) (size * i) ys₀);
        }

-- the total is at most the whole sheet's
pub total_below : (d : ℕ) (ms : List ℕ) (r t i : ℕ) → Running d ms r t i → sum ms / d < 2 ^ 63 → t < 2 ^ 63
total_below d ms r t i h fits = let p : 0 < d = omega (arith, h.small) in omega (arith, h.summed, whole d ms p)

-- none left
module _ (d : ℕ) (ms : List ℕ) (s : Direction) (r t i : ℕ) (h : Running d ms r t i) (end : length ms ≤ i) where
  p : 0 < d
  p = omega (arith, h.small)

  all : i ≡ length ms
  all = omega (arith, h.inside)

  pub placed_all : {A : Type 0} (written : ℤ → List A) (size : ℕ) (ys₀ ys : List A) → Placed written size s d ms ys₀ ys r i
      → ys ≡ flat_map written (amounts_of s d ms) ++ drop (size * length ms) ys₀
  placed_all written size ys₀ ys w =
      let done : take (size * length ms) ys ≡ flat_map written (map (signed s) (carried_from d 0 ms)) = simp (all, drop-length, append-nil) at w.so_far in
      let rest : drop (size * length ms) ys ≡ drop (size * length ms) ys₀ = rw all at w.kept in
      sym (take-append-drop (size * length ms) ys) ∙ rw (done, rest, amounts_are d ms p s)

  pub total_all : signed s t ≡ sumℤ (amounts_of s d ms)
  total_all =
      let sum_is : t ≡ sum (carried_from d 0 ms) = omega (arith, simp (all, drop-length) at h.summed) in
      ap (signed s) sum_is ∙ sym (sum_signed s (carried_from d 0 ms)) ∙ ap sumℤ (sym (amounts_are d ms p s))

-- ---- lists of signed numbers and of bytes

pub numbers_listed : (zs : List ℤ) → flat_map (λ (z : ℤ). z ∷ []) zs ≡ zs
numbers_listed [] = refl
numbers_listed (z ∷ zs) = ap (λ (xs : List ℤ). z ∷ xs) (numbers_listed zs)

pub bytes_listed : (zs : List ℤ) → flat_map (λ (z : ℤ). double_word (bits z)) zs ≡ encoded zs
unfolding encoded
bytes_listed [] = refl
bytes_listed (z ∷ zs) = ap (λ (xs : List ℕ). double_word (bits z) ++ xs) (bytes_listed zs)
