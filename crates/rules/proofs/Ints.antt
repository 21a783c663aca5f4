-- Signed numbers for omega, which reads ℕ alone: a number z is `or_zero z` above zero and `under z` below it, one of the two being 0.
-- Each operation gives these two parts of its result by + and - of ℕ, so an order or an equation of signed numbers is one of natural numbers.
use mathlib.Core.Path.{◌≡◌, refl, sym, ◌∙◌, ap}
use mathlib.Core.Bool.{Bool, true, false, cond, not}
use Prim.Native.Nat.{ℕ, zero, suc, ◌+◌, ◌*◌, ◌-◌, ◌%◌, ◌^◌, ◌≤◌, ◌<◌, min}
use native.Mathlib.Nat.{zero-mul, mul-le-mul, mul-le-mul_right, le_of_lt}
use native.Mathlib.Omega.{arith}
use lib.Dec.{T, ltb, ltb→lt, nltb→le, leb→le, nleb→lt, le→leb}
use lib.IntN.{ℤ, pos, negsuc, neg_ℤ, nat_abs, sub_ℕ, ◌+ℤ◌, ◌-ℤ◌, ◌*ℤ◌}
use lib.Signed.{le_z, lt_z, ◌≤ℤ◌, le_z_yes, mag}
use Rattle.rules.specs.Numbers.{or_zero, smaller, larger}
use Rattle.rules.specs.Archive.{twos}

-- by how much a number is below zero
abbrev pub under : ℤ → ℕ
under (pos n) = 0
under (negsuc n) = suc n

-- ---- equations and orders

pub parts_le : (a b : ℤ) → or_zero a + under b ≤ or_zero b + under a → a ≤ℤ b
parts_le (pos a) (pos b) h = record { le = le→leb a b (omega arith) }
parts_le (pos a) (negsuc b) h = absurd (omega arith)
parts_le (negsuc a) (pos b) h = record { le = tt }
parts_le (negsuc a) (negsuc b) h = record { le = le→leb b a (omega arith) }

pub le_parts : {a b : ℤ} → a ≤ℤ b → or_zero a + under b ≤ or_zero b + under a
le_parts {a = pos a} {b = pos b} h = omega (arith, leb→le a b h.le)
le_parts {a = pos a} {b = negsuc b} h = absurd h.le
le_parts {a = negsuc a} {b = pos b} h = omega arith
le_parts {a = negsuc a} {b = negsuc b} h = omega (arith, leb→le b a h.le)

pub parts_eq : (a b : ℤ) → or_zero a + under b ≡ or_zero b + under a → a ≡ b
parts_eq (pos a) (pos b) h = ap pos (omega arith)
parts_eq (pos a) (negsuc b) h = absurd (omega arith)
parts_eq (negsuc a) (pos b) h = absurd (omega arith)
parts_eq (negsuc a) (negsuc b) h = ap negsuc (omega arith)

-- ---- the parts of each operation

pub or_zero_sub : (a b : ℕ) → or_zero (sub_ℕ a b) ≡ a - b
or_zero_sub a b = go (ltb a b) (ltb→lt a b) (nltb→le a b)
  where
    go : (t : Bool) → (T t → a < b) → (T (not t) → b ≤ a) → or_zero (cond t (negsuc (b - suc a)) (pos (a - b))) ≡ a - b
    go true f g = let h : a < b = f tt in omega arith
    go false f g = refl

pub under_sub : (a b : ℕ) → under (sub_ℕ a b) ≡ b - a
under_sub a b = go (ltb a b) (ltb→lt a b) (nltb→le a b)
  where
    go : (t : Bool) → (T t → a < b) → (T (not t) → b ≤ a) → under (cond t (negsuc (b - suc a)) (pos (a - b))) ≡ b - a
    go true f g = let h : a < b = f tt in omega arith
    go false f g = let h : b ≤ a = g tt in omega arith

pub or_zero_add : (a b : ℤ) → or_zero (a +ℤ b) ≡ (or_zero a + or_zero b) - (under a + under b)
or_zero_add (pos a) (pos b) = omega arith
or_zero_add (pos a) (negsuc b) = omega (arith, or_zero_sub a (suc b))
or_zero_add (negsuc a) (pos b) = omega (arith, or_zero_sub b (suc a))
or_zero_add (negsuc a) (negsuc b) = omega arith

pub under_add : (a b : ℤ) → under (a +ℤ b) ≡ (under a + under b) - (or_zero a + or_zero b)
under_add (pos a) (pos b) = omega arith
under_add (pos a) (negsuc b) = omega (arith, under_sub a (suc b))
under_add (negsuc a) (pos b) = omega (arith, under_sub b (suc a))
under_add (negsuc a) (negsuc b) = omega arith

pub or_zero_neg : (a : ℤ) → or_zero (neg_ℤ a) ≡ under a
or_zero_neg (pos zero) = refl
or_zero_neg (pos (suc n)) = refl
or_zero_neg (negsuc n) = refl

pub under_neg : (a : ℤ) → under (neg_ℤ a) ≡ or_zero a
under_neg (pos zero) = refl
under_neg (pos (suc n)) = refl
under_neg (negsuc n) = refl

pub or_zero_minus : (a b : ℤ) → or_zero (a -ℤ b) ≡ (or_zero a + under b) - (under a + or_zero b)
or_zero_minus a b = omega (arith, or_zero_add a (neg_ℤ b), or_zero_neg b, under_neg b)

pub under_minus : (a b : ℤ) → under (a -ℤ b) ≡ (under a + or_zero b) - (or_zero a + under b)
under_minus a b = omega (arith, under_add a (neg_ℤ b), or_zero_neg b, under_neg b)

pub or_zero_times : (a : ℤ) (n : ℕ) → or_zero (a *ℤ pos n) ≡ or_zero a * n
or_zero_times (pos a) n = refl
or_zero_times (negsuc a) n = or_zero_neg (pos (suc a * n)) ∙ sym (zero-mul n)

pub under_times : (a : ℤ) (n : ℕ) → under (a *ℤ pos n) ≡ under a * n
under_times (pos a) n = sym (zero-mul n)
under_times (negsuc a) n = under_neg (pos (suc a * n))

pub times_one : (a : ℤ) → a *ℤ pos 1 ≡ a
times_one a = parts_eq (a *ℤ pos 1) a (omega (arith, or_zero_times a 1, under_times a 1))

-- the same without a difference, so that omega makes no case of it: for equations and orders between whole numbers
pub sub_parts : (a b : ℕ) → or_zero (sub_ℕ a b) + b ≡ a + under (sub_ℕ a b)
sub_parts a b = omega (arith, or_zero_sub a b, under_sub a b)

pub add_parts : (a b : ℤ) → or_zero (a +ℤ b) + (under a + under b) ≡ or_zero a + or_zero b + under (a +ℤ b)
add_parts a b = omega (arith, or_zero_add a b, under_add a b)

pub nat_abs_parts : (a : ℤ) → nat_abs a ≡ or_zero a + under a
nat_abs_parts (pos n) = omega arith
nat_abs_parts (negsuc n) = omega arith

-- a number that isn't below zero, by the test
pub not_below : (a : ℤ) → lt_z a (pos 0) ≡ false → a ≡ pos (or_zero a)
not_below (pos n) e = refl
not_below (negsuc n) e = let w : ◌≡◌ {A = ℕ} 0 1 = cc in absurd (omega arith)

-- ---- orders

pub ≤ℤ_trans : {a b c : ℤ} → a ≤ℤ b → b ≤ℤ c → a ≤ℤ c
≤ℤ_trans {a} {b} {c} h k = parts_le a c (omega (arith, le_parts h, le_parts k))

pub neg_mono : {a b : ℤ} → a ≤ℤ b → neg_ℤ b ≤ℤ neg_ℤ a
neg_mono {a} {b} h = parts_le (neg_ℤ b) (neg_ℤ a) (omega (arith, le_parts h, or_zero_neg a, or_zero_neg b, under_neg a, under_neg b))

pub times_mono : (n : ℕ) {a b : ℤ} → a ≤ℤ b → (a *ℤ pos n) ≤ℤ (b *ℤ pos n)
times_mono n {a} {b} h =
    parts_le (a *ℤ pos n) (b *ℤ pos n)
    (omega (arith, mul-le-mul_right n (le_parts h), or_zero_times a n, or_zero_times b n, under_times a n, under_times b n))

-- raising what is taken away lowers the difference; raising what it is taken from raises it
pub minus_mono : {a b : ℤ} (c : ℤ) → a ≤ℤ b → or_zero (a -ℤ c) ≤ or_zero (b -ℤ c)
minus_mono {a} {b} c h = omega (arith, le_parts h, or_zero_minus a c, or_zero_minus b c)

pub minus_anti : {a b : ℤ} (c : ℤ) → a ≤ℤ b → or_zero (c -ℤ b) ≤ or_zero (c -ℤ a)
minus_anti {a} {b} c h = omega (arith, le_parts h, or_zero_minus c a, or_zero_minus c b)

-- ---- the smaller and the larger of two

not_le : (a b : ℤ) → T (not (le_z a b)) → b ≤ℤ a
not_le (pos a) (pos b) t = record { le = le→leb b a (omega (arith, nleb→lt a b t)) }
not_le (pos a) (negsuc b) t = record { le = tt }
not_le (negsuc a) (pos b) t = absurd t
not_le (negsuc a) (negsuc b) t = record { le = le→leb a b (omega (arith, nleb→lt b a t)) }

either : (P : ℤ → Type 0) (t : Bool) {x y : ℤ} → (T t → P x) → (T (not t) → P y) → P (cond t x y)
either P true f g = f tt
either P false f g = g tt

-- a fact of both that each case proves
pub smaller_case : (P : ℤ → Type 0) (a b : ℤ) → (a ≤ℤ b → P a) → (b ≤ℤ a → P b) → P (smaller a b)
unfolding smaller
smaller_case P a b f g = either P (le_z a b) (λ t. f (le_z_yes t)) (λ t. g (not_le a b t))

larger_case : (P : ℤ → Type 0) (a b : ℤ) → (a ≤ℤ b → P b) → (b ≤ℤ a → P a) → P (larger a b)
unfolding larger
larger_case P a b f g = either P (le_z a b) (λ t. f (le_z_yes t)) (λ t. g (not_le a b t))

pub smaller_mono : {a b c d : ℤ} → a ≤ℤ b → c ≤ℤ d → smaller a c ≤ℤ smaller b d
smaller_mono {a} {b} {c} {d} h k =
    smaller_case (λ z. smaller a c ≤ℤ z) b d
    (λ m. smaller_case (λ z. z ≤ℤ b) a c (λ n. h) (λ n. ≤ℤ_trans n h))
    (λ m. smaller_case (λ z. z ≤ℤ d) a c (λ n. ≤ℤ_trans n k) (λ n. k))

pub larger_mono : {a b c d : ℤ} → a ≤ℤ b → c ≤ℤ d → larger a c ≤ℤ larger b d
larger_mono {a} {b} {c} {d} h k =
    larger_case (λ z. z ≤ℤ larger b d) a c
    (λ m. larger_case (λ z. c ≤ℤ z) b d (λ n. k) (λ n. ≤ℤ_trans k n))
    (λ m. larger_case (λ z. a ≤ℤ z) b d (λ n. ≤ℤ_trans h n) (λ n. h))

-- what a comparison in the code chooses
pub smaller_yes : (a b : ℤ) → le_z a b ≡ true → smaller a b ≡ a
unfolding smaller
smaller_yes a b e = rw e

pub smaller_no : (a b : ℤ) → le_z a b ≡ false → smaller a b ≡ b
unfolding smaller
smaller_no a b e = rw e

pub natural_smaller : (a b : ℕ) → smaller (pos a) (pos b) ≡ pos (min a b)
natural_smaller a b =
    smaller_case (λ z. z ≡ pos (min a b)) (pos a) (pos b) (λ h. ap pos (omega (arith, le_parts h))) (λ h. ap pos (omega (arith, le_parts h)))

-- ---- numbers held with a bias: n stands for n - bias

pub biased_eq : (n bias : ℕ) (z : ℤ) → or_zero z + bias ≡ n + under z → z ≡ sub_ℕ n bias
biased_eq n bias z h = parts_eq z (sub_ℕ n bias) (omega (arith, sub_parts n bias))

pub biased_add : (m n b c : ℕ) → sub_ℕ m b +ℤ sub_ℕ n c ≡ sub_ℕ (m + n) (b + c)
biased_add m n b c =
    parts_eq (sub_ℕ m b +ℤ sub_ℕ n c) (sub_ℕ (m + n) (b + c))
    (omega (arith, add_parts (sub_ℕ m b) (sub_ℕ n c), sub_parts m b, sub_parts n c, sub_parts (m + n) (b + c)))

-- a 4-byte field: every word w stands for ((w + 2 ^ 31) % 2 ^ 32) - 2 ^ 31
pub twos_biased : (w : ℕ) → w < 2 ^ 32 → twos w ≡ sub_ℕ ((w + 2 ^ 31) % 2 ^ 32) (2 ^ 31)
unfolding twos
twos_biased w h = either (λ z. z ≡ sub_ℕ ((w + 2 ^ 31) % 2 ^ 32) (2 ^ 31)) (ltb w (2 ^ 31))
    (λ t. biased_eq ((w + 2 ^ 31) % 2 ^ 32) (2 ^ 31) (pos w) (omega (arith, ltb→lt w (2 ^ 31) t)))
    (λ t. biased_eq ((w + 2 ^ 31) % 2 ^ 32) (2 ^ 31) (sub_ℕ w (2 ^ 32))
    (omega (arith, nltb→le w (2 ^ 31) t, or_zero_sub w (2 ^ 32), under_sub w (2 ^ 32))))

-- ---- within a signed width: mag z < 2 ^ 63 is what an i64 asks

pub mag_parts : (z : ℤ) {h : ℕ} → or_zero z < h → under z ≤ h → mag z < h
mag_parts (pos n) p q = p
mag_parts (negsuc n) p q = q

pub parts_mag : (z : ℤ) {h : ℕ} → mag z < h → (or_zero z < h) × (under z ≤ h)
parts_mag (pos n) p = omega arith
parts_mag (negsuc n) p = omega arith

-- a product and a difference within a signed width, for a measure's T - L × D
pub mag_times : (l : ℤ) (n bl bn : ℕ) → mag l < bl → n ≤ bn → mag (l *ℤ pos n) < bl * bn + 1
mag_times l n bl bn hl hn =
    mag_parts (l *ℤ pos n)
    (omega (arith, or_zero_times l n, mul-le-mul (le_of_lt (parts_mag l hl).0) hn))
    (omega (arith, under_times l n, mul-le-mul (parts_mag l hl).1 hn))

pub mag_minus : (a b : ℤ) (ba bb : ℕ) → mag a < ba → mag b < bb → mag (a -ℤ b) < ba + bb
mag_minus a b ba bb ha hb =
    mag_parts (a -ℤ b)
    (omega (arith, or_zero_minus a b, parts_mag a ha, parts_mag b hb))
    (omega (arith, under_minus a b, parts_mag a ha, parts_mag b hb))
