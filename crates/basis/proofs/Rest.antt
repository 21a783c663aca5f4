-- The rule book's basis from where a walk stands: what is gathered so far, and what the rest of the chain adds.
use Rattle.std.specs.Prelude.{Option, None, Some}
use mathlib.Core.Path.{◌≡◌, refl, sym, ◌∙◌, ap}
use mathlib.Core.Bool.{Bool, true, false, cond, ◌&&◌, and-false}
use mathlib.Core.List.{List, [], ◌∷◌, map}
use Prim.Native.Nat.{ℕ, suc, ◌+◌, ◌*◌, ◌-◌}
use native.Mathlib.Omega.{arith}
use borrow.Author.Tests.{ltb-true, ltb-false, lt-leb, ne_eqb}
use lib.Dec.{eqb, leb, ltb}
use lib.IntN.{ℤ, pos, sub_ℕ, ◌+ℤ◌, +ℤ_assoc}
use lib.ListN.{length}
use Rattle.rules.specs.Outcome.{Outcome, refused, given, ◌>>=◌, ◌>>◌, require}
use Rattle.rules.specs.Refusals.{bad_count, out_of_range, too_few_usable, divisor_zero}
use Rattle.rules.specs.Numbers.{all, keep, sum, or_zero}
use Rattle.rules.specs.Archive.{Entry}
use Rattle.rules.specs.Terms.{Point, Before, is_power, is_speed, is_irradiance, is_marked, mark_allowed, before_of}
use Rattle.rules.specs.Reference.{curve_power, on_curve, last_measured, on_irradiance}
use Rattle.rules.specs.Settle.{Basis, marked, ten_percent, usable, up_to_used, total_measured, first_marked}
use Rattle.rules.proofs.Folds.{gathered}
use Rattle.rules.proofs.Ints.{biased_add, biased_eq, or_zero_add}
use Rattle.rules.proofs.Ranges.{within_signed}
use Rattle.rules.proofs.Sound.{both}
use Rattle.comparison.specs.declared.Sums.{Sums}
use Rattle.comparison.specs.Sums.{Choice, first_four, first_one, every_one, power_bias, raised, taken}
use Rattle.comparison.specs.declared.Walk.{Walk}
use Rattle.comparison.specs.Walks.{with_taken, stepped, stepped_by, passed}

unfoldable pub rest : Choice → ℕ → Sums → List Before → Outcome Basis
rest (first_four pn points) links s xs =
    let tested = up_to_used (usable pn) (4 - s.used) xs in
    let four = keep (usable pn) tested in
    let b = s.b + sum (map (λ x. curve_power points (or_zero x.weather)) four) in do
      require (all (λ x. is_power x.measured) tested && all (λ x. is_speed x.weather) (keep (ten_percent pn) tested)) out_of_range
      require (eqb (s.used + length four) 4) too_few_usable
      require (ltb 0 b) divisor_zero
      given (record { reference = on_curve (sub_ℕ s.a (power_bias * s.used) +ℤ total_measured four) b pn points; links = links })
rest first_one links s xs =
    cond (eqb s.used 0) (first_marked xs links) (given (record { reference = last_measured (sub_ℕ s.a power_bias); links = links }))
rest every_one links s xs =
    let b = s.b + sum (map (λ x. or_zero x.weather) xs) in do
      require (all (λ x. is_power x.measured && is_irradiance x.weather) xs) out_of_range
      require (leb 1 (s.used + length xs)) too_few_usable
      require (ltb 0 b) divisor_zero
      given (record { reference = on_irradiance (sub_ℕ s.a (power_bias * s.used) +ℤ total_measured xs) b; links = links })

-- ---- one more marked before-quarter

-- nothing is tested where none is needed
none_needed : (test : Before → Bool) (xs : List Before) → up_to_used test 0 xs ≡ []
none_needed test [] = refl
none_needed test (x ∷ xs) = refl

one_more : (n m : ℕ) → n + suc m ≡ n + 1 + m
one_more n m = omega arith

add_more : (n m k : ℕ) → n + (m + k) ≡ n + m + k
add_more n m k = omega arith

pub raised_back : (z : ℤ) → is_power z ≡ true → z ≡ sub_ℕ (raised z) power_bias
raised_back z e = biased_eq (raised z) power_bias z (omega (arith, within_signed 999999999 1000000000 z e, or_zero_add z (pos power_bias)))

raised_more : (a n : ℕ) (z t : ℤ) → is_power z ≡ true
    → sub_ℕ a (power_bias * n) +ℤ (z +ℤ t) ≡ sub_ℕ (a + raised z) (power_bias * (n + 1)) +ℤ t
raised_more a n z t e =
    sym (+ℤ_assoc (sub_ℕ a (power_bias * n)) z t)
    ∙ ap (λ (y : ℤ). y +ℤ t)
    (ap (λ (y : ℤ). sub_ℕ a (power_bias * n) +ℤ y) (raised_back z e) ∙ biased_add a (raised z) (power_bias * n) power_bias ∙ ap (sub_ℕ (a + raised z)) (omega arith))

module _ (links : ℕ) (s : Sums) (x : Before) (xs : List Before) where
  four_turn : (pn : ℕ) (points : List Point) → rest (first_four pn points) links s (x ∷ xs) ≡ (taken (first_four pn points) s x >>= λ t. rest (first_four pn points) links t xs)
  unfolding rest taken ◌>>=◌ ◌>>◌ require
  four_turn pn points = go (ltb s.used 4) refl (is_power x.measured) refl (ten_percent pn x) refl (is_speed x.weather) refl
    where
      go : (f : Bool) → ltb s.used 4 ≡ f → (p : Bool) → is_power x.measured ≡ p → (t : Bool) → ten_percent pn x ≡ t → (w : Bool) → is_speed x.weather ≡ w
          → rest (first_four pn points) links s (x ∷ xs) ≡ (taken (first_four pn points) s x >>= λ t. rest (first_four pn points) links t xs)
      go false f p e t g w h =
          let z : 4 - s.used ≡ 0 = omega (arith, ltb-false s.used 4 f) in
          rw (f, z, none_needed (usable pn) xs)
      go true f false e t g w h = rw (f, ne_eqb (4 - s.used) 0 (λ z. omega (arith, ltb-true s.used 4 f)), e)
      go true f true e false g w h = rw (f, ne_eqb (4 - s.used) 0 (λ z. omega (arith, ltb-true s.used 4 f)), e, g)
      go true f true e true g false h =
          rw (f, ne_eqb (4 - s.used) 0 (λ z. omega (arith, ltb-true s.used 4 f)), e, g, h, and-false (all (λ y. is_power y.measured) (up_to_used (usable pn) (4 - s.used - 1) xs)))
      go true f true e true g true h = let four = keep (usable pn) (up_to_used (usable pn) (4 - (s.used + 1)) xs) in rw (
        f,
        ne_eqb (4 - s.used) 0 (λ z. omega (arith, ltb-true s.used 4 f)),
        e,
        g,
        h,
        less,
        one_more s.used (length four),
        add_more s.b (curve_power points (or_zero x.weather)) (sum (map (λ y. curve_power points (or_zero y.weather)) four)),
        raised_more s.a s.used x.measured (total_measured four) e,
      )
        where
          less : 4 - s.used - 1 ≡ 4 - (s.used + 1)
          less = omega arith

  first_turn : rest first_one links s (x ∷ xs) ≡ (taken first_one s x >>= λ t. rest first_one links t xs)
  unfolding rest taken first_marked ◌>>=◌ ◌>>◌ require
  first_turn = go (eqb s.used 0) refl (is_power x.measured) refl
    where
      go : (f : Bool) → eqb s.used 0 ≡ f → (p : Bool) → is_power x.measured ≡ p
          → rest first_one links s (x ∷ xs) ≡ (taken first_one s x >>= λ t. rest first_one links t xs)
      go false f p e = rw f (rw f)
      go true f false e = rw (f, e)
      go true f true e = rw (f, e, ← raised_back x.measured e)

  all_turn : rest every_one links s (x ∷ xs) ≡ (taken every_one s x >>= λ t. rest every_one links t xs)
  unfolding rest taken ◌>>=◌ ◌>>◌ require
  all_turn = go (is_power x.measured && is_irradiance x.weather) refl
    where
      go : (p : Bool) → (is_power x.measured && is_irradiance x.weather) ≡ p
          → rest every_one links s (x ∷ xs) ≡ (taken every_one s x >>= λ t. rest every_one links t xs)
      go false e = rw e
      go true e = rw (
        e,
        one_more s.used (length xs),
        add_more s.b (or_zero x.weather) (sum (map (λ y. or_zero y.weather) xs)),
        raised_more s.a s.used x.measured (total_measured xs) (both (is_power x.measured) _ e).0,
      )

pub rest_turn : (choice : Choice) (links : ℕ) (s : Sums) (x : Before) (xs : List Before)
    → rest choice links s (x ∷ xs) ≡ (taken choice s x >>= λ t. rest choice links t xs)
rest_turn (first_four pn points) links s x xs = four_turn links s x xs pn points
rest_turn first_one links s x xs = first_turn links s x xs
rest_turn every_one links s x xs = all_turn links s x xs

-- ---- the whole of the rest of the chain

-- what is out of range is refused with 9
abbrev Nine : Outcome Sums → Type 0
Nine (refused n) = n ≡ out_of_range
Nine (given s) = Unit {0}

nine_require : (t : Bool) (o : Outcome Sums) → Nine o → Nine (require t out_of_range >> o)
unfolding ◌>>◌ require
nine_require true o h = h
nine_require false o h = refl

nine_cond : (t : Bool) (o u : Outcome Sums) → Nine o → Nine u → Nine (cond t o u)
nine_cond true o u h k = h
nine_cond false o u h k = k

nine : (choice : Choice) (s : Sums) (x : Before) → Nine (taken choice s x)
unfolding taken
nine (first_four pn points) s x =
    nine_cond (ltb s.used 4) _ _ (nine_require (is_power x.measured) _ (nine_cond (ten_percent pn x) _ _ (nine_require (is_speed x.weather) _ tt) tt)) tt
nine first_one s x = nine_cond (eqb s.used 0) _ _ (nine_require (is_power x.measured) _ tt) tt
nine every_one s x = nine_require (is_power x.measured && is_irradiance x.weather) _ tt

require_refused : (t : Bool) (n k : ℕ) → k ≡ n → ◌≡◌ {A = Outcome Basis} (require t n >> refused k) (refused n)
unfolding ◌>>◌ require
require_refused true n k e = ap refused e
require_refused false n k e = refl

module _ (choice : Choice) (extra : ℕ) where
  -- 9, then the basis; `extra` links were followed before
  abbrev from_of : ℕ → Option Sums → List Entry → Outcome Basis
  from_of count None es = refused out_of_range
  from_of count (Some s) es = require (all (λ e. mark_allowed e.bytes) es) out_of_range >> rest choice (extra + (count + length es)) s (marked es)

  -- 8, before them
  abbrev pub from : Walk → List Entry → Outcome Basis
  from w es = require (leb (w.count + length es) 96) bad_count >> from_of w.count w.sums es

  module _ (w : Walk) (e : Entry) (es : List Entry) where
    more : w.count + suc (length es) ≡ w.count + 1 + length es
    more = one_more w.count (length es)

    from_taken : (s : Sums) → w.sums ≡ Some s → mark_allowed e.bytes ≡ true → is_marked e.bytes ≡ true → (o : Outcome Sums) → taken choice s (before_of e.bytes) ≡ o → Nine o
        → from w (e ∷ es) ≡ from (with_taken w o) es
    unfolding ◌>>=◌ ◌>>◌ require
    from_taken s f a m (refused n) t h =
        rw (f, a, m, more, rest_turn choice (extra + (w.count + 1 + length es)) s (before_of e.bytes) (marked es), t)
        (ap (λ (o : Outcome Basis). require (leb (w.count + 1 + length es) 96) bad_count >> o) (require_refused (all (λ e. mark_allowed e.bytes) es) out_of_range n h))
    from_taken s f a m (given t) i h =
        rw (f, a, m, more, rest_turn choice (extra + (w.count + 1 + length es)) s (before_of e.bytes) (marked es), i)

    from_turn : from w (e ∷ es) ≡ from (stepped_by choice w e) es
    unfolding stepped ◌>>◌ require
    from_turn = go w.sums refl (mark_allowed e.bytes) refl (is_marked e.bytes) refl (ltb w.count 96) refl
      where
        go : (x : Option Sums) → w.sums ≡ x → (a : Bool) → mark_allowed e.bytes ≡ a → (m : Bool) → is_marked e.bytes ≡ m → (l : Bool) → ltb w.count 96 ≡ l
            → from w (e ∷ es) ≡ from (stepped_by choice w e) es
        go None f a g m h l k = rw (f, more)
        go (Some s) f false g m h l k = rw (f, g, more)
        go (Some s) f true g false h l k = rw (f, g, h, more)
        go (Some s) f true g true h false k = rw (f, g, h, k, more, lt-leb (w.count + 1 + length es) 96 (omega (arith, ltb-false w.count 96 k)))
        go (Some s) f true g true h true k =
            from_taken s f g h (taken choice s (before_of e.bytes)) refl (nine choice s (before_of e.bytes))
            ∙ rw (f, g, h, k)

  from_end : (w : Walk) → from w [] ≡ (passed w >>= λ v. rest choice (extra + v.count) v.sums [])
  unfolding passed ◌>>=◌ ◌>>◌ require
  from_end w = go (leb w.count 96) refl w.sums refl
    where
      none : w.count + 0 ≡ w.count
      none = omega arith

      go : (l : Bool) → leb w.count 96 ≡ l → (x : Option Sums) → w.sums ≡ x → from w [] ≡ (passed w >>= λ v. rest choice (extra + v.count) v.sums [])
      go false k x e = rw (none, k)
      go true k None e = rw (none, k, e)
      go true k (Some s) e = rw (none, k, e, none) refl

  pub from_is : (w : Walk) (es : List Entry) → from w es ≡ (passed (gathered (stepped_by choice) w es) >>= λ v. rest choice (extra + v.count) v.sums [])
  from_is w [] = from_end w
  from_is w (e ∷ es) = from_turn w e es ∙ from_is (stepped_by choice w e) es
