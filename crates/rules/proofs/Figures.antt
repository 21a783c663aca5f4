-- The worked examples of specs/Figures.antt hold: each list by one computed test.
use Prim.Native.Nat.{ℕ, ◌+◌, ◌≤◌}
use mathlib.Core.Path.{◌≡◌, refl, ◌∙◌, ap, ap₂}
use native.Mathlib.Omega.{arith}
use mathlib.Core.Bool.{Bool, true, false, ◌&&◌}
use mathlib.Core.List.{List, [], ◌∷◌, ◌++◌, flat_map}
use lib.Dec.{eqb}
use lib.IntN.{ℤ, pos, negsuc}
use lib.ListN.{length, replicate, length-replicate}
use borrow.Author.Tests.{eqb-true}
use Rattle.rules.specs.Outcome.{given, ◌>>=◌, ◌>>◌, require}
use Rattle.rules.specs.Numbers.{smaller, larger, all}
use Rattle.rules.specs.Archive.{is_whole, link_at, twos, field_at, record_at, used_of, follow, chain}
use Rattle.rules.specs.Calendar.{is_leap_year, year_length, month_lengths, month_length, date_of, day_number, next_first, day_after, weekday_of, day_of, quarter_of_day, is_working_day, working_days, next_month, delivery_day}
use Rattle.rules.specs.Terms.{month_of, quarter_of_day_of, plant_allowed, measure_allowed, point_of, point_allowed, before_of, reading_at, quarter_of}
use Rattle.rules.specs.October.{bounding_of}
use Rattle.rules.specs.Reference.{limitation, read_curve, curve_power, factor_rows, is_for, plant_factor, numerator, magnitude, limit_of, reference_of, exact_of}
use Rattle.rules.specs.Booking.{amounts_of}
use Rattle.rules.specs.Settle.{admitted, place_of, points_of, befores_of, wind_basis, first_marked, solar_basis, basis_by, dates_allowed, quarters_of, settled, settle}
use Rattle.rules.specs.Fractions.{exact_fractions}
use Rattle.rules.specs.Encoding.{word, double_word, encoded, put}
use Rattle.rules.specs.Host.{host_settle}
use Rattle.rules.specs.Links.{owned_by, links_of, owned_at, links_at, link_places, namers}
use Rattle.rules.specs.Filing.{fresh, offset_for, append_after, append, shown}
use Rattle.rules.specs.Audit.{link_checked, record_checked, audit}
use Rattle.rules.specs.ReadBack.{file_all, unlinked, read_under, read_back}
use Rattle.rules.specs.Output.{head_refused, lines_from, output, decimal, text_of_all}
use Rattle.rules.specs.Figures.{Hold, ascii, head, case_a, wind_case, planned_case, case_f, case_g, factor_case, case_k, five_befores, two_plants, filings_a, figures, refusals, orders, calls, long_inputs}
use Rattle.rules.proofs.Sound.{both, whole_length, head_used}
use Rattle.rules.proofs.Output.{output_long, output_given, lines_no_plant}

-- ---- equality by a test: one Bool is computed, where two lists compared by conversion compute each entry several times

pub record Equality (A : Type 0) : Type 0 where
  pub same : A → A → Bool
  pub equal : (a b : A) → same a b ≡ true → a ≡ b

pub naturals : Equality ℕ
naturals = record { same = eqb; equal = eqb-true }

abbrev sameℤ : ℤ → ℤ → Bool
sameℤ (pos a) (pos b) = eqb a b
sameℤ (pos a) (negsuc b) = false
sameℤ (negsuc a) (pos b) = false
sameℤ (negsuc a) (negsuc b) = eqb a b

equalℤ : (a b : ℤ) → sameℤ a b ≡ true → a ≡ b
equalℤ (pos a) (pos b) e = ap pos (eqb-true a b e)
equalℤ (pos a) (negsuc b) e = cc
equalℤ (negsuc a) (pos b) e = cc
equalℤ (negsuc a) (negsuc b) e = ap negsuc (eqb-true a b e)

pub integers : Equality ℤ
integers = record { same = sameℤ; equal = equalℤ }

module _ {A : Type 0} (on : Equality A) where
  abbrev same_list : List A → List A → Bool
  same_list [] [] = true
  same_list [] (b ∷ l) = false
  same_list (a ∷ k) [] = false
  same_list (a ∷ k) (b ∷ l) = on.same a b && same_list k l

  equal_list : (k l : List A) → same_list k l ≡ true → k ≡ l
  equal_list [] [] e = refl
  equal_list [] (b ∷ l) e = cc
  equal_list (a ∷ k) [] e = cc
  equal_list (a ∷ k) (b ∷ l) e = let t = both (on.same a b) (same_list k l) e in ap₂ ◌∷◌ (on.equal a b t.0) (equal_list k l t.1)

  pub lists : Equality (List A)
  lists = record { same = same_list; equal = equal_list }

  abbrev pub agree : A × A → Bool
  agree entry = on.same entry.0 entry.1

  pub hold : (entries : List (A × A)) → all agree entries ≡ true → Hold entries
  hold [] e = refl
  hold (x ∷ xs) e = let t = both (agree x) (all agree xs) e in ap₂ ◌∷◌ (on.equal x.0 x.1 t.0) (hold xs t.1)

-- ---- the examples

-- to unfold this is to unfold every definition that the examples compute with
unfoldable pub rules : Unit {0}
unfolding naturals integers lists ◌>>=◌ ◌>>◌ require smaller larger link_at twos field_at record_at used_of follow chain plant_allowed measure_allowed point_of point_allowed before_of reading_at quarter_of bounding_of limitation read_curve curve_power factor_rows is_for plant_factor numerator magnitude limit_of reference_of exact_of amounts_of admitted place_of points_of befores_of wind_basis first_marked solar_basis basis_by quarters_of settled settle exact_fractions word double_word encoded put host_settle owned_by links_of owned_at links_at link_places namers fresh offset_for append_after append shown link_checked record_checked audit file_all unlinked read_under read_back lines_from output decimal text_of_all flat_map case_a wind_case planned_case case_f case_g factor_case case_k five_befores two_plants filings_a is_leap_year year_length month_lengths month_length date_of day_number next_first day_after weekday_of day_of quarter_of_day is_working_day working_days next_month delivery_day month_of quarter_of_day_of dates_allowed
rules = tt

pub figures_hold : Hold figures
unfolding rules figures
figures_hold = hold (lists integers) figures refl

pub refusals_hold : Hold refusals
unfolding rules refusals
refusals_hold = hold naturals refusals refl

pub orders_hold : Hold orders
unfolding rules orders
orders_hold = hold (lists integers) orders refl

pub calls_hold : Hold calls
unfolding rules calls
calls_hold = hold (lists naturals) calls refl

-- inputs of 65,536 bytes and more, by laws: to count so many bytes takes long
module _ (n : ℕ) where
  -- a head that leads to no plant, and so many zeros
  abbrev plain : List ℕ
  plain = head 1 0 ++ replicate n 0

  plain_size : length plain ≡ n + 32
  unfolding word
  plain_size = omega (arith, length-replicate {A = ℕ} n 0)

  plain_used : is_whole (n + 32) ≡ true → used_of plain ≡ given 1
  unfolding word record_at link_at
  plain_used whole =
      let w = whole_length (n + 32) whole in
      head_used plain 1 (record { whole = rw plain_size whole; text = refl; count = refl; some = omega arith; room = rw plain_size (omega arith) })

  no_plant_lem : is_whole (n + 32) ≡ true → n ≤ 65504 → output plain ≡ []
  unfolding word record_at link_at settled place_of ◌>>=◌
  no_plant_lem whole few =
      let used = plain_used whole in
      output_given plain 1 (omega (arith, plain_size)) used ∙ lines_no_plant plain 1 used 1 1 (rw used)

no_lines : text_of_all [] ≡ []
unfolding text_of_all
no_lines = refl

head_line : text_of_all head_refused ≡ ascii "E 0 0 1\n"
unfolding text_of_all decimal flat_map
head_line = refl

pub long_inputs_hold : Hold long_inputs
unfolding long_inputs
long_inputs_hold =
    ap₂ ◌∷◌ (ap text_of_all (no_plant_lem 65504 refl (omega arith)) ∙ no_lines)
    (ap₂ ◌∷◌ (ap text_of_all (output_long (plain 65536) (omega (arith, plain_size 65536))) ∙ head_line) refl)
