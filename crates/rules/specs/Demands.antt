-- The demands as statements; proofs/ proves each.
use Rattle.std.specs.Prelude.{ℕ, ◌+◌, ◌-◌, ◌/◌, ◌^◌, ◌≤◌, ◌<◌, ◌≡◌, true, false, List, [], ◌∷◌, map, ℤ, pos, ◌≤ℤ◌, ◌<ℤ◌, length, get_or, take, replicate}
use Rattle.rules.specs.Outcome.{Outcome, refused, given}
use Rattle.rules.specs.Refusals.{settle_refusals, fresh_refusals, append_refusals, audit_refusals, take_back_refusals, preview_refusals, delivery_day_refusals, correction_refusals, last_not_named_once}
use Rattle.rules.specs.Numbers.{sumℤ, member, keep}
use Rattle.rules.specs.Calendar.{Date, month_length, dated, date_of, day_number, next_first, day_after, saturday, following, weekday_of, is_monday_to_friday, day_of}
use Rattle.rules.specs.Calendar.{is_working_day, days_from, working_days, next_month, delivery_day}
use Rattle.rules.specs.Archive.{byte_at, link_at, kind_of, record_at, used_of}
use Rattle.rules.specs.Settle.{Answer, answer_of, settle, list_after}
use Rattle.rules.specs.Fractions.{Raised}
use Rattle.rules.specs.Host.{host_settle}
use Rattle.rules.specs.Filing.{fresh, new_allowed, offset_for, append_after, append}
use Rattle.rules.specs.Audit.{audit, Sound}
use Rattle.rules.specs.TakeBack.{take_back, take_back_times}
use Rattle.rules.specs.Preview.{preview, host_preview, undone}
use Rattle.rules.specs.Correction.{Gap, gaps_of, Money, cost_of, total_cost, money_of, exact_money, correction}
use Rattle.rules.specs.Promises.{Settles, HostSettles, Freshens, Appends, TakesBack, Previews, HostPreviews, Delivers, HostCorrects}
use Rattle.rules.specs.ReadBack.{Filing, file_all, Filed}

-- ---- demand 1: an answer or the one refusal; a refused call changes nothing

-- a refusal's number is one of these
pub record RefusedWithin {A : Type 0} (numbers : List ℕ) (o : Outcome A) : Type 0 where
  pub of : (n : ℕ) → o ≡ refused n → member n numbers ≡ true

pub record EveryCallAnswers : Type 0 where
  pub settles : (archive : List ℕ) (p k places : ℕ) → RefusedWithin settle_refusals (settle archive p k places)
  pub host_settles : (archive : List ℕ) (p k list_bytes result_bytes : ℕ) → RefusedWithin settle_refusals (host_settle archive p k list_bytes result_bytes)
  pub freshens : (archive : List ℕ) → RefusedWithin fresh_refusals (fresh archive)
  pub appends : (archive : List ℕ) (owner : ℕ) (new : List ℕ) → RefusedWithin append_refusals (append archive owner new)
  pub audits : (archive : List ℕ) → RefusedWithin audit_refusals (audit archive)
  pub takes_back : (archive : List ℕ) → RefusedWithin take_back_refusals (take_back archive)
  pub previews : (archive : List ℕ) (owner : ℕ) (new : List ℕ) (p k places : ℕ) → RefusedWithin preview_refusals (preview archive owner new p k places)
  pub host_previews : (archive : List ℕ) (owner : ℕ) (new : List ℕ) (p k list_bytes result_bytes : ℕ)
      → RefusedWithin preview_refusals (host_preview archive owner new p k list_bytes result_bytes)
  pub delivers : (quarter : ℕ) (holidays : List ℕ) → RefusedWithin delivery_day_refusals (delivery_day quarter holidays)
  pub corrects : (amounts balanced prices : List ℤ) → RefusedWithin correction_refusals (correction amounts balanced prices)

-- show and audit are lent the archive for reading alone, settle too
pub record RefusalsChangeNothing : Type 0 where
  pub settles : (archive : List ℕ) (p k : ℕ) (list later : List ℤ) (answer : Answer) → Settles archive p k list later answer
      → (answer.number ≡ 0 → ⊥) → later ≡ list
  pub host_settles : (archive : List ℕ) (p k : ℕ) (list later_list result later_result : List ℕ) (number : ℕ)
      → HostSettles archive p k list later_list result later_result number → (number ≡ 0 → ⊥) → (later_list ≡ list) × (later_result ≡ result)
  pub freshens : (archive later : List ℕ) (number : ℕ) → Freshens archive later number → (number ≡ 0 → ⊥) → later ≡ archive
  pub appends : (archive : List ℕ) (owner : ℕ) (new later : List ℕ) (number : ℕ) → Appends archive owner new later number
      → (number ≡ 0 → ⊥) → later ≡ archive
  pub takes_back : (archive later : List ℕ) (number : ℕ) → TakesBack archive later number → (number ≡ 0 → ⊥) → later ≡ archive
  pub previews : (archive : List ℕ) (owner : ℕ) (new : List ℕ) (p k : ℕ) (list later_list : List ℤ) (later : List ℕ) (answer : Answer)
      → Previews archive owner new p k list later_list later answer → (answer.number ≡ 0 → ⊥) → (later_list ≡ list) × (later ≡ archive)
  pub host_previews : (archive : List ℕ) (owner : ℕ) (new : List ℕ) (p k : ℕ) (list later_list result later_result later_archive : List ℕ) (number : ℕ)
      → HostPreviews archive owner new p k list later_list result later_result later_archive number → (number ≡ 0 → ⊥)
      → (later_list ≡ list) × (later_result ≡ result) × (later_archive ≡ archive)
  pub delivers : (quarter : ℕ) (holidays : List ℕ) (was day number : ℕ) → Delivers quarter holidays was day number → (number ≡ 0 → ⊥) → day ≡ was
  pub corrects : (amounts balanced prices : List ℤ) (was cents : ℤ) (rest remainder number : ℕ)
      → HostCorrects amounts balanced prices was cents rest remainder number → (number ≡ 0 → ⊥) → (cents ≡ was) × (remainder ≡ rest)

-- ---- demand 2: what is filed is read again

-- filed one by one into a fresh archive, none refused, all are read again
abbrev pub ReadAgain : Type 0
ReadAgain = (archive start end : List ℕ) (filings : List Filing) → fresh archive ≡ given start → file_all filings start ≡ given end → Filed filings end

-- an append that isn't refused leaves a sound archive sound
abbrev pub StaysSound : Type 0
StaysSound = (archive later : List ℕ) (owner : ℕ) (new : List ℕ) → Sound archive → append archive owner new ≡ given later → Sound later

-- an allowed record under an owner of its kind is filed as long as a record is free
abbrev pub Files : Type 0
Files =
    (archive : List ℕ) (used owner offset : ℕ) (new : List ℕ) → Sound archive → used_of archive ≡ given used → new_allowed new ≡ true
    → offset_for archive used owner (kind_of new) ≡ given offset → used < length archive / 32 → (later : List ℕ) × (append archive owner new ≡ given later)

-- ---- demand 3: the amounts against the exact fractions, and against an archive with raised readings

-- whoever answers with the rule book's equations keeps the whole promise, the exact fractions included
abbrev pub SettleKeeps : Type 0
SettleKeeps =
    (archive : List ℕ) (p k : ℕ) (list later : List ℤ) (answer : Answer) → answer ≡ answer_of (settle archive p k (length list))
    → later ≡ list_after (settle archive p k (length list)) list → Settles archive p k list later answer

-- two calls of settle with the same p and k, each with a list of its own, neither refused, the second's readings raised: both have the
-- same count of quarters, and after every quarter the second's running signed total is no higher
abbrev pub RunningTotalsFall : Type 0
RunningTotalsFall =
    (first second : List ℕ) (p k : ℕ) (list₁ later₁ list₂ later₂ : List ℤ) (answer₁ answer₂ : Answer)
    → Settles first p k list₁ later₁ answer₁ → Settles second p k list₂ later₂ answer₂
    → answer₁.number ≡ 0 → answer₂.number ≡ 0 → Raised first second p k
    → (answer₂.count ≡ answer₁.count) × ((n : ℕ) → n ≤ answer₁.count → sumℤ (take n later₂) ≤ℤ sumℤ (take n later₁))

-- ---- the calendar (02, 1)

-- months are 1 to 12, and a month has its days
pub record IsDate (d : Date) : Type 0 where
  pub since : 2000 ≤ d.year
  pub month_some : 1 ≤ d.month
  pub month_few : d.month ≤ 12
  pub day_some : 1 ≤ d.day
  pub day_few : d.day ≤ month_length d.year d.month

-- every day number from 1 on is one date, from which the number comes back, and the next is the day after; so are weekdays
pub record DaysFollow : Type 0 where
  pub first_date : date_of 1 ≡ dated 2000 1 1
  pub next_date : (day : ℕ) → 1 ≤ day → date_of (day + 1) ≡ day_after (date_of day)
  pub is_date : (day : ℕ) → 1 ≤ day → IsDate (date_of day)
  pub comes_back : (day : ℕ) → 1 ≤ day → day_number (date_of day) ≡ day
  pub first_weekday : weekday_of 1 ≡ saturday
  pub next_weekday : (day : ℕ) → 1 ≤ day → weekday_of (day + 1) ≡ following (weekday_of day)

-- a delivery day that isn't 0: in the month after the quarter's, Monday to Friday, not on the list, and three such days of its month before it
pub record IsDeliveryDay (quarter : ℕ) (holidays : List ℕ) (day : ℕ) : Type 0 where
  pub year_is : (date_of day).year ≡ (next_first (date_of (day_of quarter))).year
  pub month_is : (date_of day).month ≡ (next_first (date_of (day_of quarter))).month
  pub weekday : is_monday_to_friday (weekday_of day) ≡ true
  pub not_listed : member day holidays ≡ false
  pub fourth : length (keep (is_working_day holidays) (days_from (day + 1 - (date_of day).day) ((date_of day).day - 1))) ≡ 3

-- every delivery day that is given: 0 where that month has fewer than four working days, and there alone
pub record DeliveryDays : Type 0 where
  pub fourth : (quarter : ℕ) (holidays : List ℕ) (day : ℕ) → delivery_day quarter holidays ≡ given day → (day ≡ 0 → ⊥) → IsDeliveryDay quarter holidays day
  pub none : (quarter : ℕ) (holidays : List ℕ) (day : ℕ) → delivery_day quarter holidays ≡ given day → day ≡ 0
      → length (working_days holidays (next_month (day_of quarter))) < 4
  pub fewer : (quarter : ℕ) (holidays : List ℕ) (day : ℕ) → delivery_day quarter holidays ≡ given day
      → length (working_days holidays (next_month (day_of quarter))) < 4 → day ≡ 0
  -- the month whose working days these are is the next one
  pub begins : (day : ℕ) → 1 ≤ day → date_of (next_month day) ≡ next_first (date_of day)

-- ---- taking back (02, 2)

-- each of these numbers fits a byte
abbrev pub AreBytes : List ℕ → Type 0
AreBytes archive = (i : ℕ) → byte_at archive i < 2 ^ 8

-- an append that isn't refused, on a sound archive of bytes whose record U is all zero, followed by taking back, gives the earlier archive,
-- byte for byte
abbrev pub TakesAppendBack : Type 0
TakesAppendBack =
    (archive later : List ℕ) (used owner : ℕ) (new : List ℕ) → AreBytes archive → Sound archive → used_of archive ≡ given used
    → record_at archive used ≡ replicate 32 0 → append archive owner new ≡ given later → take_back later ≡ given archive

-- a sound archive with more than its head is never refused; it has one used record less afterwards, and stays sound
abbrev pub TakesBackSoundly : Type 0
TakesBackSoundly =
    (archive : List ℕ) (used : ℕ) → Sound archive → used_of archive ≡ given used → 1 < used
    → (later : List ℕ) × (take_back archive ≡ given later) × (used_of later ≡ given (used - 1)) × Sound later

-- filings into a fresh archive, none refused, and then the last so many of them taken back, up to all: the archive of those before them, byte
-- for byte
abbrev pub TakesFilingsBack : Type 0
TakesFilingsBack =
    (archive start end : List ℕ) (filings : List Filing) (times : ℕ) → fresh archive ≡ given start → file_all filings start ≡ given end
    → times ≤ length filings → take_back_times times end ≡ file_all (take (length filings - times) filings) start

-- ---- preview (02, 6)

-- append's refusal is the preview's; where append isn't refused, the preview is settle on the later archive, with all that settle promises
pub record PreviewSettles : Type 0 where
  pub append_first : (archive : List ℕ) (owner : ℕ) (new : List ℕ) (p k : ℕ) (list later_list : List ℤ) (later : List ℕ) (answer : Answer) (n : ℕ)
      → Previews archive owner new p k list later_list later answer → append archive owner new ≡ refused n
      → (answer ≡ answer_of (refused n)) × (later_list ≡ list)
  pub then_settle : (archive : List ℕ) (owner : ℕ) (new : List ℕ) (p k : ℕ) (list later_list : List ℤ) (later : List ℕ) (answer : Answer) (appended : List ℕ)
      → Previews archive owner new p k list later_list later answer → append archive owner new ≡ given appended → Settles appended p k list later_list answer
  pub host_append_first : (archive : List ℕ) (owner : ℕ) (new : List ℕ) (p k : ℕ) (list later_list result later_result later_archive : List ℕ) (number n : ℕ)
      → HostPreviews archive owner new p k list later_list result later_result later_archive number → append archive owner new ≡ refused n
      → (number ≡ n) × (later_list ≡ list) × (later_result ≡ result)
  pub host_then_settle : (archive : List ℕ) (owner : ℕ) (new : List ℕ) (p k : ℕ) (list later_list result later_result later_archive : List ℕ) (number : ℕ) (appended : List ℕ)
      → HostPreviews archive owner new p k list later_list result later_result later_archive number → append archive owner new ≡ given appended
      → HostSettles appended p k list later_list result later_result number

-- what was kept of an archive, and that an append is undone with it
pub record Undoes (archive : List ℕ) (new appended : List ℕ) : Type 0 where
  pub used : ℕ
  pub place : ℕ
  pub counted : used_of archive ≡ given used
  pub was_zero : link_at archive place ≡ 0
  pub wrote : appended ≡ append_after archive used place new
  pub gives_back : undone appended used place (record_at archive used) ≡ archive

-- an append that isn't refused is undone, on every archive of bytes, sound or not: every byte is as before
abbrev pub AppendsUndone : Type 0
AppendsUndone =
    (archive : List ℕ) (owner : ℕ) (new appended : List ℕ) → AreBytes archive → append archive owner new ≡ given appended → Undoes archive new appended

-- some record under some owner is appended, gives this archive, and is undone
pub record AppendedTo (archive appended : List ℕ) : Type 0 where
  pub owner : ℕ
  pub new : List ℕ
  pub files : append archive owner new ≡ given appended
  pub undoes : Undoes archive new appended

-- undoing isn't taking back, which may be refused where an append can be undone, or leave another archive
pub record UndoingIsNotTakingBack : Type 0 where
  pub may_be_refused : (archive appended : List ℕ) × AppendedTo archive appended × (take_back appended ≡ refused last_not_named_once)
  pub may_lose : (archive appended taken : List ℕ) × AppendedTo archive appended × (take_back appended ≡ given taken) × (taken ≡ archive → ⊥)

-- ---- the financial correction (02, 5)

-- 1,000,000 × cents + remainder is the exact sum of the products, and the remainder is from 0 to 999,999
pub record CorrectsExactly (amounts balanced prices : List ℤ) (money : Money) : Type 0 where
  pub is_sum : exact_money money ≡ total_cost (map cost_of (gaps_of amounts balanced prices))
  pub is_rest : money.remainder < 1000000

abbrev pub CorrectionsExact : Type 0
CorrectionsExact =
    (amounts balanced prices : List ℤ) (money : Money) → correction amounts balanced prices ≡ given money → CorrectsExactly amounts balanced prices money

-- a quarter by itself: a list of one
abbrev pub alone : Gap → Outcome Money
alone g = correction (g.amount ∷ []) (g.balanced ∷ []) (g.price.0 ∷ [])

-- no quarter of lists that aren't refused is refused by itself, and the exact results of the single quarters add up to that of the lists,
-- which is their sum split once
abbrev pub QuartersAddUp : Type 0
QuartersAddUp =
    (amounts balanced prices : List ℤ) (money : Money) → correction amounts balanced prices ≡ given money
    → (moneys : List Money) × (map alone (gaps_of amounts balanced prices) ≡ map given moneys)
    × (exact_money money ≡ total_cost (map exact_money moneys)) × (money ≡ money_of (total_cost (map exact_money moneys)))

-- the second prices are the first, some raised, and none of them where the amount is below the balanced energy
pub record PricesRaised (amounts balanced first second : List ℤ) : Type 0 where
  pub no_lower : (i : ℕ) → get_or first i (pos 0) ≤ℤ get_or second i (pos 0)
  pub equal_below : (i : ℕ) → get_or amounts i (pos 0) <ℤ get_or balanced i (pos 0) → get_or first i (pos 0) ≡ get_or second i (pos 0)

-- with prices so raised, neither refused, the second result is no lower: in whole cents, and exactly
abbrev pub CorrectionsRise : Type 0
CorrectionsRise =
    (amounts balanced first second : List ℤ) (money₁ money₂ : Money) → correction amounts balanced first ≡ given money₁
    → correction amounts balanced second ≡ given money₂ → PricesRaised amounts balanced first second
    → (money₁.cents ≤ℤ money₂.cents) × ((exact_money money₁).0 ≤ℤ (exact_money money₂).0)
