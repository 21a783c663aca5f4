-- What each call promises, for every archive of arbitrary bytes, every list and every number: one record for each call (01, 'Calls on the
-- archive' and 'What every statement must say', 1). Results and later contents are equations, for refusals too.
use Rattle.std.specs.Prelude.{ℕ, ◌+◌, ◌*◌, ◌≡◌, cond, List, ℤ, length}
use Rattle.std.specs.Borrow.{Bor}
use Rattle.rules.specs.Outcome.{given, number_of, after}
use Rattle.rules.specs.Calendar.{delivery_day}
use Rattle.rules.specs.Archive.{used_of}
use Rattle.rules.specs.Settle.{settle, Answer, answer_of, list_after}
use Rattle.rules.specs.Fractions.{Fractions, exact_fractions, Exact}
use Rattle.rules.specs.Host.{host_settle, host_list_after, host_result_after}
use Rattle.rules.specs.Filing.{fresh, append, archive_after, is_shown, shown}
use Rattle.rules.specs.Audit.{audit}
use Rattle.rules.specs.TakeBack.{take_back}
use Rattle.rules.specs.Preview.{preview, host_preview}
use Rattle.rules.specs.Correction.{correction, Corrected, corrected_of}

-- demand 3 of one call that isn't refused: the list that it leaves and the total that it gives keep to the exact fractions
pub record KeepsToFractions (archive : List ℕ) (p k : ℕ) (later : List ℤ) (answer : Answer) : Type 0 where
  pub fractions : Fractions
  pub are : exact_fractions archive p k ≡ given fractions
  pub as_many : length fractions.numerators ≡ answer.count
  pub exact : Exact fractions later answer.total

-- settle of plant place p, measure place k, with a lent list that is `later` afterwards
pub record Settles (archive : List ℕ) (p k : ℕ) (list later : List ℤ) (answer : Answer) : Type 0 where
  pub answers : answer ≡ answer_of (settle archive p k (length list))
  pub leaves : later ≡ list_after (settle archive p k (length list)) list
  pub keeps : answer.number ≡ 0 → KeepsToFractions archive p k later answer

-- the same for the operator's host: the list and the results as bytes
pub record HostSettles (archive : List ℕ) (p k : ℕ) (list later_list result later_result : List ℕ) (number : ℕ) : Type 0 where
  pub answers : number ≡ number_of (host_settle archive p k (length list) (length result))
  pub leaves_list : later_list ≡ host_list_after (host_settle archive p k (length list) (length result)) list
  pub leaves_result : later_result ≡ host_result_after (host_settle archive p k (length list) (length result)) result

pub record Freshens (archive later : List ℕ) (number : ℕ) : Type 0 where
  pub answers : number ≡ number_of (fresh archive)
  pub leaves : later ≡ archive_after (fresh archive) archive

pub record Appends (archive : List ℕ) (owner : ℕ) (new later : List ℕ) (number : ℕ) : Type 0 where
  pub answers : number ≡ number_of (append archive owner new)
  pub leaves : later ≡ archive_after (append archive owner new) archive

pub record TakesBack (archive later : List ℕ) (number : ℕ) : Type 0 where
  pub answers : number ≡ number_of (take_back archive)
  pub leaves : later ≡ archive_after (take_back archive) archive

-- preview (02, 6), with append's owner and record and settle's places and list: the archive is lent for writing, and is as before in every case
pub record Previews (archive : List ℕ) (owner : ℕ) (new : List ℕ) (p k : ℕ) (list later_list : List ℤ) (later : List ℕ) (answer : Answer) : Type 0 where
  pub answers : answer ≡ answer_of (preview archive owner new p k (length list))
  pub leaves_list : later_list ≡ list_after (preview archive owner new p k (length list)) list
  pub leaves_archive : later ≡ archive

-- the same for the operator's host
pub record HostPreviews (archive : List ℕ) (owner : ℕ) (new : List ℕ) (p k : ℕ) (list later_list result later_result later_archive : List ℕ) (number : ℕ) : Type 0 where
  pub answers : number ≡ number_of (host_preview archive owner new p k (length list) (length result))
  pub leaves_list : later_list ≡ host_list_after (host_preview archive owner new p k (length list) (length result)) list
  pub leaves_result : later_result ≡ host_result_after (host_preview archive owner new p k (length list) (length result)) result
  pub leaves_archive : later_archive ≡ archive

-- show hands back a part of the lent archive itself: its bytes, the block that it lies in, and the place there
pub record Shows (archive : Bor (List ℕ)) (n : ℕ) (part : Bor (List ℕ)) : Type 0 where
  pub content : part.now ≡ shown archive.now n
  pub block : part.ref_ptr.0 ≡ archive.ref_ptr.0
  pub offset : part.ref_ptr.1 ≡ archive.ref_ptr.1 + cond (is_shown (used_of archive.now) n) (32 * n) 0

pub record Audits (archive : List ℕ) (number : ℕ) : Type 0 where
  pub answers : number ≡ number_of (audit archive)

-- the delivery day of a quarter, put where `was` stood
pub record Delivers (quarter : ℕ) (holidays : List ℕ) (was day number : ℕ) : Type 0 where
  pub answers : number ≡ number_of (delivery_day quarter holidays)
  pub leaves : day ≡ after (delivery_day quarter holidays) (λ d. d) was

-- the financial correction of three lists
pub record Corrects (amounts balanced prices : List ℤ) (answer : Corrected) : Type 0 where
  pub answers : answer ≡ corrected_of (correction amounts balanced prices)

-- the same for the operator's host: cents and remainder put where `was` and `rest` stood
pub record HostCorrects (amounts balanced prices : List ℤ) (was cents : ℤ) (rest remainder number : ℕ) : Type 0 where
  pub answers : number ≡ number_of (correction amounts balanced prices)
  pub leaves_cents : cents ≡ after (correction amounts balanced prices) (λ m. m.cents) was
  pub leaves_remainder : remainder ≡ after (correction amounts balanced prices) (λ m. m.remainder) rest
