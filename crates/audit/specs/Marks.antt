-- The table of audit: how often each record is named, counted up to two.
use Rattle.std.specs.Prelude.{ℕ, zero, suc, ◌+◌, ◌≡◌, Bool, true, cond, ◌&&◌, ◌||◌, List, [], ◌∷◌, map, eqb, ltb, get_or, set, replicate, Result, OnOk}
use Rattle.rules.specs.Outcome.{Outcome}
use Rattle.rules.specs.Results.{outcome}
use Rattle.rules.specs.Archive.{link_at}
use Rattle.rules.specs.Links.{Link, links_at, stands_at, link_places}
use Rattle.rules.specs.declared.refusal.Refusal.{Refusal}
use Rattle.rules.specs.Audit.{link_checked, links_checked, record_checked, records_checked}

abbrev pub capped : ℕ → ℕ
capped m = cond (ltb m 2) (m + 1) m

-- record n is named once more
unfoldable pub marked : List ℕ → ℕ → List ℕ
marked marks n = set marks n (capped (get_or marks n 0))

-- once more what the link at each place names; a zero link names none
unfoldable pub tally : List ℕ → List ℕ → List ℕ → List ℕ
tally archive marks [] = marks
tally archive marks (p ∷ ps) = tally archive (cond (eqb (link_at archive p) 0) marks (marked marks (link_at archive p))) ps

unfoldable pub no_marks : List ℕ
no_marks = replicate 65536 0

-- each of the first so many records but the head is marked as named once
unfoldable pub marked_once : List ℕ → ℕ → Bool
marked_once marks zero = true
marked_once marks (suc n) = marked_once marks n && (eqb n 0 || eqb (get_or marks n 0) 1)

-- a check of the links at these places: what it answers, and the table afterwards if it isn't refused
pub record Checked (archive : List ℕ) (o : Outcome (Unit {0})) (places marks later : List ℕ) (answer : Result (Unit {0}) Refusal) : Type 0 where
  pub answers : outcome answer ≡ o
  pub marks_are : OnOk answer (later ≡ tally archive marks places)

module _ (archive : List ℕ) (used : ℕ) where
  -- the check of a link of record n, of some of its links, of record n, and of the first so many records
  abbrev pub LinkChecked : ℕ → Link → List ℕ → List ℕ → Result (Unit {0}) Refusal → Type 0
  LinkChecked n l = Checked archive (link_checked archive used n l) (stands_at n l ∷ [])

  abbrev pub LinksChecked : ℕ → List Link → List ℕ → List ℕ → Result (Unit {0}) Refusal → Type 0
  LinksChecked n ls = Checked archive (links_checked archive used n ls) (map (stands_at n) ls)

  abbrev pub RecordChecked : ℕ → List ℕ → List ℕ → Result (Unit {0}) Refusal → Type 0
  RecordChecked n = Checked archive (record_checked archive used n) (map (stands_at n) (links_at archive n))

  abbrev pub RecordsChecked : ℕ → List ℕ → List ℕ → Result (Unit {0}) Refusal → Type 0
  RecordsChecked n = Checked archive (records_checked archive used n) (link_places archive n)
