-- A walk along a chain, step by step.
use Rattle.std.specs.Prelude.{◌≡◌, ℕ, suc, ◌*◌, ◌-◌, ◌≤◌, List, length, cond, eqb, ◌≢◌, Option, Some, None, Result, Ok, Err}
use Rattle.rules.specs.Outcome.{refused, given}
use Rattle.rules.specs.Results.{number}
use Rattle.rules.specs.Archive.{entry_at, record_at, next_of, follow}
use Rattle.rules.specs.declared.refusal.Refusal.{Refusal}
use Rattle.chains.specs.declared.Chain.{Chain}

-- all used records lie in the archive
abbrev pub Lies : Chain → Type 0
Lies s = 32 * s.used ≤ length s.archive.now

-- at most so many steps are left
abbrev pub left : Chain → ℕ
left s = cond (eqb s.link 0) 0 (suc (s.used - s.last))

-- a walk that starts at a link of a record
pub record Starts (archive : List ℕ) (used kind holder first : ℕ) (s : Chain) : Type 0 where
  pub archive_is : s.archive.now ≡ archive
  pub used_is : s.used ≡ used
  pub kind_is : s.kind ≡ kind
  pub last_is : s.last ≡ holder
  pub link_is : s.link ≡ first

-- it comes to record n
pub record Turns (s : Chain) (n : ℕ) (t : Chain) : Type 0 where
  pub is : follow s.archive.now s.used s.kind s.last s.link ≡ given (entry_at s.archive.now n)
  pub archive_stays : t.archive.now ≡ s.archive.now
  pub used_stays : t.used ≡ s.used
  pub kind_stays : t.kind ≡ s.kind
  pub last_is : t.last ≡ n
  pub link_is : t.link ≡ next_of (record_at s.archive.now n)

-- its link is refused
pub record Refuses (s : Chain) (e : Refusal) : Type 0 where
  pub some : s.link ≢ 0
  pub is : follow s.archive.now s.used s.kind s.last s.link ≡ refused (number e)

-- a step, which ends the walk at a link of zero
abbrev pub Steps : Chain → Option (Result ℕ Refusal) → Chain → Type 0
Steps s None t = s.link ≡ 0
Steps s (Some (Ok n)) t = Turns s n t
Steps s (Some (Err e)) t = Refuses s e
