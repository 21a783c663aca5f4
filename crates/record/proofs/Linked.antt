-- The links of the code's list, one by one, as the book's.
use Rattle.std.proofs.Common.{◌≡◌, ℕ, zero, suc, ◌+◌, ◌≤◌, ◌<◌, List, [], ◌∷◌, length, get_or, drop, refl, arith}
use mathlib.Core.List.{Memᴰ}
use native.Mathlib.Numerals.{add-one}
use lib.Seq.{drop-nil}
use Rattle.rules.specs.Links as book
use Rattle.record.specs.declared.Link.{Link}
use Rattle.record.specs.Linked.{listed}

-- link i is there, at this byte and to this kind
pub record Here (ls : List book.Link) (i at to : ℕ) : Type 0 where
  pub from : drop i ls ≡ book.link at to ∷ drop (i + 1) ls
  pub has : Memᴰ (book.link at to) ls

-- no link is left at i
pub record Past (ls : List book.Link) (i : ℕ) : Type 0 where
  pub from : drop i ls ≡ []

module _ (links : List Link) {ls : List book.Link} (e : listed links ≡ ls) (i : ℕ) where
  pub here : i < length links → Here ls i (get_or links i (0, 0)).0 (get_or links i (0, 0)).1
  here h = let w = go links i h in rw (← e) (record { from = rw add-one w.0; has = w.1 })
    where
      go : (links : List Link) (i : ℕ) → i < length links → let l = get_or links i (0, 0) in
          (drop i (listed links) ≡ book.link l.0 l.1 ∷ drop (suc i) (listed links)) × Memᴰ (book.link l.0 l.1) (listed links)
      go [] i h = absurd (omega arith)
      go (l ∷ rest) zero h = (refl, Memᴰ.head refl)
      go (l ∷ rest) (suc i) h = let w = go rest i (omega arith) in (w.0, Memᴰ.tail w.1)

  pub past : length links ≤ i → Past ls i
  past h = rw (← e) (record { from = go links i h })
    where
      go : (links : List Link) (i : ℕ) → length links ≤ i → drop i (listed links) ≡ []
      go [] i h = drop-nil i
      go (l ∷ rest) zero h = absurd (omega arith)
      go (l ∷ rest) (suc i) h = go rest i (omega arith)
