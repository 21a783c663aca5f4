-- The places of the archive's links: in byte order, four apart; each is a link of a used record.
use mathlib.Core.Path.{◌≡◌, refl, sym, ◌∙◌, ap, subst}
use mathlib.Core.Bool.{Bool, true, false, cond, ◌&&◌, ◌||◌}
use mathlib.Core.List.Memᴰ
use mathlib.Core.List.{List, [], ◌∷◌, ◌++◌, map, Memᴰ}
use mathlib.Core.Logic.{◌⊎◌, inl, inr}
use Prim.Native.Nat.{ℕ, zero, suc, ◌+◌, ◌*◌, ◌≤◌, ◌<◌}
use native.Mathlib.Omega.{arith}
use lib.Dec.{eqb, leb}
use lib.ListN.{length, length-map}
use borrow.Author.Tests.{ne_eqb, eqb-true, eqb-false, leb-false}
use Rattle.rules.specs.Archive.{byte_at, kind_of, record_at}
use Rattle.rules.specs.Links.{Link, link, is_kind, head_links, owned_by, links_of, is_link_byte, owned_at, links_at, stands_at, link_places}
use Rattle.rules.proofs.Lists.{Apart, apart_few, apart_wider, apart_append, apart_within, in_map, of_map}

-- ---- the table of links: all that the proofs know of it (a later entry is met here)

-- a record's owned links lie in bytes 8 to 31
owned_apart : (n : ℕ) (r : List ℕ) → Apart (32 * n + 32) (32 * n + 8) (map (stands_at n) (owned_by r))
unfolding owned_by
owned_apart n r = go (eqb (kind_of r) 1) (eqb (kind_of r) 3)
  where
    two : (j k : ℕ) → Apart (32 * n + 32) (32 * n + 8) (map (stands_at n) (link 8 j ∷ link 12 k ∷ []))
    two j k = omega arith

    go : (t u : Bool) → Apart (32 * n + 32) (32 * n + 8) (map (stands_at n) (cond t (link 8 2 ∷ link 12 3 ∷ []) (cond u (link 8 4 ∷ link 12 5 ∷ []) [])))
    go true u = two 2 3
    go false true = two 4 5
    go false false = omega arith

links_apart : (n : ℕ) (r : List ℕ) → Apart (32 * n + 32) (32 * n + 4) (map (stands_at n) (links_of r))
unfolding links_of
links_apart n r = go (is_kind (kind_of r))
  where
    go : (t : Bool) → Apart (32 * n + 32) (32 * n + 4) (map (stands_at n) (cond t (link 4 (kind_of r) ∷ owned_by r) []))
    go true = (omega arith, apart_wider (32 * n + 32) (32 * n + 32) (32 * n + 8) (32 * n + 4 + 4) (map (stands_at n) (owned_by r)) (omega arith) (omega arith) (owned_apart n r))
    go false = omega arith

-- an unknown kind owns nothing, so owned links are links
pub owned_linked : (r : List ℕ) (l : Link) → Memᴰ l (owned_by r) → Memᴰ l (links_of r)
unfolding owned_by links_of
owned_linked r l m = go (eqb (kind_of r) 1) refl (eqb (kind_of r) 3) refl
  where
    known : is_kind (kind_of r) ≡ true → Memᴰ l (cond (is_kind (kind_of r)) (link 4 (kind_of r) ∷ owned_by r) [])
    known e = rw e (Memᴰ.tail m)

    go : (t : Bool) → eqb (kind_of r) 1 ≡ t → (u : Bool) → eqb (kind_of r) 3 ≡ u → Memᴰ l (cond (is_kind (kind_of r)) (link 4 (kind_of r) ∷ owned_by r) [])
    go true e u f = known (ap is_kind (eqb-true (kind_of r) 1 e))
    go false e true f = known (ap is_kind (eqb-true (kind_of r) 3 f))
    go false e false f = absurd (Memᴰ.not-nil (rw (e, f) at m))

-- links start at byte 4, 8 or 12
pub data Starts (at : ℕ) : Type 0 where
  next : at ≡ 4 → Starts at
  first : at ≡ 8 → Starts at
  second : at ≡ 12 → Starts at

links_start : (r : List ℕ) (l : Link) → Memᴰ l (links_of r) → Starts l.at
unfolding links_of owned_by
links_start r l = go (is_kind (kind_of r)) (eqb (kind_of r) 1) (eqb (kind_of r) 3)
  where
    two : (j k : ℕ) → Memᴰ l (link 8 j ∷ link 12 k ∷ []) → Starts l.at
    two j k m = by (Memᴰ.cases_cons m)
      where
        by : (l ≡ link 8 j) ⊎ Memᴰ l (link 12 k ∷ []) → Starts l.at
        by (inl e) = first (ap (λ x. x.at) e)
        by (inr n) = second (ap (λ x. x.at) (Memᴰ.eq_of_singleton n))

    owned : (t u : Bool) → Memᴰ l (cond t (link 8 2 ∷ link 12 3 ∷ []) (cond u (link 8 4 ∷ link 12 5 ∷ []) [])) → Starts l.at
    owned true u m = two 2 3 m
    owned false true m = two 4 5 m
    owned false false m = absurd (Memᴰ.not-nil m)

    go : (k t u : Bool) → Memᴰ l (cond k (link 4 (kind_of r) ∷ cond t (link 8 2 ∷ link 12 3 ∷ []) (cond u (link 8 4 ∷ link 12 5 ∷ []) [])) []) → Starts l.at
    go false t u m = absurd (Memᴰ.not-nil m)
    go true t u m = by (Memᴰ.cases_cons m)
      where
        by : (l ≡ link 4 (kind_of r)) ⊎ Memᴰ l (cond t (link 8 2 ∷ link 12 3 ∷ []) (cond u (link 8 4 ∷ link 12 5 ∷ []) [])) → Starts l.at
        by (inl e) = next (ap (λ x. x.at) e)
        by (inr n) = owned t u n

-- the links of a record are decided by bytes 0 to 2
pub record SameStart (r s : List ℕ) : Type 0 where
  pub same : (i : ℕ) → i < 3 → byte_at r i ≡ byte_at s i

pub owned_same : (r s : List ℕ) → SameStart r s → owned_by r ≡ owned_by s
unfolding owned_by
owned_same r s h = rw (h.same 0 (omega arith))

pub links_same : (r s : List ℕ) → SameStart r s → links_of r ≡ links_of s
unfolding links_of
links_same r s h = rw (owned_same r s h, h.same 0 (omega arith))

-- ---- by number

at_apart : (archive : List ℕ) (n : ℕ) → Apart (32 * n + 32) (32 * n + 4) (map (stands_at n) (links_at archive n))
unfolding links_at
at_apart archive n = go (eqb n 0)
  where
    go : (t : Bool) → Apart (32 * n + 32) (32 * n + 4) (map (stands_at n) (cond t head_links (links_of (record_at archive n))))
    go true = omega arith
    go false = links_apart n (record_at archive n)

pub places_apart : (archive : List ℕ) (n : ℕ) → Apart (32 * n) 0 (link_places archive n)
unfolding link_places
places_apart archive zero = omega arith
places_apart archive (suc n) =
    apart_append (32 * n) (32 * suc n) 0 (link_places archive n) (map (stands_at n) (links_at archive n)) (places_apart archive n)
    (apart_wider (32 * n + 32) (32 * suc n) (32 * n + 4) (32 * n) (map (stands_at n) (links_at archive n)) (omega arith) (omega arith) (at_apart archive n))

pub record Stands (archive : List ℕ) (used place : ℕ) : Type 0 where
  pub holder : ℕ
  pub of : Link
  pub below : holder < used
  pub has : Memᴰ of (links_at archive holder)
  pub is : place ≡ stands_at holder of

pub stands_in : (archive : List ℕ) (used holder : ℕ) (l : Link) → holder < used → Memᴰ l (links_at archive holder) → Memᴰ (stands_at holder l) (link_places archive used)
unfolding link_places
stands_in archive zero holder l h m = absurd (omega arith)
stands_in archive (suc n) holder l h m = go (eqb holder n) refl (stands_in archive n holder l)
  where
    go : (t : Bool) → eqb holder n ≡ t → (holder < n → Memᴰ l (links_at archive holder) → Memᴰ (stands_at holder l) (link_places archive n))
        → Memᴰ (stands_at holder l) (link_places archive n ++ map (stands_at n) (links_at archive n))
    go true e f = Memᴰ.append_right (link_places archive n) (subst (λ (k : ℕ). Memᴰ (stands_at holder l) (map (stands_at k) (links_at archive k))) (eqb-true holder n e) (in_map (stands_at holder) m))
    go false e f = let d = eqb-false holder n e in Memᴰ.append_left (map (stands_at n) (links_at archive n)) (f (lower holder n h d) m)
      where
        lower : (x y : ℕ) → x < suc y → (x ≡ y → ⊥) → x < y
        lower x y h d = omega (arith, d)

pub in_stands : (archive : List ℕ) (used place : ℕ) → Memᴰ place (link_places archive used) → Stands archive used place
unfolding link_places
in_stands archive zero place m = absurd (Memᴰ.not-nil m)
in_stands archive (suc n) place m = go (Memᴰ.append_cases (link_places archive n) m) (in_stands archive n place)
  where
    go : Memᴰ place (link_places archive n) ⊎ Memᴰ place (map (stands_at n) (links_at archive n)) → (Memᴰ place (link_places archive n) → Stands archive n place) → Stands archive (suc n) place
    go (inl m) f = let s = f m in record { holder = s.holder; of = s.of; below = omega (arith, s.below); has = s.has; is = s.is }
    go (inr m) f = let w = of_map (stands_at n) (links_at archive n) m in record { holder = n; of = w.0; below = omega arith; has = w.1; is = w.2 }

-- where links stand
pub links_within : (r : List ℕ) (l : Link) → Memᴰ l (links_of r) → (4 ≤ l.at) × (l.at + 4 ≤ 32)
links_within r l m =
    let w = apart_within (32 * 0 + 32) (32 * 0 + 4) (stands_at 0 l) (map (stands_at 0) (links_of r)) (links_apart 0 r) (in_map (stands_at 0) m) in
    omega arith

-- bytes 4 to 31 hold at most seven links
pub links_few : (r : List ℕ) → length (links_of r) ≤ 7
links_few r = omega (arith, apart_few (32 * 0 + 32) (32 * 0 + 4) (map (stands_at 0) (links_of r)) (links_apart 0 r), length-map (links_of r) (stands_at 0))

pub at_few : (archive : List ℕ) (n : ℕ) → length (links_at archive n) ≤ 7
at_few archive n =
    omega (arith, apart_few (32 * n + 32) (32 * n + 4) (map (stands_at n) (links_at archive n)) (at_apart archive n), length-map (links_at archive n) (stands_at n))

pub links_at_lem : (archive : List ℕ) (n : ℕ) → 0 < n → links_at archive n ≡ links_of (record_at archive n)
unfolding links_at
links_at_lem archive n z = rw (ne_eqb n 0 (λ e. omega arith))

pub at_within : (archive : List ℕ) (n : ℕ) (l : Link) → Memᴰ l (links_at archive n) → (4 ≤ l.at) × (l.at + 4 ≤ 32)
at_within archive n l m =
    let w = apart_within (32 * n + 32) (32 * n + 4) (stands_at n l) (map (stands_at n) (links_at archive n)) (at_apart archive n) (in_map (stands_at n) m) in
    omega arith

pub at_start : (archive : List ℕ) (n : ℕ) (l : Link) → Memᴰ l (links_at archive n) → Starts l.at
unfolding links_at
at_start archive n l = go (eqb n 0)
  where
    go : (t : Bool) → Memᴰ l (cond t head_links (links_of (record_at archive n))) → Starts l.at
    go true m = first (ap (λ k. k.at) (Memᴰ.eq_of_singleton m))
    go false m = links_start (record_at archive n) l m

pub place_low : (archive : List ℕ) (n : ℕ) (l : Link) → Memᴰ l (links_at archive n) → 8 ≤ stands_at n l
unfolding links_at
place_low archive zero l m = let e : l.at ≡ 8 = ap (λ k. k.at) (Memᴰ.eq_of_singleton m) in omega arith
place_low archive (suc n) l m = let w = at_within archive (suc n) l m in omega arith

pub owned_in : (archive : List ℕ) (n : ℕ) (l : Link) → Memᴰ l (owned_at archive n) → Memᴰ l (links_at archive n)
unfolding owned_at links_at
owned_in archive n l = go (eqb n 0)
  where
    go : (t : Bool) → Memᴰ l (cond t head_links (owned_by (record_at archive n))) → Memᴰ l (cond t head_links (links_of (record_at archive n)))
    go true m = m
    go false m = owned_linked (record_at archive n) l m

pub owned_at_lem : (archive : List ℕ) (n : ℕ) (l : Link) → Memᴰ l (owned_at archive n) → (8 ≤ l.at) × (l.at + 4 ≤ 32)
unfolding owned_at
owned_at_lem archive n l = go (eqb n 0)
  where
    go : (t : Bool) → Memᴰ l (cond t head_links (owned_by (record_at archive n))) → (8 ≤ l.at) × (l.at + 4 ≤ 32)
    go true m = let e : l.at ≡ 8 = ap (λ k. k.at) (Memᴰ.eq_of_singleton m) in omega arith
    go false m =
        let w = apart_within (32 * n + 32) (32 * n + 8) (stands_at n l) (map (stands_at n) (owned_by (record_at archive n))) (owned_apart n (record_at archive n)) (in_map (stands_at n) m) in
        omega arith

-- links of a record that stand at one place are one
pub one_link : (hi lo n : ℕ) (ls : List Link) (k l : Link) → Apart hi lo (map (stands_at n) ls) → Memᴰ k ls → Memᴰ l ls → stands_at n k ≡ stands_at n l → k ≡ l
one_link hi lo n [] k l h m m' e = absurd (Memᴰ.not-nil m)
one_link hi lo n (x ∷ ls) k l h m m' e = go (Memᴰ.cases_cons m) (Memᴰ.cases_cons m') (λ m m'. one_link hi (stands_at n x + 4) n ls k l h.1 m m' e)
  where
    past : (y : Link) → Memᴰ y ls → stands_at n x + 4 ≤ stands_at n y
    past y m = (apart_within hi (stands_at n x + 4) (stands_at n y) (map (stands_at n) ls) h.1 (in_map (stands_at n) m)).0

    go : (k ≡ x) ⊎ Memᴰ k ls → (l ≡ x) ⊎ Memᴰ l ls → (Memᴰ k ls → Memᴰ l ls → k ≡ l) → k ≡ l
    go (inl i) (inl j) f = i ∙ sym j
    go (inl i) (inr m) f = let w = past l m in let a : k.at ≡ x.at = ap (λ y. y.at) i in absurd (omega arith)
    go (inr m) (inl j) f = let w = past k m in let a : l.at ≡ x.at = ap (λ y. y.at) j in absurd (omega arith)
    go (inr m) (inr m') f = f m m'

-- links of the archive that stand at one place are one
pub one_place : (archive : List ℕ) (n m : ℕ) (k l : Link) → Memᴰ k (links_at archive n) → Memᴰ l (links_at archive m) → stands_at n k ≡ stands_at m l → (n ≡ m) × (k ≡ l)
one_place archive n m k l h i e =
    let a = at_within archive n k h in
    let b = at_within archive m l i in
    let d : n ≡ m = omega arith in
    (d, one_link (32 * n + 32) (32 * n + 4) n (links_at archive n) k l (at_apart archive n) h (subst (λ (x : ℕ). Memᴰ l (links_at archive x)) (sym d) i) (omega arith))

pub next_in : (archive : List ℕ) (n : ℕ) → 0 < n → is_kind (kind_of (record_at archive n)) ≡ true → Memᴰ (link 4 (kind_of (record_at archive n))) (links_at archive n)
unfolding links_at links_of
next_in archive n h e = rw (ne_eqb n 0 (λ z. omega arith), e) (Memᴰ.head refl)

-- ---- which bytes are links

pub neither : (t u : Bool) → (t || u) ≡ false → (t ≡ false) × (u ≡ false)
neither true u e = let z : ◌≡◌ {A = ℕ} 0 1 = cc in absurd (omega arith)
neither false u e = (refl, e)

beyond : (lo hi i : ℕ) → (leb lo i && leb i hi) ≡ false → (i < lo) ⊎ (hi < i)
beyond lo hi i = go (leb lo i) refl
  where
    go : (t : Bool) → leb lo i ≡ t → (t && leb i hi) ≡ false → (i < lo) ⊎ (hi < i)
    go true e f = inr (leb-false i hi f)
    go false e f = inl (leb-false lo i e)

pub link_bytes : (r : List ℕ) (i : ℕ) → is_link_byte r i ≡ false → (l : Link) → Memᴰ l (links_of r) → (i < l.at) ⊎ (l.at + 4 ≤ i)
unfolding links_of owned_by is_link_byte
link_bytes r i e l m = go (is_kind (kind_of r)) (eqb (kind_of r) 1) (eqb (kind_of r) 3) (neither (leb 4 i && leb i 7) _ e).0 (neither (leb 4 i && leb i 7) _ e).1 m
  where
    Out : Type 0
    Out = (i < l.at) ⊎ (l.at + 4 ≤ i)

    next : (leb 4 i && leb i 7) ≡ false → (k : ℕ) → l ≡ link 4 k → Out
    next f k p = by (beyond 4 7 i f)
      where
        at_is : l.at ≡ 4
        at_is = ap (λ x. x.at) p

        by : (i < 4) ⊎ (7 < i) → Out
        by (inl h) = inl (omega (arith, at_is))
        by (inr h) = inr (omega (arith, at_is))

    two : (leb 8 i && leb i 15) ≡ false → (x y : ℕ) → Memᴰ l (link 8 x ∷ link 12 y ∷ []) → Out
    two f x y n = by (beyond 8 15 i f) (Memᴰ.cases_cons n)
      where
        by : (i < 8) ⊎ (15 < i) → (l ≡ link 8 x) ⊎ Memᴰ l (link 12 y ∷ []) → Out
        by (inl h) (inl p) = let a : l.at ≡ 8 = ap (λ x. x.at) p in inl (omega arith)
        by (inr h) (inl p) = let a : l.at ≡ 8 = ap (λ x. x.at) p in inr (omega arith)
        by (inl h) (inr p) = let a : l.at ≡ 12 = ap (λ x. x.at) (Memᴰ.eq_of_singleton p) in inl (omega arith)
        by (inr h) (inr p) = let a : l.at ≡ 12 = ap (λ x. x.at) (Memᴰ.eq_of_singleton p) in inr (omega arith)

    rest : (t u : Bool) → ((t || u) && (leb 8 i && leb i 15)) ≡ false → Memᴰ l (cond t (link 8 2 ∷ link 12 3 ∷ []) (cond u (link 8 4 ∷ link 12 5 ∷ []) [])) → Out
    rest true u f n = two f 2 3 n
    rest false true f n = two f 4 5 n
    rest false false f n = absurd (Memᴰ.not-nil n)

    go : (k t u : Bool) → (leb 4 i && leb i 7) ≡ false → ((t || u) && (leb 8 i && leb i 15)) ≡ false
        → Memᴰ l (cond k (link 4 (kind_of r) ∷ cond t (link 8 2 ∷ link 12 3 ∷ []) (cond u (link 8 4 ∷ link 12 5 ∷ []) [])) []) → Out
    go false t u f g n = absurd (Memᴰ.not-nil n)
    go true t u f g n = by (Memᴰ.cases_cons n)
      where
        by : (l ≡ link 4 (kind_of r)) ⊎ Memᴰ l (cond t (link 8 2 ∷ link 12 3 ∷ []) (cond u (link 8 4 ∷ link 12 5 ∷ []) [])) → Out
        by (inl p) = next f (kind_of r) p
        by (inr n) = rest t u g n
