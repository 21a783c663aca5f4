-- Lists: what is kept, places that lie at least four apart, and what holds of a member.
use mathlib.Core.Path.{◌≡◌, refl, sym, ◌∙◌, ap}
use mathlib.Core.Bool.{Bool, true, false, cond, ◌||◌}
use mathlib.Core.List.Memᴰ
use mathlib.Core.List.{List, [], ◌∷◌, ◌++◌, map, Memᴰ}
use mathlib.Core.Logic.{◌⊎◌, inl, inr}
use Prim.Native.Nat.{ℕ, suc, ◌+◌, ◌*◌, ◌≤◌}
use native.Mathlib.Nat.{suc-mul}
use native.Mathlib.Omega.{arith}
use lib.Dec.{eqb}
use lib.ListN.{length}
use borrow.Author.Tests.{eq-eqb, ne_eqb, eqb-true}
use Rattle.rules.specs.Numbers.{keep, all, member, sum, map_from}
use Rattle.rules.proofs.Inversion.{All, none, more}
use Rattle.rules.proofs.Sound.{both}

module _ {A : Type 0} where
  pub keep_same : (f g : A → Bool) (l : List A) → ((a : A) → Memᴰ a l → f a ≡ g a) → keep f l ≡ keep g l
  keep_same f g [] h = refl
  keep_same f g (a ∷ l) h = rw (h a (Memᴰ.head refl), keep_same f g l (λ b m. h b (Memᴰ.tail m)))

  pub keep_none : (f : A → Bool) (l : List A) → ((a : A) → Memᴰ a l → f a ≡ false) → keep f l ≡ []
  keep_none f [] h = refl
  keep_none f (a ∷ l) h = rw (h a (Memᴰ.head refl), keep_none f l (λ b m. h b (Memᴰ.tail m)))

  pub keep_append : (f : A → Bool) (l m : List A) → keep f (l ++ m) ≡ keep f l ++ keep f m
  keep_append f [] m = refl
  keep_append f (a ∷ l) m = go (f a) (keep_append f l m)
    where
      go : (t : Bool) → keep f (l ++ m) ≡ keep f l ++ keep f m
          → cond t (a ∷ keep f (l ++ m)) (keep f (l ++ m)) ≡ cond t (a ∷ keep f l) (keep f l) ++ keep f m
      go true e = rw e
      go false e = e

  pub in_keep : (f : A → Bool) (l : List A) (a : A) → Memᴰ a l → f a ≡ true → Memᴰ a (keep f l)
  in_keep f [] a x t = elim x [ ]
  in_keep f (b ∷ l) a (Memᴰ.head e) t =
      let u : f b ≡ true = ap f (sym e) ∙ t in
      rw u (Memᴰ.head e)
  in_keep f (b ∷ l) a (Memᴰ.tail m) t = go (f b) (in_keep f l a m t)
    where
      go : (u : Bool) → Memᴰ a (keep f l) → Memᴰ a (cond u (b ∷ keep f l) (keep f l))
      go true m = Memᴰ.tail m
      go false m = m

  pub of_keep : (f : A → Bool) (l : List A) (a : A) → Memᴰ a (keep f l) → Memᴰ a l × (f a ≡ true)
  of_keep f [] a m = absurd (Memᴰ.not-nil m)
  of_keep f (b ∷ l) a m = go (f b) refl m (of_keep f l a)
    where
      go : (t : Bool) → f b ≡ t → Memᴰ a (cond t (b ∷ keep f l) (keep f l)) → (Memᴰ a (keep f l) → Memᴰ a l × (f a ≡ true))
          → Memᴰ a (b ∷ l) × (f a ≡ true)
      go true e n k = by (Memᴰ.cases_cons n)
        where
          by : (a ≡ b) ⊎ Memᴰ a (keep f l) → Memᴰ a (b ∷ l) × (f a ≡ true)
          by (inl i) = (Memᴰ.head i, ap f i ∙ e)
          by (inr n) = let w = k n in (Memᴰ.tail w.0, w.1)
      go false e n k = let w = k n in (Memᴰ.tail w.0, w.1)

  -- a list of one
  pub sole : (l : List A) → length l ≡ 1 → (a : A) × (l ≡ a ∷ [])
  sole [] h = absurd (omega arith)
  sole (a ∷ []) h = (a, refl)
  sole (a ∷ (b ∷ l)) h = absurd (omega arith)

  pub one_only : (l : List A) (a b : A) → length l ≡ 1 → Memᴰ a l → Memᴰ b l → a ≡ b
  one_only [] a b h m n = absurd (Memᴰ.not-nil m)
  one_only (c ∷ []) a b h m n = Memᴰ.eq_of_singleton m ∙ sym (Memᴰ.eq_of_singleton n)
  one_only (c ∷ (d ∷ l)) a b h m n = absurd (omega arith)

-- places of four bytes each, one after another, from lo up to hi
abbrev pub Apart : ℕ → ℕ → List ℕ → Type 0
Apart hi lo [] = lo ≤ hi
Apart hi lo (p ∷ l) = (lo ≤ p) × Apart hi (p + 4) l

pub apart_room : (hi lo : ℕ) (l : List ℕ) → Apart hi lo l → lo ≤ hi
apart_room hi lo [] h = h
apart_room hi lo (p ∷ l) h = let k = apart_room hi (p + 4) l h.1 in omega (arith, h.0)

-- so many fit
pub apart_few : (hi lo : ℕ) (l : List ℕ) → Apart hi lo l → lo + 4 * length l ≤ hi
apart_few hi lo [] h = omega arith
apart_few hi lo (p ∷ l) h = let k = apart_few hi (p + 4) l h.1 in omega (arith, h.0)

pub apart_within : (hi lo p : ℕ) (l : List ℕ) → Apart hi lo l → Memᴰ p l → (lo ≤ p) × (p + 4 ≤ hi)
apart_within hi lo p [] h m = absurd (Memᴰ.not-nil m)
apart_within hi lo p (q ∷ l) h m = go (Memᴰ.cases_cons m) (λ m. apart_within hi (q + 4) p l h.1 m) (apart_room hi (q + 4) l h.1) h.0
  where
    go : (p ≡ q) ⊎ Memᴰ p l → (Memᴰ p l → (q + 4 ≤ p) × (p + 4 ≤ hi)) → q + 4 ≤ hi → lo ≤ q → (lo ≤ p) × (p + 4 ≤ hi)
    go (inl e) f k j = omega arith
    go (inr m) f k j = let w = f m in omega arith

pub apart_two : (hi lo p q : ℕ) (l : List ℕ) → Apart hi lo l → Memᴰ p l → Memᴰ q l → (p ≡ q → ⊥) → (p + 4 ≤ q) ⊎ (q + 4 ≤ p)
apart_two hi lo p q [] h m n d = absurd (Memᴰ.not-nil m)
apart_two hi lo p q (x ∷ l) h m n d = go (Memᴰ.cases_cons m) (Memᴰ.cases_cons n) (λ m n. apart_two hi (x + 4) p q l h.1 m n d)
  where
    go : (p ≡ x) ⊎ Memᴰ p l → (q ≡ x) ⊎ Memᴰ q l → (Memᴰ p l → Memᴰ q l → (p + 4 ≤ q) ⊎ (q + 4 ≤ p)) → (p + 4 ≤ q) ⊎ (q + 4 ≤ p)
    go (inl e) (inl k) f = absurd (d (e ∙ sym k))
    go (inl e) (inr n) f = let w = apart_within hi (x + 4) q l h.1 n in inl (omega arith)
    go (inr m) (inl k) f = let w = apart_within hi (x + 4) p l h.1 m in inr (omega arith)
    go (inr m) (inr n) f = f m n

pub apart_once : (hi lo p : ℕ) (l : List ℕ) → Apart hi lo l → Memᴰ p l → length (keep (λ q. eqb q p) l) ≡ 1
apart_once hi lo p [] h m = absurd (Memᴰ.not-nil m)
apart_once hi lo p (x ∷ l) h m = go (Memᴰ.cases_cons m) (λ m. apart_once hi (x + 4) p l h.1 m)
  where
    later : Memᴰ p l → (eqb x p ≡ false)
    later m = let w = apart_within hi (x + 4) p l h.1 m in ne_eqb x p (λ e. omega arith)

    gone : p ≡ x → keep (λ q. eqb q p) l ≡ []
    gone e = keep_none (λ q. eqb q p) l (λ a m. let w = apart_within hi (x + 4) a l h.1 m in ne_eqb a p (λ k. omega arith))

    go : (p ≡ x) ⊎ Memᴰ p l → (Memᴰ p l → length (keep (λ q. eqb q p) l) ≡ 1) → length (cond (eqb x p) (x ∷ keep (λ q. eqb q p) l) (keep (λ q. eqb q p) l)) ≡ 1
    go (inl e) f = rw (eq-eqb x p (sym e), gone e)
    go (inr m) f = rw (later m) (f m)

pub apart_wider : (hi hi' lo lo' : ℕ) (l : List ℕ) → lo' ≤ lo → hi ≤ hi' → Apart hi lo l → Apart hi' lo' l
apart_wider hi hi' lo lo' [] h k r = omega arith
apart_wider hi hi' lo lo' (p ∷ l) h k r = (omega (arith, r.0), apart_wider hi hi' (p + 4) (p + 4) l (omega arith) k r.1)

pub apart_append : (mid hi lo : ℕ) (l m : List ℕ) → Apart mid lo l → Apart hi mid m → Apart hi lo (l ++ m)
apart_append mid hi lo [] m r s = apart_wider hi hi mid lo m r (omega arith) s
apart_append mid hi lo (p ∷ l) m r s = (r.0, apart_append mid hi (p + 4) l m r.1 s)

pub in_map : {A B : Type 0} (f : A → B) {a : A} {l : List A} → Memᴰ a l → Memᴰ (f a) (map f l)
in_map f (Memᴰ.head e) = Memᴰ.head (ap f e)
in_map f (Memᴰ.tail m) = Memᴰ.tail (in_map f m)

pub of_map : {A B : Type 0} (f : A → B) {b : B} (l : List A) → Memᴰ b (map f l) → (a : A) × Memᴰ a l × (b ≡ f a)
of_map f [] m = absurd (Memᴰ.not-nil m)
of_map {A} f {b} (a ∷ l) m = go (Memᴰ.cases_cons m) (λ m. of_map f l m)
  where
    go : (b ≡ f a) ⊎ Memᴰ b (map f l) → (Memᴰ b (map f l) → (x : A) × Memᴰ x l × (b ≡ f x)) → (x : A) × Memᴰ x (a ∷ l) × (b ≡ f x)
    go (inl e) k = (a, Memᴰ.head refl, e)
    go (inr m) k = let w = k m in (w.0, Memᴰ.tail w.1, w.2)

pub map_from_length : {A B : Type 0} (f : ℕ → A → B) (i : ℕ) (l : List A) → length (map_from f i l) ≡ length l
map_from_length f i [] = refl
map_from_length f i (a ∷ l) = ap suc (map_from_length f (i + 1) l)

-- a test that all pass, at one of them
pub at_member : (test : ℕ → Bool) (l : List ℕ) (n : ℕ) → all test l ≡ true → member n l ≡ true → test n ≡ true
at_member test [] n a m = cc
at_member test (k ∷ l) n a m = let t = both (test k) (all test l) a in go (eqb n k) refl m t.0 (at_member test l n t.1)
  where
    go : (t : Bool) → eqb n k ≡ t → (t || member n l) ≡ true → test k ≡ true → (member n l ≡ true → test n ≡ true) → test n ≡ true
    go true e m' first rest = rw (eqb-true n k e) first
    go false e m' first rest = rest m'

-- ---- what holds of every element

module _ {A : Type 0} where
  pub all_passed : (p : A → Bool) (xs : List A) → all p xs ≡ true → All (λ x. p x ≡ true) xs
  all_passed p [] e = none
  all_passed p (x ∷ xs) e = let b = both (p x) (all p xs) e in more b.0 (all_passed p xs b.1)

  pub all_weaker : {P Q : A → Type 0} (xs : List A) → ((x : A) → P x → Q x) → All P xs → All Q xs
  all_weaker [] f none = none
  all_weaker (x ∷ xs) f (more h hs) = more (f x h) (all_weaker xs f hs)

  pub sum_low : (f : A → ℕ) (top : ℕ) (xs : List A) → All (λ x. f x ≤ top) xs → sum (map f xs) ≤ length xs * top
  sum_low f top [] none = omega arith
  sum_low f top (x ∷ xs) (more h hs) = omega (arith, sum_low f top xs hs, suc-mul (length xs) top)
