-- A record but for its links.
use mathlib.Core.Path.{◌≡◌, refl, sym, ◌∙◌, ap, subst}
use mathlib.Core.Bool.{Bool, true, false}
use mathlib.Core.List.Memᴰ
use mathlib.Core.List.{List, [], ◌∷◌, Memᴰ}
use mathlib.Core.Logic.{◌⊎◌, inl, inr}
use Prim.Native.Nat.{ℕ, zero, suc, ◌+◌, ◌-◌, ◌≤◌, ◌<◌}
use native.Mathlib.Omega.{arith}
use lib.Dec.{ltb}
use lib.ListN.{length}
use lib.Seq.{ext_get_or}
use borrow.Author.Tests.{ltb-true, ltb-false}
use Rattle.rules.specs.Archive.{byte_at, link_at}
use Rattle.rules.specs.Links.{Link, links_of}
use Rattle.rules.specs.Encoding.{put}
use Rattle.rules.specs.ReadBack.{cleared, unlinked}
use Rattle.rules.proofs.Bytes.{put_length, put_below, put_in, put_above}

abbrev pub zeros : List ℕ
zeros = 0 ∷ 0 ∷ 0 ∷ 0 ∷ []

-- a byte outside so many from a place on, or one of them
pub data Where (at many i : ℕ) : Type 0 where
  outside : (i < at) ⊎ (at + many ≤ i) → Where at many i
  inside : (k : ℕ) → k < many → at + k ≡ i → Where at many i

pub side_of : (at many i : ℕ) → Where at many i
side_of at many i = go (ltb i at) refl (ltb i (at + many)) refl
  where
    go : (t : Bool) → ltb i at ≡ t → (u : Bool) → ltb i (at + many) ≡ u → Where at many i
    go true e u f = outside (inl (ltb-true i at e))
    go false e true f = let a = ltb-false i at e in let b = ltb-true i (at + many) f in inside (i - at) (omega arith) (omega arith)
    go false e false f = outside (inr (ltb-false i (at + many) f))

-- outside every link of a list
abbrev pub Outside : List Link → ℕ → Type 0
Outside ls i = (l : Link) → Memᴰ l ls → (i < l.at) ⊎ (l.at + 4 ≤ i)

pub cleared_same : (ls : List Link) (r s : List ℕ) → length r ≡ length s → ((l : Link) → Memᴰ l ls → l.at + 4 ≤ length r)
    → ((i : ℕ) → i < length r → Outside ls i → byte_at r i ≡ byte_at s i) → cleared ls r ≡ cleared ls s
cleared_same [] r s e fit f = ext_get_or 0 r s e (λ i h. f i h (λ l m. absurd (Memᴰ.not-nil m)))
cleared_same (x ∷ ls) r s e fit f =
    cleared_same ls (put r x.at zeros) (put s x.at zeros) (long r here ∙ e ∙ sym (long s there))
    (λ l m. rw (long r here) (fit l (Memᴰ.tail m)))
    (λ i h o. at i (rw (long r here) at h) o (side_of x.at 4 i))
  where
    here : x.at + 4 ≤ length r
    here = fit x (Memᴰ.head refl)

    there : x.at + 4 ≤ length s
    there = rw e at here

    long : (t : List ℕ) → x.at + 4 ≤ length t → length (put t x.at zeros) ≡ length t
    long t h = put_length t x.at zeros h

    both_out : (i : ℕ) → (i < x.at) ⊎ (x.at + 4 ≤ i) → Outside ls i → Outside (x ∷ ls) i
    both_out i p o l m = go (Memᴰ.cases_cons m)
      where
        go : (l ≡ x) ⊎ Memᴰ l ls → (i < l.at) ⊎ (l.at + 4 ≤ i)
        go (inl q) = subst (λ (y : Link). (i < y.at) ⊎ (y.at + 4 ≤ i)) (sym q) p
        go (inr m) = o l m

    at : (i : ℕ) → i < length r → Outside ls i → Where x.at 4 i → byte_at (put r x.at zeros) i ≡ byte_at (put s x.at zeros) i
    at i h o (outside (inl b)) = put_below r x.at zeros here i b ∙ f i h (both_out i (inl b) o) ∙ sym (put_below s x.at zeros there i b)
    at i h o (outside (inr b)) = put_above r x.at zeros here i b ∙ f i h (both_out i (inr b) o) ∙ sym (put_above s x.at zeros there i b)
    at i h o (inside k b c) =
        ap (byte_at (put r x.at zeros)) (sym c) ∙ put_in r x.at zeros here k b ∙ sym (put_in s x.at zeros there k b) ∙ ap (byte_at (put s x.at zeros)) c

-- a link that is zero has four zero bytes
pub zero_bytes : (r : List ℕ) (at k : ℕ) → link_at r at ≡ 0 → k < 4 → byte_at r (at + k) ≡ 0
unfolding link_at
zero_bytes r at zero e h = let z : at + 0 ≡ at = omega arith in ap (byte_at r) z ∙ omega arith
zero_bytes r at (suc zero) e h = omega arith
zero_bytes r at (suc (suc zero)) e h = omega arith
zero_bytes r at (suc (suc (suc zero))) e h = omega arith
zero_bytes r at (suc (suc (suc (suc k)))) e h = absurd (omega arith)

pub put_zeros : (r : List ℕ) (at : ℕ) → link_at r at ≡ 0 → at + 4 ≤ length r → put r at zeros ≡ r
put_zeros r at e h = ext_get_or 0 (put r at zeros) r (put_length r at zeros h) (λ i k. by i (side_of at 4 i))
  where
    zero_at : (k : ℕ) → k < 4 → byte_at zeros k ≡ 0
    zero_at zero h = refl
    zero_at (suc zero) h = refl
    zero_at (suc (suc zero)) h = refl
    zero_at (suc (suc (suc zero))) h = refl
    zero_at (suc (suc (suc (suc k)))) h = absurd (omega arith)

    by : (i : ℕ) → Where at 4 i → byte_at (put r at zeros) i ≡ byte_at r i
    by i (outside (inl b)) = put_below r at zeros h i b
    by i (outside (inr b)) = put_above r at zeros h i b
    by i (inside k b c) =
        ap (byte_at (put r at zeros)) (sym c) ∙ put_in r at zeros h k b ∙ zero_at k b ∙ sym (zero_bytes r at k e b) ∙ ap (byte_at r) c

cleared_zero : (ls : List Link) (r : List ℕ) → ((l : Link) → Memᴰ l ls → (link_at r l.at ≡ 0) × (l.at + 4 ≤ length r)) → cleared ls r ≡ r
cleared_zero [] r h = refl
cleared_zero (x ∷ ls) r h =
    let z = h x (Memᴰ.head refl) in
    rw (put_zeros r x.at z.0 z.1) (cleared_zero ls r (λ l m. h l (Memᴰ.tail m)))

pub unlinked_zero : (r : List ℕ) → ((l : Link) → Memᴰ l (links_of r) → (link_at r l.at ≡ 0) × (l.at + 4 ≤ length r)) → unlinked r ≡ r
unfolding unlinked
unlinked_zero r h = cleared_zero (links_of r) r h

pub unlinked_same : (r s : List ℕ) → links_of r ≡ links_of s → length r ≡ length s → ((l : Link) → Memᴰ l (links_of r) → l.at + 4 ≤ length r)
    → ((i : ℕ) → i < length r → Outside (links_of r) i → byte_at r i ≡ byte_at s i) → unlinked r ≡ unlinked s
unfolding unlinked
unlinked_same r s k e fit f = cleared_same (links_of r) r s e fit f ∙ ap (λ ls. cleared ls s) k

cleared_byte : (ls : List Link) (r : List ℕ) (i : ℕ) → ((l : Link) → Memᴰ l ls → l.at + 4 ≤ length r) → Outside ls i → byte_at (cleared ls r) i ≡ byte_at r i
cleared_byte [] r i fit o = refl
cleared_byte (x ∷ ls) r i fit o =
    cleared_byte ls (put r x.at zeros) i (λ l m. rw (put_length r x.at zeros here) (fit l (Memᴰ.tail m))) (λ l m. o l (Memᴰ.tail m))
    ∙ beside (o x (Memᴰ.head refl))
  where
    here : x.at + 4 ≤ length r
    here = fit x (Memᴰ.head refl)

    beside : (i < x.at) ⊎ (x.at + 4 ≤ i) → byte_at (put r x.at zeros) i ≡ byte_at r i
    beside (inl h) = put_below r x.at zeros here i h
    beside (inr h) = put_above r x.at zeros here i h

-- zeroing the links leaves every other byte
pub unlinked_byte : (r : List ℕ) (i : ℕ) → ((l : Link) → Memᴰ l (links_of r) → l.at + 4 ≤ length r) → Outside (links_of r) i → byte_at (unlinked r) i ≡ byte_at r i
unfolding unlinked
unlinked_byte r i fit o = cleared_byte (links_of r) r i fit o
