-- Writes one after another are one write; numbers in the digits that std writes.
use mathlib.Core.Path.{◌≡◌, refl, sym, ◌∙◌, ap}
use mathlib.Core.List.{List, [], ◌∷◌, ◌++◌, append_assoc}
use Prim.Native.Nat.{ℕ, suc, ◌+◌, ◌/◌, ◌%◌, ◌^◌, ◌≤◌, ◌<◌}
use native.Mathlib.Omega.{arith}
use lib.IntN.{ℤ, pos, negsuc, nat_abs}
use lib.ListN.{length, take, drop, set, length-append, take-append-drop}
use lib.Seq.{length-take-le, take_at, drop_at, drop-drop, set_split}
use lib.Signed.{mag, lt_z}
use mathlib.Core.Bool.{true, false}
use borrow.Author.Tests.{ltb-true}
use Rattle.std.proofs.lemmas.Fmt.{length-decimal-le}
use Rattle.std.specs.Fmt as std
use Rattle.std.proofs.lemmas.Fmt.{decimal_by_steps}
use Rattle.rules.specs.Encoding.{put}
use Rattle.rules.specs.Output.{decimal, signed_decimal}
use Rattle.rules.proofs.Output.{digits_small, digits_more}
use Rattle.text.specs.declared.Text.{Text}
use Rattle.text.specs.Writes.{Writes, Appends}

-- ---- writes one after another

module _ (a : List ℕ) (at : ℕ) (h : at ≤ length a) where
  -- the front up to the end of what was written
  pub written_front : (l : List ℕ) (n : ℕ) → n ≡ at + length l → take n (put a at l) ≡ take at a ++ l
  unfolding put
  written_front l n e =
      ap (λ (x : List ℕ). take n x) (sym (append_assoc (take at a) l (drop (at + length l) a)))
      ∙ take_at (take at a ++ l) (drop (at + length l) a) n
      (length-append (take at a) l ∙ omega (arith, length-take-le at a h))

  written_back : (l : List ℕ) (n : ℕ) → n ≡ at + length l → drop n (put a at l) ≡ drop n a
  unfolding put
  written_back l n e =
      ap (λ (x : List ℕ). drop n x) (sym (append_assoc (take at a) l (drop (at + length l) a)))
      ∙ drop_at (take at a ++ l) (drop (at + length l) a) n
      (length-append (take at a) l ∙ omega (arith, length-take-le at a h))
      ∙ ap (λ (m : ℕ). drop m a) (sym e)

  put_on : (l m : List ℕ) (n : ℕ) → n ≡ at + length l → put (put a at l) n m ≡ put a at (l ++ m)
  unfolding put
  put_on l m n e =
      let s : n + length m ≡ at + length (l ++ m) = omega (arith, length-append l m) in
      ap (λ (x : List ℕ). x ++ (m ++ drop (n + length m) (put a at l))) (written_front l n e)
      ∙ ap (λ (x : List ℕ). take at a ++ l ++ (m ++ x))
      (sym (drop-drop (length m) n (put a at l)) ∙ ap (λ (x : List ℕ). drop (length m) x) (written_back l n e) ∙ drop-drop (length m) n a)
      ∙ append_assoc (take at a) l (m ++ drop (n + length m) a)
      ∙ ap (λ (x : List ℕ). take at a ++ x) (sym (append_assoc l m (drop (n + length m) a)))
      ∙ ap (λ (x : ℕ). take at a ++ (l ++ m ++ drop x a)) s

-- two writes one after the other are one
pub writes_on : {a : List ℕ} {at : ℕ} {l m b c : List ℕ} {e f : ℕ} → Writes a at l b e → Writes b e m c f → at ≤ length a → Writes a at (l ++ m) c f
writes_on {a} {at} {l} {m} {b} {c} {e} {f} v w h = record {
  is = w.is ∙ ap (λ (x : List ℕ). put x e m) v.is ∙ put_on a at h l m e v.ends;
  ends = omega (arith, v.ends, w.ends, length-append l m);
}

-- one byte
pub writes_byte : (a : List ℕ) (at v : ℕ) → at < length a → Writes a at (v ∷ []) (set a at v) (at + 1)
unfolding put
writes_byte a at v h = record { is = set_split a at v h ∙ let e : suc at ≡ at + 1 = omega arith in rw e; ends = refl }

-- one text after another
pub appends_on : {t t₁ t₂ : Text} {l m : List ℕ} {i j : ℕ} → Appends t l i t₁ → Appends t₁ m j t₂ → t.end ≤ length t.out.now → Appends t (l ++ m) (i + j) t₂
appends_on v w h = record {
  same = w.same ∙ v.same;
  writes = writes_on v.writes w.writes h;
  within = omega (arith, v.within, w.within);
  room = w.room ∙ v.room;
}

pub appends_most : {t t' : Text} {l : List ℕ} {i : ℕ} (j : ℕ) → i ≤ j → Appends t l i t' → Appends t l j t'
appends_most j h v = record { same = v.same; writes = v.writes; within = omega (arith, v.within); room = v.room }

-- ---- numbers

-- their digits, written from the last to the first so that they end at a place, are one write
pub digits_put : (a b l : List ℕ) (at r end : ℕ) → r + length l ≡ end → end ≡ at + length l → drop r b ≡ l ++ drop end a → take r b ≡ take r a → Writes a at l b end
unfolding put
digits_put a b l at r end start ends written before =
    let i : r ≡ at = omega (arith, start, ends) in
    record {
      is = sym (take-append-drop r b) ∙ rw (written, before, i, ends);
      ends = ends;
    }

pub digits_one : (n : ℕ) → n < 10 → length (decimal n) ≡ 1
digits_one n h = ap (λ (l : List ℕ). length l) (digits_small n h)

pub digits_longer : (n : ℕ) → 10 ≤ n → n < 10 ^ 20 → length (decimal n) ≡ length (decimal (n / 10)) + 1
digits_longer n h most =
    ap (λ (l : List ℕ). length l) (digits_more n h most) ∙ length-append (decimal (n / 10)) ((48 + n % 10) ∷ [])

pub as_std : (n : ℕ) → n < 2 ^ 64 → decimal n ≡ std.decimal n
as_std n h =
    decimal_by_steps (λ m l. m < 2 ^ 64 → decimal m ≡ l) (λ m s k. digits_small m s)
    (λ m l s e k. digits_more m s (omega arith) ∙ ap (λ (ds : List ℕ). ds ++ ((48 + m % 10) ∷ [])) (e (omega arith))) n h h

pub as_std_signed : (z : ℤ) → mag z < 2 ^ 63 → signed_decimal z ≡ std.signed_decimal z
as_std_signed (pos n) h = as_std n (omega arith)
as_std_signed (negsuc n) h = ap (λ (l : List ℕ). 45 ∷ l) (as_std (suc n) (omega arith))

-- no amount has more than 19 digits
pub digits_few : (n : ℕ) → n < 10 ^ 19 → length (decimal n) ≤ 19
digits_few n h = rw (as_std n (omega arith)) (length-decimal-le 19 n (omega arith) h (omega arith))

-- a minus sign below zero, then the digits of the magnitude
pub signed_below : (z : ℤ) → lt_z z (pos 0) ≡ true → signed_decimal z ≡ 45 ∷ decimal (nat_abs z)
signed_below (pos n) e = absurd (omega (arith, ltb-true n 0 e))
signed_below (negsuc n) e = refl

pub signed_above : (z : ℤ) → lt_z z (pos 0) ≡ false → signed_decimal z ≡ decimal (nat_abs z)
signed_above (pos n) e = refl
signed_above (negsuc n) e = cc
