-- From part to part.
use mathlib.Core.Path.{◌≡◌, sym, ◌∙◌, ap}
use mathlib.Core.List.{List, [], ◌++◌, append_assoc}
use Prim.Native.Nat.{ℕ, ◌+◌, ◌^◌, ◌<◌}
use native.Mathlib.Omega.{arith}
use lib.ListN.{length, length-append}
use Rattle.rules.specs.Output.{output, text_of_all}
use Rattle.report.proofs.Short.{output_short}
use Rattle.output.specs.Handing.{Left, NextPart}

pub part_fits : (input : List ℕ) (count : ℕ) (part : List ℕ) → NextPart input count part → count + length part < 2 ^ 63
part_fits input count part n =
    omega (arith, output_short input, ap length n.left.is, length-append n.left.before (part ++ n.after), length-append part n.after, n.left.counted)

-- the part that is next, of the text that is left
pub left_next : {input : List ℕ} {count : ℕ} {text : List ℕ} (part after : List ℕ) → part ++ after ≡ text → Left input count text → NextPart input count part
left_next part after e l = record {
  after = after;
  left = record { before = l.before; is = l.is ∙ ap (λ (x : List ℕ). l.before ++ x) (sym e); counted = l.counted };
}

-- what is left behind it
pub left_after : {input : List ℕ} {count : ℕ} {text : List ℕ} (part after : List ℕ) → part ++ after ≡ text → Left input count text
    → (count' : ℕ) → count' ≡ count + length part → Left input count' after
left_after part after e l count' f = record {
  before = l.before ++ part;
  is = l.is ∙ ap (λ (x : List ℕ). l.before ++ x) (sym e) ∙ sym (append_assoc l.before part after);
  counted = omega (arith, length-append l.before part, l.counted);
}

pub left_none : {input : List ℕ} {count : ℕ} (text : List ℕ) → text ≡ [] → Left input count text → count ≡ length (text_of_all (output input))
left_none text e l = omega (arith, ap length l.is, length-append l.before text, l.counted, ap length e)
