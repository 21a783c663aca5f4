-- Each step of the report: the lines written, the lines left, and the end coming nearer.
use mathlib.Core.Path.{◌≡◌, refl, sym, ◌∙◌, ap, subst}
use mathlib.Core.Bool.{Bool, true, false, cond, true≢false}
use mathlib.Core.Logic.{◌⊎◌, inl, inr}
use mathlib.Core.List.{List, [], ◌∷◌, ◌++◌, append_assoc}
use Prim.Native.Nat.{ℕ, suc, ◌+◌, ◌-◌, ◌≤◌, ◌<◌}
use native.Mathlib.Nat.{mul-le-mul_right}
use native.Mathlib.Omega.{arith}
use borrow.Author.Tests.{le-ltb, ltb-false, ne_eqb}
use lib.Dec.{ltb}
use lib.IntN.{ℤ, pos}
use lib.ListN.{length, get_or, take, drop, drop_of_length-le, length-append}
use lib.Seq.{length-take-le, take_at, get_or-take}
use Rattle.rules.specs.Outcome.{Outcome, refused, given}
use Rattle.rules.specs.Refusals.{not_archive, no_plant, no_measure}
use Rattle.rules.specs.Archive.{used_of}
use Rattle.rules.specs.Settle.{Settlement, count_of, total_of, settled}
use Rattle.rules.specs.Output.{Line, measure_line, quarter_line, refusal_line, lines_of, Step, next_measure, next_plant, stop, step_after, go_on, lines_from, head_refused, output, text_of, text_of_all}
use Rattle.rules.proofs.Output.{Within, step_within, lines_are, lines_given, text_append, text_cons, text_one, map_from_drop, output_given}
use Rattle.rules.proofs.Writes.{wrote_none}
use Rattle.rules.proofs.AppendSteps.{used_within}
use Rattle.text.specs.Writes.{Writes}
use Rattle.text.proofs.Texts.{written_front}
use Rattle.report.specs.declared.Cursor.{Cursor}
use Rattle.report.specs.Cursors.{rest, finished, bytes_left, start_at, settled_at, quarter_at, moved, first_at, ended_at, steps, Fits, Ends, Begins, Advances, Continues, Fills}
use Rattle.report.proofs.Counts.{settled_counted}

-- ---- text

text_some : (l : Line) → 1 ≤ length (text_of l)
text_some (measure_line p k count total links) = omega arith
text_some (quarter_line place amount) = omega arith
text_some (refusal_line p k number) = omega arith

-- text that is written is no longer left
pub streams : {out out' l : List ℕ} {at e : ℕ} (ls ls' : List Line) → at ≤ length out → Writes out at l out' e → text_of_all ls ≡ l ++ text_of_all ls'
    → take e out' ++ text_of_all ls' ≡ take at out ++ text_of_all ls
streams {out} {out'} {l} {at} {e} ls ls' h w t =
    ap (λ (x : List ℕ). take e x ++ text_of_all ls') w.is
    ∙ ap (λ (x : List ℕ). x ++ text_of_all ls') (written_front out at h l e w.ends)
    ∙ append_assoc (take at out) l (text_of_all ls')
    ∙ ap (λ (x : List ℕ). take at out ++ x) (sym t)

-- ---- quarters

module _ (archive : List ℕ) (c : Cursor) (list : List ℤ) (f : Fits archive c list) where
  taken : length (take c.count list) ≡ c.count
  taken = length-take-le c.count list (omega (arith, f.counted, f.size))

  module _ (h : c.place < c.count) (e : ℕ) where
    rest_quarter : rest archive c list ≡ quarter_line (c.place + 1) (get_or list c.place (pos 0)) ∷ rest archive (quarter_at c e) list
    unfolding rest
    rest_quarter =
        rw (map_from_drop quarter_line (c.place + 1) c.place (take c.count list) (pos 0) (omega (arith, taken)), get_or-take c.count list c.place (pos 0) h)

    same_steps : steps (quarter_at c e) ≡ steps c
    unfolding steps
    same_steps = refl

    pub quarter_advances : {out out' : List ℕ} (amount : ℤ) → c.end + 108 ≤ length out
        → Writes out c.end (text_of (quarter_line (c.place + 1) amount)) out' e → e ≤ c.end + 108 → amount ≡ get_or list c.place (pos 0)
        → Advances archive c list out (quarter_at c e) list out'
    quarter_advances amount room w b i =
        let l : Line = quarter_line (c.place + 1) amount in record {
          text = streams (rest archive c list) (rest archive (quarter_at c e) list) (omega arith) w
              (ap text_of_all (rest_quarter ∙ ap (λ (z : ℤ). quarter_line (c.place + 1) z ∷ rest archive (quarter_at c e) list) (sym i))
              ∙ text_cons l (rest archive (quarter_at c e) list));
          fits = record {
            head = f.head;
            low = f.low;
            size = f.size;
            placed = omega arith;
            counted = f.counted;
            plant_low = f.plant_low;
            measure_low = f.measure_low;
          };
          within = b;
          onward = omega (arith, w.ends, text_some l, same_steps);
        }

-- ---- the end

pub finished_if : (c : Cursor) → c.count ≤ c.place → c.done ≡ finished c
finished_if c h = sym (rw (le-ltb c.place c.count h))

-- when all is written, nothing is left
pub finished_none : (archive : List ℕ) (c : Cursor) (list : List ℤ) → Fits archive c list → finished c ≡ true → rest archive c list ≡ []
unfolding rest
finished_none archive c list f e = go (ltb c.place c.count) refl e
  where
    go : (t : Bool) → ltb c.place c.count ≡ t → cond t false c.done ≡ true → rest archive c list ≡ []
    go true i x = absurd (true≢false (sym x))
    go false i x =
        let short : length (take c.count list) ≤ c.place = omega (arith, taken archive c list f, ltb-false c.place c.count i) in
        rw (drop_of_length-le (take c.count list) short, x)

-- ---- refusals

module _ (n : ℕ) where
  module _ (p k : ℕ) where
    pub writes_line : {a b : List ℕ} {at e : ℕ} → (n ≡ no_plant → ⊥) → (n ≡ no_measure → ⊥) → Writes a at (text_of (refusal_line p k n)) b e
        → Writes a at (text_of_all (lines_of p k (refused n))) b e
    writes_line {a} {b} {at} {e} four five w =
        subst (λ (l : List ℕ). Writes a at l b e) (sym (text_one (refusal_line p k n)) ∙ ap text_of_all (sym one)) w
      where
        one : lines_of p k (refused n) ≡ refusal_line p k n ∷ []
        one = rw (ne_eqb n no_plant four, ne_eqb n no_measure five)

pub writes_none : (a : List ℕ) (at : ℕ) (ls : List Line) → ls ≡ [] → Writes a at (text_of_all ls) a at
unfolding text_of_all
writes_none a at ls e = rw e (record { is = wrote_none a at []; ends = omega arith })

-- ---- the beginning

pub writes_head : {a b : List ℕ} {e : ℕ} → Writes a 0 (text_of (refusal_line 0 0 not_archive)) b e → Writes a 0 (text_of_all head_refused) b e
writes_head {a} {b} {e} w = subst (λ (l : List ℕ). Writes a 0 l b e) (sym (text_one (refusal_line 0 0 not_archive))) w

-- a refused head or too long an input: one line
pub begins_refused : (input out out' : List ℕ) (c : Cursor) → output input ≡ head_refused → Ends out out' c → Begins input out' c
unfolding rest
begins_refused input out out' c h e = subst (λ (x : Cursor). Begins input out' x) (sym e.is) (record {
  text = λ list.
      streams (output input) (rest input (ended_at c.end) list) (omega arith) e.line (ap text_of_all h ∙ text_append head_refused (rest input (ended_at c.end) list));
  fits = λ list size. record {
    head = λ d. absurd (true≢false d);
    low = omega arith;
    size = size;
    placed = omega arith;
    counted = omega arith;
    plant_low = omega arith;
    measure_low = omega arith;
  };
  within = e.within;
})

-- nothing is written yet
pub begins_first : (input out : List ℕ) (used : ℕ) (c : Cursor) → length input ≤ 65536 → used_of input ≡ given used → c ≡ first_at used → Begins input out c
unfolding rest
begins_first input out used c h e i =
    let u = used_within input used e in
    subst (λ (x : Cursor). Begins input out x) (sym i) (record {
      text = λ list. ap text_of_all (sym (output_given input used h e));
      fits = λ list size. record {
        head = λ d. e;
        low = omega arith;
        size = size;
        placed = omega arith;
        counted = omega arith;
        plant_low = omega arith;
        measure_low = omega arith;
      };
      within = omega arith;
    })

-- ---- measures

module _ (archive : List ℕ) (c : Cursor) (list : List ℤ) (f : Fits archive c list) (none : c.count ≤ c.place) (d : c.done ≡ false) where
  -- no quarter is left: the measure at places p and k is next
  rest_measure : rest archive c list ≡ lines_from c.used archive c.p c.k
  unfolding rest
  rest_measure =
      let short : length (take c.count list) ≤ c.place = omega (arith, taken archive c list f) in
      rw (drop_of_length-le (take c.count list) short, d)

  rest_lines : rest archive c list ≡ lines_of c.p c.k (settled archive c.p c.k)
      ++ go_on (step_after (settled archive c.p c.k)) (λ p' k'. lines_from c.used archive p' k') c.p c.k
  rest_lines = rest_measure ∙ lines_are archive c.used (f.head d) c.p c.k

  rest_moved : (list' : List ℤ) (step : Step) (e : ℕ) → rest archive (moved step c e) list' ≡ go_on step (λ p' k'. lines_from c.used archive p' k') c.p c.k
  unfolding rest moved
  rest_moved list' next_measure e = rw d
  rest_moved list' next_plant e = rw d
  rest_moved list' stop e = refl

  pub next_within : Within c.used c.p c.k (step_after (settled archive c.p c.k))
  next_within = step_within archive c.used c.p c.k (f.head d)

  fits_moved : (step : Step) (e : ℕ) → Within c.used c.p c.k step → Fits archive (moved step c e) list
  unfolding moved
  fits_moved next_measure e h = record { head = f.head; low = f.low; size = f.size; placed = omega arith; counted = omega arith; plant_low = f.plant_low; measure_low = omega arith }
  fits_moved next_plant e h = record { head = f.head; low = f.low; size = f.size; placed = omega arith; counted = omega arith; plant_low = omega arith; measure_low = omega arith }
  fits_moved stop e h = record { head = λ e. f.head d; low = f.low; size = f.size; placed = omega arith; counted = omega arith; plant_low = f.plant_low; measure_low = f.measure_low }

  steps_moved : (step : Step) (e : ℕ) → Within c.used c.p c.k step → steps (moved step c e) < steps c
  unfolding moved steps
  steps_moved next_measure e h = rw d (omega (arith, f.measure_low))
  steps_moved next_plant e h =
      let below : suc (c.used + 1 - (c.p + 1)) ≤ c.used + 1 - c.p = omega arith in
      rw d (omega (arith, mul-le-mul_right (c.used + 2) below))
  steps_moved stop e h = rw d (omega arith)

  end_moved : (step : Step) (e : ℕ) → (moved step c e).end ≡ e
  unfolding moved
  end_moved next_measure e = refl
  end_moved next_plant e = refl
  end_moved stop e = refl

  module _ (out out' : List ℕ) (e : ℕ) (room : c.end ≤ length out) (b : e ≤ c.end + 108) where
    -- the lines of a refused measure, and where they lead
    pub refused_advances : (n : ℕ) (c' : Cursor) → settled archive c.p c.k ≡ refused n
        → Writes out c.end (text_of_all (lines_of c.p c.k (refused n))) out' e → c' ≡ moved (step_after (refused n)) c e
        → Advances archive c list out c' list out'
    refused_advances n c' s w i =
        subst (λ (x : Cursor). Advances archive c list out x list out') (sym i)
        (go (lines_of c.p c.k (refused n)) (step_after (refused n)) w
        (rest_lines ∙ ap (λ (o : Outcome Settlement). lines_of c.p c.k o ++ go_on (step_after o) (λ p' k'. lines_from c.used archive p' k') c.p c.k) s)
        (subst (λ (o : Outcome Settlement). Within c.used c.p c.k (step_after o)) s next_within))
      where
        go : (front : List Line) (step : Step) → Writes out c.end (text_of_all front) out' e
            → rest archive c list ≡ front ++ go_on step (λ p' k'. lines_from c.used archive p' k') c.p c.k → Within c.used c.p c.k step
            → Advances archive c list out (moved step c e) list out'
        go front step w r h = record {
          text = subst (λ (n : ℕ). take n out' ++ text_of_all (rest archive (moved step c e) list) ≡ take c.end out ++ text_of_all (rest archive c list)) (sym (end_moved step e))
              (streams (rest archive c list) (rest archive (moved step c e) list) room w
              (ap text_of_all (r ∙ ap (λ (ls : List Line). front ++ ls) (sym (rest_moved list step e))) ∙ text_append front (rest archive (moved step c e) list)));
          fits = fits_moved step e h;
          within = subst (λ (n : ℕ). n ≤ c.end + 108) (sym (end_moved step e)) b;
          onward = omega (arith, w.ends, steps_moved step e h, end_moved step e);
        }

    -- the first line of a settled measure, its amounts in the list
    module _ (s : Settlement) (g : settled archive c.p c.k ≡ given s) (count : ℕ) (total : ℤ) (links : ℕ) (list' : List ℤ)
        (i : count ≡ count_of s) (j : total ≡ total_of s) (l : links ≡ s.links) (leaves : list' ≡ s.amounts ++ drop (count_of s) list) where
      amounts_are : take (count_of s) list' ≡ s.amounts
      amounts_are = ap (λ (x : List ℤ). take (count_of s) x) leaves ∙ take_at s.amounts (drop (count_of s) list) (count_of s) refl

      rest_given : rest archive c list ≡ measure_line c.p c.k count total links ∷ rest archive (settled_at c count e) list'
      unfolding rest
      rest_given = rest_measure ∙ lines_given archive c.used (f.head d) c.p c.k s g ∙ sym (rw (i, j, l, amounts_are, d))

      same_steps' : steps (settled_at c count e) ≡ steps (moved next_measure c e)
      unfolding steps moved
      same_steps' = refl

      pub given_advances : (c' : Cursor) → length list' ≡ length list
          → Writes out c.end (text_of (measure_line c.p c.k count total links)) out' e → c' ≡ settled_at c count e
          → Advances archive c list out c' list' out'
      given_advances c' same w m =
          let h : c.p + c.k < c.used = subst (λ (o : Outcome Settlement). Within c.used c.p c.k (step_after o)) g next_within in
          let n = (settled_counted archive c.p c.k).of s g in
          subst (λ (x : Cursor). Advances archive c list out x list' out') (sym m) (record {
            text = streams (rest archive c list) (rest archive (settled_at c count e) list') room w
                (ap text_of_all rest_given ∙ text_cons (measure_line c.p c.k count total links) (rest archive (settled_at c count e) list'));
            fits = record {
              head = f.head;
              low = f.low;
              size = same ∙ f.size;
              placed = omega arith;
              counted = omega (arith, n.few);
              plant_low = f.plant_low;
              measure_low = omega arith;
            };
            within = b;
            onward = omega (arith, w.ends, steps_moved next_measure e h, same_steps');
          })

-- ---- parts of the output

module _ (archive : List ℕ) (c : Cursor) (list : List ℤ) where
  pub continues_none : (c₀ : Cursor) (out : List ℕ) → Fits archive c list → c₀ ≡ start_at c → Continues archive c₀ list c₀ list out
  continues_none c₀ out f i = subst (λ (x : Cursor). Continues archive x list x list out) (sym i) (record {
    text = refl;
    fits = record {
      head = f.head;
      low = f.low;
      size = f.size;
      placed = f.placed;
      counted = f.counted;
      plant_low = f.plant_low;
      measure_low = f.measure_low;
    };
    within = omega arith;
  })

  -- one line more
  pub continues_on : {c₁ c₂ : Cursor} {list₁ list₂ : List ℤ} {out₁ out₂ : List ℕ} → Continues archive c list c₁ list₁ out₁ → Advances archive c₁ list₁ out₁ c₂ list₂ out₂
      → c₁.end + 108 ≤ length out₁ → length out₂ ≡ length out₁ → Continues archive c list c₂ list₂ out₂
  continues_on v w room same = record { text = w.text ∙ v.text; fits = w.fits; within = omega (arith, w.within) }

-- what is left falls from part to part
pub less_left : (archive : List ℕ) (c : Cursor) (list : List ℤ) (c' : Cursor) (list' : List ℤ) (out : List ℕ) → finished c ≡ false → Fills archive c list c' list' out
    → bytes_left archive c' list' < bytes_left archive c list
unfolding bytes_left
less_left archive c list c' list' out e w =
    let l : c'.end + length (text_of_all (rest archive c' list')) ≡ length (text_of_all (rest archive c list)) =
    ap (λ (n : ℕ). n + length (text_of_all (rest archive c' list'))) (sym (length-take-le c'.end out w.continues.within))
    ∙ sym (length-append (take c'.end out) (text_of_all (rest archive c' list')))
    ∙ ap (λ (x : List ℕ). length x) w.continues.text in
    rw e (go (finished c') refl w.onward l)
  where
    go : (t : Bool) → finished c' ≡ t → (finished c' ≡ true) ⊎ (0 < c'.end)
        → c'.end + length (text_of_all (rest archive c' list')) ≡ length (text_of_all (rest archive c list))
        → length (text_of_all (rest archive c' list')) + cond t 0 1 < length (text_of_all (rest archive c list)) + 1
    go true i o l = omega arith
    go false i (inl x) l = absurd (true≢false (sym x ∙ i))
    go false i (inr x) l = omega arith

-- from the cursor with nothing written to the cursor itself
pub fills_from : (archive : List ℕ) (c c₀ : Cursor) (list : List ℤ) {c' : Cursor} {list' : List ℤ} {out : List ℕ} → c₀ ≡ start_at c
    → Continues archive c₀ list c' list' out → (finished c' ≡ true) ⊎ (0 < c'.end) → Fills archive c list c' list' out
unfolding rest
fills_from archive c c₀ list i w o = record {
  continues = record {
    text = w.text ∙ ap (λ (x : Cursor). text_of_all (rest archive x list)) i;
    fits = w.fits;
    within = w.within;
  };
  onward = o;
}
