-- Chains as lists of numbers, the places that they pass, and that no place is passed by two chains of a sound archive.
use mathlib.Core.Path.{◌≡◌, refl, sym, ◌∙◌, ap, subst}
use mathlib.Core.Bool.{Bool, true, false, cond}
use mathlib.Core.List.Memᴰ
use mathlib.Core.List.{List, [], ◌∷◌, map, Memᴰ}
use Prim.Native.Nat.{ℕ, zero, suc, ◌+◌, ◌*◌, ◌≤◌, ◌<◌}
use native.Mathlib.Omega.{arith}
use lib.Dec.{eqb, ltb}
use borrow.Author.Tests.{eqb-true, eq-eqb, ltb-true}
use Rattle.rules.specs.Outcome.{Outcome, refused, given, ◌>>=◌}
use Rattle.rules.specs.Archive.{link_at, kind_of, next_of, record_at, Entry, entry_at, follow, chain_from, chain}
use Rattle.rules.proofs.Chains.{chain_ends, chain_goes, follow_met}
use Rattle.rules.specs.Links.{Link, link, links_at, stands_at, link_places, namers}
use Rattle.rules.specs.Filing.{last_place}
use Rattle.rules.proofs.Bytes.{link_of}
use Rattle.rules.proofs.Lists.{in_keep, one_only}
use Rattle.rules.proofs.Places.{stands_in, in_stands, next_in, Stands}
use Rattle.rules.proofs.Inversion.{given_inj}
use Rattle.rules.proofs.Sound.{bind_both, required, both, Leads, ends, leads, Well}

-- the place of the last link of a chain
abbrev pub last_at : ℕ → List ℕ → ℕ
last_at place [] = place
last_at place (n ∷ ns) = last_at (32 * n + 4) ns

pub last_is : (archive : List ℕ) (place : ℕ) (ns : List ℕ) → last_place place (map (entry_at archive) ns) ≡ last_at place ns
last_is archive place [] = refl
last_is archive place (n ∷ ns) = last_is archive (32 * n + 4) ns

module _ (archive : List ℕ) (used kind : ℕ) where
  -- from a link at a place of its holder, these records follow, and then the chain ends
  abbrev pub Runs : ℕ → ℕ → List ℕ → Type 0
  Runs holder place [] = link_at archive place ≡ 0
  Runs holder place (n ∷ ns) =
      (link_at archive place ≡ n) × (holder < n) × (n < used) × (kind_of (record_at archive n) ≡ kind) × Runs n (32 * n + 4) ns

  pub runs_chain : (holder place : ℕ) (ns : List ℕ) → Runs holder place ns → chain archive used kind holder (link_at archive place) ≡ given (map (entry_at archive) ns)
  unfolding ◌>>=◌
  runs_chain holder place [] h = chain_ends archive used kind holder (link_at archive place) h
  runs_chain holder place (n ∷ ns) h =
      let above = h.1 in
      rw (h.0, chain_goes archive used kind holder n (λ z. omega arith), follow_met archive used kind holder n h.1 h.2 (eq-eqb _ kind h.3), link_of archive n 4 (omega arith), runs_chain n (32 * n + 4) ns h.4)

  pub follow_says : (holder link : ℕ) (k : Entry) → follow archive used kind holder link ≡ given k
      → (holder < link) × (link < used) × (kind_of (record_at archive link) ≡ kind) × (entry_at archive link ≡ k)
  unfolding follow
  follow_says holder link k e =
      let a = required _ 2 _ e in
      let b = required _ 3 _ a.1 in
      let c = both (ltb holder link) (ltb link used) a.0 in
      (ltb-true holder link c.0, ltb-true link used c.1, eqb-true _ kind b.0, given_inj b.1)

  run_steps : (steps holder place : ℕ) (es : List Entry) → chain_from archive used kind steps holder (link_at archive place) ≡ given es
      → (ns : List ℕ) × Runs holder place ns × (es ≡ map (entry_at archive) ns)
  run_steps zero holder place es = go (eqb (link_at archive place) 0) refl
    where
      go : (t : Bool) → eqb (link_at archive place) 0 ≡ t → cond t (given []) (refused 2) ≡ given es → (ns : List ℕ) × Runs holder place ns × (es ≡ map (entry_at archive) ns)
      go true z e = ([], eqb-true _ 0 z, cc)
      go false z e = let z : ◌≡◌ {A = ℕ} 0 1 = cc in absurd (omega arith)
  run_steps (suc steps) holder place es = go (eqb (link_at archive place) 0) refl (λ n. run_steps steps n (32 * n + 4))
    where
      further : Outcome (List Entry)
      further = follow archive used kind holder (link_at archive place) >>= λ e. chain_from archive used kind steps e.number (next_of e.bytes) >>= λ es. given (e ∷ es)

      more : (n : ℕ) (k : Entry) (fs : List Entry) → link_at archive place ≡ n → holder < n → n < used → kind_of (record_at archive n) ≡ kind → entry_at archive n ≡ k → (k ∷ fs) ≡ es
          → (ns : List ℕ) × Runs n (32 * n + 4) ns × (fs ≡ map (entry_at archive) ns) → (ns : List ℕ) × Runs holder place ns × (es ≡ map (entry_at archive) ns)
      more n k fs e a b c d x w = (n ∷ w.0, (e, a, b, c, w.1), sym x ∙ rw (← d, w.2))

      go : (t : Bool) → eqb (link_at archive place) 0 ≡ t
          → ((n : ℕ) (fs : List Entry) → chain_from archive used kind steps n (link_at archive (32 * n + 4)) ≡ given fs → (ns : List ℕ) × Runs n (32 * n + 4) ns × (fs ≡ map (entry_at archive) ns))
          → cond t (given []) further ≡ given es → (ns : List ℕ) × Runs holder place ns × (es ≡ map (entry_at archive) ns)
      go true z rest e = ([], eqb-true _ 0 z, cc)
      go false z rest e =
          let a = bind_both (follow archive used kind holder (link_at archive place)) _ e in
          let m = follow_says holder (link_at archive place) a.0 a.1 in
          let b = bind_both (chain_from archive used kind steps a.0.number (next_of a.0.bytes)) _ a.2 in
          more (link_at archive place) a.0 b.0 refl m.0 m.1 m.2 m.3 (given_inj b.2)
          (rest (link_at archive place) b.0 (shift (link_at archive place) a.0 b.0 m.3 b.1))
        where
          shift : (n : ℕ) (k : Entry) (fs : List Entry) → entry_at archive n ≡ k → chain_from archive used kind steps k.number (next_of k.bytes) ≡ given fs
              → chain_from archive used kind steps n (link_at archive (32 * n + 4)) ≡ given fs
          shift n k fs d e =
              rw (← link_of archive n 4 (omega arith))
              (subst (λ (x : Entry). chain_from archive used kind steps x.number (next_of x.bytes) ≡ given fs) (sym d) e)

  -- a chain that isn't refused runs
  pub chain_runs : (holder place : ℕ) (es : List Entry) → chain archive used kind holder (link_at archive place) ≡ given es
      → (ns : List ℕ) × Runs holder place ns × (es ≡ map (entry_at archive) ns)
  unfolding chain
  chain_runs holder place es e = run_steps used holder place es e

  pub last_ends : (holder place : ℕ) (ns : List ℕ) → Runs holder place ns → link_at archive (last_at place ns) ≡ 0
  last_ends holder place [] h = h
  last_ends holder place (n ∷ ns) h = last_ends n (32 * n + 4) ns h.4

  pub last_above : (n : ℕ) (ns : List ℕ) → Runs n (32 * n + 4) ns → 32 * n + 4 ≤ last_at (32 * n + 4) ns
  last_above n [] h = omega arith
  last_above n (m ∷ ns) h = let w = last_above m ns h.4 in let k = h.1 in omega arith

  -- the last link stands below the used part's end, and past the head's count
  pub last_within : (holder place : ℕ) (ns : List ℕ) → Runs holder place ns → 8 ≤ place → place + 4 ≤ 32 * used → (8 ≤ last_at place ns) × (last_at place ns + 4 ≤ 32 * used)
  last_within holder place [] h low high = (low, high)
  last_within holder place (n ∷ ns) h low high = let a = h.1 in let b = h.2 in last_within n (32 * n + 4) ns h.4 (omega arith) (omega arith)

-- ---- places reached from a place

pub data Reach (archive : List ℕ) (from : ℕ) : ℕ → Type 0 where
  here : {q : ℕ} → q ≡ from → Reach archive from q
  step : {q : ℕ} (r n : ℕ) → Reach archive from r → link_at archive r ≡ n → 0 < n → q ≡ 32 * n + 4 → Reach archive from q

pub last_reached : (archive : List ℕ) (used kind from holder place : ℕ) (ns : List ℕ) → Reach archive from place → Runs archive used kind holder place ns → Reach archive from (last_at place ns)
last_reached archive used kind from holder place [] r h = r
last_reached archive used kind from holder place (n ∷ ns) r h =
    let a = h.1 in last_reached archive used kind from n (32 * n + 4) ns (step place n r h.0 (omega arith) refl) h.4

module _ (archive : List ℕ) (used : ℕ) (well : Well archive used) where
  -- what a link of the archive that isn't zero names, and the place of that record's own next link
  pub record Named (place n : ℕ) : Type 0 where
    pub below : n < used
    pub next : Memᴰ (32 * n + 4) (link_places archive used)
    pub namer : Memᴰ place (namers archive used n)

  pub names : (place n : ℕ) → Memᴰ place (link_places archive used) → link_at archive place ≡ n → 0 < n → Named place n
  unfolding namers
  names place n m e z = go (in_stands archive used place m)
    where
      found : (s : Stands archive used place) → Leads archive used s.holder s.of → n < used
      found s (ends k) = let i : link_at archive (stands_at s.holder s.of) ≡ n = ap (link_at archive) (sym s.is) ∙ e in absurd (omega arith)
      found s (leads a b c) = let i : link_at archive (stands_at s.holder s.of) ≡ n = ap (link_at archive) (sym s.is) ∙ e in omega arith

      go : Stands archive used place → Named place n
      go s =
          let b = found s ((well.stored s.holder s.below).links s.of s.has) in
          record {
            below = b;
            next = stands_in archive used n (link 4 (kind_of (record_at archive n))) b (next_in archive n z ((well.stored n b).kind z));
            namer = in_keep (λ p. eqb (link_at archive p) n) (link_places archive used) place m (eq-eqb (link_at archive place) n e);
          }

  pub reach_in : (from q : ℕ) → Memᴰ from (link_places archive used) → Reach archive from q → Memᴰ q (link_places archive used)
  reach_in from q m (here e) = Memᴰ.cast e m
  reach_in from q m (step r n R e z i) = Memᴰ.cast i (names r n (reach_in from r m R) e z).next

  -- a chain's first place: a link, and not one to the next record
  pub record Starts (place : ℕ) : Type 0 where
    pub stands : Memᴰ place (link_places archive used)
    pub first : (n : ℕ) → place ≡ 32 * n + 4 → ⊥

  -- two chains that pass one place are one
  pub one_chain : (p q r : ℕ) → Starts p → Starts q → Reach archive p r → Reach archive q r → p ≡ q
  one_chain p q r s t (here e) (here f) = sym e ∙ f
  one_chain p q r s t (here e) (step r' n R e' z i) = absurd (s.first n (sym e ∙ i))
  one_chain p q r s t (step r' n R e z i) (here f) = absurd (t.first n (sym f ∙ i))
  one_chain p q r s t (step a n R e z i) (step b m S f y j) =
      let k : m ≡ n = omega arith in
      let v = names a n (reach_in p a s.stands R) e z in
      let w = names b n (reach_in q b t.stands S) (f ∙ k) z in
      let x = one_only (namers archive used n) b a (well.named n z v.below) w.namer v.namer in
      one_chain p q a s t R (subst (λ (c : ℕ). Reach archive q c) x S)

  -- every link of a sound archive starts a chain that isn't refused
  pub link_runs : (fuel holder : ℕ) (l : Link) → used ≤ fuel + holder → holder < used → Memᴰ l (links_at archive holder)
      → (ns : List ℕ) × Runs archive used l.to holder (stands_at holder l) ns
  link_runs zero holder l u h m = absurd (omega arith)
  link_runs (suc fuel) holder l u h m = go ((well.stored holder h).links l m) (link_runs fuel)
    where
      go : Leads archive used holder l → ((holder : ℕ) (l : Link) → used ≤ fuel + holder → holder < used → Memᴰ l (links_at archive holder) → (ns : List ℕ) × Runs archive used l.to holder (stands_at holder l) ns)
          → (ns : List ℕ) × Runs archive used l.to holder (stands_at holder l) ns
      go (ends e) f = ([], e)
      go (leads a b c) f =
          let n : ℕ = link_at archive (stands_at holder l) in
          let w = f n (link 4 (kind_of (record_at archive n))) (omega arith) b (next_in archive n (omega arith) ((well.stored n b).kind (omega arith))) in
          (n ∷ w.0, (refl, a, b, c, subst (λ (k : ℕ). Runs archive used k n (32 * n + 4) w.0) c w.1))
