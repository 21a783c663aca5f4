-- The place of a chain's last link, over plain variables.
use Rattle.std.proofs.Common.{◌≡◌, ℕ, suc, ◌+◌, ◌*◌, List, [], ◌∷◌, length, ◌∙◌, ap, arith}
use Rattle.rules.specs.Outcome.{Outcome, refused, given, ◌>>=◌}
use Rattle.rules.specs.Archive.{Entry}
use Rattle.rules.specs.Filing.{last_place}
use Rattle.rules.proofs.Folds.{gathered, gathered_from}
use Rattle.chains.specs.declared.ChainEnd.{ChainEnd}
use Rattle.chains.specs.Answers.{ended}

abbrev pub stand : ℕ → ℕ → ChainEnd
stand place links = record { place = place; links = links }

abbrev pub onward : ChainEnd → Entry → ChainEnd
onward s e = stand (32 * e.number + 4) (s.links + 1)

gathered_stand : (place links : ℕ) (es : List Entry) → gathered onward (stand place links) es ≡ stand (last_place place es) (links + length es)
gathered_stand place links [] = rw (links_end links)
  where
    links_end : (links : ℕ) → links + 0 ≡ links
    links_end links = omega arith
gathered_stand place links (e ∷ es) =
    let s : links + 1 + length es ≡ links + suc (length es) = omega arith in
    gathered_stand (32 * e.number + 4) (links + 1) es ∙ rw s

module _ (first : ℕ) {o p : Outcome (List Entry)} (e : o ≡ p) where
  pub end_reached : {s : ChainEnd} → gathered_from onward (stand first 0) p ≡ given s → given s ≡ ended first o
  unfolding ◌>>=◌
  end_reached {s} f = rw e (go p f)
    where
      go : (p : Outcome (List Entry)) → gathered_from onward (stand first 0) p ≡ given s → given s ≡ (p >>= λ es. given (stand (last_place first es) (length es)))
      go (refused n) f = cc
      go (given es) f =
          let g : s ≡ gathered onward (stand first 0) es = cc in
          let n : 0 + length es ≡ length es = omega arith in
          ap given (g ∙ gathered_stand first 0 es ∙ rw n)

  pub end_refused : {n : ℕ} → p ≡ refused n → refused n ≡ ended first o
  unfolding ◌>>=◌
  end_refused f = rw (e, f)
