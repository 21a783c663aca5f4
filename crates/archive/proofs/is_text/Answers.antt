use mathlib.Core.Path.{◌∙◌, ap}
use Prim.Native.Nat.{ℕ}
use lib.Dec.{eqb}
use Rattle.archive.proofs.Text.{text_is}
use Rattle.archive.proofs.is_text.Goals as goal

pub returns : goal.returns
returns c =
    ap (λ (n : ℕ). eqb n 1112686913) c.link_at.ensures.0 ∙ text_is c.args.r.now c.fits-r
