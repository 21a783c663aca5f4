use mathlib.Core.Path.{◌∙◌, ap}
use Rattle.rules.specs.Reference.{factor_rows, first_for, plant_factor}
use Rattle.factor.proofs.Rows.{looked_none, row_taken, row_left, looked_all}
use Rattle.factor.proofs.plant_factor.Goals as goal

pub loop-r-init : goal.loop-r-init
unfolding factor_rows
loop-r-init c = looked_none _ _ (rw (c.into_iter-r-iterator.ensures.into_iter_gives, c.rev-r-items.ensures.source) c.iter.ensures.rest)

pub loop-r-preserved-then-is_for : goal.loop-r-preserved-then-is_for
loop-r-preserved-then-is_for c = row_taken _ _ c.loop-r.invariant c.in-Some.r.now _ c.in-Some.ensures.steps c.if-is_for.ensures

pub loop-r-preserved : goal.loop-r-preserved
loop-r-preserved c = row_left _ _ c.loop-r.invariant c.in-Some.r.now _ c.in-Some.ensures.steps c.if-is_for.ensures

pub returns : goal.returns
unfolding plant_factor
returns c =
    looked_all _ _ c.loop-r.invariant c.in-None.ensures.steps.0
    ∙ ap (λ t. first_for t c.args.quarter factor_rows) c.is_summer-summer.ensures
