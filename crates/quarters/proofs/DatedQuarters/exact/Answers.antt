use Rattle.std.proofs.Common.{◌+◌, ◌∙◌, ap}
use Rattle.calendar.specs.declared.Clock.{Clock}
use Rattle.calendar.specs.Clocks.{clock_after}
use Rattle.calendar.proofs.Clocks.{clock_next}
use Rattle.quarters.proofs.DatedQuarters.exact.Goals as goal

pub after-self-requires : goal.after-self-requires
after-self-requires c = let at = c.requires.at_index in rw at.clock_is (at.goes_on c.args.index c.requires.few)

pub returns-clause-goes_on : goal.returns-clause-goes_on
returns-clause-goes_on c =
    let at = c.requires.at_index in
    record {
      divided = at.divided;
      dated = at.dated;
      unbounded = at.unbounded;
      clock_is = c.after-self.ensures ∙ ap (λ (k : Clock). clock_after k (c.args.index + 1)) at.clock_is ∙ clock_next _ c.args.index at.dated;
      goes_on = at.goes_on;
    }
