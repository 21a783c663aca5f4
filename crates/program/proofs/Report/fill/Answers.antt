use mathlib.Core.Path.{sym, ◌∙◌}
use mathlib.Core.Logic.{inl, inr}
use native.Mathlib.Omega.{arith}
use Rattle.report.proofs.Laws.{fills_from}
use Rattle.program.proofs.Report.fill.Goals as goal

pub returns-else-self-le65536 : goal.returns-else-self-le65536
returns-else-self-le65536 c =
    let i = c.loop-self.invariant in
    record {
      fills = fills_from c.args.archive.now c.args.self.now.cursor c.from_start-self.result c.args.self.now.list c.from_start-self.ensures i.0 (inr (omega (arith, c.if-self-le65536.false)));
      places = i.1 ∙ sym c.requires.places;
    }

pub returns-after-loop-self : goal.returns-after-loop-self
returns-after-loop-self c =
    let i = c.loop-self.invariant in
    record {
      fills = fills_from c.args.archive.now c.args.self.now.cursor c.from_start-self.result c.args.self.now.list c.from_start-self.ensures i.0
          (inl (sym c.is_finished.ensures ∙ c.loop-self-test.false));
      places = i.1 ∙ sym c.requires.places;
    }
