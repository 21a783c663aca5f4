use native.Mathlib.Omega.{arith}
use Rattle.std.proofs.Common.{rules}
use Rattle.report.proofs.Laws.{given_advances, refused_advances}
use Rattle.program.proofs.Steps.{was_given, was_refused, advances_kept}
use Rattle.program.proofs.Report.put_next_measure.Goals as goal

pub returns-in-Ok : goal.returns-in-Ok
returns-in-Ok c =
    let a = c.args.archive.now in
    let r = c.args.self.now in
    let g = was_given a r.cursor.p r.cursor.k r.list c.settle.new.list c.requires.fits.fits.size c.in-Ok.settled c.in-Ok.ensures in
    record {
      advances = given_advances a r.cursor r.list c.requires.fits.fits c.requires.written c.requires.unfinished _ _ c.measure.new.self.end (omega arith) (omega arith)
          g.settlement g.is _ _ _ c.settle.new.list g.count_is g.total_is g.links_are g.leaves c.after_measure-self.result c.settle.auto.list
          (search rules)
          c.after_measure-self.ensures;
      places = search rules;
    }

pub returns-in-Err : goal.returns-in-Err
returns-in-Err c =
    let a = c.args.archive.now in
    let r = c.args.self.now in
    let g = was_refused a r.cursor.p r.cursor.k r.list c.settle.new.list c.requires.fits.fits.size c.in-Err.refusal c.in-Err.ensures in
    record {
      advances = advances_kept g.kept
          (refused_advances a r.cursor r.list c.requires.fits.fits c.requires.written c.requires.unfinished _ _ c.put_refused-end.result (omega arith) c.put_refused-end.ensures.1 _
          c.after_refusal-self.result g.is (search rules) (search rules));
      places = search rules;
    }
