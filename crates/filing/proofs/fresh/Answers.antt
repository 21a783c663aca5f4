use mathlib.Core.Path.{sym, ◌∙◌}
use Rattle.filing.proofs.Laws.{fresh_refused, fresh_done}
use Rattle.filing.proofs.fresh.Goals as goal

pub returns-then-not-is_whole : goal.returns-then-not-is_whole
returns-then-not-is_whole c = fresh_refused c.args.archive.now (sym c.is_whole.ensures ∙ c.if-not-is_whole.true)

pub returns : goal.returns
returns c =
    fresh_done c.args.archive.now (sym c.is_whole.ensures ∙ c.if-not-is_whole.false) c.clear.new.archive _ c.clear.ensures c.put_bytes.ensures
