use Rattle.rules.specs.Preview.{undone}
use Rattle.preview.proofs.undo.Goals as goal

pub returns : goal.returns
unfolding undone
returns c = c.write.ensures
