use Rattle.rules.proofs.Write.{is_written}
use Rattle.filing.proofs.write.Goals as goal

pub returns : goal.returns
returns c = is_written _ _ _ _ _ _ c.put_bytes.ensures c.put_word.ensures c.put_word-2.ensures
