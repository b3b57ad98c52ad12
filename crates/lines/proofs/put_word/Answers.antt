-- `lines::put_word` meets its contract. Assumes nothing.
use Rattle.lines.proofs.Copying.{copied}
use Rattle.lines.proofs.put_word.Goals as goal

pub returns : goal.returns
returns c = copied _ _ _ _ c.copy_from_slice.ensures.after
