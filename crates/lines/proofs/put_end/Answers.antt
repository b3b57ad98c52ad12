-- `lines::put_end` meets its contract: it is a line of a word and a number. Assumes nothing.
use Rattle.rules.specs.Program.{text_of}
use Rattle.lines.proofs.Laws.{texts}
use Rattle.lines.proofs.put_end.Goals as goal

pub put_line-requires : goal.put_line-requires
put_line-requires c = search texts

pub returns : goal.returns
unfolding text_of
returns c = search texts
