-- `lines::put_place` meets its contract, case by case. Assumes nothing.
use Rattle.lines.proofs.Laws.{texts}
use Rattle.lines.proofs.put_place.Goals as goal

pub put_word-requires : goal.put_word-requires
put_word-requires c = search texts

pub put_word-requires-in-B2 : goal.put_word-requires-in-B2
put_word-requires-in-B2 c = search texts

pub returns-in-B1 : goal.returns-in-B1
returns-in-B1 c = search texts

pub returns-in-B2 : goal.returns-in-B2
returns-in-B2 c = search texts
