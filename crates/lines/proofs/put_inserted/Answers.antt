-- `lines::put_inserted` meets its contract, case by case. Assumes nothing.
use Rattle.answers.specs.Answers.{inserted_is}
use Rattle.lines.proofs.Texts.{told_as}
use Rattle.rules.specs.Program.{text_of}
use Rattle.lines.proofs.Laws.{texts}
use Rattle.lines.proofs.put_inserted.Goals as goal

pub put_word-requires : goal.put_word-requires
put_word-requires c = search texts

pub put_victim-requires : goal.put_victim-requires
put_victim-requires c = search texts

pub overflow_cast-frame : goal.overflow_cast-frame
overflow_cast-frame c = search texts

pub put_line-requires : goal.put_line-requires
put_line-requires c = search texts

pub put_word-requires-in-None : goal.put_word-requires-in-None
put_word-requires-in-None c = search texts

pub returns-in-New : goal.returns-in-New
unfolding text_of
returns-in-New c = search (told_as inserted_is, texts)

pub returns-in-Out : goal.returns-in-Out
unfolding text_of
returns-in-Out c = search (told_as inserted_is, texts)

pub returns-in-Old : goal.returns-in-Old
unfolding text_of
returns-in-Old c = search (told_as inserted_is, texts)

pub returns-in-None : goal.returns-in-None
unfolding text_of
returns-in-None c = search (told_as inserted_is, texts)
