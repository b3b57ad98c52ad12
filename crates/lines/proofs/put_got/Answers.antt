-- `lines::put_got` meets its contract, case by case. Assumes nothing.
use Rattle.answers.specs.Answers.{got_is}
use Rattle.lines.proofs.Texts.{told_as}
use Rattle.rules.specs.Program.{text_of}
use Rattle.lines.proofs.Laws.{texts}
use Rattle.lines.proofs.put_got.Goals as goal

pub overflow_cast-frame : goal.overflow_cast-frame
overflow_cast-frame c = search texts

pub put_line-requires : goal.put_line-requires
put_line-requires c = search texts

pub put_word-requires : goal.put_word-requires
put_word-requires c = search texts

pub returns-in-Some : goal.returns-in-Some
unfolding text_of
returns-in-Some c = search (told_as got_is, texts)

pub returns-in-None : goal.returns-in-None
unfolding text_of
returns-in-None c = search (told_as got_is, texts)
