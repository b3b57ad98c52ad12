-- `lines::put_reply` meets its contract, case by case. Assumes nothing.
use Rattle.answers.specs.Answers.{told, reply_is}
use Rattle.lines.proofs.Texts.{told_as}
use Rattle.rules.specs.Program.{text_of}
use Rattle.lines.proofs.Laws.{texts}
use Rattle.lines.proofs.put_reply.Goals as goal

pub put_got-requires : goal.put_got-requires
put_got-requires c = search texts

pub put_inserted-requires : goal.put_inserted-requires
put_inserted-requires c = search texts

pub put_gone-requires : goal.put_gone-requires
put_gone-requires c = search texts

pub put_word-requires : goal.put_word-requires
put_word-requires c = search texts

pub put_seen-requires : goal.put_seen-requires
put_seen-requires c = search texts

pub returns-in-Ok-Got : goal.returns-in-Ok-Got
unfolding text_of
returns-in-Ok-Got c = search (told_as (told reply_is), texts)

pub returns-in-Ok-Inserted : goal.returns-in-Ok-Inserted
unfolding text_of
returns-in-Ok-Inserted c = search (told_as (told reply_is), texts)

pub returns-in-Ok-Gone : goal.returns-in-Ok-Gone
unfolding text_of
returns-in-Ok-Gone c = search (told_as (told reply_is), texts)

pub returns-in-Ok-Cleared : goal.returns-in-Ok-Cleared
unfolding text_of
returns-in-Ok-Cleared c = search (told_as (told reply_is), texts)

pub returns-in-Ok-Seen : goal.returns-in-Ok-Seen
unfolding text_of
returns-in-Ok-Seen c = search (told_as (told reply_is), texts)

pub returns-in-Err : goal.returns-in-Err
unfolding text_of
returns-in-Err c = search (told_as (told reply_is), texts)
