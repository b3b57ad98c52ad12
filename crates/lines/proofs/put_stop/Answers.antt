-- `lines::put_stop` meets its contract: a text behind a text. Assumes nothing.
use Rattle.lines.proofs.Laws.{texts}
use Rattle.lines.proofs.put_stop.Goals as goal

pub put_field-place-requires : goal.put_field-place-requires
put_field-place-requires c = search texts

pub put_line-requires : goal.put_line-requires
put_line-requires c = search texts

pub returns : goal.returns
returns c = search texts
