-- `lines::put_page_and_frame` meets its contract: a text behind a text. Assumes nothing.
use Rattle.lines.proofs.Laws.{texts}
use Rattle.lines.proofs.put_page_and_frame.Goals as goal

pub put_field-place-requires : goal.put_field-place-requires
put_field-place-requires c = search texts

pub put_field-requires : goal.put_field-requires
put_field-requires c = search texts

pub returns : goal.returns
returns c = search texts
