-- `lines::put_victim` meets its contract: a text behind a text. Assumes nothing.
use Rattle.lines.proofs.Laws.{texts}
use Rattle.lines.proofs.put_victim.Goals as goal

pub put_page_and_frame-place-requires : goal.put_page_and_frame-place-requires
put_page_and_frame-place-requires c = search texts

pub put_place-requires : goal.put_place-requires
put_place-requires c = search texts

pub returns : goal.returns
returns c = search texts
