-- `lines::put_line` meets its contract: a text behind a text. Assumes nothing.
use Rattle.lines.proofs.Laws.{laws}
use Rattle.lines.proofs.Puts.{room_second}
use Rattle.lines.proofs.put_line.Goals as goal

pub put_field-place-requires : goal.put_field-place-requires
put_field-place-requires c = search laws

pub put_word-requires : goal.put_word-requires
put_word-requires c = room_second _ _ _ _ _ _ c.put_field-place.ensures c.requires

pub returns : goal.returns
returns c = search laws
