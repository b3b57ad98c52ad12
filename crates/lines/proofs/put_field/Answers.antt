-- `lines::put_field` meets its contract: a text behind a text. Assumes nothing.
use Rattle.lines.proofs.Laws.{laws}
use Rattle.lines.proofs.Puts.{room_second}
use Rattle.lines.proofs.put_field.Goals as goal

pub put_word-place-requires : goal.put_word-place-requires
put_word-place-requires c = search laws

pub put_number-requires : goal.put_number-requires
put_number-requires c = room_second _ _ _ _ _ _ c.put_word-place.ensures c.requires

pub returns : goal.returns
returns c = search laws
