-- `input_buffer::keep` meets its contract: it is the library's `copy_within` to the place 0. Assumes nothing.
use Rattle.input_buffer.proofs.Laws.{laws}
use Rattle.input_buffer.proofs.keep.Goals as goal

pub returns : goal.returns
returns c = search laws
