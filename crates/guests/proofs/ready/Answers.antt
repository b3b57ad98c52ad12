-- `guests::ready` meets its contract: words that open are what an inner call asks. Assumes nothing.
use Rattle.area.specs.Part.{part}
use Rattle.guests.proofs.Laws.{laws}
use Rattle.guests.proofs.ready.Goals as goal

pub overflow_mul-a : goal.overflow_mul-a
overflow_mul-a c = search laws

pub overflow_add-b : goal.overflow_add-b
overflow_add-b c = search laws

pub offset_bounds-words-a : goal.offset_bounds-words-a
offset_bounds-words-a c = search laws

pub slice_bounds-open-count : goal.slice_bounds-open-count
slice_bounds-open-count c = search laws

pub slice_bounds-open-start : goal.slice_bounds-open-start
slice_bounds-open-start c = search laws

pub slice_bounds-open-end : goal.slice_bounds-open-end
slice_bounds-open-end c = search laws

pub open-requires : goal.open-requires
open-requires c = search laws

pub returns : goal.returns
unfolding part
returns c = search laws
