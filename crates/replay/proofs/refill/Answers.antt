-- `replay::refill` meets its contract. Assumes nothing.
use Rattle.replay.proofs.Laws.{laws}
use Rattle.replay.proofs.refill.Goals as goal

pub slice_bounds-read_full-count : goal.slice_bounds-read_full-count
slice_bounds-read_full-count c = search laws

pub slice_bounds-read_full-start : goal.slice_bounds-read_full-start
slice_bounds-read_full-start c = search laws

pub slice_bounds-read_full-end : goal.slice_bounds-read_full-end
slice_bounds-read_full-end c = search laws

pub read_full-requires : goal.read_full-requires
read_full-requires c = search laws

pub overflow_add-result : goal.overflow_add-result
overflow_add-result c = search laws

pub returns : goal.returns
returns c = search laws
