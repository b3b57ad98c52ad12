-- `replaying::read_header` meets its contract. Assumes nothing.
use Rattle.replaying.proofs.Headers.{laws}
use Rattle.replaying.proofs.read_header.Goals as goal

pub returns-then-bytes-eq0 : goal.returns-then-bytes-eq0
returns-then-bytes-eq0 c = search laws

pub bounds-bytes-0 : goal.bounds-bytes-0
bounds-bytes-0 c = search laws

pub slice_bounds-read_size-count : goal.slice_bounds-read_size-count
slice_bounds-read_size-count c = search laws

pub slice_bounds-read_size-start : goal.slice_bounds-read_size-start
slice_bounds-read_size-start c = search laws

pub slice_bounds-read_size-end : goal.slice_bounds-read_size-end
slice_bounds-read_size-end c = search laws

pub read_size-requires : goal.read_size-requires
read_size-requires c = search laws

pub slice_bounds-read_size-count-in-2 : goal.slice_bounds-read_size-count-in-2
slice_bounds-read_size-count-in-2 c = search laws

pub slice_bounds-read_size-start-in-2 : goal.slice_bounds-read_size-start-in-2
slice_bounds-read_size-start-in-2 c = search laws

pub slice_bounds-read_size-end-in-2 : goal.slice_bounds-read_size-end-in-2
slice_bounds-read_size-end-in-2 c = search laws

pub read_size-requires-in-2 : goal.read_size-requires-in-2
read_size-requires-in-2 c = search laws

pub returns-in-1 : goal.returns-in-1
returns-in-1 c = search laws

pub returns-in-2 : goal.returns-in-2
returns-in-2 c = search laws

pub returns-in_default : goal.returns-in_default
returns-in_default c = search laws
