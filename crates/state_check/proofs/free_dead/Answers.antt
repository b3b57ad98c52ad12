-- `state_check::free_dead` meets its contract. Assumes nothing.
use Rattle.area.specs.Part.{part}
use Rattle.area.specs.Area.{residents_in, lookup_in}
use Rattle.state_check.proofs.Cases.{laws, free_asks, free_is}
use Rattle.state_check.proofs.free_dead.Goals as goal

pub overflow_mul-b : goal.overflow_mul-b
overflow_mul-b c = search laws

pub overflow_add-b : goal.overflow_add-b
overflow_add-b c = search laws

pub overflow_mul-l : goal.overflow_mul-l
overflow_mul-l c = search laws

pub overflow_add-l : goal.overflow_add-l
overflow_add-l c = search laws

pub overflow_mul-e : goal.overflow_mul-e
overflow_mul-e c = search laws

pub overflow_add-e : goal.overflow_add-e
overflow_add-e c = search laws

pub overflow_mul-a : goal.overflow_mul-a
overflow_mul-a c = search laws

pub overflow_add-a : goal.overflow_add-a
overflow_add-a c = search laws

pub overflow_add-s : goal.overflow_add-s
overflow_add-s c = search laws

pub count-n-requires : goal.count-n-requires
count-n-requires c = search laws

pub slice_bounds-ring_dead-count : goal.slice_bounds-ring_dead-count
slice_bounds-ring_dead-count c = search laws

pub slice_bounds-ring_dead-start : goal.slice_bounds-ring_dead-start
slice_bounds-ring_dead-start c = search laws

pub slice_bounds-ring_dead-end : goal.slice_bounds-ring_dead-end
slice_bounds-ring_dead-end c = search laws

pub offset_bounds-area-l : goal.offset_bounds-area-l
offset_bounds-area-l c = search laws

pub slice_bounds-ring_dead-count-2 : goal.slice_bounds-ring_dead-count-2
slice_bounds-ring_dead-count-2 c = search laws

pub slice_bounds-ring_dead-start-2 : goal.slice_bounds-ring_dead-start-2
slice_bounds-ring_dead-start-2 c = search laws

pub slice_bounds-ring_dead-end-2 : goal.slice_bounds-ring_dead-end-2
slice_bounds-ring_dead-end-2 c = search laws

pub ring_dead-requires : goal.ring_dead-requires
unfolding residents_in lookup_in part
ring_dead-requires c = search free_asks

pub returns : goal.returns
unfolding residents_in lookup_in part
returns c = search free_is
