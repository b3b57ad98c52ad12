-- `state_check::spare_dead` meets its contract. Assumes nothing.
use Rattle.area.specs.Part.{part}
use Rattle.area.specs.Area.{ghosts_in, lookup_in}
use borrow.Author.Rules.{rules}
use Rattle.state_check.proofs.Cases.{laws, spare_asks, spare_is, spare_less}
use Rattle.state_check.proofs.spare_dead.Goals as goal

pub ghosts_at-a-requires : goal.ghosts_at-a-requires
ghosts_at-a-requires c = search laws

pub overflow_mul-b : goal.overflow_mul-b
overflow_mul-b c = search laws

pub overflow_add-b : goal.overflow_add-b
overflow_add-b c = search laws

pub overflow_add-b-2 : goal.overflow_add-b-2
overflow_add-b-2 c = search laws

pub overflow_mul-l : goal.overflow_mul-l
overflow_mul-l c = search laws

pub overflow_add-l : goal.overflow_add-l
overflow_add-l c = search laws

pub overflow_mul-e : goal.overflow_mul-e
overflow_mul-e c = search laws

pub overflow_add-e : goal.overflow_add-e
overflow_add-e c = search laws

pub overflow_add-s : goal.overflow_add-s
overflow_add-s c = search laws

pub count-n-requires : goal.count-n-requires
count-n-requires c = search laws

pub overflow_sub-m : goal.overflow_sub-m
overflow_sub-m c = search (spare_less, rules)

pub offset_bounds-area-a : goal.offset_bounds-area-a
offset_bounds-area-a c = search laws

pub slice_bounds-ring_dead-count : goal.slice_bounds-ring_dead-count
slice_bounds-ring_dead-count c = search laws

pub slice_bounds-ring_dead-start : goal.slice_bounds-ring_dead-start
slice_bounds-ring_dead-start c = search laws

pub slice_bounds-ring_dead-end : goal.slice_bounds-ring_dead-end
slice_bounds-ring_dead-end c = search laws

pub offset_bounds-area-l : goal.offset_bounds-area-l
offset_bounds-area-l c = search laws

pub slice_bounds-ring_dead-count-2 : goal.slice_bounds-ring_dead-count-2
slice_bounds-ring_dead-count-2 c = search laws

pub slice_bounds-ring_dead-start-2 : goal.slice_bounds-ring_dead-start-2
slice_bounds-ring_dead-start-2 c = search laws

pub slice_bounds-ring_dead-end-2 : goal.slice_bounds-ring_dead-end-2
slice_bounds-ring_dead-end-2 c = search laws

pub ring_dead-requires : goal.ring_dead-requires
unfolding ghosts_in lookup_in part
ring_dead-requires c = search spare_asks

pub returns : goal.returns
unfolding ghosts_in lookup_in part
returns c = search spare_is
