-- `state_check::check_lookup` meets its contract. Assumes nothing.
use Rattle.area.specs.Part.{part}
use Rattle.area.specs.Area.{lookup_in}
use Rattle.state_check.proofs.Cases.{laws}
use Rattle.state_check.proofs.check_lookup.Goals as goal

pub overflow_mul-a : goal.overflow_mul-a
overflow_mul-a c = search laws

pub overflow_add-a : goal.overflow_add-a
overflow_add-a c = search laws

pub overflow_mul-b : goal.overflow_mul-b
overflow_mul-b c = search laws

pub overflow_add-b : goal.overflow_add-b
overflow_add-b c = search laws

pub overflow_mul-m : goal.overflow_mul-m
overflow_mul-m c = search laws

pub buckets_of-k-requires : goal.buckets_of-k-requires
buckets_of-k-requires c = search laws

pub offset_bounds-area-a : goal.offset_bounds-area-a
offset_bounds-area-a c = search laws

pub slice_bounds-check-count : goal.slice_bounds-check-count
slice_bounds-check-count c = search laws

pub slice_bounds-check-start : goal.slice_bounds-check-start
slice_bounds-check-start c = search laws

pub slice_bounds-check-end : goal.slice_bounds-check-end
slice_bounds-check-end c = search laws

pub check-requires : goal.check-requires
unfolding lookup_in part
check-requires c = search laws

pub returns : goal.returns
unfolding lookup_in part
returns c = search laws
