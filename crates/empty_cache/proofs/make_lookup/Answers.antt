-- `empty_cache::make_lookup` meets its contract. Assumes nothing.
use Rattle.area.specs.Part.{part, splice}
use Rattle.area.specs.Area.{lookup_in}
use Rattle.empty_cache.proofs.Laws.{laws, lookup_fresh}
use Rattle.empty_cache.proofs.make_lookup.Goals as goal

pub overflow_mul-a : goal.overflow_mul-a
overflow_mul-a c = search laws

pub overflow_add-a : goal.overflow_add-a
overflow_add-a c = search laws

pub overflow_mul-b : goal.overflow_mul-b
overflow_mul-b c = search laws

pub overflow_add-b : goal.overflow_add-b
overflow_add-b c = search laws

pub overflow_mul-m : goal.overflow_mul-m
overflow_mul-m c = search laws

pub buckets_of-k-requires : goal.buckets_of-k-requires
buckets_of-k-requires c = search laws

pub offset_bounds-area-a : goal.offset_bounds-area-a
offset_bounds-area-a c = search laws

pub slice_bounds-make-count : goal.slice_bounds-make-count
slice_bounds-make-count c = search laws

pub slice_bounds-make-start : goal.slice_bounds-make-start
slice_bounds-make-start c = search laws

pub slice_bounds-make-end : goal.slice_bounds-make-end
slice_bounds-make-end c = search laws

pub make-requires : goal.make-requires
unfolding lookup_in part
make-requires c = search laws

pub returns : goal.returns
unfolding lookup_in part splice
returns c = lookup_fresh _ _ _ _ (search laws) (search laws) (search laws) c.make.ensures
