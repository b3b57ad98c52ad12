-- `empty_cache::make_residents` meets its contract. Assumes nothing.
use Rattle.area.specs.Part.{part, splice}
use Rattle.area.specs.Area.{residents_in}
use Rattle.area.proofs.Laws.{residents_written}
use Rattle.empty_cache.proofs.Laws.{laws}
use Rattle.empty_cache.proofs.make_residents.Goals as goal

pub overflow_mul-b : goal.overflow_mul-b
overflow_mul-b c = search laws

pub overflow_add-b : goal.overflow_add-b
overflow_add-b c = search laws

pub slice_bounds-make-count : goal.slice_bounds-make-count
slice_bounds-make-count c = search laws

pub slice_bounds-make-start : goal.slice_bounds-make-start
slice_bounds-make-start c = search laws

pub slice_bounds-make-end : goal.slice_bounds-make-end
slice_bounds-make-end c = search laws

pub make-requires : goal.make-requires
unfolding residents_in part
make-requires c = search laws

pub returns : goal.returns
unfolding residents_in part splice
returns c = residents_written _ _ _ _ (search laws) (search laws) c.make.ensures
