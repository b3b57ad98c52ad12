-- `empty_cache::make_ghosts` meets its contract. Assumes nothing.
use Rattle.area.specs.Part.{part, splice}
use Rattle.area.specs.Area.{ghosts_in}
use Rattle.empty_cache.proofs.Laws.{laws, ghosts_fresh}
use Rattle.empty_cache.proofs.make_ghosts.Goals as goal

pub ghosts_at-a-requires : goal.ghosts_at-a-requires
ghosts_at-a-requires c = search laws

pub overflow_mul-b : goal.overflow_mul-b
overflow_mul-b c = search laws

pub overflow_add-b : goal.overflow_add-b
overflow_add-b c = search laws

pub overflow_add-b-2 : goal.overflow_add-b-2
overflow_add-b-2 c = search laws

pub offset_bounds-area-a : goal.offset_bounds-area-a
offset_bounds-area-a c = search laws

pub slice_bounds-make-count : goal.slice_bounds-make-count
slice_bounds-make-count c = search laws

pub slice_bounds-make-start : goal.slice_bounds-make-start
slice_bounds-make-start c = search laws

pub slice_bounds-make-end : goal.slice_bounds-make-end
slice_bounds-make-end c = search laws

pub make-requires : goal.make-requires
unfolding ghosts_in part
make-requires c = search laws

pub returns : goal.returns
unfolding ghosts_in part splice
returns c = ghosts_fresh _ _ _ _ _ (search laws) c.ghosts_at-a.ensures (search laws) c.make.ensures
