-- `state_check::check_ghosts` meets its contract. Assumes nothing.
use Rattle.area.specs.Part.{part}
use Rattle.area.specs.Area.{ghosts_in}
use Rattle.state_check.proofs.Cases.{laws}
use Rattle.state_check.proofs.check_ghosts.Goals as goal

pub ghosts_at-a-requires : goal.ghosts_at-a-requires
unfolding ghosts_in part
ghosts_at-a-requires c = search laws

pub overflow_mul-b : goal.overflow_mul-b
overflow_mul-b c = search laws

pub overflow_add-b : goal.overflow_add-b
overflow_add-b c = search laws

pub overflow_add-b-2 : goal.overflow_add-b-2
overflow_add-b-2 c = search laws

pub offset_bounds-area-a : goal.offset_bounds-area-a
offset_bounds-area-a c = search laws

pub slice_bounds-check-count : goal.slice_bounds-check-count
slice_bounds-check-count c = search laws

pub slice_bounds-check-start : goal.slice_bounds-check-start
slice_bounds-check-start c = search laws

pub slice_bounds-check-end : goal.slice_bounds-check-end
slice_bounds-check-end c = search laws

pub check-requires : goal.check-requires
unfolding ghosts_in part
check-requires c = search laws

pub returns : goal.returns
unfolding ghosts_in part
returns c = search laws
