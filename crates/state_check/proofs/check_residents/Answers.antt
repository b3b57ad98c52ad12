-- `state_check::check_residents` meets its contract. Assumes nothing.
use Rattle.area.specs.Part.{part}
use Rattle.area.specs.Area.{residents_in}
use Rattle.state_check.proofs.Cases.{laws}
use Rattle.state_check.proofs.check_residents.Goals as goal

pub overflow_mul-b : goal.overflow_mul-b
overflow_mul-b c = search laws

pub overflow_add-b : goal.overflow_add-b
overflow_add-b c = search laws

pub slice_bounds-check-count : goal.slice_bounds-check-count
slice_bounds-check-count c = search laws

pub slice_bounds-check-start : goal.slice_bounds-check-start
slice_bounds-check-start c = search laws

pub slice_bounds-check-end : goal.slice_bounds-check-end
slice_bounds-check-end c = search laws

pub check-requires : goal.check-requires
unfolding residents_in part
check-requires c = search laws

pub returns : goal.returns
unfolding residents_in part
returns c = c.check.ensures
