-- `cells::set_prev` meets its contract: the words of the cell are there. Assumes nothing.
use Rattle.cells.specs.Cells.{In, with_prev}
use borrow.Author.Rules.{rules}
use Rattle.cells.proofs.set_prev.Goals as goal

pub overflow_mul-w : goal.overflow_mul-w
unfolding In with_prev
overflow_mul-w c = search rules

pub overflow_add-w : goal.overflow_add-w
unfolding In with_prev
overflow_add-w c = search rules

pub offset_bounds-w-e : goal.offset_bounds-w-e
unfolding In with_prev
offset_bounds-w-e c = search rules

pub bounds-w-e : goal.bounds-w-e
unfolding In with_prev
bounds-w-e c = search rules

pub returns : goal.returns
unfolding In with_prev
returns c = search rules
