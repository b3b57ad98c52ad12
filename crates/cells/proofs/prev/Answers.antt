-- `cells::prev` meets its contract: the words of the cell are there. Assumes nothing.
use Rattle.cells.specs.Cells.{In, prev_of}
use borrow.Author.Rules.{rules}
use Rattle.cells.proofs.prev.Goals as goal

pub overflow_mul-result : goal.overflow_mul-result
unfolding In prev_of
overflow_mul-result c = search rules

pub overflow_add-result : goal.overflow_add-result
unfolding In prev_of
overflow_add-result c = search rules

pub offset_bounds-w-e : goal.offset_bounds-w-e
unfolding In prev_of
offset_bounds-w-e c = search rules

pub bounds-w-e : goal.bounds-w-e
unfolding In prev_of
bounds-w-e c = search rules

pub returns : goal.returns
unfolding In prev_of
returns c = search rules
