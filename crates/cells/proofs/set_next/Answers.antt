-- `cells::set_next` meets its contract: the words of the cell are there. Assumes nothing.
use Rattle.cells.specs.Cells.{In, with_next}
use borrow.Author.Rules.{rules}
use Rattle.cells.proofs.set_next.Goals as goal

pub overflow_mul-w : goal.overflow_mul-w
unfolding In with_next
overflow_mul-w c = search rules

pub offset_bounds-w-e : goal.offset_bounds-w-e
unfolding In with_next
offset_bounds-w-e c = search rules

pub bounds-w-e : goal.bounds-w-e
unfolding In with_next
bounds-w-e c = search rules

pub returns : goal.returns
unfolding In with_next
returns c = search rules
