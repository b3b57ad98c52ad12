-- `cells::next` meets its contract: the words of the cell are there. Assumes nothing.
use Rattle.cells.specs.Cells.{In, next_of}
use borrow.Author.Rules.{rules}
use Rattle.cells.proofs.next.Goals as goal

pub overflow_mul-result : goal.overflow_mul-result
unfolding In next_of
overflow_mul-result c = search rules

pub offset_bounds-w-e : goal.offset_bounds-w-e
unfolding In next_of
offset_bounds-w-e c = search rules

pub bounds-w-e : goal.bounds-w-e
unfolding In next_of
bounds-w-e c = search rules

pub returns : goal.returns
unfolding In next_of
returns c = search rules
