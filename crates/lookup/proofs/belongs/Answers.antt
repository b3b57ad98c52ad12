-- `lookup::belongs` meets its contract: a number that is b more than a multiple of k belongs to bucket b, whatever the guess was. Assumes nothing.
use Rattle.lookup.proofs.Belonging.{laws}
use Rattle.lookup.proofs.belongs.Goals as goal

pub overflow_mul-q : goal.overflow_mul-q
overflow_mul-q c = search laws

pub returns-then-t-b : goal.returns-then-t-b
returns-then-t-b c = search laws

pub returns : goal.returns
returns c = search laws
