-- `empty_cache::new` meets its contract. Assumes nothing.
use Rattle.empty_cache.proofs.Laws.{laws}
use Rattle.empty_cache.proofs.new.Goals as goal

pub returns-then-c : goal.returns-then-c
returns-then-c c = search laws

pub overflow_mul-need : goal.overflow_mul-need
overflow_mul-need c = search laws

pub overflow_add-need : goal.overflow_add-need
overflow_add-need c = search laws

pub returns-then-area-need : goal.returns-then-area-need
returns-then-area-need c = search laws

pub write-requires : goal.write-requires
write-requires c = search laws

pub returns : goal.returns
returns c = search laws
