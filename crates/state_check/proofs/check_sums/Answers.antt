-- `state_check::check_sums` meets its contract. Assumes nothing.
use Rattle.state_check.proofs.Cases.{sum_laws}
use Rattle.state_check.proofs.check_sums.Goals as goal

pub row-n-requires : goal.row-n-requires
row-n-requires c = search sum_laws

pub overflow_add-c : goal.overflow_add-c
overflow_add-c c = search sum_laws

pub returns-then-c-n : goal.returns-then-c-n
returns-then-c-n c = search sum_laws

pub live-requires : goal.live-requires
live-requires c = search sum_laws

pub overflow_mul-result : goal.overflow_mul-result
overflow_mul-result c = search sum_laws

pub overflow_add-result : goal.overflow_add-result
overflow_add-result c = search sum_laws

pub returns : goal.returns
returns c = search sum_laws
