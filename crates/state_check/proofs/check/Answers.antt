-- `state_check::check` meets its contract. Each arm is the definition's. Assumes nothing.
use Rattle.state_check.proofs.Cases.{state_laws}
use Rattle.state_check.proofs.check.Goals as goal

pub returns-then-n-lt64 : goal.returns-then-n-lt64
returns-then-n-lt64 c = search state_laws

pub bounds-area-0 : goal.bounds-area-0
bounds-area-0 c = search state_laws

pub returns-then-area-kind : goal.returns-then-area-kind
returns-then-area-kind c = search state_laws

pub bounds-area-1 : goal.bounds-area-1
bounds-area-1 c = search state_laws

pub returns-then-c-gt-MAX_CAPACITY : goal.returns-then-c-gt-MAX_CAPACITY
returns-then-c-gt-MAX_CAPACITY c = search state_laws

pub overflow_mul-need : goal.overflow_mul-need
overflow_mul-need c = search state_laws

pub overflow_add-need : goal.overflow_add-need
overflow_add-need c = search state_laws

pub returns-then-n-need : goal.returns-then-n-need
returns-then-n-need c = search state_laws

pub bounds-area-2 : goal.bounds-area-2
bounds-area-2 c = search state_laws

pub returns-then-c-t : goal.returns-then-c-t
returns-then-c-t c = search state_laws

pub check_parts-requires : goal.check_parts-requires
check_parts-requires c = search state_laws

pub returns : goal.returns
returns c = search state_laws
