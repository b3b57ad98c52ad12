-- `trace::Cursor::next` meets its contract, arm by arm. Assumes nothing.
use Rattle.trace.proofs.Arms.{laws}
use Rattle.trace.proofs.Cursor.next.Goals as goal

pub returns-in_default-number : goal.returns-in_default-number
returns-in_default-number c = search laws

pub overflow_add-used : goal.overflow_add-used
overflow_add-used c = search laws

pub past-requires : goal.past-requires
past-requires c = search laws

pub returns-in_default-number-2 : goal.returns-in_default-number-2
returns-in_default-number-2 c = search laws

pub overflow_add-start : goal.overflow_add-start
overflow_add-start c = search laws

pub slice_bounds-read_frame-count : goal.slice_bounds-read_frame-count
slice_bounds-read_frame-count c = search laws

pub slice_bounds-read_frame-start : goal.slice_bounds-read_frame-start
slice_bounds-read_frame-start c = search laws

pub returns-in_default-after : goal.returns-in_default-after
returns-in_default-after c = search laws

pub overflow_add-start-in-2 : goal.overflow_add-start-in-2
overflow_add-start-in-2 c = search laws

pub past-requires-in-2 : goal.past-requires-in-2
past-requires-in-2 c = search laws

pub returns-in_default-number-3 : goal.returns-in_default-number-3
returns-in_default-number-3 c = search laws

pub overflow_add-used-in-3 : goal.overflow_add-used-in-3
overflow_add-used-in-3 c = search laws

pub past-requires-in-3 : goal.past-requires-in-3
past-requires-in-3 c = search laws

pub returns-in_default-number-4 : goal.returns-in_default-number-4
returns-in_default-number-4 c = search laws

pub overflow_add-used-in-5 : goal.overflow_add-used-in-5
overflow_add-used-in-5 c = search laws

pub past-requires-in-5 : goal.past-requires-in-5
past-requires-in-5 c = search laws

pub returns-then-rest-eq0 : goal.returns-then-rest-eq0
returns-then-rest-eq0 c = search laws

pub returns-in-Ok : goal.returns-in-Ok
returns-in-Ok c = search laws

pub returns-in-Ok-after : goal.returns-in-Ok-after
returns-in-Ok-after c = search laws

pub returns-in-Ok-number-2 : goal.returns-in-Ok-number-2
returns-in-Ok-number-2 c = search laws

pub returns-in-4 : goal.returns-in-4
returns-in-4 c = search laws

pub returns-in-Ok-number-3 : goal.returns-in-Ok-number-3
returns-in-Ok-number-3 c = search laws

pub returns-in_default : goal.returns-in_default
returns-in_default c = search laws
