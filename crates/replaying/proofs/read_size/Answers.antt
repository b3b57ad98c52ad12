-- `replaying::read_size` meets its contract. Assumes nothing.
use Rattle.replaying.proofs.Headers.{laws}
use Rattle.replaying.proofs.read_size.Goals as goal

pub read_frame-number-requires : goal.read_frame-number-requires
read_frame-number-requires c = search laws

pub refuse_size-requires : goal.refuse_size-requires
refuse_size-requires c = search laws

pub returns-in_default : goal.returns-in_default
returns-in_default c = search laws

pub refuse_size-requires-then-value-gt256 : goal.refuse_size-requires-then-value-gt256
refuse_size-requires-then-value-gt256 c = search laws

pub returns-then-value-gt256 : goal.returns-then-value-gt256
returns-then-value-gt256 c = search laws

pub overflow_cast-result : goal.overflow_cast-result
overflow_cast-result c = search laws

pub overflow_add-result : goal.overflow_add-result
overflow_add-result c = search laws

pub returns : goal.returns
returns c = search laws
