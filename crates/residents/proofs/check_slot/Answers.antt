-- `residents::check_slot` meets its contract. Each arm is the definition's. Assumes nothing.
use Rattle.residents.proofs.Checking.{slot_laws}
use Rattle.residents.proofs.check_slot.Goals as goal

pub returns-then-list-i : goal.returns-then-list-i
returns-then-list-i c = search slot_laws

pub returns-then-frame-lt4294967296 : goal.returns-then-frame-lt4294967296
returns-then-frame-lt4294967296 c = search slot_laws

pub returns-else-frame-lt4294967296 : goal.returns-else-frame-lt4294967296
returns-else-frame-lt4294967296 c = search slot_laws
