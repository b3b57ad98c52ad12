-- `replaying::begin` meets its contract. Assumes nothing.
use Rattle.replaying.proofs.Beginning.{laws}
use Rattle.replaying.proofs.begin.Goals as goal

pub bytes_needed-need-requires : goal.bytes_needed-need-requires
bytes_needed-need-requires c = search laws

pub returns-then-bytes-need : goal.returns-then-bytes-need
returns-then-bytes-need c = search laws

pub read_header-header-requires : goal.read_header-header-requires
read_header-header-requires c = search laws

pub make-requires : goal.make-requires
make-requires c = search laws

pub put_stop-written-requires : goal.put_stop-written-requires
put_stop-written-requires c = search laws

pub returns-in-Ok : goal.returns-in-Ok
returns-in-Ok c = search laws

pub returns-in-Err : goal.returns-in-Err
returns-in-Err c = search laws
