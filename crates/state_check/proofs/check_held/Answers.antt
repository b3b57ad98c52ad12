-- `state_check::check_held` meets its contract. Assumes nothing.
use Rattle.state_check.proofs.Cases.{laws, held_is_lem}
use Rattle.state_check.proofs.check_held.Goals as goal

pub live-n-requires : goal.live-n-requires
live-n-requires c = search laws

pub check_lookup-requires : goal.check_lookup-requires
check_lookup-requires c = search laws

pub returns : goal.returns
returns c = search held_is_lem
