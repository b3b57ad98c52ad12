-- `inner_calls::enter` meets its contract. Assumes nothing.
use Rattle.inner_calls.proofs.Inserting.{enter_free, enter_full}
use Rattle.stages.proofs.Entering.{enter_can, room_none}
use Rattle.inner_calls.proofs.enter.Goals as goal

pub put-requires : goal.put-requires
put-requires c = search enter_can

pub returns-then-n-c : goal.returns-then-n-c
returns-then-n-c c = search enter_free

pub replace-requires : goal.replace-requires
replace-requires c = search room_none

pub returns : goal.returns
returns c = search enter_full
