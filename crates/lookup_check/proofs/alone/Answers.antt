-- `lookup_check::alone` meets its contract. Each test is the definition's. Assumes nothing.
use Rattle.lookup_check.proofs.Checking.{laws}
use Rattle.lookup_check.proofs.alone.Goals as goal

pub returns-then-m-d : goal.returns-then-m-d
returns-then-m-d c = search laws

pub next_of-y-requires : goal.next_of-y-requires
next_of-y-requires c = search laws

pub prev_of-z-requires : goal.prev_of-z-requires
prev_of-z-requires c = search laws

pub page_of-v-requires : goal.page_of-v-requires
page_of-v-requires c = search laws

pub returns-then-y-s : goal.returns-then-y-s
returns-then-y-s c = search laws

pub returns-then-z-s : goal.returns-then-z-s
returns-then-z-s c = search laws

pub returns : goal.returns
returns c = search laws
