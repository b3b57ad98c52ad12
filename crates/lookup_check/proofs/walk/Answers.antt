-- `lookup_check::walk` meets its contract. The first step by itself, then the rest of the bucket. Assumes nothing.
use Rattle.lookup_check.proofs.Walking.{pass_laws}
use Rattle.lookup_check.proofs.walk.Goals as goal

pub returns-then-m-x : goal.returns-then-m-x
returns-then-m-x c = search pass_laws

pub returns-then-most-eq0 : goal.returns-then-most-eq0
returns-then-most-eq0 c = search pass_laws

pub prev_of-requires : goal.prev_of-requires
prev_of-requires c = search pass_laws

pub returns-then-prev_of-s : goal.returns-then-prev_of-s
returns-then-prev_of-s c = search pass_laws

pub returns-then-not-belongs : goal.returns-then-not-belongs
returns-then-not-belongs c = search pass_laws

pub returns : goal.returns
returns c = search pass_laws
