-- `residents::check_counts` meets its contract. No count passes c, so that the sum fits. Assumes nothing.
use Rattle.residents.proofs.Checking.{count_laws}
use Rattle.residents.proofs.check_counts.Goals as goal

pub returns-then-c-t1 : goal.returns-then-c-t1
returns-then-c-t1 c = search count_laws

pub returns-then-c-t2 : goal.returns-then-c-t2
returns-then-c-t2 c = search count_laws

pub returns-then-c-free : goal.returns-then-c-free
returns-then-c-free c = search count_laws

pub returns : goal.returns
returns c = search count_laws
