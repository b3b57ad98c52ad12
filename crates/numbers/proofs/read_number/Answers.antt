-- `numbers::read_number` meets its contract: a number of one byte, or of two, is read straight. Assumes nothing.
use Rattle.numbers.proofs.Loop.{laws}
use Rattle.numbers.proofs.read_number.Goals as goal

pub returns-then-s-eq0 : goal.returns-then-s-eq0
returns-then-s-eq0 c = search laws

pub returns-then-b-lt128 : goal.returns-then-b-lt128
returns-then-b-lt128 c = search laws

pub returns-then-s-eq1 : goal.returns-then-s-eq1
returns-then-s-eq1 c = search laws

pub returns-then-d-eq0 : goal.returns-then-d-eq0
returns-then-d-eq0 c = search laws

pub returns-then-d-lt128 : goal.returns-then-d-lt128
returns-then-d-lt128 c = search laws
