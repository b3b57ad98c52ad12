use Rattle.numbers.proofs.Loop.{laws}
use Rattle.numbers.proofs.read_long.Goals as goal

pub loop-at-init : goal.loop-at-init
loop-at-init c = search laws

pub returns-then-s-at : goal.returns-then-s-at
returns-then-s-at c = search laws

pub returns-then-b-eq0 : goal.returns-then-b-eq0
returns-then-b-eq0 c = search laws

pub overflow_mul-result : goal.overflow_mul-result
overflow_mul-result c = search laws

pub overflow_add-result : goal.overflow_add-result
overflow_add-result c = search laws

pub returns-then-b-lt128 : goal.returns-then-b-lt128
returns-then-b-lt128 c = search laws

pub overflow_mul-value-in-loop-at : goal.overflow_mul-value-in-loop-at
overflow_mul-value-in-loop-at c = search laws

pub overflow_add-value-in-loop-at : goal.overflow_add-value-in-loop-at
overflow_add-value-in-loop-at c = search laws

pub overflow_mul-scale : goal.overflow_mul-scale
overflow_mul-scale c = search laws

pub loop-at-preserved : goal.loop-at-preserved
loop-at-preserved c = search laws

pub returns-then-limit-b : goal.returns-then-limit-b
returns-then-limit-b c = search laws

pub returns-then-b-eq0-2 : goal.returns-then-b-eq0-2
returns-then-b-eq0-2 c = search laws

pub overflow_mul-result-2 : goal.overflow_mul-result-2
overflow_mul-result-2 c = search laws

pub overflow_add-result-2 : goal.overflow_add-result-2
overflow_add-result-2 c = search laws

pub returns : goal.returns
returns c = search laws

pub returns-then-s-last : goal.returns-then-s-last
returns-then-s-last c = search laws
