-- `stages::aim` meets its contract. Assumes nothing.
use Rattle.stages.proofs.Hitting.{aim_more, aim_most, aim_none, aim_less}
use Rattle.stages.proofs.aim.Goals as goal

pub returns-then-t-most : goal.returns-then-t-most
returns-then-t-most c = search aim_more

pub returns-then-t-eq0 : goal.returns-then-t-eq0
returns-then-t-eq0 c = search aim_none

pub returns-else-t-most : goal.returns-else-t-most
returns-else-t-most c = search aim_most

pub returns-else-t-eq0 : goal.returns-else-t-eq0
returns-else-t-eq0 c = search aim_less
