-- `arc::evict_lru` meets its contract. Assumes nothing.
use Rattle.arc.proofs.Trimming.{lru_none, lru_gone}
use Rattle.arc.proofs.evict_lru.Goals as goal

pub returns-then-n-eq0 : goal.returns-then-n-eq0
returns-then-n-eq0 c = search lru_none

pub returns : goal.returns
returns c = search lru_gone
