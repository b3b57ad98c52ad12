-- `pace::buffer` meets its contract by a law on the length: at this size the check cannot count the bytes. The law's
-- arguments are written out, since a comparison with one that is still open would count them too. Assumes nothing.
use Rattle.std.proofs.Common.{sym, ℕ}
use Rattle.std.proofs.lemmas.List.{length-replicate}
use Rattle.pace.proofs.buffer.Goals as goal

pub returns : goal.returns
returns c = sym (length-replicate {0} {A = ℕ} 524288 0)
