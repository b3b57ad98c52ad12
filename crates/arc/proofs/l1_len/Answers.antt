-- `arc::l1_len` meets its contract. Assumes nothing.
use Rattle.arc.proofs.Trimming.{l1_fits, l1_is}
use Rattle.arc.proofs.l1_len.Goals as goal

pub overflow_add-result : goal.overflow_add-result
overflow_add-result c = search l1_fits

pub returns : goal.returns
returns c = search l1_is
