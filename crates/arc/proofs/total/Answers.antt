-- `arc::total` meets its contract. Assumes nothing.
use Rattle.arc.proofs.Trimming.{total_fits_1, total_fits, total_is}
use Rattle.arc.proofs.total.Goals as goal

pub overflow_add-result : goal.overflow_add-result
overflow_add-result c = search total_fits_1

pub overflow_add-result-2 : goal.overflow_add-result-2
overflow_add-result-2 c = search total_fits

pub returns : goal.returns
returns c = search total_is
