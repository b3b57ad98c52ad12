-- `stages::residents` meets its contract. Assumes nothing.
use Rattle.stages.proofs.Finding.{residents_fit}
use Rattle.stages.proofs.residents.Goals as goal

pub overflow_add-result : goal.overflow_add-result
overflow_add-result c = search residents_fit
