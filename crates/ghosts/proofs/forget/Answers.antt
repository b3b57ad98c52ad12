-- `ghosts::forget` meets its contract. The cell is in the list, so that the count is not 0. Assumes nothing.
use Rattle.ghosts.proofs.Needs.{asks_forget, one_at_least, gives_forget}
use Rattle.ghosts.proofs.forget.Goals as goal

pub to_front-requires : goal.to_front-requires
to_front-requires c = search asks_forget

pub overflow_sub-w : goal.overflow_sub-w
overflow_sub-w c = search one_at_least

pub returns : goal.returns
returns c = search gives_forget
