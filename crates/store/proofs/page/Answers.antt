-- `store::page` meets its contract. Assumes nothing.
use Rattle.store.proofs.Laws.{laws}
use Rattle.store.proofs.page.Goals as goal

pub page-requires : goal.page-requires
page-requires c = search laws

pub returns : goal.returns
returns c = search laws
