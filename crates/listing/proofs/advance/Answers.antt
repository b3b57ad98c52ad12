-- `listing::advance` meets its contract. Assumes nothing.
use Rattle.listing.proofs.Laws.{laws}
use Rattle.listing.proofs.advance.Goals as goal

pub page-page-requires : goal.page-page-requires
page-page-requires c = search laws

pub frame-frame-requires : goal.frame-frame-requires
frame-frame-requires c = search laws

pub returns : goal.returns
returns c = search laws
