-- `lookup::wipe` meets its contract. The first call keeps which cells there are. Assumes nothing.
use Rattle.lookup.specs.Changes.{blank}
use Rattle.lookup.proofs.Needs.{looping}
use Rattle.lookup.proofs.wipe.Goals as goal

pub deaden-requires : goal.deaden-requires
deaden-requires c = search looping

pub clear-requires : goal.clear-requires
clear-requires c = search looping

pub returns : goal.returns
unfolding blank
returns c = cc
