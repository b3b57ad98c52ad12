-- `replaying::turn` meets its contract. Assumes nothing.
use Rattle.replaying.proofs.Turning.{laws}
use Rattle.replaying.proofs.turn.Goals as goal

pub slice_bounds-feed-end : goal.slice_bounds-feed-end
slice_bounds-feed-end c = search laws

pub slice_bounds-feed-end-2 : goal.slice_bounds-feed-end-2
slice_bounds-feed-end-2 c = search laws

pub feed-fed-requires : goal.feed-fed-requires
feed-fed-requires c = search laws

pub keep-kept-requires : goal.keep-kept-requires
keep-kept-requires c = search laws

pub returns : goal.returns
returns c = record { turns = search laws; wrote = search laws; kept_in_bounds = search laws }
