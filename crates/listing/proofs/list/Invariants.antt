-- `listing::list` meets its contract. The loop's invariant: so many records are written, and the cursor stands at the
-- next one. Assumes nothing.
use Rattle.listing.proofs.Looping.{Listing}
use Rattle.listing.proofs.list.Given as goal

abbrev pub invariant-loop-r : goal.invariant-loop-r
invariant-loop-r l = Listing l.kind l.area l.fn.records (record { count = l.n; first = l.initial.at }) l.r-items l.at l.r-index
