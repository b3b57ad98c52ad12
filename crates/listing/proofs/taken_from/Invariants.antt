-- `listing::taken_from` meets its contract. The loop's invariant: the first taken slot from k on is that from `from` on.
-- Assumes nothing.
use Rattle.listing.proofs.Laws.{TakenLeft}
use Rattle.listing.proofs.taken_from.Given as goal

abbrev pub invariant-loop-k : goal.invariant-loop-k
invariant-loop-k l = TakenLeft l.c l.area l.from l.k
