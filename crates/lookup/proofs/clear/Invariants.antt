-- `lookup::clear` meets its contract. The loop's invariant: the words are those with the first i rings made empty. Assumes nothing.
use Rattle.lookup.proofs.Needs.{Cleared}
use Rattle.lookup.proofs.clear.Given as goal

abbrev pub invariant-loop-i : goal.invariant-loop-i
invariant-loop-i l = Cleared l.initial.l l.l l.m l.k l.i
