-- `lookup::deaden` meets its contract. The loop's invariant: the words are those with the cells below i marked. Assumes nothing.
use Rattle.lookup.proofs.Needs.{Deadened}
use Rattle.lookup.proofs.deaden.Given as goal

abbrev pub invariant-loop-i : goal.invariant-loop-i
invariant-loop-i l = Deadened l.initial.l l.l l.m l.i
