-- `rings::fill` meets its contract. The loop's invariant: the cells below i are chained, and p is the cell before i. Assumes nothing.
use Rattle.rings.proofs.Filling.{Filled}
use Rattle.rings.proofs.fill.Given as goal

abbrev pub invariant-loop-i : goal.invariant-loop-i
invariant-loop-i l = Filled l.initial.w l.w l.m l.s l.p l.i
