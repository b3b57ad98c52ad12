-- `lookup_check::walk_on` meets its contract. The loop's invariant: the walk from cur on, with what is left of the budget, gives what the whole walk gives; p is the page of cur, which is not the last place. The measure is what is left. Assumes nothing.
use Rattle.lookup_check.specs.Check.{walk_from}
use Rattle.lookup_check.proofs.Walking.{WalkedOn}
use Rattle.lookup_check.proofs.walk_on.Given as goal

abbrev pub invariant-loop-x : goal.invariant-loop-x
invariant-loop-x l = WalkedOn l.w l.m l.d.k l.b l.z (walk_from l.w l.m l.d.k l.b l.most l.a) l.left l.cur l.p l.x

abbrev pub decreases-loop-x : goal.decreases-loop-x
decreases-loop-x l = l.left
