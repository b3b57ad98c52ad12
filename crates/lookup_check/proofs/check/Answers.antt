use Rattle.lookup_check.proofs.Checking.{check_alone, check_walk_turn, check_laws}
use Rattle.lookup_check.proofs.check.Goals.{then-x-z+else-rest-n+else-not-alone, else-x-z+in-Some}
use Rattle.lookup_check.proofs.check.Goals as goal

pub loop-b-init : goal.loop-b-init
loop-b-init c = search check_laws

pub next_of-x-requires : goal.next_of-x-requires
next_of-x-requires c = search check_laws

pub prev_of-z-requires : goal.prev_of-z-requires
prev_of-z-requires c = search check_laws

pub returns-then-rest-n : goal.returns-then-rest-n
returns-then-rest-n c = search check_laws

pub returns : goal.returns
returns c = search check_laws

pub loop-b-preserved : goal.loop-b-preserved
loop-b-preserved c =
    elim c.if-x-z.branch [
      | then-x-z+else-rest-n+else-not-alone w ↦
          rw w.rest-is (check_alone _ _ _ _ _ _ c.loop-b.invariant _ _ _ _ c.loop-b-test.true c.divisor_of-d.ensures c.next_of-x.ensures c.prev_of-z.ensures w.if-x-z.true w.places-n.ensures _ w.if-rest-n.false w.alone.ensures w.if-not-alone.false)
      | else-x-z+in-Some w ↦ rw w.rest-is (check_walk_turn _ _ _ _ _ _ c.loop-b.invariant _ _ c.loop-b-test.true c.divisor_of-d.ensures w.walk.ensures _ w.in-Some.is)
    ]

pub returns-then-not-alone : goal.returns-then-not-alone
returns-then-not-alone c = search check_laws

pub returns-in_default : goal.returns-in_default
returns-in_default c = search check_laws
