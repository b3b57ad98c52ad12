use native.Mathlib.Omega.{arith}
use Rattle.rings.proofs.Meeting.{walk_turn, walk_in, walk_on, walk_none}
use Rattle.rings.proofs.walk.Goals as goal

pub loop-k-preserved : goal.loop-k-preserved
loop-k-preserved g c =
    walk_on _ _ _ _ _ _ _ _ (walk_turn _ _ _ _ _ _ _ _ c.loop-k.invariant _ _ _ _ c.requires.walk (let h = c.loop-k-test.true in omega arith) c.if-leads.true c.if-trails.true (c.leads.ensures.member c.if-leads.true) (c.trails.ensures.member c.if-trails.true) c.leads.ensures.told c.trails.ensures.told c.next-a.ensures c.prev-b.ensures)

pub joins-requires-then-leads-2 : goal.joins-requires-then-leads-2
joins-requires-then-leads-2 g c = (rw c.next-x.ensures (walk_in _ _ _ _ c.requires.walk (c.leads-2.ensures.member c.if-leads-2.true)), c.loop-k.invariant.end)

pub returns-then-n-eq0 : goal.returns-then-n-eq0
returns-then-n-eq0 g c = walk_none _ _ _ _ _ _ _ _ c.loop-k.invariant _ (let h = c.loop-k-test.false in omega arith) c.joins.ensures
