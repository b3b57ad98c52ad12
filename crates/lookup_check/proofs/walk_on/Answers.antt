use Rattle.lookup_check.proofs.Walking.{on_strays, on_turn, on_laws}
use Rattle.lookup_check.proofs.walk_on.Goals as goal

pub next_of-x-requires : goal.next_of-x-requires
next_of-x-requires c = search on_laws

pub prev_of-requires : goal.prev_of-requires
prev_of-requires c = search on_laws

pub returns-then-prev_of-cur : goal.returns-then-prev_of-cur
returns-then-prev_of-cur c = search on_laws

pub returns-then-q-p : goal.returns-then-q-p
returns-then-q-p c = search on_laws

pub next_of-y-requires : goal.next_of-y-requires
next_of-y-requires c = search on_laws

pub returns-then-y-s : goal.returns-then-y-s
returns-then-y-s c = search on_laws

pub returns-then-x-z : goal.returns-then-x-z
returns-then-x-z c = on_strays _ _ _ _ _ _ _ _ _ _ c.loop-x.invariant _ _ c.loop-x-test.true c.if-left-eq0.false c.prev_of.ensures c.if-prev_of-cur.false c.page_of-q.ensures _ c.if-q-p.false c.belongs.ensures c.if-not-belongs.false _ c.next_of-y.ensures c.if-x-z.true c.if-y-s.false

pub loop-x-preserved : goal.loop-x-preserved
loop-x-preserved c = on_turn _ _ _ _ _ _ _ _ _ _ c.loop-x.invariant _ _ c.loop-x-test.true c.if-left-eq0.false c.prev_of.ensures c.if-prev_of-cur.false c.page_of-q.ensures _ c.if-q-p.false c.belongs.ensures c.if-not-belongs.false _ c.next_of-y.ensures c.if-x-z.false

pub returns-then-not-belongs : goal.returns-then-not-belongs
returns-then-not-belongs c = search on_laws

pub returns : goal.returns
returns c = search on_laws
