-- `rings::trails` meets its contract. Each arm is the definition's. Assumes nothing.
use mathlib.Core.Bool.{false≢true}
use mathlib.Core.Path.{sym, ◌∙◌}
use borrow.Author.Tests.{eqb-true, eqb-false, le-ltb}
use Rattle.rings.proofs.Meeting.{laws, trails_out, trails_astray, trails_told}
use Rattle.rings.proofs.trails.Goals as goal
use Rattle.rings.proofs.trails.Goals.{then-y-m, else-y-m}

pub next-requires : goal.next-requires
next-requires g c = search laws

pub returns-then-next-b-clause-told : goal.returns-then-next-b-clause-told
returns-then-next-b-clause-told g c T t = elim c.if-y-m.branch [
  | then-y-m w ↦ trails_told _ _ T _ _ c.prev-y.ensures _ w.if-y-m.true w.next.ensures _ (eqb-true _ _ (sym w.value-is ∙ c.if-next-b.true)) (t _ _ w.if-y-m.true c.test.ensures)
  | else-y-m w ↦ absurd (false≢true (sym (le-ltb _ _ w.if-y-m.false) ∙ sym w.value-is ∙ c.if-next-b.true))
]

pub returns-else-next-b-clause-told : goal.returns-else-next-b-clause-told
returns-else-next-b-clause-told g c T t = c.if-next-b.false ∙ elim c.if-y-m.branch [
  | then-y-m w ↦ trails_astray _ _ T _ _ c.prev-y.ensures _ w.if-y-m.true w.next.ensures (eqb-false _ _ (sym w.value-is ∙ c.if-next-b.false))
  | else-y-m w ↦ trails_out _ _ T _ _ c.prev-y.ensures w.if-y-m.false
]
