-- `rings::leads` meets its contract. Each arm is the definition's. Assumes nothing.
use mathlib.Core.Bool.{false≢true}
use mathlib.Core.Path.{sym, ◌∙◌}
use borrow.Author.Tests.{eqb-true, eqb-false, le-ltb}
use Rattle.rings.proofs.Meeting.{laws, leads_out, leads_astray, leads_told}
use Rattle.rings.proofs.leads.Goals as goal
use Rattle.rings.proofs.leads.Goals.{then-x-m, else-x-m}

pub prev-requires : goal.prev-requires
prev-requires g c = search laws

pub returns-then-prev-a-clause-told : goal.returns-then-prev-a-clause-told
returns-then-prev-a-clause-told g c T t = elim c.if-x-m.branch [
  | then-x-m w ↦ leads_told _ _ T _ _ c.next-x.ensures _ w.if-x-m.true w.prev.ensures _ (eqb-true _ _ (sym w.value-is ∙ c.if-prev-a.true)) (t _ _ w.if-x-m.true c.test.ensures)
  | else-x-m w ↦ absurd (false≢true (sym (le-ltb _ _ w.if-x-m.false) ∙ sym w.value-is ∙ c.if-prev-a.true))
]

pub returns-else-prev-a-clause-told : goal.returns-else-prev-a-clause-told
returns-else-prev-a-clause-told g c T t = c.if-prev-a.false ∙ elim c.if-x-m.branch [
  | then-x-m w ↦ leads_astray _ _ T _ _ c.next-x.ensures _ w.if-x-m.true w.prev.ensures (eqb-false _ _ (sym w.value-is ∙ c.if-prev-a.false))
  | else-x-m w ↦ leads_out _ _ T _ _ c.next-x.ensures w.if-x-m.false
]
