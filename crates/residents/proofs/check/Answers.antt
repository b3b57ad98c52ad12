-- `residents::check` meets its contract. Each arm is the definition's. Assumes nothing.
use mathlib.Core.Bool.{false≢true}
use mathlib.Core.Path.{sym, ◌∙◌}
use Rattle.residents.proofs.Checking.{check_counts, check_first, check_second, check_all}
use Rattle.residents.proofs.check.Goals as goal
use Rattle.residents.proofs.check.Goals.{then-check_counts, else-check_counts, then-check_side, else-check_side}

pub returns-then-check_side-2 : goal.returns-then-check_side-2
returns-then-check_side-2 c = elim c.if-check_side.branch [
  | then-check_side x ↦ elim c.if-check_counts.branch [
    | then-check_counts y ↦ check_all _ _ _ c.check_counts.ensures _ y.if-check_counts.true y.check_side.ensures _ (sym y.value-is ∙ x.if-check_side.true) x.check_side-then-check_side.ensures _ (sym x.value-is ∙ c.if-check_side-2.true) c.check_ring.ensures
    | else-check_counts y ↦ absurd (false≢true (sym y.if-check_counts.false ∙ sym y.value-is ∙ x.if-check_side.true))
  ]
  | else-check_side x ↦ absurd (false≢true (sym x.if-check_side.false ∙ sym x.value-is ∙ c.if-check_side-2.true))
]

pub returns-else-check_side-2 : goal.returns-else-check_side-2
returns-else-check_side-2 c = c.if-check_side-2.false ∙ elim c.if-check_side.branch [
  | then-check_side x ↦ elim c.if-check_counts.branch [
    | then-check_counts y ↦ check_second _ _ _ c.check_counts.ensures _ y.if-check_counts.true y.check_side.ensures _ (sym y.value-is ∙ x.if-check_side.true) x.check_side-then-check_side.ensures (sym x.value-is ∙ c.if-check_side-2.false)
    | else-check_counts y ↦ absurd (false≢true (sym y.if-check_counts.false ∙ sym y.value-is ∙ x.if-check_side.true))
  ]
  | else-check_side x ↦ elim c.if-check_counts.branch [
    | then-check_counts y ↦ check_first _ _ _ c.check_counts.ensures _ y.if-check_counts.true y.check_side.ensures (sym y.value-is ∙ x.if-check_side.false)
    | else-check_counts y ↦ check_counts _ _ _ c.check_counts.ensures y.if-check_counts.false
  ]
]
