-- `state_check::check_dead` meets its contract. Each arm is the definition's. Assumes nothing.
use mathlib.Core.Bool.{false≢true}
use mathlib.Core.Path.{sym, ◌∙◌}
use Rattle.state_check.proofs.Cases.{dead_laws, dead_first, dead_second, dead_third}
use Rattle.state_check.proofs.check_dead.Goals as goal
use Rattle.state_check.proofs.check_dead.Goals.{then-free_dead, else-free_dead}

pub overflow_mul-from : goal.overflow_mul-from
overflow_mul-from c = search dead_laws

pub free_dead-requires : goal.free_dead-requires
free_dead-requires c = search dead_laws

pub spare_dead-requires : goal.spare_dead-requires
spare_dead-requires c = search dead_laws

pub spare_dead-requires-then-spare_dead : goal.spare_dead-requires-then-spare_dead
spare_dead-requires-then-spare_dead c = search dead_laws

pub returns-then-spare_dead : goal.returns-then-spare_dead
returns-then-spare_dead c = elim c.if-free_dead.branch [
  | then-free_dead x ↦ dead_third _ _ _ c.free_dead.ensures _ x.if-free_dead.true x.spare_dead.ensures _ (sym x.value-is ∙ c.if-spare_dead.true) c.spare_dead-then-spare_dead.ensures
  | else-free_dead x ↦ absurd (false≢true (sym x.if-free_dead.false ∙ sym x.value-is ∙ c.if-spare_dead.true))
]

pub returns-else-spare_dead : goal.returns-else-spare_dead
returns-else-spare_dead c = c.if-spare_dead.false ∙ elim c.if-free_dead.branch [
  | then-free_dead x ↦ dead_second _ _ _ c.free_dead.ensures _ x.if-free_dead.true x.spare_dead.ensures (sym x.value-is ∙ c.if-spare_dead.false)
  | else-free_dead x ↦ dead_first _ _ _ c.free_dead.ensures x.if-free_dead.false
]
