-- `state_check::check_lists` meets its contract. Each arm is the definition's. Assumes nothing.
use mathlib.Core.Bool.{false≢true}
use mathlib.Core.Path.{sym, ◌∙◌}
use Rattle.state_check.proofs.Cases.{list_laws, lists_first, lists_second, lists_third}
use Rattle.state_check.proofs.check_lists.Goals as goal
use Rattle.state_check.proofs.check_lists.Goals.{then-check_residents, else-check_residents}

pub check_residents-requires : goal.check_residents-requires
check_residents-requires c = search list_laws

pub check_ghosts-requires : goal.check_ghosts-requires
check_ghosts-requires c = search list_laws

pub check_ghosts-requires-then-check_ghosts : goal.check_ghosts-requires-then-check_ghosts
check_ghosts-requires-then-check_ghosts c = search list_laws

pub returns-then-check_ghosts : goal.returns-then-check_ghosts
returns-then-check_ghosts c = elim c.if-check_residents.branch [
  | then-check_residents x ↦ lists_third _ _ _ c.check_residents.ensures _ x.if-check_residents.true x.check_ghosts.ensures _ (sym x.value-is ∙ c.if-check_ghosts.true) c.check_ghosts-then-check_ghosts.ensures
  | else-check_residents x ↦ absurd (false≢true (sym x.if-check_residents.false ∙ sym x.value-is ∙ c.if-check_ghosts.true))
]

pub returns-else-check_ghosts : goal.returns-else-check_ghosts
returns-else-check_ghosts c = c.if-check_ghosts.false ∙ elim c.if-check_residents.branch [
  | then-check_residents x ↦ lists_second _ _ _ c.check_residents.ensures _ x.if-check_residents.true x.check_ghosts.ensures (sym x.value-is ∙ c.if-check_ghosts.false)
  | else-check_residents x ↦ lists_first _ _ _ c.check_residents.ensures x.if-check_residents.false
]
