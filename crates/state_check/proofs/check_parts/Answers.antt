-- `state_check::check_parts` meets its contract. Each arm is the definition's. Assumes nothing.
use mathlib.Core.Path.{◌∙◌}
use Rattle.state_check.proofs.Cases.{part_laws}
use Rattle.state_check.proofs.check_parts.Goals as goal

pub returns-then-not-check_lists : goal.returns-then-not-check_lists
returns-then-not-check_lists c = search part_laws

pub returns-then-not-check_dead : goal.returns-then-not-check_dead
returns-then-not-check_dead c = search part_laws

pub returns-then-kind-ne1 : goal.returns-then-kind-ne1
returns-then-kind-ne1 c = search part_laws

pub returns-then-check_sums : goal.returns-then-check_sums
returns-then-check_sums c = search part_laws

pub returns-else-check_sums : goal.returns-else-check_sums
returns-else-check_sums c = c.if-check_sums.false ∙ (search part_laws)
