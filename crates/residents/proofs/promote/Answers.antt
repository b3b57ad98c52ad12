-- `residents::promote` meets its contract. The slot is in the list that its list number says; where it is the first of T2, nothing is to be done. Assumes nothing.
use Rattle.residents.specs.Changes.{promoted}
use native.Mathlib.Omega.{arith}
use Rattle.residents.proofs.Needs.{resident_lists, resident_slot, resident_front, after_front, promote_stays}
use borrow.Author.Rules.{rules}
use Rattle.residents.proofs.promote.Goals as goal

pub first-requires : goal.first-requires
first-requires c = search (resident_lists, rules)

pub returns-then-first-e : goal.returns-then-first-e
returns-then-first-e c = search promote_stays

pub list-i-requires : goal.list-i-requires
list-i-requires c = search resident_slot

pub shift_front-requires : goal.shift_front-requires
shift_front-requires c = search (resident_front, rules)

pub set_list-requires : goal.set_list-requires
set_list-requires c = after_front _ _ _ c.requires _ c.list-i.ensures _ 1 (omega arith) c.shift_front.ensures

pub returns : goal.returns
unfolding promoted
returns c = cc
