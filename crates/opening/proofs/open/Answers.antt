-- `opening::open` meets its contract. Assumes nothing.
use Rattle.opening.proofs.Laws.{laws, opens}
use native.Mathlib.Omega.{arith}
use borrow.Author.Rules.{rules}
use Rattle.opening.proofs.open.Goals as goal

pub number-number-requires : goal.number-number-requires
number-number-requires c = search laws

pub check-requires : goal.check-requires
check-requires c = search laws

pub bounds-area-1 : goal.bounds-area-1
bounds-area-1 c = search laws

pub returns-then-check : goal.returns-then-check
returns-then-check c = opens _ _ _ _ c.number-number.ensures c.check.ensures (search rules) (λ i. omega (arith, c.shared_slice_known-then-check-1.given i))

pub returns : goal.returns
returns c = search laws
