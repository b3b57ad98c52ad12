-- `residents::recount` meets its contract. Where both are one list nothing changes; else the first count is not 0, and the second, read after the first is stored, fits. Assumes nothing.
use Rattle.residents.specs.Changes.{recounted}
use Rattle.residents.specs.Residents.{count_of}
use Rattle.residents.proofs.Needs.{recount_stays, recount_some, recount_within, recount_fits}
use borrow.Author.Rules.{rules}
use Rattle.residents.proofs.recount.Goals as goal

pub returns-then-i-j : goal.returns-then-i-j
returns-then-i-j c = search (recount_stays, rules)

pub overflow_sub-w : goal.overflow_sub-w
overflow_sub-w c = search recount_some

pub bounds-w-j : goal.bounds-w-j
bounds-w-j c = search recount_within

pub overflow_add-w : goal.overflow_add-w
overflow_add-w c = search recount_fits

pub bounds-w-j-2 : goal.bounds-w-j-2
bounds-w-j-2 c = search recount_within

pub returns : goal.returns
unfolding recounted count_of
returns c = search rules
