use native.Mathlib.Omega.{arith}
use borrow.Author.Rules.{rules}
use Rattle.batch.proofs.Turning.{begins, laws}
use Rattle.batch.proofs.run.Goals as goal

pub new-cursor-requires : goal.new-cursor-requires
new-cursor-requires c = search laws

pub loop-op-init : goal.loop-op-init
loop-op-init c = begins _ _ _ _ _ _ (omega arith) c.requires c.new-cursor.ensures (search rules)

pub slice_bounds-next-count : goal.slice_bounds-next-count
slice_bounds-next-count c = search laws

pub slice_bounds-next-start : goal.slice_bounds-next-start
slice_bounds-next-start c = search laws

pub slice_bounds-next-end : goal.slice_bounds-next-end
slice_bounds-next-end c = search laws

pub next-step-requires : goal.next-step-requires
next-step-requires c = search laws

pub operate-reply-requires : goal.operate-reply-requires
operate-reply-requires c = search laws

pub count-counts-requires : goal.count-counts-requires
count-counts-requires c = search laws

pub overflow_add-done : goal.overflow_add-done
overflow_add-done c = search laws

pub loop-op-smaller : goal.loop-op-smaller
loop-op-smaller c = search laws

pub loop-op-preserved : goal.loop-op-preserved
loop-op-preserved c = search laws

pub returns-in-End : goal.returns-in-End
returns-in-End c = search laws

pub returns-in-Refused : goal.returns-in-Refused
returns-in-Refused c = search laws
