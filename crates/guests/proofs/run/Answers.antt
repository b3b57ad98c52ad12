use native.Mathlib.Omega.{arith}
use Rattle.guests.proofs.Laws.{begins, laws}
use Rattle.guests.proofs.run.Goals as goal

pub loop-i-init : goal.loop-i-init
loop-i-init c = begins _ _ _ _ (omega arith) c.requires.0 c.requires.1

pub offset_bounds-guests-i : goal.offset_bounds-guests-i
offset_bounds-guests-i c = search laws

pub bounds-guests-i : goal.bounds-guests-i
bounds-guests-i c = search laws

pub offset_bounds-pages-i : goal.offset_bounds-pages-i
offset_bounds-pages-i c = search laws

pub bounds-pages-i : goal.bounds-pages-i
bounds-pages-i c = search laws

pub offset_bounds-frames-i : goal.offset_bounds-frames-i
offset_bounds-frames-i c = search laws

pub bounds-frames-i : goal.bounds-frames-i
bounds-frames-i c = search laws

pub step-n-requires : goal.step-n-requires
step-n-requires c = search laws

pub overflow_add-n : goal.overflow_add-n
overflow_add-n c = search laws

pub loop-i-smaller : goal.loop-i-smaller
loop-i-smaller c = search laws

pub loop-i-preserved : goal.loop-i-preserved
loop-i-preserved c = search laws

pub returns : goal.returns
returns c = search laws
