-- `lookup::place_of` meets its contract: what `find` gave is the answer where it is a place that has the page. Assumes nothing.
use Rattle.std.proofs.Common.{arith}
use Rattle.lookup.proofs.Look.{place_past, place_differs, laws}
use Rattle.lookup.proofs.place_of.Goals.{else-f-m-via-then-f-m+else-w-f, else-f-m-via-else-f-m}
use Rattle.lookup.proofs.place_of.Goals as goal

pub returns-then-w-f : goal.returns-then-w-f
returns-then-w-f c = search laws

pub returns-else-f-m : goal.returns-else-f-m
returns-else-f-m c = elim c.else-f-m.branch [ else-f-m-via-then-f-m+else-w-f w ↦ place_differs _ _ _ _ _ c.find-f.ensures w.if-w-f.false | else-f-m-via-else-f-m w ↦ place_past _ _ _ _ _ c.find-f.ensures (omega arith) ]
