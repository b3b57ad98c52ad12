-- `lookup::find` meets its contract. The loop's invariant: the places that are still to come give what the whole bucket gives. The measure is how many they are. Assumes nothing.
use Rattle.std.proofs.Common.{length}
use Rattle.rings.specs.Rings.{follow}
use Rattle.lookup.specs.Part.{links_of}
use Rattle.lookup.proofs.Finding.{Sought}
use Rattle.lookup.proofs.find.Given as goal

abbrev pub invariant-loop-cur : goal.invariant-loop-cur
invariant-loop-cur l = Sought l.w l.m l.k l.p l.s l.cur

abbrev pub decreases-loop-cur : goal.decreases-loop-cur
decreases-loop-cur l = length (follow (links_of l.m l.w) l.m l.m l.cur)
