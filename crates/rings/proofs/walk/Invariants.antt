-- `rings::walk` meets its contract. The loop's invariant: the test of what lies between a and b is the whole test. Assumes nothing.
use Prim.Native.Nat.{◌-◌, ◌*◌}
use Rattle.rings.proofs.Meeting.{Walked}
use Rattle.rings.proofs.walk.Given as goal

abbrev pub invariant-loop-k : goal.invariant-loop-k
invariant-loop-k g l = Walked (goal.F-post g l.test) l.w l.m l.s l.n (l.n - 2 * l.k) l.a l.b
