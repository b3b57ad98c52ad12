-- A trim leaves every page in no more lists. Assumes nothing.
use mathlib.Core.Bool.{Bool, true, false}
use Prim.Native.Nat.{ℕ, ◌+◌, ◌*◌, ◌≤◌}
use native.Mathlib.Omega.{arith}
use lib.Dec.{leb}
use lib.ListN.{length}
use Rattle.rules.specs.State.{in_all, seen}
use Rattle.rules.specs.Arc.{Arc, trim_by, trimmed}
use Rattle.rules.proofs.ListLaws.{times_drop_last}

trim_fewer : (a b : Bool) (x : ℕ) (s : Arc) → seen x (trim_by a b s) ≤ seen x s
unfolding trim_by
trim_fewer true b x s = omega (arith, times_drop_last x s.B1)
trim_fewer false true x s = omega (arith, times_drop_last x s.B2)
trim_fewer false false x s = omega arith

pub trimmed_fewer : (x : ℕ) (s : Arc) → seen x (trimmed s) ≤ seen x s
unfolding trimmed
trimmed_fewer x s = trim_fewer (leb s.c (length s.T1 + length s.B1)) (leb (2 * s.c) (in_all s)) x s
