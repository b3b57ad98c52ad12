-- One step of the walk of a bucket from the cell a on, as equations. Assumes nothing.
use mathlib.Core.Path.{◌≡◌}
use mathlib.Core.Bool.{cond}
use mathlib.Core.List.{List}
use Prim.Native.Nat.{ℕ, zero, suc, ◌+◌, ◌<◌, ◌≤◌}
use lib.Dec.{eqb}
use borrow.Author.Tests.{lt-ltb, le-ltb}
use Rattle.cells.specs.Cells.{next_of, prev_of}
use Rattle.lookup.specs.Part.{links_of}
use Rattle.std.specs.Prelude.{None}
use Rattle.lookup_check.specs.Check.{suits_test, closing, walk_from}

pub walk_over : (w : List ℕ) (m k b left a : ℕ) → left ≡ 0 → next_of (links_of m w) a < m → walk_from w m k b left a ≡ None
walk_over w m k b left a q l = rw q (simp (lt-ltb (next_of (links_of m w) a) m l))

pub walk_step : (w : List ℕ) (m k b left rest a : ℕ) → left ≡ suc rest → next_of (links_of m w) a < m → walk_from w m k b left a ≡ cond (eqb (prev_of (links_of m w) (next_of (links_of m w) a)) a) (cond (suits_test w m k b a (next_of (links_of m w) a)) (walk_from w m k b rest (next_of (links_of m w) a)) None) None
walk_step w m k b left rest a q l = rw q (simp (lt-ltb (next_of (links_of m w) a) m l))

pub walk_last : (w : List ℕ) (m k b left a : ℕ) → m ≤ next_of (links_of m w) a → walk_from w m k b left a ≡ closing (links_of m w) (m + b) left a
walk_last w m k b zero a l = simp (le-ltb (next_of (links_of m w) a) m l)
walk_last w m k b (suc left) a l = simp (le-ltb (next_of (links_of m w) a) m l)
