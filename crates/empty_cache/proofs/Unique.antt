-- Any two outcomes that the contract of `new` allows are equal: the answer, the words past the area's need, and the state that the area reads as. Assumes nothing.
use mathlib.Core.Path.{◌≡◌, sym, ◌∙◌}
use mathlib.Core.List.{List}
use Prim.Native.Nat.{ℕ}
use lib.ListN.{drop}
use Rattle.rules.specs.Car.{new}
use Rattle.area.specs.Area.{end_at}
use Rattle.area.specs.Stored.{state_in}
use Rattle.empty_cache.specs.Fresh.{Empty, New}
use Rattle.std.specs.Prelude.{⊤, Result, Err}
use Rattle.refusals.specs.declared.Refusal.{Refusal}

pub same_answer : (kind c : ℕ) (w u v : List ℕ) (r s : Result ⊤ Refusal) → New kind c w u r → New kind c w v s → r ≡ s
same_answer kind c w u v r s a b = a.answer ∙ sym b.answer

pub same_state : (kind c : ℕ) (w u v : List ℕ) → Empty kind c w u → Empty kind c w v → (state_in c u ≡ state_in c v) × (drop (end_at c) u ≡ drop (end_at c) v)
unfolding new
same_state kind c w u v a b = (a.writes.reads ∙ sym b.writes.reads, a.rest ∙ sym b.rest)

-- a refusal leaves the area unchanged
pub same_refused : (kind c : ℕ) (w v : List ℕ) (n : Refusal) → New kind c w v (Err n) → v ≡ w
same_refused kind c w v n a = a.area
