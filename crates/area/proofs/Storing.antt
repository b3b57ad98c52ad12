-- From what a change does to the parts to what an operation leaves.
-- Assumes nothing.
use mathlib.Core.Path.{ap, ◌∙◌}
use mathlib.Core.List.{List}
use Prim.Native.Nat.{ℕ}
use Rattle.rules.specs.Car.{Car}
use Rattle.area_state.specs.Parts.{Parts, state_of}
use Rattle.area_state.proofs.HoldsAs.{Becomes}
use Rattle.area.specs.Area.{Became}
use Rattle.area.specs.Stored.{Stored, state_in, Left}

pub left : (c : ℕ) (w v : List ℕ) (q : Parts) (s : Car) → Stored c w → Became c w v q → Becomes c q s → Left c w v s
unfolding state_in
left c w v q s t b d =
    record {
      stored = record { size = rw b.size t.size; capacity = b.capacity ∙ t.capacity; holds = rw b.parts d.holds };
      reads = ap (state_of c) b.parts ∙ d.reads;
      kind = b.kind;
      size = b.size;
      rest = b.rest;
    }
