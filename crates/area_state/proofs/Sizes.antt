-- What the code reads of the parts, in terms of the state: lengths, frames, bits, pages. Assumes nothing.
use mathlib.Core.Path.{◌≡◌}
use mathlib.Core.List.{map}
use Prim.Native.Nat.{ℕ, ◌+◌, ◌^◌, ◌<◌}
use native.Mathlib.Omega.{arith}
use lib.ListN.{length, length-map}
use Rattle.rules.specs.State.{residents}
use Rattle.rings.specs.Members.{Mem}
use Rattle.residents.specs.Residents.{count_of, frame_of, total}
use Rattle.residents.specs.Changes.{HasList}
use Rattle.area_state.specs.Parts.{Parts, Holds, resident_of, state_of}
use Rattle.area_state.proofs.HoldsAs.{slots_of}

module _ (c : ℕ) (p : Parts) (h : Holds c p) where
  pub has_list : (i : ℕ) → i < 3 → HasList p.residents c i
  has_list i l = record { room = h.residents.room; list = l }

  pub frame_below : (i e : ℕ) → i < 2 → Mem e (slots_of c p i) → frame_of p.residents e < 2 ^ 32
  frame_below i e l k = (h.residents.slots i e l k).frame

  -- the residents and the free slots are c together
  pub room_count : residents (state_of c p).lists + count_of p.residents 2 ≡ c
  unfolding state_of
  room_count =
      let t : total (slots_of c p) ≡ c = h.residents.all in
      let q : count_of p.residents 2 ≡ length (slots_of c p 2) = h.residents.counts 2 (omega arith) in
      let a : length (map (resident_of c p) (slots_of c p 0)) ≡ length (slots_of c p 0) = length-map (slots_of c p 0) (resident_of c p) in
      let b : length (map (resident_of c p) (slots_of c p 1)) ≡ length (slots_of c p 1) = length-map (slots_of c p 1) (resident_of c p) in
      omega arith
