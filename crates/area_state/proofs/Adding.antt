-- A new resident enters T1 or T2, at the front or at the end. Assumes nothing.
use mathlib.Core.Path.{◌≡◌}
use mathlib.Core.List.{List, [], ◌∷◌, ◌++◌}
use Prim.Native.Nat.{ℕ, ◌^◌, ◌<◌}
use native.Mathlib.Omega.{arith}
use lib.ListN.{length}
use lib.Dec.{eqb}
use Rattle.rules.specs.State.{list}
use Rattle.rules.specs.declared.Side.{Side}
use Rattle.rings.specs.Members.{without}
use Rattle.residents.specs.Changes.{top_of, added_front, added_end}
use Rattle.residents.proofs.Steps.{add_front_residents, add_end_residents}
use Rattle.residents.proofs.Slots.{frame_added_front, bit_added_front, same_added_front, frame_added_end, bit_added_end, same_added_end}
use Rattle.lookup.specs.Buckets.{buckets_of, places_of}
use Rattle.lookup.specs.Lookup.{look, none}
use Rattle.area_state.specs.Parts.{Parts, number_of, Holds, state_of}
use Rattle.area_state.specs.Changes.{entered_front, entered_end}
use Rattle.area_state.specs.States.{new_resident, entered_at_front, entered_at_end}
use Rattle.area_state.proofs.Sides.{number_below}
use Rattle.area_state.proofs.HoldsAs.{named, slots_of, live_in, spare_in, Becomes}
use Rattle.area_state.proofs.Slots.{mem_snoc, fronted_lists, ended_lists}
use Rattle.area_state.proofs.Entering.{Adds, top_free, top_below, front_list, end_list, enters}

module _ (c : ℕ) (p : Parts) (h : Holds c p) (some : 0 < length (slots_of c p 2)) (x f b : ℕ) (s : Side) (nowhere : look p.lookup (places_of c) (buckets_of c) x ≡ none) (hf : f < 2 ^ 32) (hb : b < 2) where
  hs : number_of s < 2
  hs = number_below s

  low : top_of c p.residents < c
  low = top_below c p h some

  -- AT THE FRONT
  adds_front : Adds c p s f b (added_front c (number_of s) f b p.residents) (top_of c p.residents ∷ without (top_of c p.residents) (slots_of c p (number_of s)))
  adds_front =
      let l : number_of s < 2 = hs in
      record {
        residents = fronted_lists c p (slots_of c p) (live_in c p) (spare_in c p) (named c p h) 2 (number_of s) (top_of c p.residents) (omega arith) (omega arith) (top_free c p h some) (added_front c (number_of s) f b p.residents) (add_front_residents p.residents c (slots_of c p) h.residents (number_of s) f b hs some hf hb);
        among = λ z m. m;
        same = same_added_front p.residents c (number_of s) f b h.residents.room hs low;
        frame = frame_added_front p.residents c (number_of s) f b h.residents.room hs low;
        bit = bit_added_front p.residents c (number_of s) f b h.residents.room hs low;
      }

  pub entered_front_becomes : Becomes c (entered_front c (number_of s) x f b p) (entered_at_front s x f (eqb b 1) (state_of c p))
  unfolding entered_front entered_at_front
  entered_front_becomes =
      let v : List ℕ = added_front c (number_of s) f b p.residents in
      let xs : List ℕ = top_of c p.residents ∷ without (top_of c p.residents) (slots_of c p (number_of s)) in
      enters c p h some x nowhere s f b v xs adds_front (new_resident x f (eqb b 1) (state_of c p) ∷ list s (state_of c p).lists) (front_list c p h some x nowhere s f b v xs adds_front)

  -- AT THE END
  adds_end : Adds c p s f b (added_end c (number_of s) f b p.residents) (without (top_of c p.residents) (slots_of c p (number_of s)) ++ (top_of c p.residents ∷ []))
  adds_end =
      let l : number_of s < 2 = hs in
      record {
        residents = ended_lists c p (slots_of c p) (live_in c p) (spare_in c p) (named c p h) 2 (number_of s) (top_of c p.residents) (omega arith) (omega arith) (top_free c p h some) (added_end c (number_of s) f b p.residents) (add_end_residents p.residents c (slots_of c p) h.residents (number_of s) f b hs some hf hb);
        among = λ z m. mem_snoc (top_of c p.residents) z (without (top_of c p.residents) (slots_of c p (number_of s))) m;
        same = same_added_end p.residents c (number_of s) f b h.residents.room hs low;
        frame = frame_added_end p.residents c (number_of s) f b h.residents.room hs low;
        bit = bit_added_end p.residents c (number_of s) f b h.residents.room hs low;
      }

  pub entered_end_becomes : Becomes c (entered_end c (number_of s) x f b p) (entered_at_end s x f (eqb b 1) (state_of c p))
  unfolding entered_end entered_at_end
  entered_end_becomes =
      let v : List ℕ = added_end c (number_of s) f b p.residents in
      let xs : List ℕ = without (top_of c p.residents) (slots_of c p (number_of s)) ++ (top_of c p.residents ∷ []) in
      enters c p h some x nowhere s f b v xs adds_end (list s (state_of c p).lists ++ (new_resident x f (eqb b 1) (state_of c p) ∷ [])) (end_list c p h some x nowhere s f b v xs adds_end)
