-- The state that parts read as is well formed by ARC's rules. (By CAR's: area_state/proofs/Ranging.) In order: words of a
-- part; ARC's view of a state; the lengths of its lists by their counts. Assumes nothing.
use mathlib.Core.Path.{◌≡◌, refl, ap}
use mathlib.Core.List.{List, [], ◌∷◌, map}
use Prim.Native.Nat.{ℕ, zero, suc, ◌+◌, ◌-◌, ◌*◌, ◌^◌, ◌<◌, ◌≤◌}
use native.Mathlib.Omega.{arith}
use lib.ListN.{length, get_or, take, drop, length-map}
use lib.Seq.{get_or-drop}
use Rattle.rules.specs.Lists.{Each}
use Rattle.rules.specs.State.{pages, Sound, Ranged, Fits}
use Rattle.rules.specs.declared.Side.TheVariants.{First as first, Second as second}
use Rattle.rules.specs.Arc as arc
use Rattle.rules.specs.Car.{Car, Resident}
use Rattle.lookup.specs.Part.{page_of}
use Rattle.area_state.specs.Parts.{Parts, Holds, resident_of, ghost_of, state_of}
use Rattle.area_state.proofs.HoldsAs.{slots_of, live_in}
use Rattle.area_state.proofs.Reading.{state_obeys}
use Rattle.area_state.proofs.Ranging.{state_ranged}
use Rattle.area.specs.Part.{part}
use Rattle.area.specs.Area.{lookup_in, parts_of}
use Rattle.area.specs.Stored.{plainly, arc_of}
use Rattle.state_check.specs.Check.{Words, row_count, live_count}

-- ---- words below a bound: those of a part are
below_take : (b n : ℕ) (l : List ℕ) → 0 < b → ((i : ℕ) → get_or l i 0 < b) → (i : ℕ) → get_or (take n l) i 0 < b
below_take b zero l z h i = z
below_take b (suc n) [] z h i = z
below_take b (suc n) (x ∷ l) z h zero = h 0
below_take b (suc n) (x ∷ l) z h (suc i) = below_take b n l z (λ j. h (suc j)) i

pub pages_below : (c : ℕ) (w : List ℕ) → Words w → (x : ℕ) → page_of (parts_of c w).lookup x < 2 ^ 64
unfolding parts_of lookup_in part
pages_below c w h x = below_take (2 ^ 64) (24 * c + 64 - (9 * c + 62)) (drop (9 * c + 62) w) (omega arith) (λ i. rw (get_or-drop (9 * c + 62) w i 0) (h (9 * c + 62 + i))) x

-- ---- ARC's view
pages_plain : (l : List Resident) → pages (map plainly l) ≡ pages l
pages_plain [] = refl
pages_plain (e ∷ l) = ap (λ (m : List ℕ). e.page ∷ m) (pages_plain l)

each_plain : (l : List Resident) → Each Fits l → Each Fits (map plainly l)
each_plain [] q = tt
each_plain (e ∷ l) q = (q.0, each_plain l q.1)

pub plain_sound : (s : Car) → Sound s.lists → Sound (arc_of s)
unfolding arc_of
plain_sound s q =
    record {
      distinct = λ x. rw (pages_plain s.lists.T1, pages_plain s.lists.T2) (q.distinct x);
      room = rw (length-map s.lists.T1 plainly, length-map s.lists.T2 plainly) q.room;
      ghosts1 = q.ghosts1;
      ghosts2 = q.ghosts2;
      aim = q.aim;
    }

pub plain_ranged : (s : Car) → Ranged s.lists → Ranged (arc_of s)
unfolding arc_of
plain_ranged s r = record { capacity = r.capacity; recent = each_plain s.lists.T1 r.recent; frequent = each_plain s.lists.T2 r.frequent; ghosts1 = r.ghosts1; ghosts2 = r.ghosts2 }

-- ---- the lengths, by the counts
module _ (c : ℕ) (p : Parts) (h : Holds c p) where
  pub row_length : row_count p ≡ length (arc_of (state_of c p)).T1 + length (arc_of (state_of c p)).B1
  unfolding row_count arc_of state_of
  row_length =
      rw (
        h.residents.counts 0 (omega arith),
        (h.ghosts first).count,
        length-map (map (resident_of c p) (slots_of c p 0)) plainly,
        length-map (slots_of c p 0) (resident_of c p),
        length-map (live_in c p first) (ghost_of first c p),
      )
      refl

  pub live_length : live_count p ≡ length (arc_of (state_of c p)).T1 + length (arc_of (state_of c p)).T2 + length (arc_of (state_of c p)).B1 + length (arc_of (state_of c p)).B2
  unfolding live_count arc_of state_of
  live_length =
      rw (
        h.residents.counts 0 (omega arith),
        h.residents.counts 1 (omega arith),
        (h.ghosts first).count,
        (h.ghosts second).count,
        length-map (map (resident_of c p) (slots_of c p 0)) plainly,
        length-map (slots_of c p 0) (resident_of c p),
        length-map (map (resident_of c p) (slots_of c p 1)) plainly,
        length-map (slots_of c p 1) (resident_of c p),
        length-map (live_in c p first) (ghost_of first c p),
        length-map (live_in c p second) (ghost_of second c p),
      )
      refl

  -- BY ARC'S RULES, where the sums are as it asks
  pub arc_formed : ((x : ℕ) → page_of p.lookup x < 2 ^ 64) → row_count p ≤ c + 1 → live_count p ≤ 2 * c + 1 → arc.WellFormed (arc_of (state_of c p))
  unfolding arc_of state_of
  arc_formed words a b =
      record {
        obeys = record { sound = plain_sound (state_of c p) (state_obeys c p h).sound; rows = rw row_length at a; all = rw live_length at b };
        ranged = plain_ranged (state_of c p) (state_ranged c p h (λ x _. words x));
      }

  pub arc_sums : arc.WellFormed (arc_of (state_of c p)) → (row_count p ≤ c + 1) × (live_count p ≤ 2 * c + 1)
  unfolding arc_of state_of
  arc_sums f = (rw row_length f.obeys.rows, rw live_length f.obeys.all)
