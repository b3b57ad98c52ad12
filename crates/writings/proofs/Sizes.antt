-- Parts of the sizes that an area of capacity c is cut into keep them, and their words are of 64 bits again. In order:
-- the parts of an area; an empty cache and the target; what is small; a new resident; a resident that leaves.
-- Assumes nothing.
use mathlib.Core.Path.{◌≡◌}
use mathlib.Core.Bool.{Bool, true, false}
use mathlib.Core.List.{List}
use Prim.Native.Nat.{ℕ, ◌+◌, ◌-◌, ◌*◌, ◌<◌, ◌≤◌}
use native.Mathlib.Omega.{arith}
use lib.ListN.{length, drop, length-drop}
use Rattle.rules.specs.Lists.{Each}
use Rattle.rules.specs.declared.Side.{Side}
use Rattle.rules.specs.declared.Side.TheVariants.{First as first, Second as second}
use Rattle.rules.proofs.EachLaws.{each_take}
use Rattle.cells.specs.Cells.{In}
use Rattle.rings.specs.Members.{Mem}
use Rattle.residents.specs.Residents.{count_of, total}
use Rattle.residents.specs.Changes.{top_of}
use Rattle.ghosts.specs.Ghosts as ghosts
use Rattle.lookup.specs.Buckets.{buckets_of, places_of}
use Rattle.lookup.specs.Part.{links_of}
use Rattle.lookup.specs.Lookup.{find_of}
use Rattle.area_state.specs.Parts.{Parts, ghosts_of, set_target, number_of, Holds}
use Rattle.area_state.specs.Changes.{removed, record_place_of, is_full, cleared_for, evicted, entered_lookup, entered_front, made}
use Rattle.area_state.proofs.Sides.{number_below}
use Rattle.area_state.proofs.HoldsAs.{named, slots_of, live_in, spare_in}
use Rattle.area_state.proofs.Pages.{slot_below}
use Rattle.area_state.proofs.Slots.{list_number}
use Rattle.area_state.proofs.Entering.{may_put, top_below}
use Rattle.area_state.proofs.Evicting.{may_rename}
use Rattle.area.specs.Part.{part}
use Rattle.area.specs.Area.{residents_in, ghosts_in, lookup_in, parts_of, end_at}
use Rattle.area.proofs.Laws.{length_residents, length_ghosts, length_lookup}
use Rattle.writings.specs.Writings.{IsWord, Words}
use Rattle.writings.proofs.Words.{words_drop}
use Rattle.writings.proofs.Changes.{words_put, words_taken, words_renamed, words_made_lookup}
use Rattle.writings.proofs.Changes.{words_recorded, words_made_ghosts}
use Rattle.writings.proofs.Changes.{words_freed, words_added, words_made_residents}

pub record Sized (c : ℕ) (p : Parts) : Type 0 where
  pub residents : Words (5 * c + 9) p.residents
  pub ghosts1 : Words (2 * c + 5) p.ghosts1
  pub ghosts2 : Words (2 * c + 5) p.ghosts2
  pub lookup : Words (15 * c + 2) p.lookup

-- ---- the parts of an area
pub parts_sized : (c : ℕ) (w : List ℕ) → Words (end_at c) w → Sized c (parts_of c w)
unfolding parts_of residents_in ghosts_in lookup_in part
parts_sized c w h =
    let size : end_at c ≤ length w = (let q = h.size in omega arith) in
    let below : (a b : ℕ) → Each IsWord (part a b w) =
    λ a b. each_take IsWord (b - a) (drop a w) (words_drop h a).below in
    record {
      residents = record { size = length_residents c w size; below = below 43 (5 * c + 52) };
      ghosts1 = record { size = length_ghosts c w size first; below = below (5 * c + 52) (5 * c + 52 + 2 * c + 5) };
      ghosts2 = record { size = length_ghosts c w size second; below = below (7 * c + 57) (7 * c + 57 + 2 * c + 5) };
      lookup = record { size = length_lookup c w size; below = below (9 * c + 62) (24 * c + 64) };
    }

-- ---- an empty cache; the target
pub made_sized : (c : ℕ) (p : Parts) → c ≤ 1024 → Sized c p → Sized c (made c p)
unfolding made buckets_of
made_sized c p small z =
    record {
      residents = words_made_residents z.residents c (omega arith) small;
      ghosts1 = words_made_ghosts z.ghosts1 (omega arith) c small;
      ghosts2 = words_made_ghosts z.ghosts2 (omega arith) c small;
      lookup = words_made_lookup z.lookup (3 * c) (omega arith) (3 * c + 1) (omega arith);
    }

pub aimed_sized : (c : ℕ) (p : Parts) (t : ℕ) → Sized c p → Sized c (set_target t p)
aimed_sized c p t z =
    record { residents = z.residents; ghosts1 = z.ghosts1; ghosts2 = z.ghosts2; lookup = z.lookup }

module _ (c : ℕ) (p : Parts) (h : Holds c p) (z : Sized c p) where
  -- ---- what is small: the counts, and a cell of the lookup
  all : total (slots_of c p) ≡ c
  all = h.residents.all

  side_few : (i : Side) → count_of p.residents (number_of i) ≤ 1024
  side_few first = let t = all in let q = h.residents.counts 0 (omega arith) in let k = h.small in omega arith
  side_few second = let t = all in let q = h.residents.counts 1 (omega arith) in let k = h.small in omega arith

  free_few : count_of p.residents 2 ≤ 1024
  free_few = let t = all in let q = h.residents.counts 2 (omega arith) in let k = h.small in omega arith

  ghosts_few : (i : Side) → ghosts.count_of (ghosts_of i p) ≤ 1024
  ghosts_few i = let t = (h.ghosts i).all in let q = (h.ghosts i).count in let k = h.small in omega arith

  cell_word : (x : ℕ) → In (links_of (places_of c) p.lookup) x → IsWord x
  unfolding In links_of
  cell_word x k =
      let l = length-drop (3 * c) p.lookup in
      let s = z.lookup.size in
      let m = h.small in
      omega arith

  -- ---- a new resident
  pub entered_sized : 0 < length (slots_of c p 2) → (i : Side) (x f b : ℕ) → IsWord x → IsWord f → IsWord b
      → Sized c (entered_front c (number_of i) x f b p)
  unfolding entered_front entered_lookup
  entered_sized some i x f b hx hf hb =
      let m = h.small in
      let l = top_below c p h some in
      let y = find_of p.lookup (places_of c) (buckets_of c) x in
      let hy = cell_word y (may_put c p h some x).links.at in
      record {
        residents = words_added z.residents c (omega arith) m (number_of i) f b (number_below i) (side_few i) hf hb;
        ghosts1 = z.ghosts1;
        ghosts2 = z.ghosts2;
        lookup = words_put z.lookup (3 * c) (omega arith) y (top_of c p.residents) x hy (omega arith) hx;
      }

  -- ---- a resident leaves slot e of list i
  module _ (i e : ℕ) (hi : i < 2) (k : Mem e (slots_of c p i)) where
    slot_word : IsWord e
    slot_word =
        let m = h.small in
        let l = slot_below c p (slots_of c p) (live_in c p) (spare_in c p) (named c p h) i e (omega arith) k in
        omega arith

    freed_sized : Words (5 * c + 9) (removed c e p).residents
    unfolding removed
    freed_sized =
        words_freed z.residents c (omega arith) h.small i e (list_number c p h i e hi k) hi free_few slot_word

    pub removed_sized : Sized c (removed c e p)
    unfolding removed
    removed_sized =
        record {
          residents = freed_sized;
          ghosts1 = z.ghosts1;
          ghosts2 = z.ghosts2;
          lookup = words_taken z.lookup (3 * c) (omega arith) e slot_word;
        }

    -- and is recorded in the ghost list of side s
    place_word : (s : Side) → IsWord (record_place_of s c p)
    place_word s = let m = h.small in let l = (may_rename c p h i e hi k s).to in omega arith

    cleared_sized : (b : Bool) (y : ℕ) → IsWord y → Words (15 * c + 2) (cleared_for b (places_of c) y p.lookup)
    cleared_sized true y hy = words_taken z.lookup (3 * c) (omega arith) y hy
    cleared_sized false y hy = z.lookup

    handed_sized : (s : Side) → Words (15 * c + 2) (evicted s c e p).lookup
    unfolding evicted
    handed_sized s =
        let y = record_place_of s c p in
        let hy = place_word s in
        words_renamed (cleared_sized (is_full s c p) y hy) (3 * c) (omega arith) e y slot_word hy

    pub evicted_sized : (s : Side) → Sized c (evicted s c e p)
    unfolding evicted removed
    evicted_sized first =
        record {
          residents = freed_sized;
          ghosts1 = words_recorded z.ghosts1 (omega arith) c (ghosts_few first);
          ghosts2 = z.ghosts2;
          lookup = handed_sized first;
        }
    evicted_sized second =
        record {
          residents = freed_sized;
          ghosts1 = z.ghosts1;
          ghosts2 = words_recorded z.ghosts2 (omega arith) c (ghosts_few second);
          lookup = handed_sized second;
        }
