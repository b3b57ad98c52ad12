-- What each operation of a store does to the parts. Assumes nothing.
use Rattle.std.specs.Prelude.{Bool, true, false, List, ℕ, eqb}
use Rattle.rules.specs.declared.Side.{Side}
use Rattle.rules.specs.Stages.{start_target}
use Rattle.residents.specs.Changes.{with_frame, with_bit, promoted, sent_back, freed, top_of, added_front, added_end, made as made_residents}
use Rattle.ghosts.specs.Ghosts.{count_of, record_cell, recorded, forgotten, made as made_ghosts}
use Rattle.lookup.specs.Buckets.{places_of, buckets_of}
use Rattle.lookup.specs.Lookup.{find_of}
use Rattle.lookup.specs.Changes.{put_in, taken, renamed, made as made_lookup}
use Rattle.area_state.specs.Parts.{Parts, ghosts_of, set_residents, set_ghosts, set_lookup, ghost_place}

-- the frame, or the bit, of the resident of slot e
unfoldable pub framed : ℕ → ℕ → Parts → Parts
framed e f p = set_residents (with_frame e f p.residents) p

unfoldable pub marked : ℕ → ℕ → ℕ → Parts → Parts
marked c e b p = set_residents (with_bit c e b p.residents) p

-- the resident of slot e comes to the front of T2; or goes to its end, its bit cleared
unfoldable pub to_front : ℕ → ℕ → Parts → Parts
to_front c e p = set_residents (promoted c e p.residents) p

unfoldable pub to_end : ℕ → ℕ → Parts → Parts
to_end c e p = set_residents (sent_back c e p.residents) p

-- the resident of slot e leaves; its slot is the top free one
unfoldable pub removed : ℕ → ℕ → Parts → Parts
removed c e p = set_lookup (taken (places_of c) e p.lookup) (set_residents (freed c e p.residents) p)

-- the cell g of a ghost list is spare
unfoldable pub forgot : Side → ℕ → ℕ → Parts → Parts
forgot i c g p = set_lookup (taken (places_of c) (ghost_place i c g) p.lookup) (set_ghosts i (forgotten c g (ghosts_of i p)) p)

-- the resident of slot e leaves and is recorded in a ghost list: its page goes over from the slot to the cell that the ghost list gives, once the
-- page that this cell had, where the list was full, has left
unfoldable pub record_place_of : Side → ℕ → Parts → ℕ
record_place_of i c p = ghost_place i c (record_cell c (ghosts_of i p))

unfoldable pub is_full : Side → ℕ → Parts → Bool
is_full i c p = eqb (count_of (ghosts_of i p)) c

abbrev pub cleared_for : Bool → ℕ → ℕ → List ℕ → List ℕ
cleared_for true m y k = taken m y k
cleared_for false m y k = k

unfoldable pub evicted : Side → ℕ → ℕ → Parts → Parts
evicted i c e p =
    let y = record_place_of i c p in
    set_lookup (renamed (places_of c) e y (cleared_for (is_full i c p) (places_of c) y p.lookup))
    (set_ghosts i (recorded c (ghosts_of i p)) (set_residents (freed c e p.residents) p))

-- a new resident of page x at the front, or at the end, of list j (0 for T1, 1 for T2), in the top free slot
unfoldable pub entered_lookup : ℕ → ℕ → Parts → List ℕ
entered_lookup c x p = put_in (places_of c) (find_of p.lookup (places_of c) (buckets_of c) x) (top_of c p.residents) x p.lookup

unfoldable pub entered_front : ℕ → ℕ → ℕ → ℕ → ℕ → Parts → Parts
entered_front c j x f b p = set_lookup (entered_lookup c x p) (set_residents (added_front c j f b p.residents) p)

unfoldable pub entered_end : ℕ → ℕ → ℕ → ℕ → ℕ → Parts → Parts
entered_end c j x f b p = set_lookup (entered_lookup c x p) (set_residents (added_end c j f b p.residents) p)

-- an empty cache, whatever the words were
unfoldable pub made : ℕ → Parts → Parts
made c p =
    record {
      target = start_target c;
      residents = made_residents c p.residents;
      ghosts1 = made_ghosts c p.ghosts1;
      ghosts2 = made_ghosts c p.ghosts2;
      lookup = made_lookup (places_of c) (buckets_of c) p.lookup;
    }
