-- The parts of an area with words enough have room for a cache. Assumes nothing.
use mathlib.Core.List.{List}
use Prim.Native.Nat.{ℕ, ◌*◌, ◌<◌, ◌≤◌}
use native.Mathlib.Omega.{arith}
use lib.ListN.{length, length-drop}
use Rattle.rules.specs.declared.Side.{Side}
use Rattle.rules.specs.declared.Side.TheVariants.{First as first, Second as second}
use Rattle.cells.specs.Cells.{Cells, words_of}
use Rattle.ghosts.specs.Ghosts as ghosts
use Rattle.lookup.specs.Buckets.{buckets_of, places_of}
use Rattle.lookup.specs.Part as lookup
use Rattle.lookup.specs.Changes.{CanReach}
use Rattle.lookup.proofs.Table.{room_reach}
use Rattle.area_state.specs.Parts.{ghosts_of}
use Rattle.area_state.proofs.Making.{HaveRoom}
use Rattle.area.specs.Area.{lookup_in, end_at, parts_of}
use Rattle.area.proofs.Laws.{length_lookup, residents_room, ghosts_room}

module _ (c : ℕ) (w : List ℕ) (small : c ≤ 1024) (size : end_at c ≤ length w) where
  pub lookup_room : lookup.Room (lookup_in c w) (places_of c) (buckets_of c)
  unfolding Cells words_of lookup.links_of buckets_of
  lookup_room =
      let n = length_lookup c w size in
      record { some = omega arith; pages = omega arith; links = simp length-drop (omega arith); fits = omega arith }

  -- a place of the lookup is a cell
  pub lookup_reach : (y : ℕ) → y < 3 * c → CanReach (lookup_in c w) (3 * c) y
  lookup_reach y h = room_reach (lookup_in c w) (places_of c) (buckets_of c) y lookup_room (omega arith)

  sides : (i : Side) → ghosts.Room (ghosts_of i (parts_of c w)) c
  unfolding parts_of
  sides first = ghosts_room c w small size first
  sides second = ghosts_room c w small size second

  pub have_room : HaveRoom c (parts_of c w)
  unfolding parts_of
  have_room = record { small = small; residents = residents_room c w small size; ghosts = sides; lookup = lookup_room }
