-- The test of the parts is exact: it passes where they hold a cache, and only there. Assumes nothing.
use mathlib.Core.Path.{◌≡◌, ◌∙◌}
use mathlib.Core.Bool.{true, false, cond}
use Prim.Native.Nat.{ℕ, ◌*◌, ◌≤◌}
use Rattle.rules.specs.declared.Side.{Side}
use Rattle.rules.specs.declared.Side.TheVariants.{First as first, Second as second}
use Rattle.rings.specs.Members.{Mem}
use Rattle.ghosts.specs.Ghosts.{spare_of}
use Rattle.residents.specs.Residents.{lists_of}
use Rattle.lookup.specs.Buckets.{buckets_of, places_of}
use Rattle.lookup.specs.Lookup.{Exactly}
use Rattle.lookup.proofs.Counts.{held_count}
use Rattle.lookup_check.proofs.Exact.{test_exactly, test_complete}
use Rattle.area_state.specs.Parts.{Parts, ghost_place, DeadIn, Holds}
use Rattle.area_state.proofs.HoldsAs.{slots_of, spare_in}
use Rattle.area_state.proofs.Making.{HaveRoom}
use Rattle.state_check.specs.Check.{deads_test, live_count, lists_test, held_test, dead_test}
use Rattle.state_check.proofs.Lists.{both, AreLists, lists_sound, lists_complete}
use Rattle.state_check.proofs.Places.{deads_sound, deads_complete, from_zero, to_zero, every, slot_every, ghost_every, every_count, others_dead, every_held, every_distinct}

-- ---- the dead places
pub record AreDead (c : ℕ) (p : Parts) : Type 0 where
  pub free : (x : ℕ) → Mem x (slots_of c p 2) → DeadIn c p x
  pub spare : (i : Side) (x : ℕ) → Mem x (spare_in c p i) → DeadIn c p (ghost_place i c x)

pub dead_sound : (c : ℕ) (p : Parts) → dead_test c p ≡ true → AreDead c p
unfolding dead_test
dead_sound c p q = record { free = λ x k. from_zero p.lookup (places_of c) x (deads_sound p.lookup (places_of c) 0 (slots_of c p 2) a.0 x k); spare = sides }
  where
    a : (deads_test p.lookup (places_of c) 0 (lists_of p.residents c 2) ≡ true) × (cond (deads_test p.lookup (places_of c) c (spare_of p.ghosts1 c)) (deads_test p.lookup (places_of c) (2 * c) (spare_of p.ghosts2 c)) false ≡ true)
    a = both (deads_test p.lookup (places_of c) 0 (lists_of p.residents c 2)) _ q

    b : (deads_test p.lookup (places_of c) c (spare_of p.ghosts1 c) ≡ true) × (deads_test p.lookup (places_of c) (2 * c) (spare_of p.ghosts2 c) ≡ true)
    b = both (deads_test p.lookup (places_of c) c (spare_of p.ghosts1 c)) _ a.1

    sides : (i : Side) (x : ℕ) → Mem x (spare_in c p i) → DeadIn c p (ghost_place i c x)
    sides first x k = deads_sound p.lookup (places_of c) c (spare_in c p first) b.0 x k
    sides second x k = deads_sound p.lookup (places_of c) (2 * c) (spare_in c p second) b.1 x k

pub dead_complete : (c : ℕ) (p : Parts) → AreDead c p → dead_test c p ≡ true
unfolding dead_test
dead_complete c p d =
    rw (deads_complete p.lookup (places_of c) 0 (slots_of c p 2) (λ x k. to_zero p.lookup (places_of c) x (d.free x k)), deads_complete p.lookup (places_of c) c (spare_in c p first) (d.spare first))
    (deads_complete p.lookup (places_of c) (2 * c) (spare_in c p second) (d.spare second))

-- ---- SOUND: as many places are held as the lists have, and all others are dead; so each place of the lists is held
pub parts_sound : (c : ℕ) (p : Parts) → HaveRoom c p → p.target ≤ c → lists_test c p ≡ true → held_test c p ≡ true → dead_test c p ≡ true → Holds c p
unfolding held_test
parts_sound c p room aim lists held dead =
    let a = lists_sound c p room lists in
    let d = dead_sound c p dead in
    let e : Exactly p.lookup (places_of c) (buckets_of c) (every c p) = test_exactly p.lookup (places_of c) (buckets_of c) (every c p) room.lookup (others_dead c p a d.free d.spare) (rw (every_count c p a) held) in
    record {
      small = room.small;
      target = aim;
      residents = a.residents;
      ghosts = a.ghosts;
      table = e.table;
      listed = λ i x h k. e.held x (slot_every c p i x h k);
      free = d.free;
      recorded = λ i x k. e.held (ghost_place i c x) (ghost_every c p i x k);
      spare = d.spare;
    }

-- ---- COMPLETE
module _ (c : ℕ) (p : Parts) (h : Holds c p) where
  pub lists_held : AreLists c p
  lists_held = record { residents = h.residents; ghosts = h.ghosts }

  pub lists_pass : lists_test c p ≡ true
  lists_pass = lists_complete c p lists_held

  pub dead_pass : dead_test c p ≡ true
  dead_pass = dead_complete c p (record { free = h.free; spare = h.spare })

  pub held_pass : held_test c p ≡ true
  unfolding held_test
  held_pass =
      let n = held_count p.lookup (places_of c) (buckets_of c) h.table (every c p) (others_dead c p lists_held h.free h.spare) (every_distinct c p h) (every_held c p h) in
      test_complete p.lookup (places_of c) (buckets_of c) (live_count p) (record { table = h.table; count = n ∙ every_count c p lists_held })
