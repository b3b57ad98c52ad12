-- The operations on a page of a ghost list. In order: a page is forgotten; the oldest page leaves; the lengths of the lists. Assumes nothing.
use mathlib.Core.Path.{◌≡◌, refl, sym, ap, ◌∙◌}
use mathlib.Core.List.{List}
use Prim.Native.Nat.{ℕ, ◌<◌}
use native.Mathlib.Omega.{arith}
use lib.ListN.{length, length-map}
use Rattle.rules.specs.State.{list, ghosts}
use Rattle.rules.specs.declared.Side.{Side}
use Rattle.cells.specs.Cells.{prev_of}
use Rattle.rings.specs.Members.{Mem}
use Rattle.residents.specs.Residents.{count_of as slot_count}
use Rattle.ghosts.specs.Ghosts.{count_of, links_of, live_of, forgotten, CanForget}
use Rattle.lookup.specs.Buckets.{places_of}
use Rattle.lookup.specs.Changes.{taken, CanTake}
use Rattle.area_state.specs.Parts.{ghosts_of, set_ghosts, set_lookup, ghost_place, ghost_of, resident_of, number_of, state_of}
use Rattle.area_state.specs.Changes.{forgot}
use Rattle.area_state.specs.States.{forgot_at}
use Rattle.area_state.proofs.Sides.{number_below}
use Rattle.area_state.proofs.HoldsAs.{named, slots_of, live_in, spare_in}
use Rattle.area_state.proofs.Pages.{live_below}
use Rattle.area_state.proofs.Lists.{list_is, ghosts_are}
use Rattle.area_state.proofs.Forgetting.{may_forget, may_take_ghost, forgot_becomes, oldest_live, forgot_oldest}
use Rattle.area.specs.Area.{residents_in, ghosts_in, lookup_in, parts_of, Fit, Became}
use Rattle.area.specs.Stored.{Stored, state_in, Left}
use Rattle.area.proofs.Storing.{left}
use Rattle.store.specs.Store.{HasGhost, HasOldest, dropped_at}
use Rattle.store.proofs.Steps.{ghosts_in_lem, lookup_after, fits_after, became_as, then_lookup}

-- ---- a cell that is live
module _ (c : ℕ) (w : List ℕ) (i : Side) (s : Stored c w) (g : ℕ) (k : Mem g (live_of (ghosts_of i (parts_of c w)) c)) where
  live_low : g < c
  live_low = live_below c (parts_of c w) (slots_of c (parts_of c w)) (live_in c (parts_of c w)) (spare_in c (parts_of c w)) (named c (parts_of c w) s.holds) i g k

  live_forget : Fit c w (CanForget (ghosts_in i c w) c g)
  live_forget = record { small = s.holds.small; size = s.size; can = rw (sym (ghosts_in_lem i c w)) (may_forget c (parts_of c w) s.holds i g k) }

  module _ (v : List ℕ) (b : Became c w v (set_ghosts i (forgotten c g (ghosts_in i c w)) (parts_of c w))) (y : ℕ) (q : y ≡ ghost_place i c g) where
    live_take : Fit c v (CanTake (lookup_in c v) (places_of c) y)
    live_take =
        fits_after c w v (set_ghosts i (forgotten c g (ghosts_in i c w)) (parts_of c w)) b (CanTake (lookup_in c v) (places_of c) y) s
        (rw (lookup_after c w v (set_ghosts i (forgotten c g (ghosts_in i c w)) (parts_of c w)) b, q) (may_take_ghost c (parts_of c w) s.holds i g k))

    live_became : (u : List ℕ) → Became c v u (set_lookup (taken (places_of c) y (lookup_in c v)) (parts_of c v)) → Became c w u (forgot i c g (parts_of c w))
    unfolding forgot
    live_became u d =
        became_as c w u (set_lookup (taken (places_of c) y (parts_of c w).lookup) (set_ghosts i (forgotten c g (ghosts_in i c w)) (parts_of c w)))
        (then_lookup c w v (set_ghosts i (forgotten c g (ghosts_in i c w)) (parts_of c w)) b u (taken (places_of c) y) d)
        (set_lookup (taken (places_of c) (ghost_place i c g) (parts_of c w).lookup) (set_ghosts i (forgotten c g (ghosts_of i (parts_of c w))) (parts_of c w)))
        (rw (q, ghosts_in_lem i c w) refl)

-- ---- a page is forgotten
module _ (c : ℕ) (w : List ℕ) (i : Side) (g x : ℕ) (t : HasGhost c w i g x) where
  pub ghost_low : g < c
  ghost_low = live_low c w i t.stored g t.member

  pub forget_fits : Fit c w (CanForget (ghosts_in i c w) c g)
  forget_fits = live_forget c w i t.stored g t.member

  module _ (v : List ℕ) (b : Became c w v (set_ghosts i (forgotten c g (ghosts_in i c w)) (parts_of c w))) (y : ℕ) (q : y ≡ ghost_place i c g) where
    pub forget_takes : Fit c v (CanTake (lookup_in c v) (places_of c) y)
    forget_takes = live_take c w i t.stored g t.member v b y q

    pub forget_left : (u : List ℕ) → Became c v u (set_lookup (taken (places_of c) y (lookup_in c v)) (parts_of c v)) → Left c w u (forgot_at i x (state_in c w))
    unfolding state_in
    forget_left u d =
        left c w u (forgot i c g (parts_of c w)) (forgot_at i x (state_of c (parts_of c w))) t.stored
        (live_became c w i t.stored g t.member v b y q u d)
        (rw t.page at (forgot_becomes c (parts_of c w) t.stored.holds i g t.member))

-- ---- the oldest leaves
module _ (c : ℕ) (w : List ℕ) (i : Side) (g : ℕ) (t : HasOldest c w i) (e : g ≡ prev_of (links_of (ghosts_in i c w)) c) where
  some_live : 0 < length (live_in c (parts_of c w) i)
  unfolding state_in
  some_live =
      let n : length (ghosts i (state_of c (parts_of c w)).lists) ≡ length (live_in c (parts_of c w) i) = ap length (ghosts_are i c (parts_of c w)) ∙ length-map (live_in c (parts_of c w) i) (ghost_of i c (parts_of c w)) in
      rw n at t.some

  is_oldest : g ≡ prev_of (links_of (ghosts_of i (parts_of c w))) c
  is_oldest = rw (ghosts_in_lem i c w) e

  is_live : Mem g (live_of (ghosts_of i (parts_of c w)) c)
  is_live = oldest_live c (parts_of c w) t.stored.holds i g some_live is_oldest

  pub oldest_low : g < c
  oldest_low = live_low c w i t.stored g is_live

  pub oldest_fits : Fit c w (CanForget (ghosts_in i c w) c g)
  oldest_fits = live_forget c w i t.stored g is_live

  module _ (v : List ℕ) (b : Became c w v (set_ghosts i (forgotten c g (ghosts_in i c w)) (parts_of c w))) (y : ℕ) (q : y ≡ ghost_place i c g) where
    pub oldest_takes : Fit c v (CanTake (lookup_in c v) (places_of c) y)
    oldest_takes = live_take c w i t.stored g is_live v b y q

    pub oldest_left : (u : List ℕ) → Became c v u (set_lookup (taken (places_of c) y (lookup_in c v)) (parts_of c v)) → Left c w u (dropped_at i (state_in c w))
    unfolding state_in dropped_at
    oldest_left u d =
        left c w u (forgot i c g (parts_of c w)) (dropped_at i (state_of c (parts_of c w))) t.stored
        (live_became c w i t.stored g is_live v b y q u d)
        (forgot_oldest c (parts_of c w) t.stored.holds i g some_live is_oldest)

-- ---- the lengths
module _ (c : ℕ) (w : List ℕ) (i : Side) (r : ℕ) (s : Stored c w) where
  pub listed_is_lem : r ≡ slot_count (residents_in c w) (number_of i) → r ≡ length (list i (state_in c w).lists)
  unfolding state_in parts_of
  listed_is_lem q =
      q
      ∙ s.holds.residents.counts (number_of i) (let l : number_of i < 2 = number_below i in omega arith)
      ∙ sym (ap length (list_is i c (parts_of c w)) ∙ length-map (slots_of c (parts_of c w) (number_of i)) (resident_of c (parts_of c w)))

  pub recorded_is : r ≡ count_of (ghosts_in i c w) → r ≡ length (ghosts i (state_in c w).lists)
  unfolding state_in
  recorded_is q =
      q
      ∙ ap count_of (sym (ghosts_in_lem i c w))
      ∙ (s.holds.ghosts i).count
      ∙ sym (ap length (ghosts_are i c (parts_of c w)) ∙ length-map (live_in c (parts_of c w) i) (ghost_of i c (parts_of c w)))
