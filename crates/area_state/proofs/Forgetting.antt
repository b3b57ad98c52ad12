-- A cell of a ghost list is forgotten: its page leaves that list. Assumes nothing.
use mathlib.Core.Path.{◌≡◌, refl, sym, ap, ◌∙◌}
use mathlib.Core.Logic.{⊎_elim}
use mathlib.Core.List.{List, ◌∷◌, map}
use Prim.Native.Nat.{ℕ, ◌<◌}
use native.Mathlib.Omega.{arith}
use lib.ListN.{length}
use Rattle.rules.specs.Lists.{leave, drop_last}
use Rattle.rules.specs.State.{ghosts, set_ghosts as set_ghosts_of}
use Rattle.rules.specs.declared.Side.{Side}
use Rattle.rules.specs.declared.Side.TheVariants.{First as first, Second as second}
use Rattle.rules.specs.Ghosts.{drop_oldest}
use Rattle.rules.specs.Car.{car, Resident}
use Rattle.cells.specs.Cells.{prev_of}
use Rattle.rings.specs.Members.{Mem, without, without_last}
use Rattle.rings.proofs.Members.{not_mem, mem_without, fresh_without}
use Rattle.rings.proofs.Reading.{last_member, last_out}
use Rattle.ghosts.specs.Ghosts.{Ghosts, forgotten, CanForget, links_of as ghost_links}
use Rattle.ghosts.proofs.Laws.{forget_ghosts}
use Rattle.lookup.specs.Buckets.{buckets_of, places_of}
use Rattle.lookup.specs.Lookup.{bucket_in}
use Rattle.lookup.specs.Changes.{CanTake, Taken}
use Rattle.lookup.proofs.Taking.{can_take, take_does}
use Rattle.area_state.specs.Parts.{Parts, ghosts_of, set_ghosts, ghost_place, HeldIn, DeadIn, Holds, ghost_of, state_of}
use Rattle.area_state.specs.Changes.{forgot}
use Rattle.area_state.specs.States.{forgot_at}
use Rattle.area_state.proofs.Maps.{map_same, leave_map, drop_last_map}
use Rattle.area_state.proofs.Sides.{other, each_side, changed_at, changed_at_here, changed_at_other, ghosts_here, ghosts_other, place_below, place_one, place_apart}
use Rattle.area_state.proofs.HoldsAs.{HoldsAs, named, slots_of, live_in, spare_in, state_as, residents_as, ghosts_as, Becomes, reads_as, becomes, states_same}
use Rattle.area_state.proofs.Pages.{slot_below, live_below, spare_below, live_distinct, slot_not_ghost, one_ghost}
use Rattle.area_state.proofs.Lists.{resident_same, residents_same, ghost_same, ghosts_are}

-- of a state of named lists
forgot_as : (i : Side) (x c t : ℕ) (T : Side → List Resident) (B : Side → List ℕ) (f : List ℕ) → forgot_at i x (state_as c t T B f) ≡ state_as c t T (changed_at i (leave x (B i)) B) f
unfolding forgot_at state_as
forgot_as first x c t T B f = refl
forgot_as second x c t T B f = refl

module _ (c : ℕ) (p : Parts) (L : ℕ → List ℕ) (live spare : Side → List ℕ) (a : HoldsAs c p L live spare) (i : Side) (g : ℕ) (k : Mem g (live i)) where
  y : ℕ
  y = ghost_place i c g

  low : g < c
  low = live_below c p L live spare a i g k

  q : Parts
  q = forgot i c g p

  took : Taken p.lookup q.lookup (places_of c) (buckets_of c) y
  unfolding q y forgot
  took = take_does p.lookup (places_of c) (buckets_of c) (bucket_in p.lookup (places_of c)) a.table (ghost_place i c g) (a.recorded i g k)

  live_now : Side → List ℕ
  live_now = changed_at i (without g (live i)) live

  spare_now : Side → List ℕ
  spare_now = changed_at i (g ∷ spare i) spare

  -- what holds of the list without g holds of it as it is now
  live_now_lem : (P : Side → List ℕ → Type 0) → P i (without g (live i)) → P (other i) (live (other i)) → (j : Side) → P j (live_now j)
  unfolding live_now
  live_now_lem P here there = each_side (λ j. P j (changed_at i (without g (live i)) live j)) i (rw (changed_at_here i (without g (live i)) live) here) (rw (changed_at_other i (without g (live i)) live) there)

  spare_now_lem : (P : Side → List ℕ → Type 0) → P i (g ∷ spare i) → P (other i) (spare (other i)) → (j : Side) → P j (spare_now j)
  unfolding spare_now
  spare_now_lem P here there = each_side (λ j. P j (changed_at i (g ∷ spare i) spare j)) i (rw (changed_at_here i (g ∷ spare i) spare) here) (rw (changed_at_other i (g ∷ spare i) spare) there)

  -- the cells that stay are not g
  stays : (x : ℕ) → Mem x (without g (live i)) → x ≡ g → ⊥
  stays x m z = not_mem g (without g (live i)) (fresh_without g (live i) (live_distinct c p L live spare a i)) (rw z at m)

  ghosts_now : (j : Side) → Ghosts (ghosts_of j q) c (live_now j) (spare_now j)
  unfolding q forgot live_now spare_now
  ghosts_now =
      each_side (λ j. Ghosts (ghosts_of j (set_ghosts i (forgotten c g (ghosts_of i p)) p)) c (changed_at i (without g (live i)) live j) (changed_at i (g ∷ spare i) spare j)) i
      (rw (ghosts_here i (forgotten c g (ghosts_of i p)) p, changed_at_here i (without g (live i)) live, changed_at_here i (g ∷ spare i) spare) (forget_ghosts (ghosts_of i p) c (live i) (spare i) (a.ghosts i) g k))
      (rw (ghosts_other i (forgotten c g (ghosts_of i p)) p, changed_at_other i (without g (live i)) live, changed_at_other i (g ∷ spare i) spare) (a.ghosts (other i)))

  holds_now : HoldsAs c q L live_now spare_now
  unfolding q y forgot
  holds_now =
      record {
        small = a.small;
        target = a.target;
        residents = a.residents;
        ghosts = ghosts_now;
        table = took.table;
        listed = λ u x h m. took.stays x (λ z. slot_not_ghost c p L live spare a u x i g (omega arith) m z) (a.listed u x h m);
        free = λ x m. let l : x < c = slot_below c p L live spare a 2 x (omega arith) m in took.dead x (omega arith) (a.free x m);
        recorded = live_now_lem (λ j xs. (x : ℕ) → Mem x xs → HeldIn c q (ghost_place j c x))
            (λ x m. took.stays (ghost_place i c x) (λ z. stays x m (place_one i c x g z)) (a.recorded i x (mem_without g x (live i) m)))
            (λ x m. took.stays (ghost_place (other i) c x) (λ z. place_apart i c g x low (live_below c p L live spare a (other i) x m) z) (a.recorded (other i) x m));
        spared = spare_now_lem (λ j xs. (x : ℕ) → Mem x xs → DeadIn c q (ghost_place j c x))
            (λ x m. ⊎_elim (λ z. rw z took.died) (λ n. took.dead (ghost_place i c x) (place_below i c x (spare_below c p L live spare a i x n)) (a.spared i x n)) m)
            (λ x m. took.dead (ghost_place (other i) c x) (place_below (other i) c x (spare_below c p L live spare a (other i) x m)) (a.spared (other i) x m));
      }

  -- the lists
  residents_now : (j : Side) → residents_as c q L j ≡ residents_as c p L j
  unfolding q forgot
  residents_now = residents_same c p q L (λ u x h m. let l : x < c = slot_below c p L live spare a u x (omega arith) m in resident_same c p q x (took.pages x (omega arith)) refl refl)

  lists_now : (j : Side) → ghosts_as c q live_now j ≡ changed_at i (leave (ghost_of i c p g) (ghosts_as c p live i)) (ghosts_as c p live) j
  unfolding live_now
  lists_now =
      each_side (λ j. ghosts_as c q (changed_at i (without g (live i)) live) j ≡ changed_at i (leave (ghost_of i c p g) (ghosts_as c p live i)) (ghosts_as c p live) j) i
      (rw (changed_at_here i (without g (live i)) live, changed_at_here i (leave (ghost_of i c p g) (ghosts_as c p live i)) (ghosts_as c p live))
      (map_same (ghost_of i c q) (ghost_of i c p) (without g (live i)) (λ x m. same i x (mem_without g x (live i) m))
      ∙ sym (leave_map (ghost_of i c p) (ghost_of i c p g) g refl (live i) (live_distinct c p L live spare a i) (λ x m z. one_ghost c p L live spare a i x g m k z))))
      (rw (changed_at_other i (without g (live i)) live, changed_at_other i (leave (ghost_of i c p g) (ghosts_as c p live i)) (ghosts_as c p live))
      (map_same (ghost_of (other i) c q) (ghost_of (other i) c p) (live (other i)) (λ x m. same (other i) x m)))
    where
      same : (j : Side) (x : ℕ) → Mem x (live j) → ghost_of j c q x ≡ ghost_of j c p x
      same j x m = ghost_same j c p q x (took.pages (ghost_place j c x) (place_below j c x (live_below c p L live spare a j x m)))

  pub forgets : Becomes c (forgot i c g p) (forgot_at i (ghost_of i c p g) (state_of c p))
  unfolding q forgot
  forgets =
      becomes c q L live_now spare_now holds_now (forgot_at i (ghost_of i c p g) (state_of c p))
      (states_same c p.target p.target (residents_as c q L) (residents_as c p L) (ghosts_as c q live_now) (changed_at i (leave (ghost_of i c p g) (ghosts_as c p live i)) (ghosts_as c p live)) (L 2) (L 2) refl residents_now lists_now refl
      ∙ sym (ap (forgot_at i (ghost_of i c p g)) (reads_as c p L live spare a) ∙ forgot_as i (ghost_of i c p g) c p.target (residents_as c p L) (ghosts_as c p live) (L 2)))

-- A CELL FORGOTTEN
module _ (c : ℕ) (p : Parts) (h : Holds c p) (i : Side) where
  module _ (g : ℕ) (k : Mem g (live_in c p i)) where
    pub may_forget : CanForget (ghosts_of i p) c g
    may_forget = record { ghosts = h.ghosts i; member = k }

    pub may_take_ghost : CanTake p.lookup (places_of c) (ghost_place i c g)
    may_take_ghost = can_take p.lookup (places_of c) (buckets_of c) (bucket_in p.lookup (places_of c)) h.table (ghost_place i c g) (h.recorded i g k)

    pub forgot_becomes : Becomes c (forgot i c g p) (forgot_at i (ghost_of i c p g) (state_of c p))
    forgot_becomes = forgets c p (slots_of c p) (live_in c p) (spare_in c p) (named c p h) i g k

  -- the oldest: it is dropped
  module _ (g : ℕ) (some : 0 < length (live_in c p i)) (oldest : g ≡ prev_of (ghost_links (ghosts_of i p)) c) where
    pub oldest_live : Mem g (live_in c p i)
    oldest_live = rw oldest (last_member (ghost_links (ghosts_of i p)) c c (live_in c p i) (h.ghosts i).list some)

    drops : leave (ghost_of i c p g) (map (ghost_of i c p) (live_in c p i)) ≡ drop_last (map (ghost_of i c p) (live_in c p i))
    drops =
        let a = named c p h in
        let rest : without g (live_in c p i) ≡ without_last (live_in c p i) = rw oldest (last_out (ghost_links (ghosts_of i p)) c c (live_in c p i) (h.ghosts i).list some) in
        leave_map (ghost_of i c p) (ghost_of i c p g) g refl (live_in c p i) (live_distinct c p (slots_of c p) (live_in c p) (spare_in c p) a i) (λ x m z. one_ghost c p (slots_of c p) (live_in c p) (spare_in c p) a i x g m oldest_live z)
        ∙ ap (map (ghost_of i c p)) rest
        ∙ sym (drop_last_map (ghost_of i c p) (live_in c p i))

    pub forgot_oldest : Becomes c (forgot i c g p) (car (drop_oldest i (state_of c p).lists) (state_of c p).free)
    unfolding forgot_at
    forgot_oldest =
        let b = forgot_becomes g oldest_live in
        let e : leave (ghost_of i c p g) (ghosts i (state_of c p).lists) ≡ drop_last (ghosts i (state_of c p).lists) = rw (ghosts_are i c p) drops in
        record { holds = b.holds; reads = b.reads ∙ ap (λ (l : List ℕ). car (set_ghosts_of i l (state_of c p).lists) (state_of c p).free) e }
