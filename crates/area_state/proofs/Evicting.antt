-- A resident is put out: it leaves, and its page is recorded in a ghost list. Assumes nothing.
use mathlib.Core.Path.{◌≡◌, refl, sym, ap, ◌∙◌}
use mathlib.Core.Bool.{true, false}
use mathlib.Core.Logic.{⊎_elim}
use mathlib.Core.List.{List, ◌∷◌, map}
use Prim.Native.Nat.{ℕ, ◌<◌, ◌≤◌}
use native.Mathlib.Omega.{arith}
use lib.ListN.{length, take}
use lib.Dec.{eqb}
use Rattle.rules.specs.State.{leaves, without as without_page}
use Rattle.rules.specs.declared.Side.{Side}
use Rattle.rules.specs.declared.Side.TheVariants.{First as first, Second as second}
use Rattle.rules.specs.Calls.{ghost}
use Rattle.rules.specs.Ghosts.{record_in}
use Rattle.rules.specs.Car.{Car, car, Resident}
use Rattle.rings.specs.Members.{Mem, without}
use Rattle.rings.proofs.Members.{mem_without}
use Rattle.ghosts.specs.Ghosts.{Ghosts, recorded, cell_of, spare_after, CanRecord}
use Rattle.ghosts.proofs.Recording.{record_cell_lem, record_ghosts}
use Rattle.lookup.specs.Buckets.{buckets_of, places_of}
use Rattle.lookup.specs.Lookup.{bucket_in}
use Rattle.lookup.specs.Changes.{CanTake, CanRename}
use Rattle.lookup.proofs.Taking.{can_take}
use Rattle.area_state.specs.Parts.{Parts, ghosts_of, set_ghosts, ghost_place, HeldIn, DeadIn, Holds, resident_of, ghost_of, state_of}
use Rattle.area_state.specs.Changes.{record_place_of, is_full, cleared_for, evicted}
use Rattle.area_state.specs.States.{evicted_at}
use Rattle.area_state.proofs.Maps.{map_same}
use Rattle.area_state.proofs.Sides.{other, each_side, changed_at, changed_at_here, changed_at_other, ghosts_here, ghosts_other, place_high, place_below, place_one, place_apart}
use Rattle.area_state.proofs.HoldsAs.{HoldsAs, named, slots_of, live_in, spare_in, state_as, residents_as, ghosts_as, Becomes, reads_as, becomes, states_same}
use Rattle.area_state.proofs.Pages.{slot_below, live_below, spare_below, slot_not_ghost}
use Rattle.area_state.proofs.Reading.{page_is, resident_at_lem}
use Rattle.area_state.proofs.Lists.{ghost_same}
use Rattle.area_state.proofs.Slots.{less_not}
use Rattle.area_state.proofs.Leaving.{freed_lists, mem_left, mem_free, left_residents, left_free, left_lists}
use Rattle.area_state.proofs.Cells.{kept_of, Gives, gives}
use Rattle.area_state.proofs.Handing.{Cleared, clears, Handed, hand_asks, hands}

-- of a state of named lists
evicted_as : (s : Side) (x e c t : ℕ) (T : Side → List Resident) (B : Side → List ℕ) (f : List ℕ) → car (record_in (ghost s) x (leaves x (state_as c t T B f).lists)) (e ∷ (state_as c t T B f).free) ≡ state_as c t (λ j. without_page x (T j)) (changed_at s (take c (x ∷ B s)) B) (e ∷ f)
unfolding state_as
evicted_as first x e c t T B f = refl
evicted_as second x e c t T B f = refl

-- slot e of list i goes; s is the side that it is recorded in
module _ (c : ℕ) (p : Parts) (h : Holds c p) (i e : ℕ) (hi : i < 2) (k : Mem e (slots_of c p i)) (s : Side) where
  a : HoldsAs c p (slots_of c p) (live_in c p) (spare_in c p)
  a = named c p h

  low : e < c
  low = slot_below c p (slots_of c p) (live_in c p) (spare_in c p) a i e (omega arith) k

  some : 0 < c
  some = let l : e < c = low in omega arith

  -- the cell, and its place
  cell : ℕ
  cell = cell_of (live_in c p s) (spare_in c p s)

  kept : List ℕ
  kept = kept_of (live_in c p s) (spare_in c p s)

  give : Gives c (live_in c p s) (spare_in c p s) cell kept
  unfolding cell kept
  give = gives (ghosts_of s p) c (live_in c p s) (spare_in c p s) some (h.ghosts s)

  y : ℕ
  y = ghost_place s c cell

  record_place_lem : record_place_of s c p ≡ y
  unfolding y cell record_place_of
  record_place_lem = ap (ghost_place s c) (record_cell_lem (ghosts_of s p) c (live_in c p s) (spare_in c p s) some (h.ghosts s))

  is_full_fact : is_full s c p ≡ eqb (length (live_in c p s)) c
  unfolding is_full
  is_full_fact = ap (λ (n : ℕ). eqb n c) (h.ghosts s).count

  pub full_held : is_full s c p ≡ true → HeldIn c p (record_place_of s c p)
  unfolding y
  full_held t = rw record_place_lem (h.recorded s cell (give.full (sym is_full_fact ∙ t)))

  pub room_dead : is_full s c p ≡ false → DeadIn c p (record_place_of s c p)
  unfolding y
  room_dead t = rw record_place_lem (h.spare s cell (give.room (sym is_full_fact ∙ t)))

  -- WHAT THE CODE ASKS
  pub may_record : CanRecord (ghosts_of s p) c
  may_record = record { some = some; ghosts = h.ghosts s }

  pub may_take_oldest : is_full s c p ≡ true → CanTake p.lookup (places_of c) (record_place_of s c p)
  may_take_oldest t = can_take p.lookup (places_of c) (buckets_of c) (bucket_in p.lookup (places_of c)) h.table (record_place_of s c p) (full_held t)

  clear : Cleared p.lookup (cleared_for (is_full s c p) (places_of c) (record_place_of s c p) p.lookup) (places_of c) (buckets_of c) (record_place_of s c p)
  clear = clears p.lookup (places_of c) (buckets_of c) (record_place_of s c p) (is_full s c p) h.table full_held room_dead

  not_place : e ≡ record_place_of s c p → ⊥
  unfolding y
  not_place z = slot_not_ghost c p (slots_of c p) (live_in c p) (spare_in c p) a i e s cell (omega arith) k (z ∙ record_place_lem)

  place_low : record_place_of s c p < places_of c
  unfolding y
  place_low = rw record_place_lem (place_below s c cell give.low)

  pub may_rename : CanRename (cleared_for (is_full s c p) (places_of c) (record_place_of s c p) p.lookup) (places_of c) e (record_place_of s c p)
  may_rename = hand_asks p.lookup (cleared_for (is_full s c p) (places_of c) (record_place_of s c p) p.lookup) (places_of c) (buckets_of c) e (record_place_of s c p) clear (h.listed i e hi k) not_place place_low

  -- THE PARTS AFTER IT
  q : Parts
  q = evicted s c e p

  handed : Handed p.lookup q.lookup (places_of c) (buckets_of c) e (record_place_of s c p)
  unfolding q evicted
  handed = hands p.lookup (cleared_for (is_full s c p) (places_of c) (record_place_of s c p) p.lookup) (places_of c) (buckets_of c) e (record_place_of s c p) clear (h.listed i e hi k) not_place place_low

  hand : Handed p.lookup q.lookup (places_of c) (buckets_of c) e y
  hand = rw record_place_lem at handed

  live_now : Side → List ℕ
  live_now = changed_at s (cell ∷ kept) (live_in c p)

  spare_now : Side → List ℕ
  spare_now = changed_at s (spare_after (spare_in c p s)) (spare_in c p)

  live_now_lem : (P : Side → List ℕ → Type 0) → P s (cell ∷ kept) → P (other s) (live_in c p (other s)) → (j : Side) → P j (live_now j)
  unfolding live_now
  live_now_lem P here there = each_side (λ j. P j (changed_at s (cell ∷ kept) (live_in c p) j)) s (rw (changed_at_here s (cell ∷ kept) (live_in c p)) here) (rw (changed_at_other s (cell ∷ kept) (live_in c p)) there)

  spare_now_lem : (P : Side → List ℕ → Type 0) → P s (spare_after (spare_in c p s)) → P (other s) (spare_in c p (other s)) → (j : Side) → P j (spare_now j)
  unfolding spare_now
  spare_now_lem P here there = each_side (λ j. P j (changed_at s (spare_after (spare_in c p s)) (spare_in c p) j)) s (rw (changed_at_here s (spare_after (spare_in c p s)) (spare_in c p)) here) (rw (changed_at_other s (spare_after (spare_in c p s)) (spare_in c p)) there)

  ghosts_now : (j : Side) → Ghosts (ghosts_of j q) c (live_now j) (spare_now j)
  unfolding q evicted live_now spare_now
  ghosts_now =
      each_side (λ j. Ghosts (ghosts_of j (set_ghosts s (recorded c (ghosts_of s p)) p)) c (changed_at s (cell ∷ kept) (live_in c p) j) (changed_at s (spare_after (spare_in c p s)) (spare_in c p) j)) s
      (rw (ghosts_here s (recorded c (ghosts_of s p)) p, changed_at_here s (cell ∷ kept) (live_in c p), changed_at_here s (spare_after (spare_in c p s)) (spare_in c p)) (rw give.after at (record_ghosts (ghosts_of s p) c (live_in c p s) (spare_in c p s) some (h.ghosts s))))
      (rw (ghosts_other s (recorded c (ghosts_of s p)) p, changed_at_other s (cell ∷ kept) (live_in c p), changed_at_other s (spare_after (spare_in c p s)) (spare_in c p)) (h.ghosts (other s)))

  -- places that are neither the slot's nor the cell's
  slot_off : (u z : ℕ) → u < 3 → Mem z (slots_of c p u) → z ≡ y → ⊥
  unfolding y
  slot_off u z hu m w = slot_not_ghost c p (slots_of c p) (live_in c p) (spare_in c p) a u z s cell hu m w

  ghost_off : (j : Side) (g : ℕ) → ghost_place j c g ≡ e → ⊥
  ghost_off j g z = let l : e < c = low in let n : c ≤ ghost_place j c g = place_high j c g in omega arith

  here_off : (g : ℕ) → (g ≡ cell → ⊥) → ghost_place s c g ≡ y → ⊥
  unfolding y
  here_off g n z = n (place_one s c g cell z)

  there_off : (g : ℕ) → g < c → ghost_place (other s) c g ≡ y → ⊥
  unfolding y
  there_off g l z = place_apart s c cell g give.low l z

  holds_now : HoldsAs c q (freed_lists e (slots_of c p)) live_now spare_now
  unfolding q evicted y
  holds_now =
      record {
        small = h.small;
        target = h.target;
        residents = left_residents c p (slots_of c p) (live_in c p) (spare_in c p) a i e hi k;
        ghosts = ghosts_now;
        table = hand.table;
        listed = λ u z hu m. let n : Mem z (without e (slots_of c p u)) = mem_left e (slots_of c p) u z hu m in let o = mem_without e z (slots_of c p u) n in hand.stays z (less_not c p (slots_of c p) (live_in c p) (spare_in c p) a e u z (omega arith) n) (slot_off u z (omega arith) o) (h.listed u z hu o);
        free = λ z m. ⊎_elim (λ w. rw w hand.died) (λ n. let o = mem_without e z (slots_of c p 2) n in let l : z < c = slot_below c p (slots_of c p) (live_in c p) (spare_in c p) a 2 z (omega arith) o in hand.dead z (omega arith) (slot_off 2 z (omega arith) o) (h.free z o)) (mem_free e (slots_of c p) z m);
        recorded = live_now_lem (λ j xs. (z : ℕ) → Mem z xs → HeldIn c q (ghost_place j c z))
            (λ z m. ⊎_elim (λ w. rw w hand.here) (λ n. hand.stays (ghost_place s c z) (ghost_off s z) (here_off z (give.not z n)) (h.recorded s z (give.was z n))) m)
            (λ z m. hand.stays (ghost_place (other s) c z) (ghost_off (other s) z) (there_off z (live_below c p (slots_of c p) (live_in c p) (spare_in c p) a (other s) z m)) (h.recorded (other s) z m));
        spared = spare_now_lem (λ j xs. (z : ℕ) → Mem z xs → DeadIn c q (ghost_place j c z))
            (λ z m. hand.dead (ghost_place s c z) (place_below s c z (spare_below c p (slots_of c p) (live_in c p) (spare_in c p) a s z (give.spares z m))) (here_off z (give.others z m)) (h.spare s z (give.spares z m)))
            (λ z m. let l = spare_below c p (slots_of c p) (live_in c p) (spare_in c p) a (other s) z m in hand.dead (ghost_place (other s) c z) (place_below (other s) c z l) (there_off z l) (h.spare (other s) z m));
      }

  -- THE STATE AFTER IT
  page_now : ghost_of s c q cell ≡ (resident_of c p e).page
  unfolding ghost_of y
  page_now = hand.page ∙ sym (page_is c p e)

  same_here : (g : ℕ) → Mem g kept → ghost_of s c q g ≡ ghost_of s c p g
  same_here g m = ghost_same s c p q g (hand.pages (ghost_place s c g) (place_below s c g (live_below c p (slots_of c p) (live_in c p) (spare_in c p) a s g (give.was g m))) (here_off g (give.not g m)))

  same_there : (g : ℕ) → Mem g (live_in c p (other s)) → ghost_of (other s) c q g ≡ ghost_of (other s) c p g
  same_there g m = let l = live_below c p (slots_of c p) (live_in c p) (spare_in c p) a (other s) g m in ghost_same (other s) c p q g (hand.pages (ghost_place (other s) c g) (place_below (other s) c g l) (there_off g l))

  B : Side → List ℕ
  B = changed_at s (take c ((resident_of c p e).page ∷ ghosts_as c p (live_in c p) s)) (ghosts_as c p (live_in c p))

  lists_now : (j : Side) → ghosts_as c q live_now j ≡ B j
  unfolding live_now B
  lists_now =
      each_side (λ j. ghosts_as c q (changed_at s (cell ∷ kept) (live_in c p)) j ≡ changed_at s (take c ((resident_of c p e).page ∷ ghosts_as c p (live_in c p) s)) (ghosts_as c p (live_in c p)) j) s
      (rw (changed_at_here s (cell ∷ kept) (live_in c p), changed_at_here s (take c ((resident_of c p e).page ∷ ghosts_as c p (live_in c p) s)) (ghosts_as c p (live_in c p)))
      (ap (λ (n : ℕ). n ∷ map (ghost_of s c q) kept) page_now ∙ ap (λ (l : List ℕ). (resident_of c p e).page ∷ l) (map_same (ghost_of s c q) (ghost_of s c p) kept same_here) ∙ sym (give.takes (resident_of c p e).page (ghost_of s c p))))
      (rw (changed_at_other s (cell ∷ kept) (live_in c p), changed_at_other s (take c ((resident_of c p e).page ∷ ghosts_as c p (live_in c p) s)) (ghosts_as c p (live_in c p)))
      (map_same (ghost_of (other s) c q) (ghost_of (other s) c p) (live_in c p (other s)) same_there))

  pub evicted_becomes : Becomes c (evicted s c e p) (evicted_at s e (state_of c p))
  unfolding q evicted evicted_at B y
  evicted_becomes =
      rw (resident_at_lem c p i e hi k)
      (becomes c q (freed_lists e (slots_of c p)) live_now spare_now holds_now (car (record_in (ghost s) (resident_of c p e).page (leaves (resident_of c p e).page (state_of c p).lists)) (e ∷ (state_of c p).free))
      (states_same c p.target p.target (residents_as c q (freed_lists e (slots_of c p))) (λ j. without_page (resident_of c p e).page (residents_as c p (slots_of c p) j)) (ghosts_as c q live_now) B (freed_lists e (slots_of c p) 2) (e ∷ slots_of c p 2)
      refl
      (left_lists c p (slots_of c p) (live_in c p) (spare_in c p) a i e hi k q refl (λ z l. hand.pages z (omega arith) (λ w. let n : c ≤ ghost_place s c cell = place_high s c cell in omega arith)))
      lists_now
      (left_free c p (slots_of c p) (live_in c p) (spare_in c p) a i e hi k)
      ∙ sym (ap (λ (t : Car). car (record_in (ghost s) (resident_of c p e).page (leaves (resident_of c p e).page t.lists)) (e ∷ t.free)) (reads_as c p (slots_of c p) (live_in c p) (spare_in c p) a) ∙ evicted_as s (resident_of c p e).page e c p.target (residents_as c p (slots_of c p)) (ghosts_as c p (live_in c p)) (slots_of c p 2))))
