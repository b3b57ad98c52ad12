-- A new resident enters T1 or T2 in the top free slot. Its page was held nowhere. In order: the top free slot; what the code asks; the parts and the state after it. Where it
-- comes to is said in Adding.antt. Assumes nothing.
use mathlib.Core.Path.{◌≡◌, refl, sym, ap, ◌∙◌, subst}
use mathlib.Core.Logic.{◌⊎◌, ⊎_elim}
use mathlib.Core.List.{List, [], ◌∷◌, ◌++◌, map}
use Prim.Native.Nat.{ℕ, ◌+◌, ◌<◌, ◌≤◌}
use native.Mathlib.Omega.{arith}
use native.Mathlib.Nat.{not-suc-le-zero}
use lib.ListN.{length, get_or, drop}
use lib.Dec.{eqb}
use Rattle.rules.specs.State.{list, set_list}
use Rattle.rules.specs.declared.Side.{Side}
use Rattle.rules.specs.declared.Side.TheVariants.{First as first, Second as second}
use Rattle.rules.specs.Car.{Car, car, Resident}
use Rattle.rings.specs.Members.{Mem, without}
use Rattle.rings.specs.Rings.{Ring, changed}
use Rattle.rings.proofs.Members.{mem_without, without_first, not_mem}
use Rattle.rings.proofs.Family.{changed_here, changed_other}
use Rattle.rings.proofs.Reading.{first_is, first_member}
use Rattle.residents.specs.Residents.{links_of, Residents, frame_of, bit_of}
use Rattle.residents.specs.Changes.{top_of, CanAdd}
use Rattle.residents.proofs.Words.{Same}
use Rattle.lookup.specs.Buckets.{buckets_of, places_of}
use Rattle.lookup.specs.Lookup.{bucket_in, find_of, look, none}
use Rattle.lookup.specs.Changes.{CanPut, Put}
use Rattle.lookup.proofs.Putting.{can_put, put_does}
use Rattle.lookup.proofs.Look.{look_absent}
use Rattle.area_state.specs.Parts.{Parts, set_residents, set_lookup, number_of, ghost_place, Holds, resident_of, state_of}
use Rattle.area_state.specs.Changes.{entered_lookup}
use Rattle.area_state.specs.States.{new_resident}
use Rattle.area_state.proofs.Maps.{map_same, map_append}
use Rattle.area_state.proofs.Sides.{other, each_side, changed_at, changed_at_here, changed_at_other, number_below, number_apart, place_high, place_below}
use Rattle.area_state.proofs.HoldsAs.{HoldsAs, named, slots_of, live_in, spare_in, state_as, residents_as, ghosts_as, Becomes, reads_as, becomes, states_same}
use Rattle.area_state.proofs.Pages.{slot_below, live_below, spare_below, slots_apart, free_not_held}
use Rattle.area_state.proofs.Lists.{resident_same, resident_is, ghosts_same, list_is}
use Rattle.area_state.proofs.Slots.{less, mem_moved, less_none, less_not}

-- of a state of named lists
entered_as : (s : Side) (c t : ℕ) (l : List Resident) (T : Side → List Resident) (B : Side → List ℕ) (f : List ℕ) → car (set_list s l (state_as c t T B f).lists) (drop 1 (state_as c t T B f).free) ≡ state_as c t (changed_at s l T) B (drop 1 f)
unfolding state_as
entered_as first c t l T B f = refl
entered_as second c t l T B f = refl

-- ---- the top free slot
top_first : (w : List ℕ) (c : ℕ) (xs : List ℕ) → Ring (links_of c w) c (c + 2) xs → 0 < length xs → get_or xs 0 0 ≡ top_of c w
unfolding top_of
top_first w c [] r h = absurd (not-suc-le-zero h)
top_first w c (x ∷ xs) r h = sym (first_is (links_of c w) c (c + 2) x xs r)

top_leaves : (e : ℕ) (xs : List ℕ) → 0 < length xs → get_or xs 0 0 ≡ e → without e xs ≡ drop 1 xs
top_leaves e [] h q = absurd (not-suc-le-zero h)
top_leaves e (x ∷ xs) h q = subst (λ v. without v (x ∷ xs) ≡ xs) q (without_first x xs)

-- the words v are the residents' once the top free slot, with the frame f and the bit b, has come to the list of side s, which then has the slots xs
pub record Adds (c : ℕ) (p : Parts) (s : Side) (f b : ℕ) (v xs : List ℕ) : Type 0 where
  pub residents : Residents v c (changed (less (top_of c p.residents) (slots_of c p)) (number_of s) xs)
  pub among : (z : ℕ) → Mem z xs → (z ≡ top_of c p.residents) ⊎ Mem z (without (top_of c p.residents) (slots_of c p (number_of s)))
  pub same : (z : ℕ) → z < c → (z ≡ top_of c p.residents → ⊥) → Same p.residents v c z
  pub frame : frame_of v (top_of c p.residents) ≡ f
  pub bit : bit_of v c (top_of c p.residents) ≡ b

module _ (c : ℕ) (p : Parts) (h : Holds c p) (some : 0 < length (slots_of c p 2)) where
  a : HoldsAs c p (slots_of c p) (live_in c p) (spare_in c p)
  a = named c p h

  e : ℕ
  e = top_of c p.residents

  pub may_add : (j : ℕ) → j < 2 → CanAdd p.residents c j
  may_add j hj = record { residents = h.residents; side = hj; room = some }

  pub top_free : Mem (top_of c p.residents) (slots_of c p 2)
  unfolding top_of
  top_free = first_member (links_of c p.residents) c (c + 2) (slots_of c p 2) (h.residents.rings 2 (omega arith)) some

  pub top_below : top_of c p.residents < c
  top_below = slot_below c p (slots_of c p) (live_in c p) (spare_in c p) a 2 (top_of c p.residents) (omega arith) top_free

  pub top_is : get_or (state_of c p).free 0 0 ≡ top_of c p.residents
  unfolding state_of
  top_is = top_first p.residents c (slots_of c p 2) (h.residents.rings 2 (omega arith)) some

  in_places : top_of c p.residents < places_of c
  in_places = let l : top_of c p.residents < c = top_below in omega arith

  pub may_put : (x : ℕ) → CanPut p.lookup (places_of c) (find_of p.lookup (places_of c) (buckets_of c) x) (top_of c p.residents)
  may_put x = can_put p.lookup (places_of c) (buckets_of c) (bucket_in p.lookup (places_of c)) h.table (find_of p.lookup (places_of c) (buckets_of c) x) (top_of c p.residents) x refl in_places

  -- the page x, held nowhere, enters the list of side s
  module _ (x : ℕ) (nowhere : look p.lookup (places_of c) (buckets_of c) x ≡ none) (s : Side) (f b : ℕ) (v xs : List ℕ) (add : Adds c p s f b v xs) where
    q : Parts
    q = set_lookup (entered_lookup c x p) (set_residents v p)

    M : ℕ → List ℕ
    M = changed (less (top_of c p.residents) (slots_of c p)) (number_of s) xs

    put : Put p.lookup q.lookup (places_of c) (buckets_of c) e x
    unfolding q e entered_lookup
    put =
        put_does p.lookup (places_of c) (buckets_of c) (bucket_in p.lookup (places_of c)) h.table (find_of p.lookup (places_of c) (buckets_of c) x) (top_of c p.residents) x refl in_places
        (free_not_held c p (slots_of c p) (live_in c p) (spare_in c p) a (top_of c p.residents) top_free)
        (look_absent p.lookup (places_of c) (buckets_of c) h.table x nowhere)

    moved : (u z : ℕ) → Mem z (M u) → ((z ≡ e) × (u ≡ number_of s)) ⊎ Mem z (without e (slots_of c p u))
    unfolding M e
    moved u z m = mem_moved (top_of c p.residents) (number_of s) (slots_of c p) xs add.among u z m

    off : (i : Side) (g : ℕ) → ghost_place i c g ≡ e → ⊥
    unfolding e
    off i g w = let l : top_of c p.residents < c = top_below in let n : c ≤ ghost_place i c g = place_high i c g in omega arith

    holds_now : HoldsAs c q M (live_in c p) (spare_in c p)
    unfolding q M
    holds_now =
        record {
          small = h.small;
          target = h.target;
          residents = add.residents;
          ghosts = h.ghosts;
          table = put.table;
          listed = λ u z hu m. ⊎_elim (λ w. rw w.0 put.here) (λ n. put.stays z (h.listed u z hu (mem_without e z (slots_of c p u) n))) (moved u z m);
          free = λ z m. ⊎_elim (λ w. absurd (let n : 2 ≡ number_of s = w.1 in let l : number_of s < 2 = number_below s in let b : ⊥ = omega arith in b)) (λ n. let o = mem_without e z (slots_of c p 2) n in let l : z < c = slot_below c p (slots_of c p) (live_in c p) (spare_in c p) a 2 z (omega arith) o in put.dead z (omega arith) (less_not c p (slots_of c p) (live_in c p) (spare_in c p) a e 2 z (omega arith) n) (h.free z o)) (moved 2 z m);
          recorded = λ i g m. put.stays (ghost_place i c g) (h.recorded i g m);
          spared = λ i g m. put.dead (ghost_place i c g) (place_below i c g (spare_below c p (slots_of c p) (live_in c p) (spare_in c p) a i g m)) (off i g) (h.spare i g m);
        }

    -- who was resident is as before; the new one is
    entered_same : (z : ℕ) → z < c → (z ≡ top_of c p.residents → ⊥) → resident_of c q z ≡ resident_of c p z
    unfolding q e
    entered_same z l n = let t = add.same z l n in resident_same c p q z (put.pages z (omega arith) n) t.frame t.bit

    entered_here : resident_of c q (top_of c p.residents) ≡ new_resident x f (eqb b 1) (state_of c p)
    unfolding q e new_resident
    entered_here = rw top_is (resident_is c q (top_of c p.residents) x f b put.page add.frame add.bit)

    -- the residents of a list that the slot did not stand in
    entered_old : (j : Side) → without (top_of c p.residents) (slots_of c p (number_of j)) ≡ slots_of c p (number_of j)
    entered_old j = let l : number_of j < 2 = number_below j in less_none c p (slots_of c p) (live_in c p) (spare_in c p) a 2 (top_of c p.residents) (number_of j) (omega arith) (omega arith) (omega arith) top_free

    entered_others : (j : Side) → map (resident_of c q) (slots_of c p (number_of j)) ≡ map (resident_of c p) (slots_of c p (number_of j))
    unfolding q
    entered_others j =
        let l : number_of j < 2 = number_below j in
        map_same (resident_of c q) (resident_of c p) (slots_of c p (number_of j))
        (λ z m. entered_same z (slot_below c p (slots_of c p) (live_in c p) (spare_in c p) a (number_of j) z (omega arith) m)
        (λ w. not_mem z (slots_of c p (number_of j)) (rw w (slots_apart c p (slots_of c p) (live_in c p) (spare_in c p) a 2 (number_of j) (omega arith) (omega arith) (omega arith) (top_of c p.residents) top_free)) m))

    -- the list, with the new resident at its front or at its end
    pub front_list : map (resident_of c (set_lookup (entered_lookup c x p) (set_residents v p))) (top_of c p.residents ∷ without (top_of c p.residents) (slots_of c p (number_of s))) ≡ new_resident x f (eqb b 1) (state_of c p) ∷ list s (state_of c p).lists
    unfolding q
    front_list = rw (entered_old s, list_is s c p, entered_here, entered_others s) refl

    pub end_list : map (resident_of c (set_lookup (entered_lookup c x p) (set_residents v p))) (without (top_of c p.residents) (slots_of c p (number_of s)) ++ (top_of c p.residents ∷ [])) ≡ list s (state_of c p).lists ++ (new_resident x f (eqb b 1) (state_of c p) ∷ [])
    unfolding q
    end_list = rw (entered_old s, list_is s c p, map_append (resident_of c q) (slots_of c p (number_of s)) (top_of c p.residents ∷ []), entered_here, entered_others s) refl

    lists_now : (l : List Resident) → map (resident_of c q) xs ≡ l → (j : Side) → residents_as c q M j ≡ changed_at s l (residents_as c p (slots_of c p)) j
    unfolding M
    lists_now l is =
        each_side (λ j. residents_as c q M j ≡ changed_at s l (residents_as c p (slots_of c p)) j) s
        (rw (changed_at_here s l (residents_as c p (slots_of c p)), changed_here (less (top_of c p.residents) (slots_of c p)) (number_of s) xs) is)
        (rw (changed_at_other s l (residents_as c p (slots_of c p)), changed_other (less (top_of c p.residents) (slots_of c p)) (number_of s) xs (number_of (other s)) (number_apart s), entered_old (other s)) (entered_others (other s)))

    free_now : M 2 ≡ drop 1 (slots_of c p 2)
    unfolding M
    free_now =
        let n : number_of s < 2 = number_below s in
        changed_other (less (top_of c p.residents) (slots_of c p)) (number_of s) xs 2 (omega arith)
        ∙ top_leaves (top_of c p.residents) (slots_of c p 2) some (top_first p.residents c (slots_of c p 2) (h.residents.rings 2 (omega arith)) some)

    pub enters : (l : List Resident) → map (resident_of c (set_lookup (entered_lookup c x p) (set_residents v p))) xs ≡ l → Becomes c (set_lookup (entered_lookup c x p) (set_residents v p)) (car (set_list s l (state_of c p).lists) (drop 1 (state_of c p).free))
    unfolding q
    enters l is =
        becomes c q M (live_in c p) (spare_in c p) holds_now (car (set_list s l (state_of c p).lists) (drop 1 (state_of c p).free))
        (states_same c p.target p.target (residents_as c q M) (changed_at s l (residents_as c p (slots_of c p))) (ghosts_as c q (live_in c p)) (ghosts_as c p (live_in c p)) (M 2) (drop 1 (slots_of c p 2))
        refl
        (lists_now l is)
        (ghosts_same c p q (live_in c p) (λ i g m. put.pages (ghost_place i c g) (place_below i c g (live_below c p (slots_of c p) (live_in c p) (spare_in c p) a i g m)) (off i g)))
        free_now
        ∙ sym (ap (λ (t : Car). car (set_list s l t.lists) (drop 1 t.free)) (reads_as c p (slots_of c p) (live_in c p) (spare_in c p) a) ∙ entered_as s c p.target l (residents_as c p (slots_of c p)) (ghosts_as c p (live_in c p)) (slots_of c p 2)))
