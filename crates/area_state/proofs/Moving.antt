-- A resident comes to the front of T2, or goes to its end with its bit cleared. Assumes nothing.
use mathlib.Core.Path.{◌≡◌, refl, sym, ap, ◌∙◌}
use mathlib.Core.Bool.{false}
use mathlib.Core.Logic.{◌⊎◌, ⊎_elim}
use mathlib.Core.List.{List, [], ◌∷◌, ◌++◌, map}
use Prim.Native.Nat.{ℕ, ◌<◌}
use native.Mathlib.Omega.{arith}
use Rattle.rules.specs.State.{set_list, leaves, without as without_page}
use Rattle.rules.specs.declared.Side.{Side}
use Rattle.rules.specs.declared.Side.TheVariants.{First as first, Second as second}
use Rattle.rules.specs.Car.{Car, car, Resident, with_bit}
use Rattle.rings.specs.Members.{Mem, without}
use Rattle.rings.specs.Rings.{changed}
use Rattle.rings.proofs.Members.{mem_without}
use Rattle.residents.specs.Residents.{Residents}
use Rattle.residents.specs.Changes.{promoted, sent_back}
use Rattle.residents.proofs.Steps.{promote_residents, send_back_residents}
use Rattle.residents.proofs.Slots.{frame_promoted, bit_promoted, frame_sent_back, bit_sent_back, bit_cleared}
use Rattle.area_state.specs.Parts.{Parts, set_residents, Holds, resident_of, ghost_of, state_of}
use Rattle.area_state.specs.Changes.{to_front, to_end}
use Rattle.area_state.specs.States.{fronted_at, ended_at}
use Rattle.area_state.proofs.Maps.{map_same, map_append}
use Rattle.area_state.proofs.Sides.{changed_at}
use Rattle.area_state.proofs.HoldsAs.{HoldsAs, named, slots_of, live_in, spare_in, state_as, residents_as, ghosts_as, Becomes, reads_as, becomes, states_same}
use Rattle.area_state.proofs.Pages.{slot_below}
use Rattle.area_state.proofs.Reading.{resident_at_lem}
use Rattle.area_state.proofs.Lists.{resident_same, leaves_list}
use Rattle.area_state.proofs.Slots.{less, mem_moved, mem_snoc, fronted_lists, ended_lists, less_none, less_not, rearranged, list_number}

-- a resident leaves its list, and T2 becomes l: of a state of named lists
moved_as : (x c t : ℕ) (l : List Resident) (T : Side → List Resident) (B : Side → List ℕ) (f : List ℕ) → car (set_list second l (leaves x (state_as c t T B f).lists)) (state_as c t T B f).free ≡ state_as c t (changed_at second l (λ j. without_page x (T j))) B f
unfolding state_as
moved_as x c t l T B f = refl

module _ (c : ℕ) (p : Parts) (h : Holds c p) (i e : ℕ) (hi : i < 2) (k : Mem e (slots_of c p i)) where
  a : HoldsAs c p (slots_of c p) (live_in c p) (spare_in c p)
  a = named c p h

  low : e < c
  low = slot_below c p (slots_of c p) (live_in c p) (spare_in c p) a i e (omega arith) k

  -- the words v are the residents' once slot e has left its list and T2 has become xs, which is read as l
  module _ (v xs : List ℕ) (l : List Resident) (r : Residents v c (changed (less e (slots_of c p)) 1 xs)) (among : (y : ℕ) → Mem y xs → (y ≡ e) ⊎ Mem y (without e (slots_of c p 1)))
      (same : (y : ℕ) → y < c → (y ≡ e → ⊥) → resident_of c (set_residents v p) y ≡ resident_of c p y) (is : map (resident_of c (set_residents v p)) xs ≡ l) where
    M : ℕ → List ℕ
    M = changed (less e (slots_of c p)) 1 xs

    holds_now : HoldsAs c (set_residents v p) M (live_in c p) (spare_in c p)
    unfolding M
    holds_now =
        rearranged c p (slots_of c p) (live_in c p) (spare_in c p) a v M r
        (λ u y hu m. ⊎_elim (λ z. (i, hi, rw z.0 k)) (λ n. (u, hu, mem_without e y (slots_of c p u) n)) (mem_moved e 1 (slots_of c p) xs among u y m))
        (λ y m. ⊎_elim (λ z. absurd (let n : ⊥ = (let d : ◌≡◌ {A = ℕ} 2 1 = z.1 in omega arith) in n)) (λ n. mem_without e y (slots_of c p 2) n) (mem_moved e 1 (slots_of c p) xs among 2 y m))

    lists_now : (j : Side) → residents_as c (set_residents v p) M j ≡ changed_at second l (λ j. without_page (resident_of c p e).page (residents_as c p (slots_of c p) j)) j
    unfolding M changed
    lists_now first =
        map_same (resident_of c (set_residents v p)) (resident_of c p) (without e (slots_of c p 0)) (λ y m. same y (slot_below c p (slots_of c p) (live_in c p) (spare_in c p) a 0 y (omega arith) (mem_without e y (slots_of c p 0) m)) (less_not c p (slots_of c p) (live_in c p) (spare_in c p) a e 0 y (omega arith) m))
        ∙ sym (leaves_list c p (slots_of c p) (live_in c p) (spare_in c p) a i e hi k first)
    lists_now second = is

    free_now : M 2 ≡ slots_of c p 2
    unfolding M changed
    free_now = less_none c p (slots_of c p) (live_in c p) (spare_in c p) a i e 2 (omega arith) (omega arith) (omega arith) k

    moves : Becomes c (set_residents v p) (car (set_list second l (leaves (resident_of c p e).page (state_of c p).lists)) (state_of c p).free)
    unfolding ghost_of
    moves =
        becomes c (set_residents v p) M (live_in c p) (spare_in c p) holds_now (car (set_list second l (leaves (resident_of c p e).page (state_of c p).lists)) (state_of c p).free)
        (states_same c p.target p.target (residents_as c (set_residents v p) M) (changed_at second l (λ j. without_page (resident_of c p e).page (residents_as c p (slots_of c p) j))) (ghosts_as c p (live_in c p)) (ghosts_as c p (live_in c p)) (M 2) (slots_of c p 2)
        refl lists_now (λ j. refl) free_now
        ∙ sym (ap (λ (s : Car). car (set_list second l (leaves (resident_of c p e).page s.lists)) s.free) (reads_as c p (slots_of c p) (live_in c p) (spare_in c p) a) ∙ moved_as (resident_of c p e).page c p.target l (residents_as c p (slots_of c p)) (ghosts_as c p (live_in c p)) (slots_of c p 2)))

  -- the residents that stay in T2
  stay : (v : List ℕ) → ((y : ℕ) → y < c → (y ≡ e → ⊥) → resident_of c (set_residents v p) y ≡ resident_of c p y) → map (resident_of c (set_residents v p)) (without e (slots_of c p 1)) ≡ without_page (resident_of c p e).page (map (resident_of c p) (slots_of c p 1))
  stay v same =
      map_same (resident_of c (set_residents v p)) (resident_of c p) (without e (slots_of c p 1)) (λ y m. same y (slot_below c p (slots_of c p) (live_in c p) (spare_in c p) a 1 y (omega arith) (mem_without e y (slots_of c p 1) m)) (less_not c p (slots_of c p) (live_in c p) (spare_in c p) a e 1 y (omega arith) m))
      ∙ sym (leaves_list c p (slots_of c p) (live_in c p) (spare_in c p) a i e hi k second)

  -- TO THE FRONT
  promoted_same : (y : ℕ) → y < c → resident_of c (set_residents (promoted c e p.residents) p) y ≡ resident_of c p y
  promoted_same y hy =
      let n = list_number c p h i e hi k in
      resident_same c p (set_residents (promoted c e p.residents) p) y refl (frame_promoted p.residents c e i h.residents.room low hi n y hy) (bit_promoted p.residents c e i h.residents.room low hi n y hy)

  pub to_front_becomes : Becomes c (to_front c e p) (fronted_at e (state_of c p))
  unfolding to_front fronted_at state_of
  to_front_becomes =
      let v : List ℕ = promoted c e p.residents in
      rw (resident_at_lem c p i e hi k)
      (moves v (e ∷ without e (slots_of c p 1)) (resident_of c p e ∷ without_page (resident_of c p e).page (map (resident_of c p) (slots_of c p 1)))
      (fronted_lists c p (slots_of c p) (live_in c p) (spare_in c p) a i 1 e (omega arith) (omega arith) k v (promote_residents p.residents c (slots_of c p) h.residents i e hi k))
      (λ y m. m) (λ y hy n. promoted_same y hy)
      (rw (promoted_same e low, stay v (λ y hy n. promoted_same y hy)) refl))

  -- TO THE END
  sent_same : (y : ℕ) → y < c → (y ≡ e → ⊥) → resident_of c (set_residents (sent_back c e p.residents) p) y ≡ resident_of c p y
  sent_same y hy d =
      let n = list_number c p h i e hi k in
      resident_same c p (set_residents (sent_back c e p.residents) p) y refl (frame_sent_back p.residents c e i h.residents.room low hi n y hy) (bit_sent_back p.residents c e i h.residents.room low hi n y hy d)

  sent_here : resident_of c (set_residents (sent_back c e p.residents) p) e ≡ with_bit false (resident_of c p e)
  unfolding resident_of
  sent_here =
      let n = list_number c p h i e hi k in
      rw (frame_sent_back p.residents c e i h.residents.room low hi n e low, bit_cleared p.residents c e i h.residents.room low hi n) refl

  pub to_end_becomes : Becomes c (to_end c e p) (ended_at e (state_of c p))
  unfolding to_end ended_at state_of
  to_end_becomes =
      let v : List ℕ = sent_back c e p.residents in
      rw (resident_at_lem c p i e hi k)
      (moves v (without e (slots_of c p 1) ++ (e ∷ [])) (without_page (resident_of c p e).page (map (resident_of c p) (slots_of c p 1)) ++ (with_bit false (resident_of c p e) ∷ []))
      (ended_lists c p (slots_of c p) (live_in c p) (spare_in c p) a i 1 e (omega arith) (omega arith) k v (send_back_residents p.residents c (slots_of c p) h.residents i e hi k))
      (λ y m. mem_snoc e y (without e (slots_of c p 1)) m) sent_same
      (map_append (resident_of c (set_residents v p)) (without e (slots_of c p 1)) (e ∷ []) ∙ rw (stay v sent_same, sent_here) refl))
