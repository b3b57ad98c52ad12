-- Lists of slots after a resident has moved. In order: a slot that leaves every list and comes to one; parts of which the residents alone are others; what the code asks of a slot. Assumes nothing.
use mathlib.Core.Path.{◌≡◌, sym, ap, ◌∙◌}
use mathlib.Core.Logic.{◌⊎◌, inl, inr, ⊎_elim}
use mathlib.Core.List.{List, [], ◌∷◌, ◌++◌}
use Prim.Native.Nat.{ℕ, ◌<◌}
use native.Mathlib.Omega.{arith}
use Rattle.rules.specs.declared.Side.{Side}
use Rattle.rings.specs.Members.{Mem, without}
use Rattle.rings.specs.Rings.{changed, out_of, fronted_in, ended_in}
use Rattle.rings.proofs.Members.{same_or_other, not_mem, fresh_without}
use Rattle.rings.proofs.Family.{changed_here, changed_other}
use Rattle.residents.specs.Residents.{list_of, Residents}
use Rattle.residents.specs.Changes.{IsResident, HasSlot}
use Rattle.residents.proofs.Changes.{residents_same}
use Rattle.area_state.specs.Parts.{Parts, set_residents, Holds}
use Rattle.area_state.proofs.Counts.{without_absent}
use Rattle.area_state.proofs.HoldsAs.{HoldsAs, named, slots_of, live_in, spare_in}
use Rattle.area_state.proofs.Pages.{slot_below, slots_apart, slots_distinct, out_of_lem}

-- ---- every list without the slot e
abbrev pub less : ℕ → (ℕ → List ℕ) → ℕ → List ℕ
less e L u = without e (L u)

changed_same : (A B : ℕ → List ℕ) (j : ℕ) (xs ys : List ℕ) → xs ≡ ys → ((u : ℕ) → u < 3 → A u ≡ B u) → (u : ℕ) → u < 3 → changed A j xs u ≡ changed B j ys u
changed_same A B j xs ys q h u hu =
    ⊎_elim
    (λ z. ap (changed A j xs) z ∙ changed_here A j xs ∙ q ∙ sym (changed_here B j ys) ∙ sym (ap (changed B j ys) z))
    (λ n. changed_other A j xs u n ∙ h u hu ∙ sym (changed_other B j ys u n))
    (same_or_other u j)

-- x stands in a list once e has left every list, and has come to list j: it is e, or stood there
pub mem_moved : (e j : ℕ) (L : ℕ → List ℕ) (xs : List ℕ) → ((x : ℕ) → Mem x xs → (x ≡ e) ⊎ Mem x (without e (L j))) → (u x : ℕ) → Mem x (changed (less e L) j xs u) → ((x ≡ e) × (u ≡ j)) ⊎ Mem x (without e (L u))
mem_moved e j L xs h u x k =
    ⊎_elim
    (λ q. ⊎_elim (λ z. inl (z, q)) (λ m. inr (rw q m)) (h x (rw (changed_here (less e L) j xs) at (rw q at k))))
    (λ n. inr (rw (changed_other (less e L) j xs u n) at k))
    (same_or_other u j)

pub mem_snoc : (e x : ℕ) (xs : List ℕ) → Mem x (xs ++ (e ∷ [])) → (x ≡ e) ⊎ Mem x xs
mem_snoc e x [] (inl q) = inl q
mem_snoc e x (y ∷ xs) (inl q) = inr (inl q)
mem_snoc e x (y ∷ xs) (inr k) = ⊎_elim (λ q. inl q) (λ m. inr (inr m)) (mem_snoc e x xs k)
mem_snoc e x [] (inr k) = elim k [ ]

module _ (c : ℕ) (p : Parts) (L : ℕ → List ℕ) (live spare : Side → List ℕ) (a : HoldsAs c p L live spare) where
  -- e leaves list i and comes to list j, to its front or to its end
  module _ (i j e : ℕ) (hi : i < 3) (hj : j < 3) (k : Mem e (L i)) (v : List ℕ) where
    pub fronted_lists : Residents v c (fronted_in i j e L) → Residents v c (changed (less e L) j (e ∷ without e (L j)))
    fronted_lists r = residents_same v c (fronted_in i j e L) (changed (less e L) j (e ∷ without e (L j))) (changed_same (out_of i e L) (less e L) j (e ∷ out_of i e L j) (e ∷ without e (L j)) (ap (λ (l : List ℕ). e ∷ l) (out_of_lem c p L live spare a i e j hi hj k)) (λ u hu. out_of_lem c p L live spare a i e u hi hu k)) r

    pub ended_lists : Residents v c (ended_in i j e L) → Residents v c (changed (less e L) j (without e (L j) ++ (e ∷ [])))
    ended_lists r = residents_same v c (ended_in i j e L) (changed (less e L) j (without e (L j) ++ (e ∷ []))) (changed_same (out_of i e L) (less e L) j (out_of i e L j ++ (e ∷ [])) (without e (L j) ++ (e ∷ [])) (ap (λ (l : List ℕ). l ++ (e ∷ [])) (out_of_lem c p L live spare a i e j hi hj k)) (λ u hu. out_of_lem c p L live spare a i e u hi hu k)) r

  -- a list that e does not stand in
  pub less_none : (i e u : ℕ) → i < 3 → u < 3 → (i ≡ u → ⊥) → Mem e (L i) → without e (L u) ≡ L u
  less_none i e u hi hu n k = without_absent e (L u) (slots_apart c p L live spare a i u hi hu n e k)

  -- who stays is not e
  pub less_not : (e u x : ℕ) → u < 3 → Mem x (without e (L u)) → x ≡ e → ⊥
  less_not e u x hu k q = not_mem e (without e (L u)) (fresh_without e (L u) (slots_distinct c p L live spare a u hu)) (rw q at k)

  -- other residents, of the same slots
  pub rearranged : (v : List ℕ) (M : ℕ → List ℕ) → Residents v c M → ((u x : ℕ) → u < 2 → Mem x (M u) → (w : ℕ) × (w < 2) × Mem x (L w)) → ((x : ℕ) → Mem x (M 2) → Mem x (L 2)) → HoldsAs c (set_residents v p) M live spare
  rearranged v M r among free =
      record {
        small = a.small;
        target = a.target;
        residents = r;
        ghosts = a.ghosts;
        table = a.table;
        listed = λ u x h m. let s = among u x h m in a.listed s.0 x s.1 s.2;
        free = λ x m. a.free x (free x m);
        recorded = a.recorded;
        spared = a.spared;
      }

-- ---- WHAT THE CODE OF THE RESIDENTS ASKS of a slot of T1 or T2
module _ (c : ℕ) (p : Parts) (h : Holds c p) (i e : ℕ) (hi : i < 2) (k : Mem e (slots_of c p i)) where
  pub list_number : list_of p.residents c e ≡ i
  list_number = (h.residents.slots i e hi k).list

  pub is_resident : IsResident p.residents c e
  is_resident = record { residents = h.residents; side = rw list_number hi; member = rw list_number k }

  pub has_slot : HasSlot p.residents c e
  has_slot = record { room = h.residents.room; slot = slot_below c p (slots_of c p) (live_in c p) (spare_in c p) (named c p h) i e (omega arith) k }
