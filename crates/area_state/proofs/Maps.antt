-- Lists that are read off lists of cells: what the rules do to them by page is what is done to the cells by number. In order: any list; residents; numbers.
-- Assumes nothing.
use mathlib.Core.Path.{◌≡◌, refl, sym, ap, ◌∙◌}
use mathlib.Core.Logic.{◌⊎◌, inl, inr}
use mathlib.Core.Option.{some, none}
use mathlib.Core.List.{List, [], ◌∷◌, ◌++◌, map}
use Prim.Native.Nat.{ℕ, zero, suc}
use native.Mathlib.Omega.{arith}
use lib.ListN.{length, take}
use borrow.Author.Tests.{eq-eqb, ne_eqb}
use Rattle.rules.specs.Lists.{leave, drop_last, last}
use Rattle.rules.specs.State.{Entry, found, changed, without as without_page}
use Rattle.rules.specs.Car.{Resident}
use Rattle.rings.specs.Members.{Mem, Distinct, without, last_of, without_last}
use Rattle.rings.proofs.Members.{same_or_other}
use Rattle.area_state.specs.States.{at_slot}
use Rattle.area_state.proofs.Counts.{without_absent}

-- ---- any list
module _ {A : Type 0} where
  pub map_same : (f g : ℕ → A) (xs : List ℕ) → ((x : ℕ) → Mem x xs → f x ≡ g x) → map f xs ≡ map g xs
  map_same f g [] h = refl
  map_same f g (x ∷ xs) h = rw (h x (inl refl), map_same f g xs (λ y k. h y (inr k))) refl

  pub map_append : (f : ℕ → A) (xs ys : List ℕ) → map f (xs ++ ys) ≡ map f xs ++ map f ys
  map_append f [] ys = refl
  map_append f (x ∷ xs) ys = ap (λ (l : List A). f x ∷ l) (map_append f xs ys)

  pub drop_last_map : (f : ℕ → A) (xs : List ℕ) → drop_last (map f xs) ≡ map f (without_last xs)
  drop_last_map f [] = refl
  drop_last_map f (x ∷ []) = refl
  drop_last_map f (x ∷ y ∷ xs) = ap (λ (l : List A). f x ∷ l) (drop_last_map f (y ∷ xs))

  pub last_map : (f : ℕ → A) (x : ℕ) (xs : List ℕ) → last (map f (x ∷ xs)) ≡ some (f (last_of x xs))
  last_map f x [] = refl
  last_map f x (y ∷ xs) = last_map f y xs

  -- all but the last
  pub take_drop_last : (n : ℕ) (l : List A) → length l ≡ suc n → take n l ≡ drop_last l
  take_drop_last zero (x ∷ []) q = refl
  take_drop_last zero [] q = absurd (let z : ⊥ = omega arith in z)
  take_drop_last zero (x ∷ y ∷ l) q = absurd (let z : ⊥ = omega arith in z)
  take_drop_last (suc n) [] q = absurd (let z : ⊥ = omega arith in z)
  take_drop_last (suc n) (x ∷ []) q = absurd (let z : ⊥ = omega arith in z)
  take_drop_last (suc n) (x ∷ y ∷ l) q = ap (λ (m : List A). x ∷ m) (take_drop_last n (y ∷ l) (omega arith))

-- ---- residents: p is the page of the cell e, and of no other of xs
module _ {X : Type 0} (f : ℕ → Entry X) (p e : ℕ) (is : (f e).page ≡ p) where
  pub without_map : (xs : List ℕ) → Distinct xs → ((x : ℕ) → Mem x xs → (f x).page ≡ p → x ≡ e) → without_page p (map f xs) ≡ map f (without e xs)
  without_map [] d u = refl
  without_map (x ∷ xs) d u = go (same_or_other x e) (without_map xs d.1 (λ y k. u y (inr k)))
    where
      go : (x ≡ e) ⊎ (x ≡ e → ⊥) → without_page p (map f xs) ≡ map f (without e xs) → without_page p (map f (x ∷ xs)) ≡ map f (without e (x ∷ xs))
      go (inl q) ih = rw (eq-eqb x e q, eq-eqb p (f x).page (sym is ∙ ap (λ (y : ℕ). (f y).page) (sym q))) (ih ∙ ap (map f) (without_absent e xs (rw (sym q) d.0)))
      go (inr n) ih = rw (ne_eqb x e n, ne_eqb p (f x).page (λ z. n (u x (inl refl) (sym z)))) (ap (λ (l : List (Entry X)). f x ∷ l) ih)

  -- h is f with the cell e changed by g
  pub changed_map : (g : Entry X → Entry X) (h : ℕ → Entry X) (xs : List ℕ) → h e ≡ g (f e) → ((x : ℕ) → Mem x xs → (x ≡ e → ⊥) → h x ≡ f x) → ((x : ℕ) → Mem x xs → (f x).page ≡ p → x ≡ e)
      → changed p g (map f xs) ≡ map h xs
  changed_map g h [] here other u = refl
  changed_map g h (x ∷ xs) here other u = go (same_or_other x e) (changed_map g h xs here (λ y k. other y (inr k)) (λ y k. u y (inr k)))
    where
      go : (x ≡ e) ⊎ (x ≡ e → ⊥) → changed p g (map f xs) ≡ map h xs → changed p g (map f (x ∷ xs)) ≡ map h (x ∷ xs)
      go (inl q) ih = rw (eq-eqb p (f x).page (sym is ∙ ap (λ (y : ℕ). (f y).page) (sym q)), ih, q) (ap (λ (y : Entry X). y ∷ map h xs) (sym here))
      go (inr n) ih = rw (ne_eqb p (f x).page (λ z. n (u x (inl refl) (sym z))), ih) (ap (λ (y : Entry X). y ∷ map h xs) (sym (other x (inl refl) n)))

  pub found_map : (xs : List ℕ) → Mem e xs → ((x : ℕ) → Mem x xs → (f x).page ≡ p → x ≡ e) → found p (map f xs) ≡ some (f e)
  found_map [] m u = elim m [ ]
  found_map (x ∷ xs) m u = go (same_or_other x e) m (λ k. found_map xs k (λ y j. u y (inr j)))
    where
      go : (x ≡ e) ⊎ (x ≡ e → ⊥) → Mem e (x ∷ xs) → (Mem e xs → found p (map f xs) ≡ some (f e)) → found p (map f (x ∷ xs)) ≡ some (f e)
      go (inl q) m ih = rw (eq-eqb p (f x).page (sym is ∙ ap (λ (y : ℕ). (f y).page) (sym q))) (ap (λ (y : ℕ). some (f y)) q)
      go (inr n) (inl q) ih = absurd (n (sym q))
      go (inr n) (inr k) ih = rw (ne_eqb p (f x).page (λ z. n (u x (inl refl) (sym z)))) (ih k)

pub found_none_map : {X : Type 0} (f : ℕ → Entry X) (p : ℕ) (xs : List ℕ) → ((x : ℕ) → Mem x xs → (f x).page ≡ p → ⊥) → found p (map f xs) ≡ none
found_none_map f p [] n = refl
found_none_map f p (x ∷ xs) n = rw (ne_eqb p (f x).page (λ q. n x (inl refl) (sym q))) (found_none_map f p xs (λ y k. n y (inr k)))

-- the resident of a slot, where each stands for its own
pub at_slot_map : (f : ℕ → Resident) (k : ℕ) (xs : List ℕ) → ((x : ℕ) → (f x).more.slot ≡ x) → Mem k xs → at_slot k (map f xs) ≡ f k
at_slot_map f k [] own m = elim m [ ]
at_slot_map f k (x ∷ xs) own m = go (same_or_other x k) m (λ j. at_slot_map f k xs own j)
  where
    go : (x ≡ k) ⊎ (x ≡ k → ⊥) → Mem k (x ∷ xs) → (Mem k xs → at_slot k (map f xs) ≡ f k) → at_slot k (map f (x ∷ xs)) ≡ f k
    go (inl q) m ih = rw (eq-eqb k (f x).more.slot (sym q ∙ sym (own x))) (ap f q)
    go (inr n) (inl q) ih = absurd (n (sym q))
    go (inr n) (inr j) ih = rw (ne_eqb k (f x).more.slot (λ z. n (sym (own x) ∙ sym z))) (ih j)

-- ---- numbers
pub leave_map : (f : ℕ → ℕ) (p e : ℕ) → f e ≡ p → (xs : List ℕ) → Distinct xs → ((x : ℕ) → Mem x xs → f x ≡ p → x ≡ e) → leave p (map f xs) ≡ map f (without e xs)
leave_map f p e is [] d u = refl
leave_map f p e is (x ∷ xs) d u = go (same_or_other x e) (leave_map f p e is xs d.1 (λ y k. u y (inr k)))
  where
    go : (x ≡ e) ⊎ (x ≡ e → ⊥) → leave p (map f xs) ≡ map f (without e xs) → leave p (map f (x ∷ xs)) ≡ map f (without e (x ∷ xs))
    go (inl q) ih = rw (eq-eqb x e q, eq-eqb p (f x) (sym is ∙ ap f (sym q))) (ih ∙ ap (map f) (without_absent e xs (rw (sym q) d.0)))
    go (inr n) ih = rw (ne_eqb x e n, ne_eqb p (f x) (λ z. n (u x (inl refl) (sym z)))) (ap (λ (l : List ℕ). f x ∷ l) ih)
