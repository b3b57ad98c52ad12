-- Laws of `Each`: a property of every element goes through what the rules do to lists.
-- Assumes nothing.
use mathlib.Core.Path.{◌≡◌, subst}
use mathlib.Core.List.{List, [], ◌∷◌, ◌++◌}
use mathlib.Core.Bool.{Bool, true, false, cond}
use mathlib.Core.Option.{some}
use Prim.Native.Nat.{ℕ, zero, suc}
use native.Mathlib.Omega.{arith}
use lib.Dec.{eqb}
use lib.ListN.{take}
use Rattle.rules.specs.Lists.{leave, drop_last, last, Each}
use Rattle.rules.specs.State.{Entry, found, without, changed}

-- one of two, by a test
cond_has : {A : Type 0} (P : A → Type 0) (b : Bool) (x y : A) → P x → P y → P (cond b x y)
cond_has P true x y p q = p
cond_has P false x y p q = q

module _ {A : Type 0} (P : A → Type 0) where
  pub each_append : (l m : List A) → Each P l → Each P m → Each P (l ++ m)
  each_append [] m p q = q
  each_append (x ∷ l) m p q = (p.0, each_append l m p.1 q)

  pub each_left : (l m : List A) → Each P (l ++ m) → Each P l
  each_left [] m p = tt
  each_left (x ∷ l) m p = (p.0, each_left l m p.1)

  pub each_right : (l m : List A) → Each P (l ++ m) → Each P m
  each_right [] m p = p
  each_right (x ∷ l) m p = each_right l m p.1

  pub each_take : (n : ℕ) (l : List A) → Each P l → Each P (take n l)
  each_take zero l p = tt
  each_take (suc n) [] p = tt
  each_take (suc n) (x ∷ l) p = (p.0, each_take n l p.1)

  pub each_drop_last : (l : List A) → Each P l → Each P (drop_last l)
  each_drop_last [] p = tt
  each_drop_last (x ∷ []) p = tt
  each_drop_last (x ∷ y ∷ l) p = (p.0, each_drop_last (y ∷ l) p.1)

  pub each_last : (l : List A) (x : A) → last l ≡ some x → Each P l → P x
  each_last [] x h p = let z : ◌≡◌ {A = ℕ} 0 1 = cc in absurd (omega arith)
  each_last (y ∷ []) x h p = let q : y ≡ x = cc in subst P q p.0
  each_last (y ∷ z ∷ l) x h p = each_last (z ∷ l) x h p.1

pub each_leave : (P : ℕ → Type 0) (x : ℕ) (l : List ℕ) → Each P l → Each P (leave x l)
each_leave P x [] p = tt
each_leave P x (y ∷ l) p = let q = each_leave P x l p.1 in cond_has (Each P) (eqb x y) (leave x l) (y ∷ leave x l) q (p.0, q)

module _ {X : Type 0} (P : Entry X → Type 0) where
  pub each_without : (x : ℕ) (l : List (Entry X)) → Each P l → Each P (without x l)
  each_without x [] p = tt
  each_without x (e ∷ l) p = let q = each_without x l p.1 in cond_has (Each P) (eqb x e.page) (without x l) (e ∷ without x l) q (p.0, q)

  pub each_changed : (x : ℕ) (g : Entry X → Entry X) (l : List (Entry X)) → ((e : Entry X) → P e → P (g e)) → Each P l → Each P (changed x g l)
  each_changed x g [] k p = tt
  each_changed x g (e ∷ l) k p = (cond_has P (eqb x e.page) (g e) e (k e p.0) p.0, each_changed x g l k p.1)

  pub each_found : (x : ℕ) (l : List (Entry X)) (e : Entry X) → found x l ≡ some e → Each P l → P e
  each_found x [] e h p = let z : ◌≡◌ {A = ℕ} 0 1 = cc in absurd (omega arith)
  each_found x (a ∷ l) e h p = go (eqb x a.page) h (each_found x l e)
    where
      go : (b : Bool) → cond b (some a) (found x l) ≡ some e → (found x l ≡ some e → Each P l → P e) → P e
      go true k ih = let q : a ≡ e = cc in subst P q p.0
      go false k ih = ih k p.1
