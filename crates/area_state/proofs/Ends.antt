-- The resident at an end of its list leaves. In order: by the rules of any sound state, `leaves` is then the list without its first, or its last; the slots at the ends of a list. Assumes nothing.
use mathlib.Core.Path.{◌≡◌, refl, sym, ap, ◌∙◌}
use mathlib.Core.Option.{some}
use mathlib.Core.List.{List, [], ◌∷◌, ◌++◌, map, append-nil}
use Prim.Native.Nat.{ℕ, ◌+◌, ◌<◌, ◌≤◌}
use native.Mathlib.Omega.{arith}
use native.Mathlib.Nat.{not-suc-le-zero}
use lib.ListN.{length, drop}
use Rattle.rules.specs.Lists.{times, drop_last, last}
use Rattle.rules.specs.State.{Entry, pages, without, Lists, list, set_list, leaves, seen, Sound}
use Rattle.rules.specs.declared.Side.{Side}
use Rattle.rules.specs.declared.Side.TheVariants.{First as first, Second as second}
use Rattle.rules.proofs.ListLaws.{eqb_self, one_self, split_last, times_pages_append, without_append, without_none}
use Rattle.cells.specs.Cells.{next_of, prev_of}
use Rattle.rings.specs.Members.{Mem}
use Rattle.rings.proofs.Reading.{first_is, first_member, last_is, last_member}
use Rattle.residents.specs.Residents.{links_of}
use Rattle.area_state.specs.Parts.{Parts, number_of, Holds, resident_of, state_of}
use Rattle.area_state.proofs.Maps.{last_map}
use Rattle.area_state.proofs.Sides.{number_below}
use Rattle.area_state.proofs.HoldsAs.{slots_of}
use Rattle.area_state.proofs.Lists.{list_is}

-- ---- the rules
module _ {X : Type 0} (s : Lists X) (sound : Sound s) where
  -- a page that stands in the list of a side stands in no other
  leaves_side : (i : Side) (x : ℕ) (rest : List (Entry X)) → 1 ≤ times x (pages (list i s)) → without x (list i s) ≡ rest → leaves x s ≡ set_list i rest s
  leaves_side first x rest h q = let d : seen x s ≤ 1 = sound.distinct x in rw (q, without_none x s.T2 (omega arith)) refl
  leaves_side second x rest h q = let d : seen x s ≤ 1 = sound.distinct x in rw (q, without_none x s.T1 (omega arith)) refl

  once : (i : Side) (x : ℕ) → times x (pages (list i s)) ≤ 1
  once first x = let d : seen x s ≤ 1 = sound.distinct x in omega arith
  once second x = let d : seen x s ≤ 1 = sound.distinct x in omega arith

  -- its first
  pub leaves_first : (i : Side) (e : Entry X) (rest : List (Entry X)) → list i s ≡ e ∷ rest → leaves e.page s ≡ set_list i rest s
  leaves_first i e rest q =
      let o : times e.page (pages (list i s)) ≤ 1 = once i e.page in
      let n : times e.page (pages (e ∷ rest)) ≤ 1 = rw q at o in
      let y : times e.page (pages rest) ≡ 0 = omega (arith, one_self e.page) in
      leaves_side i e.page rest (rw q (omega (arith, one_self e.page))) (rw (q, eqb_self e.page) (without_none e.page rest y))

  -- its last
  pub leaves_last : (i : Side) (e : Entry X) → last (list i s) ≡ some e → leaves e.page s ≡ set_list i (drop_last (list i s)) s
  leaves_last i e q =
      let l : List (Entry X) = drop_last (list i s) in
      let p : list i s ≡ l ++ e ∷ [] = split_last (list i s) e q in
      let o : times e.page (pages (list i s)) ≤ 1 = once i e.page in
      let b : times e.page (pages (list i s)) ≡ times e.page (pages (l ++ e ∷ [])) = ap (λ (m : List (Entry X)). times e.page (pages m)) p in
      let t : times e.page (pages (l ++ e ∷ [])) ≡ times e.page (pages l) + times e.page (pages (e ∷ [])) = times_pages_append e.page l (e ∷ []) in
      let y : times e.page (pages l) ≡ 0 = omega (arith, one_self e.page) in
      let w : without e.page (e ∷ []) ≡ [] = rw (eqb_self e.page) refl in
      leaves_side i e.page l (omega (arith, one_self e.page))
      (ap (without e.page) p ∙ without_append e.page l (e ∷ []) ∙ ap (λ (m : List (Entry X)). without e.page l ++ m) w ∙ append-nil (without e.page l) ∙ without_none e.page l y)

-- ---- the slots at the ends
module _ (c : ℕ) (p : Parts) (h : Holds c p) (s : Side) (e : ℕ) (some_slot : 0 < length (slots_of c p (number_of s))) where
  three : number_of s < 3
  three = let l : number_of s < 2 = number_below s in omega arith

  at_first : (xs : List ℕ) → 0 < length xs → slots_of c p (number_of s) ≡ xs → e ≡ next_of (links_of c p.residents) (c + number_of s) → xs ≡ e ∷ drop 1 xs
  at_first [] k q z = absurd (not-suc-le-zero k)
  at_first (x ∷ xs) k q z = ap (λ (y : ℕ). y ∷ xs) (sym (z ∙ first_is (links_of c p.residents) c (c + number_of s) x xs (rw q at (h.residents.rings (number_of s) three))))

  at_last : (xs : List ℕ) → 0 < length xs → slots_of c p (number_of s) ≡ xs → e ≡ prev_of (links_of c p.residents) (c + number_of s) → last (map (resident_of c p) xs) ≡ some (resident_of c p e)
  at_last [] k q z = absurd (not-suc-le-zero k)
  at_last (x ∷ xs) k q z = last_map (resident_of c p) x xs ∙ ap (λ (y : ℕ). some (resident_of c p y)) (sym (z ∙ last_is (links_of c p.residents) c (c + number_of s) (x ∷ xs) (rw q at (h.residents.rings (number_of s) three))))

  -- THE FIRST, at the hand of a clock
  module _ (is : e ≡ next_of (links_of c p.residents) (c + number_of s)) where
    pub first_slot : Mem e (slots_of c p (number_of s))
    first_slot = rw is (first_member (links_of c p.residents) c (c + number_of s) (slots_of c p (number_of s)) (h.residents.rings (number_of s) three) some_slot)

    pub first_list : list s (state_of c p).lists ≡ resident_of c p e ∷ map (resident_of c p) (drop 1 (slots_of c p (number_of s)))
    first_list = list_is s c p ∙ ap (map (resident_of c p)) (at_first (slots_of c p (number_of s)) some_slot refl is)

  -- THE LAST, the oldest of a list
  module _ (is : e ≡ prev_of (links_of c p.residents) (c + number_of s)) where
    pub last_slot : Mem e (slots_of c p (number_of s))
    last_slot = rw is (last_member (links_of c p.residents) c (c + number_of s) (slots_of c p (number_of s)) (h.residents.rings (number_of s) three) some_slot)

    pub last_list : last (list s (state_of c p).lists) ≡ some (resident_of c p e)
    last_list = ap last (list_is s c p) ∙ at_last (slots_of c p (number_of s)) some_slot refl is
