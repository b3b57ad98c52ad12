-- What the lookup answers for a page, in terms of the state: the resident of a slot, a page of B1, a page of B2, or a page that stands nowhere. Assumes nothing.
use mathlib.Core.Path.{◌≡◌, refl, sym, ap, ◌∙◌}
use mathlib.Core.Bool.{true, false}
use mathlib.Core.Option.{some, none}
use mathlib.Core.List.{◌++◌, map}
use Prim.Native.Nat.{ℕ, ◌<◌, ◌≤◌}
use native.Mathlib.Omega.{arith}
use borrow.Author.Tests.{lt-ltb}
use Rattle.rules.specs.Lists.{times, holds}
use Rattle.rules.specs.State.{found, resident}
use Rattle.rules.specs.declared.Side.{Side}
use Rattle.rules.specs.declared.Side.TheVariants.{First as first, Second as second}
use Rattle.rules.specs.Calls.{ghost, nowhere}
use Rattle.rules.specs.Stages.{place_of}
use Rattle.rings.specs.Members.{Mem}
use Rattle.lookup.specs.Buckets.{buckets_of, places_of}
use Rattle.lookup.specs.Part.{page_of}
use Rattle.lookup.specs.Lookup.{look, at, CanFind, none as nowhere_held}
use Rattle.lookup.proofs.Look.{look_held, look_page, look_absent}
use Rattle.lookup.proofs.Table.{can_find}
use Rattle.area_state.specs.Parts.{Parts, ghost_place, HeldIn, Holds, resident_of, ghost_of, state_of}
use Rattle.area_state.proofs.Counts.{times_none, times_some}
use Rattle.area_state.proofs.Maps.{map_append, found_map, found_none_map}
use Rattle.area_state.proofs.Sides.{place_high, place_apart}
use Rattle.area_state.proofs.HoldsAs.{HoldsAs, named, slots_of, live_in, spare_in}
use Rattle.area_state.proofs.Pages as Pages
use Rattle.area_state.proofs.Pages.{Place, slot, cell}
use Rattle.area_state.proofs.Reading.{page_is, in_both, both_in}

-- a slot that holds a resident, in list i; a cell that holds a ghost, of page x
pub record InList (c : ℕ) (p : Parts) (k : ℕ) : Type 0 where
  pub number : ℕ
  pub side : number < 2
  pub member : Mem k (slots_of c p number)

pub record InGhosts (i : Side) (c : ℕ) (p : Parts) (g x : ℕ) : Type 0 where
  pub member : Mem g (live_in c p i)
  pub page : ghost_of i c p g ≡ x

module _ (c : ℕ) (p : Parts) (h : Holds c p) (x : ℕ) where
  a : HoldsAs c p (slots_of c p) (live_in c p) (spare_in c p)
  a = named c p h

  pub may_find : CanFind p.lookup (places_of c) (buckets_of c) x
  may_find = can_find p.lookup (places_of c) (buckets_of c) x h.table

  -- where the page is no resident's
  no_resident_lem : ((i k : ℕ) → i < 2 → Mem k (slots_of c p i) → page_of p.lookup k ≡ x → ⊥) → resident x (state_of c p).lists ≡ none
  unfolding state_of
  no_resident_lem n =
      ap (found x) (sym (map_append (resident_of c p) (slots_of c p 0) (slots_of c p 1)))
      ∙ found_none_map (resident_of c p) x (slots_of c p 0 ++ slots_of c p 1) (λ y k q. let r = both_in (slots_of c p) y k in n r.0 y r.1 r.2 (sym (page_is c p y) ∙ q))

  -- a ghost list holds it, or not
  ghost_holds : (i : Side) (g : ℕ) → InGhosts i c p g x → holds x (map (ghost_of i c p) (live_in c p i)) ≡ true
  ghost_holds i g m = lt-ltb 0 (times x (map (ghost_of i c p) (live_in c p i))) (times_some (ghost_of i c p) x g (live_in c p i) m.member m.page)

  ghost_lacks : (i : Side) → ((g : ℕ) → InGhosts i c p g x → ⊥) → holds x (map (ghost_of i c p) (live_in c p i)) ≡ false
  ghost_lacks i n = rw (times_none (ghost_of i c p) x (live_in c p i) (λ g k q. n g (record { member = k; page = q }))) refl

  -- THE ANSWERS
  module _ (y : ℕ) (e : look p.lookup (places_of c) (buckets_of c) x ≡ at y) where
    held : HeldIn c p y
    held = look_held p.lookup (places_of c) (buckets_of c) h.table x y e

    page : page_of p.lookup y ≡ x
    page = look_page p.lookup (places_of c) (buckets_of c) h.table x y e

    only : (z : ℕ) → HeldIn c p z → page_of p.lookup z ≡ x → z ≡ y
    only z k q = Pages.one_place c p (slots_of c p) (live_in c p) (spare_in c p) a z y k held (q ∙ sym page)

    -- a slot
    pub found_slot : y < c → InList c p y
    found_slot l = go (Pages.place_of_lem c p (slots_of c p) (live_in c p) (spare_in c p) a y held)
      where
        go : Place c (slots_of c p) (live_in c p) y → InList c p y
        go (slot i hi m) = record { number = i; side = hi; member = m }
        go (cell i g m q) = absurd (let z : c ≤ ghost_place i c g = place_high i c g in let n : ⊥ = omega arith in n)

    pub found_resident : y < c → resident x (state_of c p).lists ≡ some (resident_of c p y)
    unfolding state_of
    found_resident l =
        let s = found_slot l in
        ap (found x) (sym (map_append (resident_of c p) (slots_of c p 0) (slots_of c p 1)))
        ∙ found_map (resident_of c p) x y (page_is c p y ∙ page) (slots_of c p 0 ++ slots_of c p 1) (in_both (slots_of c p) s.number y s.side s.member)
        (λ z k q. let r = both_in (slots_of c p) z k in only z (h.listed r.0 z r.1 r.2) (sym (page_is c p z) ∙ q))

    -- a place past the slots: a cell g of side i
    module _ (i : Side) (g : ℕ) (low : g < c) (q : y ≡ ghost_place i c g) where
      pub found_cell : InGhosts i c p g x
      unfolding ghost_of
      found_cell = record { member = go i g low q (Pages.place_of_lem c p (slots_of c p) (live_in c p) (spare_in c p) a y held); page = rw q at page }
        where
          go : (i : Side) (g : ℕ) → g < c → y ≡ ghost_place i c g → Place c (slots_of c p) (live_in c p) y → Mem g (live_in c p i)
          go i g l z (slot j hj m) = absurd (Pages.slot_not_ghost c p (slots_of c p) (live_in c p) (spare_in c p) a j y i g (omega arith) m z)
          go first g l z (cell first k m w) = let same : g ≡ k = omega arith in rw same m
          go second g l z (cell second k m w) = let same : g ≡ k = omega arith in rw same m
          go first g l z (cell second k m w) = let r : k < c = Pages.live_below c p (slots_of c p) (live_in c p) (spare_in c p) a second k m in absurd (let n : ⊥ = omega arith in n)
          go second g l z (cell first k m w) = let r : k < c = Pages.live_below c p (slots_of c p) (live_in c p) (spare_in c p) a first k m in absurd (let n : ⊥ = omega arith in n)

      pub ghost_no_resident : resident x (state_of c p).lists ≡ none
      ghost_no_resident = no_resident_lem (λ j k hj m w. Pages.slot_not_ghost c p (slots_of c p) (live_in c p) (spare_in c p) a j k i g (omega arith) m (only k (h.listed j k hj m) w ∙ q))

    pub found_ghost : (i : Side) (g : ℕ) → g < c → y ≡ ghost_place i c g → place_of x (state_of c p).lists ≡ ghost i
    unfolding state_of ghost_of
    found_ghost first g low q = rw (ghost_holds first g (found_cell first g low q)) refl
    found_ghost second g low q =
        let none_first : (k : ℕ) → InGhosts first c p k x → ⊥ = λ k m. place_apart second c g k low (Pages.live_below c p (slots_of c p) (live_in c p) (spare_in c p) a first k m.member) (only (ghost_place first c k) (h.recorded first k m.member) m.page ∙ q) in
        rw (ghost_lacks first none_first, ghost_holds second g (found_cell second g low q)) refl

  -- none
  module _ (e : look p.lookup (places_of c) (buckets_of c) x ≡ nowhere_held) where
    pub absent : (z : ℕ) → HeldIn c p z → page_of p.lookup z ≡ x → ⊥
    absent = look_absent p.lookup (places_of c) (buckets_of c) h.table x e

    pub absent_no_resident : resident x (state_of c p).lists ≡ none
    absent_no_resident = no_resident_lem (λ i k hi m q. absent k (h.listed i k hi m) q)

    pub found_nowhere : place_of x (state_of c p).lists ≡ nowhere
    unfolding state_of ghost_of
    found_nowhere =
        let lacks : (i : Side) → holds x (map (ghost_of i c p) (live_in c p i)) ≡ false = λ i. ghost_lacks i (λ g m. absent (ghost_place i c g) (h.recorded i g m.member) m.page) in
        rw (lacks first, lacks second) refl
