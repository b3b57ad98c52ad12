-- The laws that answer the needs of the covered functions. In order: the loop over the slots; one step; the plan. Assumes nothing.
use mathlib.Core.Path.{◌≡◌, refl, sym, ap, ◌∙◌}
use mathlib.Core.Bool.{Bool, false, cond}
use mathlib.Core.List.{List}
use Prim.Native.Nat.{ℕ, suc, ◌+◌, ◌-◌, ◌<◌, ◌≤◌}
use native.Mathlib.Omega.{arith}
use lib.Dec.{eqb, ltb}
use lib.ListN.{length, get_or}
use mir.Syntax.{w64}
use mir.Val.{Fits}
use borrow.Author.Rules.{rules}
use borrow.Author.Tests.{lt-ltb, le-ltb}
use Rattle.std.specs.Prelude.{Result, Ok, Err}
use Rattle.refusals.specs.declared.Refusal.{Refusal}
use Rattle.refusals.specs.declared.Refusal.TheVariants.{Room}
use Rattle.rules.specs.State.{residents}
use Rattle.rules.specs.declared.Side.TheVariants.{First as first, Second as second}
use Rattle.rules.specs.Car.{taken}
use Rattle.area_state.specs.Parts as parts
use Rattle.area_state.specs.States.{resident_at}
use Rattle.area_state.proofs.Reading.{state_sound}
use Rattle.area.specs.Area.{capacity_of, parts_of}
use Rattle.area.specs.Stored.{Stored, state_in}
use Rattle.store.specs.Store.{IsSlot, slots_at, NextIs}
use Rattle.state_check.proofs.State.{state_writes}
use Rattle.contracts.specs.Policy.{policy_of}
use Rattle.rules.specs.declared.Kind.{Kind}
use Rattle.rules.specs.declared.Kind.TheVariants as kinds
use Rattle.opening.specs.Opening.{Holding, Opens}
use Rattle.opening.proofs.Public.{opens_as}
use Rattle.listing.specs.Order.{taken_from, past}
use Rattle.listing.specs.Steps.{order_in, record_at, plan_of, StandsIn, Stands, Follows, StepIs}
use Rattle.listing.proofs.Slots.{stands_slot, stands_below, first_arc, first_car, next_arc, next_car}
use Rattle.listing.proofs.Records.{order_length}

-- ---- past the end of T1

-- ---- the loop over the slots: the first taken one from k on is that from `from` on
pub record TakenLeft (c : ℕ) (w : List ℕ) (from k : ℕ) : Type 0 where
  pub low : k ≤ c
  pub same : taken_from (state_in c w).lists k (c - k) ≡ taken_from (state_in c w).lists from (c - from)

module _ (c : ℕ) (w : List ℕ) (from k : ℕ) (t : TakenLeft c w from k) where
  turn : k < c → cond (ltb 0 (taken k (state_in c w).lists)) k (taken_from (state_in c w).lists (suc k) (c - (k + 1))) ≡ taken_from (state_in c w).lists from (c - from)
  turn l = let z : c - k ≡ suc (c - (k + 1)) = omega arith in let s : taken_from (state_in c w).lists k (c - k) ≡ taken_from (state_in c w).lists from (c - from) = t.same in rw z at s

  pub taken_on : (b : Bool) → k < c → b ≡ ltb 0 (taken k (state_in c w).lists) → b ≡ false → TakenLeft c w from (k + 1)
  taken_on b l q y = let s = turn l in let z : k + 1 ≡ suc k = omega arith in record { low = omega arith; same = ap (λ (n : ℕ). taken_from (state_in c w).lists n (c - (k + 1))) z ∙ (rw (sym q ∙ y) at s) }

-- ---- by the kind
module _ (kind : Kind) (c : ℕ) (w : List ℕ) (s : Stored c w) where
  pub first_in_arc : kind ≡ kinds.Arc → (e r : ℕ) → e ≡ get_or (slots_at first c w) 0 (c + 0) → r ≡ cond (eqb e c) (get_or (slots_at second c w) 0 (c + 1)) e → r ≡ get_or (order_in kind c w) 0 (past kind c)
  first_in_arc k e r p q = rw k (first_arc c w s e r p q)

  pub first_in_car : kind ≡ kinds.Car → (r : ℕ) → r ≡ taken_from (state_in c w).lists 0 (c - 0) → r ≡ get_or (order_in kind c w) 0 (past kind c)
  first_in_car k r q = rw k (first_car c w s r q)

module _ (kind : Kind) (c : ℕ) (w : List ℕ) (e : ℕ) (t : StandsIn kind c w e) where
  pub next_in_arc : kind ≡ kinds.Arc → (n r : ℕ) → NextIs c w e n → r ≡ cond (eqb n c) (get_or (slots_at second c w) 0 (c + 1)) n → Follows kind c w e r
  next_in_arc k n r p q = rw k (next_arc c w t.stored e n r p q)

  pub next_in_car : kind ≡ kinds.Car → (r : ℕ) → r ≡ taken_from (state_in c w).lists (e + 1) (c - (e + 1)) → Follows kind c w e r
  next_in_car k r q = rw k (next_car c w t.stored e r (stands_below kind c w e t) q)

  pub next_fits : Fits w64 (e + 1)
  next_fits = let l : e < c = stands_below kind c w e t in let m : c ≤ 1024 = t.stored.holds.small in record { fits = omega arith }

  pub next_asks : Stored c w × (e + 1 ≤ c)
  next_asks = (t.stored, let l : e < c = stands_below kind c w e t in omega arith)

-- ---- one step
module _ (kind : Kind) (w : List ℕ) (e : ℕ) (t : Stands kind w e) where
  pub stands_header : 64 ≤ length w
  stands_header = let h = t.stored.size in omega arith

  module _ (c : ℕ) (q : c ≡ capacity_of w) where
    pub step_slot : IsSlot c w e
    step_slot = rw q (stands_slot kind (capacity_of w) w e t)

    pub step_stands : StandsIn kind c w e
    step_stands = rw q t

    pub step_is : (page frame next : ℕ) → page ≡ (resident_at e (state_in c w)).page → frame ≡ (resident_at e (state_in c w)).frame → Follows kind c w e next → StepIs kind w e (record { resident = record { page = page; frame = frame }; next = next })
    unfolding record_at
    step_is page frame next p f n = record { resident = rw (p, f, q) refl; follows = rw q at n }

pub stands_stored : (kind : Kind) (c : ℕ) (w : List ℕ) (e : ℕ) → StandsIn kind c w e → Stored c w
stands_stored kind c w e t = t.stored

-- ---- the plan
module _ (kind : Kind) (c : ℕ) (w : List ℕ) (h : Holding (policy_of kind).kind c w) where
  pub holding_stored : Stored c w
  unfolding state_in parts.state_of
  holding_stored = rw h.capacity (state_writes (policy_of kind).kind w h.test).stored

  module _ (a b : ℕ) (p : a ≡ length (state_in c w).lists.T1) (q : b ≡ length (state_in c w).lists.T2) where
    count_is : a + b ≡ length (order_in kind (capacity_of w) w)
    count_is = rw (p, q) (sym (order_length c w holding_stored kind)) ∙ ap (λ (n : ℕ). length (order_in kind n w)) h.capacity

    pub count_fits : Fits w64 (a + b)
    unfolding state_in parts.state_of
    count_fits =
        let r : residents (state_in c w).lists ≤ c = (state_sound c (parts_of c w) holding_stored.holds).room in
        let m : c ≤ 1024 = holding_stored.holds.small in
        record { fits = omega arith }

    pub plan_room : (room : ℕ) → room < a + b → Err Room ≡ plan_of kind w room
    unfolding plan_of
    plan_room room l = rw (h.test, sym count_is, lt-ltb room (a + b) l) refl

    pub plan_count : (room place : ℕ) → a + b ≤ room → place ≡ get_or (order_in kind c w) 0 (past kind c) → Ok (record { count = a + b; first = place }) ≡ plan_of kind w room
    unfolding plan_of
    plan_count room place l z = rw (h.test, sym count_is, le-ltb room (a + b) l, z, h.capacity) refl

module _ (kind : Kind) (w : List ℕ) (o : Result ℕ Refusal) (h : Opens (policy_of kind).kind w o) where
  pub plan_refused : (room : ℕ) (e : Refusal) → o ≡ Err e → Err e ≡ plan_of kind w room
  unfolding plan_of
  plan_refused room e q = let r = opens_as (policy_of kind) o w h (Err e) q in rw (r.0, r.1) refl

pub ruleset laws = (
  taken_on,
  first_in_arc,
  first_in_car,
  next_in_arc,
  next_in_car,
  next_fits,
  next_asks,
  stands_slot,
  stands_stored,
  stands_header,
  step_slot,
  step_stands,
  step_is,
  holding_stored,
  count_fits,
  plan_room,
  plan_count,
  plan_refused,
  rules,
)
