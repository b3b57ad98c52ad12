-- The replacement. In order: a step; the steps of a loop. Assumes nothing.
use mathlib.Core.Path.{◌≡◌, refl, sym, subst, ap, ◌∙◌}
use mathlib.Core.Bool.{Bool, true, false}
use mathlib.Core.List.{List, [], ◌∷◌}
use Prim.Native.Nat.{ℕ, suc, ◌+◌, ◌<◌, ◌≤◌}
use native.Mathlib.Omega.{arith}
use lib.ListN.{length, drop}
use Rattle.rules.specs.Lists.{one}
use Rattle.rules.specs.State.{list, set_list, residents, leaves, Lists}
use Rattle.rules.specs.declared.Side.{Side}
use Rattle.rules.specs.declared.Side.TheVariants.{Second as second}
use Rattle.rules.specs.Calls.{ghost, Replaced, steps}
use Rattle.rules.specs.Ghosts.{record_in}
use Rattle.rules.specs.Car.{Resident, Clocked, Car, car, with_bit, marks, referenced, at_end, at, hand_of, hand, passed, evicted, step_then, replace}
use Rattle.rules.proofs.Sweep.{pass_law}
use Rattle.rules.proofs.Trail.{replace_passes, replace_evicts}
use Rattle.area_state.specs.States.{resident_at, ended_at, evicted_at}
use Rattle.area_state.proofs.Ends.{leaves_first}
use Rattle.area.specs.Stored.{state_in, Left}
use Rattle.store.specs.Store.{IsSlot, FirstIs}
use Rattle.stages.specs.Common.{HasResident, TurnIs}
use Rattle.stages.proofs.Finding.{state_c, slot_at, obeys}
use Rattle.stages.proofs.Staging.{then_left}
use Rattle.contracts.specs.Policy.{car_policy}
use Rattle.stages.specs.Stages.{Chooses}
use Rattle.car.specs.Replace.{StepIs}
use Rattle.std.specs.Prelude.{Option, Some, None}

-- ---- a step
module _ (c : ℕ) (w : List ℕ) (h : HasResident c w) (hit : Bool) (i : Side) (t : TurnIs c w hit i) where
  module _ (e : ℕ) (f : FirstIs c w i e) where
    pub step_slot : IsSlot c w e
    step_slot = record { side = i; slot = f.slot }

    rest : List Resident
    rest = drop 1 (list i (state_in c w).lists)

    hand_is : hand hit (state_in c w).lists ≡ at i (resident_at e (state_in c w)) rest
    unfolding rest
    hand_is = ap (λ (j : Side). hand_of j (list j (state_in c w).lists)) (sym t.is) ∙ ap (hand_of i) f.first

    goes_first : leaves (resident_at e (state_in c w)).page (state_in c w).lists ≡ set_list i rest (state_in c w).lists
    unfolding rest state_in
    goes_first = leaves_first (state_in c w).lists (obeys c w h.stored).sound i (resident_at e (state_in c w)) rest f.first

    ended_is : ended_at e (state_in c w) ≡ passed i (resident_at e (state_in c w)) rest (state_in c w)
    unfolding ended_at
    ended_is = ap (λ (l : Lists Clocked). car (at_end second (with_bit false (resident_at e (state_in c w))) l) (state_in c w).free) goes_first

    evicted_is : evicted_at i e (state_in c w) ≡ (evicted i (resident_at e (state_in c w)) rest (state_in c w)).state
    unfolding evicted_at
    evicted_is =
        ap (λ (l : Lists Clocked). car (record_in (ghost i) (resident_at e (state_in c w)).page l) (e ∷ (state_in c w).free)) goes_first
        ∙ ap (λ (k : ℕ). car (record_in (ghost i) (resident_at e (state_in c w)).page (set_list i rest (state_in c w).lists)) (k ∷ (state_in c w).free)) (sym (slot_at c w e step_slot))

    module _ (b : Bool) (is : b ≡ (resident_at e (state_in c w)).more.bit) (v : List ℕ) where
      pub step_passes : b ≡ true → Left c w v (ended_at e (state_in c w)) → StepIs c w v hit None
      unfolding rest
      step_passes z l =
          let st : state_in c v ≡ passed i (resident_at e (state_in c w)) rest (state_in c w) = l.reads ∙ ended_is in
          let p = pass_law i (resident_at e (state_in c w)) rest (state_in c w) f.first (sym is ∙ z) in
          record {
            side = i;
            left = record { stored = l.stored; reads = refl; kind = l.kind; size = l.size; rest = l.rest };
            is = replace_passes hit (state_in c w) i (resident_at e (state_in c w)) rest hand_is (sym is ∙ z) ∙ ap (λ (x : Car). step_then i (replace hit x)) (sym st);
            some = ap (λ (x : Car). residents x.lists) st ∙ p.same_residents;
            marks = p.one_mark ∙ ap (λ (x : Car). referenced x.lists + 1) (sym st);
          }

    -- it is the victim
    pub step_meets : (b : Bool) → b ≡ (resident_at e (state_in c w)).more.bit → b ≡ false → StepIs c w w hit (Some (i, e))
    step_meets b is z =
        record {
          same = refl;
          slot = f.slot;
          is = replace_evicts hit (state_in c w) i (resident_at e (state_in c w)) rest hand_is (sym is ∙ z) ∙ (rw evicted_is refl);
        }

-- ---- the steps of a loop: after n - 1 of them the area is w, and the replacement of w₀ is these and then the replacement of w
pub record Sweeps (c : ℕ) (w₀ w : List ℕ) (hit : Bool) (n : ℕ) : Type 0 where
  pub left : Left c w₀ w (state_in c w)
  pub some : 0 < residents (state_in c w).lists
  pub victim : (replace hit (state_in c w₀)).victim ≡ (replace hit (state_in c w)).victim
  pub state : (replace hit (state_in c w₀)).state ≡ (replace hit (state_in c w)).state
  pub steps : steps (replace hit (state_in c w₀)) + 1 ≡ n + steps (replace hit (state_in c w))
  pub bound : n + referenced (state_in c w).lists ≤ c + 1

pub marks_few : (l : List Resident) → marks l ≤ length l
marks_few [] = omega arith
marks_few (e ∷ l) = go e.more.bit (marks_few l)
  where
    go : (b : Bool) → marks l ≤ length l → one b + marks l ≤ suc (length l)
    go true h = omega arith
    go false h = omega arith

pub sweep_starts : (c : ℕ) (w : List ℕ) (hit : Bool) → HasResident c w → Sweeps c w w hit 1
sweep_starts c w hit h =
    record {
      left = record { stored = h.stored; reads = refl; kind = refl; size = refl; rest = refl };
      some = h.some;
      victim = refl;
      state = refl;
      steps = omega arith;
      bound = omega (arith, (obeys c w h.stored).sound.room, state_c c w, marks_few (state_in c w).lists.T1, marks_few (state_in c w).lists.T2);
    }

module _ (c : ℕ) (w₀ w : List ℕ) (hit : Bool) (n : ℕ) (h : Sweeps c w₀ w hit n) where
  module _ (v : List ℕ) (r : Option (Side × ℕ)) (d : StepIs c w v hit r) where
    step_as : (a : Option (Side × ℕ)) → r ≡ a → StepIs c w v hit a
    step_as a q = subst (λ (y : Option (Side × ℕ)). StepIs c w v hit y) q d

    pub sweep_small : r ≡ None → n + 1 < 18446744073709551616
    sweep_small q =
        let s : c ≤ 1024 = h.left.stored.holds.small in
        omega (arith, h.bound, (step_as None q).marks)

    pub sweep_falls : r ≡ None → referenced (state_in c v).lists < referenced (state_in c w).lists
    sweep_falls q = omega (arith, (step_as None q).marks)

    pub sweep_again : r ≡ None → Sweeps c w₀ v hit (n + 1)
    sweep_again q =
        let p = step_as None q in
        record {
          left = then_left c w₀ w v (state_in c w) (λ s. state_in c v) h.left p.left;
          some = subst (λ (m : ℕ). 0 < m) (sym p.some) h.some;
          victim = h.victim ∙ ap (λ (x : Replaced Car). x.victim) p.is;
          state = h.state ∙ ap (λ (x : Replaced Car). x.state) p.is;
          steps = omega (arith, h.steps, ap (λ (x : Replaced Car). length x.trail) p.is);
          bound = omega (arith, h.bound, p.marks);
        }

    pub sweep_ends : (i : Side) (e : ℕ) → r ≡ Some (i, e) → Chooses car_policy replace c w₀ v hit (record { side = i; slot = e; steps = n })
    sweep_ends i e q =
        let m = step_as (Some (i, e)) q in
        rw m.same
        (record {
          left = h.left;
          slot = m.slot;
          victim = h.victim ∙ ap (λ (x : Replaced Car). x.victim) m.is;
          state = h.state ∙ ap (λ (x : Replaced Car). x.state) m.is;
          steps = omega (arith, h.steps, ap (λ (x : Replaced Car). length x.trail) m.is);
        })
