-- The laws of the calls, by the kind. In order: where the rules differ; a plain miss. Assumes nothing.
use mathlib.Core.Path.{◌≡◌, refl, sym, subst, ap}
use mathlib.Core.Bool.{Bool, true, false}
use mathlib.Core.List.{List}
use Prim.Native.Nat.{ℕ, ◌≤◌}
use native.Mathlib.Omega.{arith}
use Rattle.rules.specs.State.{seen}
use Rattle.rules.specs.declared.Side.{Side}
use Rattle.rules.specs.declared.Side.TheVariants.{First as first}
use Rattle.rules.specs.Calls.{nowhere}
use Rattle.rules.specs.Arc.{trimmed}
use Rattle.rules.specs.Arc as arcs
use Rattle.rules.specs.Car as cars
use Rattle.rules.specs.Car.{Car}
use Rattle.area_state.specs.States.{fronted_at, marked_at, entered_at_front, entered_at_end}
use Rattle.area.specs.Stored.{Stored, state_in, Left, arc_of}
use Rattle.store.specs.Store.{FoundIs, Evicts}
use Rattle.store.specs.declared.Found.{Found}
use Rattle.store.specs.declared.Found.TheVariants.{Nowhere}
use Rattle.store.specs.declared.Out.{Out}
use Rattle.contracts.specs.Policy.{arc_policy, car_policy, policy_of, state_of}
use Rattle.rules.specs.declared.Kind.{Kind}
use Rattle.rules.specs.declared.Kind.TheVariants as kinds
use Rattle.stages.specs.Stages.{HasRoom, Stage, WayIs, Chooses}
use Rattle.stages.specs.declared.Victim.{Victim}
use Rattle.stages.specs.declared.Way.TheVariants.{Comes}
use Rattle.stages.proofs.Staging.{stays, as_stage}
use Rattle.arc.proofs.Plain.{seen_plainly}
use Rattle.arc.proofs.Fewer.{trimmed_fewer}
use Rattle.inner_calls.proofs.Inserting.{way_misses}
use Rattle.inner_calls.specs.Kinds.{stages_of, trimmed_of}

-- ---- where the rules differ
module _ (k : Kind) (c : ℕ) (w v : List ℕ) where
  pub touch_arc : (e : ℕ) → k ≡ kinds.Arc → Left c w v (fronted_at e (state_in c w)) → Left c w v ((stages_of k).touched e (state_in c w))
  touch_arc e q l = subst (λ (j : Kind). Left c w v ((stages_of j).touched e (state_in c w))) (sym q) l

  pub touch_car : (e : ℕ) → k ≡ kinds.Car → Left c w v (marked_at e true (state_in c w)) → Left c w v ((stages_of k).touched e (state_in c w))
  touch_car e q l = subst (λ (j : Kind). Left c w v ((stages_of j).touched e (state_in c w))) (sym q) l

  pub trim_arc : k ≡ kinds.Arc → Stage arc_policy c w v (trimmed (arc_of (state_in c w))) → Stage (policy_of k) c w v (trimmed_of k (state_of (policy_of k) c w))
  trim_arc q l = subst (λ (j : Kind). Stage (policy_of j) c w v (trimmed_of j (state_of (policy_of j) c w))) (sym q) l

  module _ (i : Side) (x f : ℕ) where
    pub put_arc : k ≡ kinds.Arc → Left c w v (entered_at_front i x f false (state_in c w)) → Left c w v ((stages_of k).put i x f false (state_in c w))
    put_arc q l = subst (λ (j : Kind). Left c w v ((stages_of j).put i x f false (state_in c w))) (sym q) l

    pub put_car : k ≡ kinds.Car → Left c w v (entered_at_end i x f false (state_in c w)) → Left c w v ((stages_of k).put i x f false (state_in c w))
    put_car q l = subst (λ (j : Kind). Left c w v ((stages_of j).put i x f false (state_in c w))) (sym q) l

    module _ (e : ℕ) (r : Out) (s : Car) where
      pub exchange_arc : k ≡ kinds.Arc → Evicts c w v e r (entered_at_front i x f false s) → Evicts c w v e r ((stages_of k).put i x f false s)
      exchange_arc q l = subst (λ (j : Kind). Evicts c w v e r ((stages_of j).put i x f false s)) (sym q) l

      pub exchange_car : k ≡ kinds.Car → Evicts c w v e r (entered_at_end i x f false s) → Evicts c w v e r ((stages_of k).put i x f false s)
      exchange_car q l = subst (λ (j : Kind). Evicts c w v e r ((stages_of j).put i x f false s)) (sym q) l

  module _ (hit : Bool) (r : Victim) where
    pub choose_arc : k ≡ kinds.Arc → Chooses arc_policy arcs.replace c w v hit r → Chooses (policy_of k) (stages_of k).replace c w v hit r
    choose_arc q l = subst (λ (j : Kind). Chooses (policy_of j) (stages_of j).replace c w v hit r) (sym q) l

    pub choose_car : k ≡ kinds.Car → Chooses car_policy cars.replace c w v hit r → Chooses (policy_of k) (stages_of k).replace c w v hit r
    choose_car q l = subst (λ (j : Kind). Chooses (policy_of j) (stages_of j).replace c w v hit r) (sym q) l

pub trim_car : (k : Kind) (c : ℕ) (w : List ℕ) → k ≡ kinds.Car → Stored c w → Stage (policy_of k) c w w (trimmed_of k (state_of (policy_of k) c w))
trim_car k c w q s = subst (λ (j : Kind). Stage (policy_of j) c w w (trimmed_of j (state_of (policy_of j) c w))) (sym q) (stays car_policy c w (state_in c w) s refl)

-- ---- a plain miss
fewer : (K : Kind) (c : ℕ) (w v : List ℕ) (x : ℕ) → Stage (policy_of K) c w v (trimmed_of K (state_of (policy_of K) c w)) → seen x (state_in c v).lists ≤ seen x (state_in c w).lists
fewer kinds.Arc c w v x l = omega (arith, trimmed_fewer x (arc_of (state_in c w)), ap (seen x) l.reads, seen_plainly x (state_in c w), seen_plainly x (state_in c v))
fewer kinds.Car c w v x l = omega (arith, ap (λ (t : Car). seen x t.lists) l.reads)

ready_is : (K : Kind) (x : ℕ) (s : (policy_of K).State) → trimmed_of K s ≡ (stages_of K).ready nowhere x s
ready_is kinds.Arc x s = refl
ready_is kinds.Car x s = refl

pub way_comes : (K : Kind) (c : ℕ) (w : List ℕ) (x : ℕ) → HasRoom c w → (r : Found) → FoundIs c w x r → (v : List ℕ) → r ≡ Nowhere → Stage (policy_of K) c w v (trimmed_of K (state_of (policy_of K) c w)) → WayIs (policy_of K) (stages_of K).ready c w v x (Comes first false)
way_comes K c w x s r h v q l =
    way_misses K c w x s r h v q (as_stage (policy_of K) c w v (trimmed_of K (state_of (policy_of K) c w)) ((stages_of K).ready nowhere x (state_of (policy_of K) c w)) l (ready_is K x (state_of (policy_of K) c w))) (fewer K c w v x l)
