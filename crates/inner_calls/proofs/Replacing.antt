-- The victim of a replacement is put out, and the page takes its slot, by the kind. Assumes nothing.
use mathlib.Core.Path.{◌≡◌, refl, sym, ap, ◌∙◌}
use mathlib.Core.Bool.{Bool, false}
use mathlib.Core.List.{List}
use Prim.Native.Nat.{ℕ}
use native.Mathlib.Omega.{arith}
use Rattle.rules.specs.State.{seen}
use Rattle.rules.specs.declared.Side.{Side}
use Rattle.rules.specs.Calls.{ghost}
use Rattle.area_state.specs.States.{evicted_at}
use Rattle.area.specs.Stored.{state_in}
use Rattle.store.specs.Store.{Evicts, CanExchange}
use Rattle.store.specs.declared.Out.{Out}
use Rattle.answers.specs.Answers.{place_is}
use Rattle.answers.specs.declared.Place.{Place}
use Rattle.answers.specs.declared.Inserted.TheVariants.{Out as InsertedOut}
use Rattle.stages.specs.Stages.{CanDisplace, entered, Gives, Chosen}
use Rattle.stages.proofs.Staging.{then_left, staged}
use Rattle.stages.proofs.Entering.{absent_resident, absent_place}
use Rattle.contracts.specs.Policy.{policy_of, state_of}
use Rattle.rules.specs.declared.Kind.{Kind}
use Rattle.inner_calls.specs.Kinds.{stages_of}
use Rattle.inner_calls.proofs.Both.{lawful}

module _ (K : Kind) (c : ℕ) (w : List ℕ) (x : ℕ) (g : CanDisplace c w x) (v : List ℕ) (hit : Bool) (i : Side) (e n : ℕ) (h : Chosen (policy_of K) (stages_of K).replace c w v hit i e n) where
  none_after : seen x (evicted_at i e (state_in c v)).lists ≡ 0
  none_after = omega (arith, (lawful K).frees hit (state_in c w) (evicted_at i e (state_in c v)) g.full.some h.state x, g.comes.absent)

  pub puts_can : CanExchange c v i e x
  puts_can =
      record {
        slot = h.slot;
        fresh = absent_resident x (evicted_at i e (state_in c v)).lists none_after;
        unrecorded = absent_place x (evicted_at i e (state_in c v)).lists none_after;
      }

  pub puts : (j : Side) (f : ℕ) (u : List ℕ) (o : Out) → Evicts c v u e o ((stages_of K).put j x f false (evicted_at i e (state_in c v))) → (k : Place) → place_is k ≡ ghost i → Gives (policy_of K) (entered ((stages_of K).admitted j x f) ((stages_of K).replace hit (state_of (policy_of K) c w))) c w u (InsertedOut o.page o.frame k n)
  puts j f u o d k q =
      let s = evicted_at i e (state_in c v) in
      let l = then_left c w v u (state_in c v) (λ t. (stages_of K).put j x f false (evicted_at i e t)) h.left d.left in
      record {
        left = staged (policy_of K) c w u ((stages_of K).put j x f false s) ((stages_of K).admitted j x f ((stages_of K).replace hit (state_of (policy_of K) c w)).state) l ((lawful K).puts j x f s ∙ ap ((stages_of K).admitted j x f) (sym h.state));
        answer = rw (q, d.out.page, d.out.frame, h.victim, h.steps) refl;
      }
