-- The replacement: the oldest of the list that the rules choose is the victim. Assumes nothing.
use mathlib.Core.Path.{◌≡◌, refl, sym, ap, ◌∙◌}
use mathlib.Core.Bool.{Bool}
use mathlib.Core.Option.{Option, some, none}
use mathlib.Core.List.{List, [], ◌∷◌}
use Prim.Native.Nat.{ℕ, ◌≤◌}
use native.Mathlib.Omega.{arith}
use lib.ListN.{length}
use Rattle.rules.specs.Lists.{drop_last, last}
use Rattle.rules.specs.State.{Entry, list, set_list, residents, Sound}
use Rattle.rules.specs.declared.Side.{Side}
use Rattle.rules.specs.Calls.{ghost, Replaced, replaced}
use Rattle.rules.specs.Ghosts.{record_in}
use Rattle.rules.specs.Stages.{turn}
use Rattle.rules.specs.Arc.{Arc, Plain, put_out, replace}
use Rattle.rules.proofs.ListLaws.{no_last, last_plus}
use Rattle.rules.proofs.StateLaws.{Freed, put_out_fact, turn_some}
use Rattle.area_state.specs.States.{resident_at, evicted_at}
use Rattle.area_state.proofs.Ends.{leaves_last}
use Rattle.area.specs.Stored.{state_in, plainly, arc_of}
use Rattle.store.specs.Store.{LastIs}
use Rattle.contracts.specs.Policy.{arc_policy}
use Rattle.stages.specs.Common.{TurnIs}
use Rattle.stages.specs.Stages.{out_of, Chosen}
use Rattle.stages.proofs.Finding.{obeys}
use Rattle.arc.specs.Insert.{arc_in}
use Rattle.arc.proofs.Plain.{plainly_if, last_plainly, list_plainly, turn_plainly, sound_plainly, evicted_plainly}

-- ---- one resident fewer
put_freed : (o : Option (Entry Plain)) (i : Side) (s : Arc) → last (list i s) ≡ o → 1 ≤ length (list i s) → Freed s (put_out o i s).state
unfolding put_out
put_freed none i s h k = let z = ap length (no_last (list i s) h) in absurd (omega arith)
put_freed (some e) i s h k = put_out_fact i e.page (drop_last (list i s)) s (last_plus (list i s) e h)

pub replace_freed : (hit : Bool) (s : Arc) → 1 ≤ residents s → Freed s (replace hit s).state
unfolding replace
replace_freed hit s k = put_freed (last (list (turn hit s) s)) (turn hit s) s refl (turn_some hit s k)

-- ---- the victim
module _ (b : Bool) (c : ℕ) (w : List ℕ) (i : Side) (t : TurnIs c w b i) (e : ℕ) (l : LastIs c w i e) where
  turn_is : i ≡ turn b (arc_in c w)
  turn_is = t.is ∙ sym (turn_plainly b (state_in c w))

  arc_sound : Sound (arc_in c w)
  arc_sound = sound_plainly (state_in c w) (obeys c w l.slot.stored).sound

  last_here : last (list i (arc_in c w)) ≡ some (plainly (resident_at e (state_in c w)))
  unfolding plainly_if
  last_here = ap last (list_plainly i (state_in c w)) ∙ last_plainly (list i (state_in c w).lists) ∙ ap plainly_if l.last

  -- the state once it is out
  gone : Arc
  gone = arc_of (evicted_at i e (state_in c w))

  gone_is_lem : gone ≡ record_in (ghost i) (resident_at e (state_in c w)).page (set_list i (drop_last (list i (arc_in c w))) (arc_in c w))
  unfolding gone
  gone_is_lem =
      evicted_plainly i e (state_in c w)
      ∙ ap (record_in (ghost i) (resident_at e (state_in c w)).page) (leaves_last (arc_in c w) arc_sound i (plainly (resident_at e (state_in c w))) last_here)

  replaces : replace b (arc_in c w) ≡ replaced (out_of i e (state_in c w)) (i ∷ []) gone
  unfolding replace put_out
  replaces =
      ap (λ (k : Side). put_out (last (list k (arc_in c w))) k (arc_in c w)) (sym turn_is)
      ∙ ap (λ (r : Option (Entry Plain)). put_out r i (arc_in c w)) last_here
      ∙ ap (λ (s : Arc). replaced (out_of i e (state_in c w)) (i ∷ []) s) (sym gone_is_lem)

  pub chooses : Chosen arc_policy replace c w w b i e 1
  unfolding gone
  chooses =
      record {
        left = record { stored = l.slot.stored; reads = refl; kind = refl; size = refl; rest = refl };
        slot = l.slot;
        victim = ap (λ (r : Replaced Arc). r.victim) replaces;
        state = ap (λ (r : Replaced Arc). r.state) replaces;
        steps = ap (λ (r : Replaced Arc). length r.trail) replaces;
      }
