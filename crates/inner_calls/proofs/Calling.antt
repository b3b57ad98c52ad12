-- The calls, by the kind. In order: what a call leaves; the calls. Assumes nothing.
use mathlib.Core.Path.{◌≡◌, refl, sym, subst, ap, ◌∙◌}
use mathlib.Core.List.{List}
use Prim.Native.Nat.{ℕ, ◌^◌, ◌<◌}
use Rattle.std.specs.Prelude.{Option, Some, None as Nothing}
use Rattle.rules.specs.Calls.{Call, Get, Insert, Remove, Clear, InRange, Answer, Hit, Miss, None, Gone, Absent, Cleared, Done, done}
use Rattle.rules.specs.Car.{Car, new}
use Rattle.area_state.specs.States.{resident_at, removed_at}
use Rattle.area.specs.Stored.{state_in, Left}
use Rattle.answers.specs.Answers.{got_is, gone_is, inserted_is}
use Rattle.answers.specs.declared.Inserted.{Inserted}
use Rattle.answers.specs.declared.Inserted.TheVariants.{None as InsertedNone}
use Rattle.contracts.specs.Inner.{Good, Did}
use Rattle.stages.specs.Common.{SlotIs}
use Rattle.stages.specs.Stages.{Stage, Gives}
use Rattle.stages.proofs.Finding.{state_c, slot_at}
use Rattle.stages.proofs.Staging.{staged}
use Rattle.contracts.specs.Policy.{policy_of, state_of}
use Rattle.rules.specs.declared.Kind.{Kind}
use Rattle.inner_calls.specs.Kinds.{stages_of}
use Rattle.inner_calls.proofs.Both.{lawful}

module _ (K : Kind) (c : ℕ) (w : List ℕ) (g : Good (policy_of K) c w) where
  -- ---- where the state is the rules', it is well formed
  did : (k : Call) (v : List ℕ) (a : Answer) (d : Done (policy_of K).State) → InRange k → (policy_of K).does k (state_of (policy_of K) c w) ≡ d → Stage (policy_of K) c w v d.state → a ≡ d.answer → Did (policy_of K) k c w v a
  did k v a d r q l z =
      let e : state_of (policy_of K) c v ≡ ((policy_of K).does k (state_of (policy_of K) c w)).state = l.reads ∙ sym (ap (λ (t : Done (policy_of K).State). t.state) q) in
      record {
        good = record { stored = l.stored; kind = l.kind ∙ g.kind; well = subst (policy_of K).WellFormed (sym e) ((lawful K).closed k (state_of (policy_of K) c w) r g.well) };
        state = e;
        answer = z ∙ sym (ap (λ (t : Done (policy_of K).State). t.answer) q);
        size = l.size;
        rest = l.rest;
      }

  -- the store did it
  stored_did : (k : Call) (v : List ℕ) (a b : Answer) (s : Car) → InRange k → (policy_of K).does k (state_of (policy_of K) c w) ≡ done b ((policy_of K).view s) → Left c w v s → a ≡ b → Did (policy_of K) k c w v a
  stored_did k v a b s r q l = did k v a (done b ((policy_of K).view s)) r q (staged (policy_of K) c w v s ((policy_of K).view s) l refl)

  -- nothing is changed
  kept : (k : Call) (a : Answer) → (policy_of K).does k (state_of (policy_of K) c w) ≡ done a (state_of (policy_of K) c w) → Did (policy_of K) k c w w a
  kept k a q = record { good = g; state = sym (ap (λ (d : Done (policy_of K).State). d.state) q); answer = sym (ap (λ (d : Done (policy_of K).State). d.answer) q); size = refl; rest = refl }

  -- an insert, by its stages
  pub whole : (x f : ℕ) (v : List ℕ) (r : Inserted) (d : Done (policy_of K).State) → x < 2 ^ 64 → f < 2 ^ 32 → Gives (policy_of K) d c w v r → (policy_of K).does (Insert x f) (state_of (policy_of K) c w) ≡ d → Did (policy_of K) (Insert x f) c w v (inserted_is r)
  whole x f v r d hx hf m q = did (Insert x f) v (inserted_is r) d (hx, hf) q m.left m.answer

  -- ---- the calls
  -- of a page that is no resident's
  pub get_miss : (x : ℕ) → SlotIs c w x Nothing → (r : Option ℕ) → r ≡ Nothing → Did (policy_of K) (Get x) c w w (got_is r)
  get_miss x n r q = rw q (kept (Get x) Miss ((lawful K).misses x (state_in c w) n))

  pub remove_absent : (x : ℕ) → SlotIs c w x Nothing → (r : Option ℕ) → r ≡ Nothing → Did (policy_of K) (Remove x) c w w (gone_is r)
  remove_absent x n r q = rw q (kept (Remove x) Absent ((lawful K).absent x (state_in c w) n))

  -- of a resident
  module _ (x : ℕ) (hx : x < 2 ^ 64) (e f : ℕ) (t : SlotIs c w x (Some e)) (q : f ≡ (resident_at e (state_in c w)).frame) (v : List ℕ) where
    pub get_hit : Left c w v ((stages_of K).touched e (state_in c w)) → Did (policy_of K) (Get x) c w v (got_is (Some f))
    get_hit l = stored_did (Get x) v (got_is (Some f)) (Hit (resident_at e (state_in c w)).frame) ((stages_of K).touched e (state_in c w)) hx ((lawful K).hits x e (state_in c w) t.1) l (ap Hit q)

    pub remove_gone : Left c w v (removed_at e (state_in c w)) → Did (policy_of K) (Remove x) c w v (gone_is (Some f))
    remove_gone l = stored_did (Remove x) v (gone_is (Some f)) (Gone (resident_at e (state_in c w)).frame) (removed_at e (state_in c w)) hx ((lawful K).removes x e (state_in c w) t.1 (slot_at c w e t.0)) l (ap Gone q)

  pub insert_nothing : (x f : ℕ) → c ≡ 0 → Did (policy_of K) (Insert x f) c w w (inserted_is InsertedNone)
  insert_nothing x f z = kept (Insert x f) None ((lawful K).nothing x f (state_in c w) (state_c c w ∙ z))

  pub clear_did : (v : List ℕ) → Left c w v (new c) → Did (policy_of K) Clear c w v Cleared
  clear_did v l = stored_did Clear v Cleared Cleared (new c) tt ((lawful K).clears (state_in c w) ∙ ap (λ (n : ℕ). done Cleared ((policy_of K).view (new n))) (state_c c w)) l refl
