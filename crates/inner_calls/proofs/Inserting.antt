-- The stages of an insert, by the kind. In order: the entry; how it goes on; the arms of its match; the whole. Assumes nothing.
use mathlib.Core.Path.{◌≡◌, refl, sym, subst, ◌∙◌}
use mathlib.Core.Bool.{Bool, true, false}
use mathlib.Core.List.{List}
use Prim.Native.Nat.{ℕ, ◌^◌, ◌<◌, ◌≤◌}
use native.Mathlib.Omega.{arith}
use Rattle.rules.specs.State.{residents, seen}
use Rattle.rules.specs.declared.Side.{Side}
use Rattle.rules.specs.declared.Side.TheVariants.{First as first, Second as second}
use Rattle.rules.specs.Calls.{Insert, ghost, nowhere, Done}
use Rattle.rules.specs.Stages.{is_b2, goes_to}
use Rattle.area.specs.Stored.{state_in, Left}
use Rattle.store.specs.Store.{IsSlot, FoundIs}
use Rattle.store.specs.declared.Found.{Found}
use Rattle.store.specs.declared.Found.TheVariants.{Resident, InB1, InB2, Nowhere}
use Rattle.answers.specs.Answers.{inserted_is}
use Rattle.answers.specs.declared.Inserted.{Inserted}
use Rattle.answers.specs.declared.Inserted.TheVariants.{New}
use Rattle.contracts.specs.Inner.{Good, Did}
use Rattle.stages.specs.Common.{hit_at}
use Rattle.stages.specs.Stages.{HasRoom, CanCome, Hits, of_b2, entered, Stage, Gives, WayIs}
use Rattle.stages.specs.declared.Way.{Way}
use Rattle.stages.specs.declared.Way.TheVariants.{Stays, Comes}
use Rattle.stages.proofs.Finding.{state_c, found_as}
use Rattle.stages.proofs.Staging.{staged, then_gives}
use Rattle.stages.proofs.Entering.{found_nowhere, found_b1, found_b2, is_full_fact, not_full, hit_can, can_come}
use Rattle.contracts.specs.Policy.{policy_of, state_of}
use Rattle.rules.specs.declared.Kind.{Kind}
use Rattle.inner_calls.specs.Kinds.{stages_of}
use Rattle.inner_calls.proofs.Both.{lawful}
use Rattle.inner_calls.proofs.Calling.{whole}

module _ (K : Kind) (c : ℕ) (w : List ℕ) where
  -- ---- the entry: into a free slot, or into that of one that is put out
  module _ (j : Side) (x f : ℕ) (h : CanCome c w x) (hit : Bool) (n : ℕ) (p : n ≡ residents (state_in c w).lists) (v : List ℕ) where
    pub enter_free : n < c → Left c w v ((stages_of K).put j x f false (state_in c w)) → Gives (policy_of K) (entered ((stages_of K).admitted j x f) ((stages_of K).made hit (state_of (policy_of K) c w))) c w v New
    enter_free l d =
        rw ((lawful K).makes hit (state_in c w), not_full c w x h n p l)
        (record { left = staged (policy_of K) c w v ((stages_of K).put j x f false (state_in c w)) ((stages_of K).admitted j x f (state_of (policy_of K) c w)) d ((lawful K).puts j x f (state_in c w)); answer = refl })

    pub enter_full : c ≤ n → (r : Inserted) → Gives (policy_of K) (entered ((stages_of K).admitted j x f) ((stages_of K).replace hit (state_of (policy_of K) c w))) c w v r → Gives (policy_of K) (entered ((stages_of K).admitted j x f) ((stages_of K).made hit (state_of (policy_of K) c w))) c w v r
    enter_full l r d = rw ((lawful K).makes hit (state_in c w), is_full_fact c w x h n p l) d

  -- ---- how it goes on, by what was found
  module _ (x : ℕ) (s : HasRoom c w) (r : Found) (h : FoundIs c w x r) where
    pub way_stays : (e : ℕ) → r ≡ Resident e → WayIs (policy_of K) (stages_of K).ready c w w x (Stays e)
    way_stays e q = (refl, found_as c w x r h (Resident e) q)

    module _ (v : List ℕ) where
      -- a ghost hit of side i
      hits : (i : Side) (g : ℕ) → Hits c w i g x → Left c w v (hit_at i x (state_in c w)) → WayIs (policy_of K) (stages_of K).ready c w v x (Comes second (is_b2 i))
      hits i g k l =
          record {
            place = ghost i;
            was = k.comes;
            list = refl;
            frequent = refl;
            left = staged (policy_of K) c w v (hit_at i x (state_in c w)) ((stages_of K).ready (ghost i) x (state_of (policy_of K) c w)) l ((lawful K).returns i x (state_in c w));
            can = hit_can c w i g x k v l;
          }

      pub way_b1 : (g : ℕ) → r ≡ InB1 g → Left c w v (hit_at first x (state_in c w)) → WayIs (policy_of K) (stages_of K).ready c w v x (Comes second false)
      way_b1 g q = hits first g (found_b1 c w s x r h g q)

      pub way_b2 : (g : ℕ) → r ≡ InB2 g → Left c w v (hit_at second x (state_in c w)) → WayIs (policy_of K) (stages_of K).ready c w v x (Comes second true)
      way_b2 g q = hits second g (found_b2 c w s x r h g q)

      -- a miss
      pub way_misses : r ≡ Nowhere → Stage (policy_of K) c w v ((stages_of K).ready nowhere x (state_of (policy_of K) c w)) → seen x (state_in c v).lists ≤ seen x (state_in c w).lists → WayIs (policy_of K) (stages_of K).ready c w v x (Comes first false)
      way_misses q l f =
          let k = found_nowhere c w s x r h q in
          record { place = nowhere; was = k; list = refl; frequent = refl; left = l; can = can_come c w v x k l.stored f }

-- ---- the arms of its match
module _ (K : Kind) (c : ℕ) (w v : List ℕ) (x : ℕ) (r : Way) (h : WayIs (policy_of K) (stages_of K).ready c w v x r) where
  way_as : (a : Way) → r ≡ a → WayIs (policy_of K) (stages_of K).ready c w v x a
  way_as a q = subst (λ (y : Way). WayIs (policy_of K) (stages_of K).ready c w v x y) q h

  pub way_slot : (e : ℕ) → r ≡ Stays e → IsSlot c v e
  way_slot e q = rw (way_as (Stays e) q).0 (way_as (Stays e) q).1.0

  pub way_can : (j : Side) (hit : Bool) → r ≡ Comes j hit → CanCome c v x
  way_can j hit q = (way_as (Comes j hit) q).can

-- ---- the whole
pub whole_room : (K : Kind) (c : ℕ) (w : List ℕ) → Good (policy_of K) c w → (c ≡ 0 → ⊥) → HasRoom c w
whole_room K c w g hc = record { stored = g.stored; some = omega arith }

module _ (K : Kind) (c : ℕ) (w : List ℕ) (g : Good (policy_of K) c w) (x f : ℕ) (hc : c ≡ 0 → ⊥) (hx : x < 2 ^ 64) (hf : f < 2 ^ 32) (v : List ℕ) (r : Way) (h : WayIs (policy_of K) (stages_of K).ready c w v x r) (u : List ℕ) (o : Inserted) where
  not_empty : (state_in c w).lists.c ≡ 0 → ⊥
  not_empty q = hc (sym (state_c c w) ∙ q)

  came_as : (i k : Side) (b d : Bool) → i ≡ k → b ≡ d → Gives (policy_of K) (entered ((stages_of K).admitted i x f) ((stages_of K).made b (state_of (policy_of K) c v))) c v u o → Gives (policy_of K) (entered ((stages_of K).admitted k x f) ((stages_of K).made d (state_of (policy_of K) c v))) c v u o
  came_as i k b d p q m = rw (p, q) at m

  pub whole_comes : (j : Side) (hit : Bool) → r ≡ Comes j hit → Gives (policy_of K) (entered ((stages_of K).admitted j x f) ((stages_of K).made hit (state_of (policy_of K) c v))) c v u o → Did (policy_of K) (Insert x f) c w u (inserted_is o)
  whole_comes j hit q m =
      let k = way_as K c w v x r h (Comes j hit) q in
      let d : (policy_of K).State → Done (policy_of K).State = λ t. entered ((stages_of K).admitted (goes_to k.place) x f) ((stages_of K).made (of_b2 k.place) t) in
      whole K c w g x f u o (d ((stages_of K).ready k.place x (state_of (policy_of K) c w))) hx hf
      (then_gives (policy_of K) c w v u ((stages_of K).ready k.place x (state_of (policy_of K) c w)) o d k.left (came_as j (goes_to k.place) hit (of_b2 k.place) k.list k.frequent m))
      ((lawful K).inserts x f k.place (state_in c w) not_empty k.was.fresh k.was.place)

  pub whole_stays : (e : ℕ) → r ≡ Stays e → Gives (policy_of K) ((stages_of K).updated e f (state_in c v)) c v u o → Did (policy_of K) (Insert x f) c w u (inserted_is o)
  whole_stays e q m =
      let k = way_as K c w v x r h (Stays e) q in
      whole K c w g x f u o ((stages_of K).updated e f (state_in c w)) hx hf (rw k.0 at m) ((lawful K).updates x f e (state_in c w) not_empty k.1.1)
