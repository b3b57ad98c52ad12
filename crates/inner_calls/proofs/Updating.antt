-- An updating insert, by the kind. In order: a resident whose frame is changed; it stands where it stood; the update. Assumes nothing.
use mathlib.Core.Path.{◌≡◌, refl, sym, subst, ap, ◌∙◌}
use mathlib.Core.Bool.{Bool, true, false, cond}
use mathlib.Core.Logic.{⊎_elim}
use mathlib.Core.List.{List, [], ◌∷◌, ◌++◌, map-append}
use Prim.Native.Nat.{ℕ}
use lib.Dec.{eqb}
use borrow.Author.Tests.{eqb-false}
use Rattle.rules.specs.State.{with_frame, changed, list}
use Rattle.rules.specs.declared.Side.{Side}
use Rattle.rules.specs.declared.Side.TheVariants.{First as first, Second as second}
use Rattle.rules.specs.Calls.{Done, Old}
use Rattle.rules.specs.Car.{Car, Resident, slots}
use Rattle.rules.proofs.ListLaws.{changed_keys}
use Rattle.rings.specs.Members.{Mem}
use Rattle.residents.specs.Residents.{lists_of}
use Rattle.area_state.specs.Parts.{number_of}
use Rattle.area_state.specs.States.{at_slot, resident_at, framed_at}
use Rattle.area_state.proofs.Sides.{number_below}
use Rattle.area_state.proofs.Reading.{slots_read, in_both}
use Rattle.area_state.proofs.Lists.{list_is}
use Rattle.area.specs.Area.{parts_of}
use Rattle.area.specs.Stored.{state_in, Left}
use Rattle.store.specs.Store.{IsSlot}
use Rattle.answers.specs.declared.Inserted.TheVariants.{Old as InsertedOld}
use Rattle.stages.specs.Stages.{Gives}
use Rattle.stages.proofs.Staging.{then_left, staged}
use Rattle.contracts.specs.Policy.{policy_of}
use Rattle.rules.specs.declared.Kind.{Kind}
use Rattle.inner_calls.specs.Kinds.{stages_of}
use Rattle.inner_calls.proofs.Both.{lawful}

-- ---- a resident whose frame is changed
changed_append : (x f : ℕ) (l m : List Resident) → changed x (with_frame f) (l ++ m) ≡ changed x (with_frame f) l ++ changed x (with_frame f) m
changed_append x f [] m = refl
changed_append x f (e ∷ l) m = ap (λ (t : List Resident). cond (eqb x e.page) (with_frame f e) e ∷ t) (changed_append x f l m)

mem_tail : (k y : ℕ) (ys : List ℕ) → eqb k y ≡ false → Mem k (y ∷ ys) → Mem k ys
mem_tail k y ys q m = ⊎_elim (λ h. absurd (eqb-false k y q h)) (λ h. h) m

framed_at_lem : (k x f : ℕ) (l : List Resident) → (at_slot k l).page ≡ x → Mem k (slots l) → at_slot k (changed x (with_frame f) l) ≡ with_frame f (at_slot k l)
framed_at_lem k x f [] p m = absurd m
framed_at_lem k x f (e ∷ l) p m = go (eqb k e.more.slot) refl (eqb x e.page) refl p (framed_at_lem k x f l)
  where
    go : (b : Bool) → eqb k e.more.slot ≡ b → (d : Bool) → eqb x e.page ≡ d → (cond b e (at_slot k l)).page ≡ x → ((at_slot k l).page ≡ x → Mem k (slots l) → at_slot k (changed x (with_frame f) l) ≡ with_frame f (at_slot k l)) → at_slot k (cond d (with_frame f e) e ∷ changed x (with_frame f) l) ≡ with_frame f (cond b e (at_slot k l))
    go true q true r t ih = rw q refl
    go true q false r t ih = absurd (eqb-false x e.page r (sym t))
    go false q true r t ih = rw q (ih t (mem_tail k e.more.slot (slots l) q m))
    go false q false r t ih = rw q (ih t (mem_tail k e.more.slot (slots l) q m))

framed_resident : (e f : ℕ) (s : Car) → Mem e (slots (s.lists.T1 ++ s.lists.T2)) → resident_at e (framed_at e f s) ≡ with_frame f (resident_at e s)
unfolding framed_at resident_at
framed_resident e f s m =
    let l = s.lists.T1 ++ s.lists.T2 in
    let x = (at_slot e l).page in
    ap (at_slot e) (sym (changed_append x f s.lists.T1 s.lists.T2)) ∙ framed_at_lem e x f l refl m

-- ---- it stands where it stood
slots_are : (i : Side) (c : ℕ) (w : List ℕ) → slots (list i (state_in c w).lists) ≡ lists_of (parts_of c w).residents c (number_of i)
unfolding state_in
slots_are i c w = ap slots (list_is i c (parts_of c w)) ∙ slots_read c (parts_of c w) (lists_of (parts_of c w).residents c (number_of i))

framed_slots : (i : Side) (e f : ℕ) (s : Car) → slots (list i (framed_at e f s).lists) ≡ slots (list i s.lists)
unfolding framed_at
framed_slots first e f s = changed_keys (λ r. r.more.slot) (resident_at e s).page (with_frame f) s.lists.T1 (λ r. refl)
framed_slots second e f s = changed_keys (λ r. r.more.slot) (resident_at e s).page (with_frame f) s.lists.T2 (λ r. refl)

module _ (c : ℕ) (w : List ℕ) (e f : ℕ) (t : IsSlot c w e) (v : List ℕ) (l : Left c w v (framed_at e f (state_in c w))) where
  same_lists : (i : Side) → lists_of (parts_of c v).residents c (number_of i) ≡ lists_of (parts_of c w).residents c (number_of i)
  same_lists i = sym (slots_are i c v) ∙ ap (λ (s : Car). slots (list i s.lists)) l.reads ∙ framed_slots i e f (state_in c w) ∙ slots_are i c w

  pub update_slot : IsSlot c v e
  update_slot =
      record { side = t.side; slot = record { stored = l.stored; member = subst (λ (m : List ℕ). Mem e m) (sym (same_lists t.side)) t.slot.member } }

-- ---- the update
module _ (K : Kind) (c : ℕ) (w : List ℕ) (e f : ℕ) (t : IsSlot c w e) (v : List ℕ) (l : Left c w v (framed_at e f (state_in c w))) where
  among : Mem e (slots ((state_in c w).lists.T1 ++ (state_in c w).lists.T2))
  among =
      rw (map-append (λ (r : Resident). r.more.slot) (state_in c w).lists.T1 (state_in c w).lists.T2, slots_are first c w, slots_are second c w)
      (in_both (lists_of (parts_of c w).residents c) (number_of t.side) e (number_below t.side) t.slot.member)

  pub updates : (n : ℕ) → n ≡ (resident_at e (state_in c w)).frame → (u : List ℕ) → Left c v u ((stages_of K).touched e (state_in c v)) → Gives (policy_of K) ((stages_of K).updated e f (state_in c w)) c w u (InsertedOld n)
  updates n q u d =
      let s = framed_at e f (state_in c w) in
      let z = (lawful K).frames e f (state_in c w) (framed_resident e f (state_in c w) among) in
      record {
        left = staged (policy_of K) c w u ((stages_of K).touched e s) ((stages_of K).updated e f (state_in c w)).state (then_left c w v u s ((stages_of K).touched e) l d) (ap (λ (r : Done (policy_of K).State). r.state) z);
        answer = ap Old q ∙ ap (λ (r : Done (policy_of K).State). r.answer) z;
      }
