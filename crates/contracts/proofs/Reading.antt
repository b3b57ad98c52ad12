-- WHAT WORDS READ AS. In order: by the state test; an area that an inner call may take; exactly where they are a
-- writing of a well-formed state, and of which. Assumes nothing.
use mathlib.Core.Path.{◌≡◌, refl, sym, subst, ap, ◌∙◌}
use mathlib.Core.Bool.{Bool, true, false, cond}
use mathlib.Core.List.{List}
use mathlib.Core.Option.{Option, some, none}
use Prim.Native.Nat.{ℕ}
use native.Mathlib.Omega.{arith}
use Rattle.area_state.specs.Parts as parts
use Rattle.area.specs.Area.{capacity_of}
use Rattle.area.specs.Stored.{state_in}
use Rattle.state_check.specs.Check.{Words, state_test}
use Rattle.state_check.proofs.State.{state_writes, writes_read}
use Rattle.contracts.specs.Policy.{Policy, state_of, reads}
use Rattle.contracts.specs.Inner.{Good}
use Rattle.contracts.specs.Writing.{WritingOf, NoWriting}
use Rattle.contracts.proofs.Exact.{Exact}

module _ (P : Policy) where
  -- where the test passes, and where it does not
  pub reads_some : (w : List ℕ) → state_test P.kind w ≡ true → reads P w ≡ some (state_of P (capacity_of w) w)
  unfolding reads
  reads_some w q = rw q refl

  pub reads_none : (w : List ℕ) → state_test P.kind w ≡ false → reads P w ≡ none
  unfolding reads
  reads_none w q = rw q refl

  -- words that read as t have passed the test, and t is what they hold
  pub reads_is : (w : List ℕ) (t : P.State)
      → reads P w ≡ some t
      → (state_test P.kind w ≡ true) × (state_of P (capacity_of w) w ≡ t)
  unfolding reads
  reads_is w t = by (state_test P.kind w) refl
    where
      by : (b : Bool)
          → state_test P.kind w ≡ b
          → cond b (some (state_of P (capacity_of w) w)) none ≡ some t
          → (state_test P.kind w ≡ true) × (state_of P (capacity_of w) w ≡ t)
      by true q e = (q, cc)
      by false q e = absurd (let z : ◌≡◌ {A = ℕ} 0 1 = cc in let x : ⊥ = omega arith in x)

  -- ---- an area that an inner call may take is a writing of its state, and a writing is such an area
  pub good_writing : (c : ℕ) (w : List ℕ) → Good P c w → WritingOf P w (state_of P c w)
  unfolding state_in parts.state_of
  good_writing c w g =
      record {
        state = state_in c w;
        writes = record { kind = g.kind; stored = g.stored; reads = refl };
        view = refl;
        well = g.well;
      }

  pub writing_good : (w : List ℕ) (t : P.State) (x : WritingOf P w t) → Good P x.state.lists.c w
  writing_good w t x =
      record {
        stored = x.writes.stored;
        kind = x.writes.kind;
        well = subst P.WellFormed (sym (ap P.view x.writes.reads ∙ x.view)) x.well;
      }

  -- ---- EXACTLY: words read as t where they are a writing of it, and it is well formed
  pub reads_complete : Exact P → (w : List ℕ) (t : P.State) → WritingOf P w t → reads P w ≡ some t
  reads_complete e w t x =
      reads_some w (e.complete w x.state x.writes (subst P.WellFormed (sym x.view) x.well))
      ∙ ap some (ap P.view (writes_read P.kind w x.state x.writes) ∙ x.view)

  -- and only there, where they are words of 64 bits
  pub reads_sound : Exact P → (w : List ℕ) (t : P.State) → Words w → reads P w ≡ some t → WritingOf P w t
  reads_sound e w t words r =
      let q = reads_is w t r in
      record {
        state = state_in (capacity_of w) w;
        writes = state_writes P.kind w q.0;
        view = q.1;
        well = subst P.WellFormed q.1 (e.sound w words q.0);
      }

  -- and as nothing where they are a writing of none
  pub none_sound : Exact P → (w : List ℕ) → reads P w ≡ none → NoWriting P w
  none_sound e w r t x = let q = reads_complete e w t x in let z : ◌≡◌ {A = ℕ} 0 1 = cc in let n : ⊥ = omega arith in n

  pub none_complete : Exact P → (w : List ℕ) → Words w → NoWriting P w → reads P w ≡ none
  none_complete e w words n = by (reads P w) refl
    where
      by : (o : Option P.State) → reads P w ≡ o → reads P w ≡ none
      by none q = q
      by (some t) q = absurd (n t (reads_sound e w t words q))

  -- ---- in the shapes of the calls
  pub reads_good : Exact P → (c : ℕ) (w : List ℕ) → Good P c w → reads P w ≡ some (state_of P c w)
  reads_good e c w g = reads_complete e w (state_of P c w) (good_writing c w g)

  -- GOOD: words that pass the test are an area that an inner call may take
  pub good : Exact P → (w : List ℕ) → Words w → state_test P.kind w ≡ true → Good P (capacity_of w) w
  unfolding state_in parts.state_of
  good e w words q =
      let r = state_writes P.kind w q in
      record { stored = r.stored; kind = r.kind; well = e.sound w words q }
