-- The calls that only read, by the kind. In order: a page; the numbers. Assumes nothing.
use mathlib.Core.Path.{◌≡◌, refl, sym, ◌∙◌}
use mathlib.Core.Bool.{Bool}
use mathlib.Core.List.{List}
use Prim.Native.Nat.{ℕ}
use lib.ListN.{length}
use Rattle.rules.specs.State.{list, ghosts, residents}
use Rattle.rules.specs.declared.Side.TheVariants.{First as first, Second as second}
use Rattle.rules.specs.Calls.{Question, Peek, Contains, Len, Capacity, Target, T1Len, T2Len, B1Len, B2Len, Answer, Holds, Number, asked}
use Rattle.area_state.specs.States.{resident_at}
use Rattle.area.specs.Area.{target_of}
use Rattle.area.specs.Stored.{state_in}
use Rattle.answers.specs.Answers.{seen_is}
use Rattle.std.specs.Prelude.{Option, Some, None, is_some}
use Rattle.contracts.specs.Inner.{Says}
use Rattle.stages.specs.Common.{SlotIs}
use Rattle.stages.proofs.Finding.{state_c, state_target}
use Rattle.contracts.specs.Policy.{policy_of}
use Rattle.rules.specs.declared.Kind.{Kind}
use Rattle.inner_calls.proofs.Both.{lawful}

module _ (K : Kind) (c : ℕ) (w : List ℕ) where
  says : (q : Question) (a : Answer) → a ≡ asked q (state_in c w).lists → Says (policy_of K) q c w a
  says q a h = record { answer = h ∙ sym ((lawful K).asks q (state_in c w)) }

  -- ---- a page
  module _ (x : ℕ) where
    pub peek_see : (e f : ℕ) → SlotIs c w x (Some e) → f ≡ (resident_at e (state_in c w)).frame → Says (policy_of K) (Peek x) c w (seen_is (Some f))
    unfolding asked
    peek_see e f t q = says (Peek x) (seen_is (Some f)) (rw (t.1, q) refl)

    pub peek_no : SlotIs c w x None → (r : Option ℕ) → r ≡ None → Says (policy_of K) (Peek x) c w (seen_is r)
    unfolding asked
    peek_no n r q = rw q (says (Peek x) (seen_is None) (rw n refl))

    pub holds : (r : Option ℕ) (b : Bool) → SlotIs c w x r → b ≡ is_some r → Says (policy_of K) (Contains x) c w (Holds b)
    unfolding asked
    holds (Some e) b t q = says (Contains x) (Holds b) (rw (q, t.1) refl)
    holds None b n q = says (Contains x) (Holds b) (rw (q, n) refl)

  -- ---- the numbers
  pub len_says : (n : ℕ) → n ≡ residents (state_in c w).lists → Says (policy_of K) Len c w (Number n)
  unfolding asked
  len_says n q = says Len (Number n) (rw q refl)

  pub capacity_says : Says (policy_of K) Capacity c w (Number c)
  unfolding asked
  capacity_says = says Capacity (Number c) (rw (state_c c w) refl)

  pub target_says : (n : ℕ) → n ≡ target_of w → Says (policy_of K) Target c w (Number n)
  unfolding asked
  target_says n q = says Target (Number n) (rw (state_target c w, q) refl)

  pub t1_says : (n : ℕ) → n ≡ length (list first (state_in c w).lists) → Says (policy_of K) T1Len c w (Number n)
  unfolding asked
  t1_says n q = says T1Len (Number n) (rw q refl)

  pub t2_says : (n : ℕ) → n ≡ length (list second (state_in c w).lists) → Says (policy_of K) T2Len c w (Number n)
  unfolding asked
  t2_says n q = says T2Len (Number n) (rw q refl)

  pub b1_says : (n : ℕ) → n ≡ length (ghosts first (state_in c w).lists) → Says (policy_of K) B1Len c w (Number n)
  unfolding asked
  b1_says n q = says B1Len (Number n) (rw q refl)

  pub b2_says : (n : ℕ) → n ≡ length (ghosts second (state_in c w).lists) → Says (policy_of K) B2Len c w (Number n)
  unfolding asked
  b2_says n q = says B2Len (Number n) (rw q refl)
