-- From the state test and an inner call to a public call. In order: calls; questions; `new`. Assumes nothing.
use mathlib.Core.Path.{◌≡◌, refl, sym, subst, ap, ◌∙◌}
use mathlib.Core.Bool.{Bool, true, false}
use mathlib.Core.List.{List}
use mathlib.Core.Option.{some}
use Prim.Native.Nat.{ℕ, ◌≤◌}
use lib.Dec.{ltb}
use borrow.Author.Tests.{ltb-false}
use native.Mathlib.Omega.{arith}
use lib.ListN.{length, drop}
use Rattle.rules.specs.Calls.{Call, Question, Answer, Refused, done}
use Rattle.rules.specs.State.{max_capacity}
use Rattle.rules.specs.Car.{new}
use Rattle.rules.specs.Public.{words_needed, made, called}
use Rattle.area.specs.Stored.{Writes}
use Rattle.empty_cache.specs.Fresh.{answer_of, Leaves, Empty, New}
use Rattle.std.specs.Prelude.{⊤, Result, Ok, Err}
use Rattle.refusals.specs.declared.Refusal.{Refusal}
use Rattle.refusals.specs.declared.Refusal.TheVariants as refusals
use Rattle.answers.specs.Answers.{told as told_as, made_is}
use Rattle.state_check.specs.Check.{state_test}
use Rattle.contracts.specs.Policy.{Policy, reads}
use Rattle.contracts.specs.Inner.{Good, Did, Says}
use Rattle.contracts.specs.Outer.{Outcome, Told, Making}
use Rattle.contracts.proofs.Exact.{Exact}
use Rattle.contracts.proofs.Reading.{reads_none, reads_good}

module _ (P : Policy) where
  -- ---- calls
  -- a call that is not refused does what the inner call does
  pub call : Exact P → (k : Call) (c : ℕ) (w v : List ℕ) (a : Answer) → Good P c w → Did P k c w v a → Outcome P k w v a
  unfolding called
  call e k c w v a g d =
      record {
        is = rw (reads_good P e c w g, reads_good P e c v d.good, d.answer, d.state) refl;
        size = d.size;
        rest = rw g.stored.capacity d.rest;
        refused = λ n. absurd (let q = reads_good P e c w g in let z : ◌≡◌ {A = ℕ} 0 1 = cc in let x : ⊥ = omega arith in x);
      }

  -- a refusal changes nothing
  pub call_refused : (k : Call) (w : List ℕ) → state_test P.kind w ≡ false → Outcome P k w w (Refused 3)
  unfolding called
  call_refused k w q = record { is = rw (reads_none P w q) refl; size = refl; rest = refl; refused = λ n. refl }

  -- ---- questions
  pub told : Exact P → (q : Question) (c : ℕ) (w : List ℕ) (a : Answer) → Good P c w → Says P q c w a → Told P q w a
  unfolding called
  told e q c w a g s = record { answer = rw (reads_good P e c w g) s.answer }

  pub told_refused : (q : Question) (w : List ℕ) → state_test P.kind w ≡ false → Told P q w (Refused 3)
  unfolding called
  told_refused q w n = record { answer = rw (reads_none P w n) refl }

  -- ---- `new`
  -- the state of a fresh area
  fresh_reads : Exact P → (c : ℕ) (v : List ℕ) → c ≤ max_capacity → Writes P.kind v (new c) → reads P v ≡ some (P.new c)
  unfolding new
  fresh_reads e c v k r =
      reads_good P e c v (record { stored = r.stored; kind = r.kind; well = subst P.WellFormed (sym (ap P.view r.reads ∙ e.new_is c)) (e.new_well c k) })
      ∙ ap some (ap P.view r.reads ∙ e.new_is c)

  -- refused, and all is as it was
  kept : (c n : ℕ) (w v : List ℕ) → made P.new c (length w) (reads P w) ≡ done (Refused n) (reads P w) → v ≡ w → Making P c w v (Refused n)
  kept c n w v q e = record { is = rw (q, e) refl; size = ap length e; rest = ap (drop (words_needed c)) e; refused = λ _. e }

  pub making : Exact P → (c : ℕ) (w v : List ℕ) (r : Result ⊤ Refusal) → New P.kind c w v r → Making P c w v (told_as made_is r)
  unfolding made answer_of
  making e c w v r n = by (ltb max_capacity c) (ltb (length w) (words_needed c)) refl refl
    where
      by : (x y : Bool) → ltb max_capacity c ≡ x → ltb (length w) (words_needed c) ≡ y → Making P c w v (told_as made_is r)
      by true y p q =
          let b : r ≡ Err refusals.Capacity = n.answer ∙ rw p refl in
          let l : Leaves (Err refusals.Capacity) P.kind c w v = rw b at n.area in
          rw b (kept c 1 w v (rw p refl) l)
      by false true p q =
          let b : r ≡ Err refusals.Area = n.answer ∙ rw (p, q) refl in
          let l : Leaves (Err refusals.Area) P.kind c w v = rw b at n.area in
          rw b (kept c 2 w v (rw (p, q) refl) l)
      by false false p q =
          let b : r ≡ Ok tt = n.answer ∙ rw (p, q) refl in
          let l : Empty P.kind c w v = rw b at n.area in
          let s = fresh_reads e c v (ltb-false max_capacity c p) l.writes in
          rw b (record { is = rw (s, p, q) refl; size = l.size; rest = l.rest; refused = λ z. absurd (z refl) })
