-- The check of a trace, in the shapes of the code: one turn of its loop. Assumes nothing.
use mathlib.Core.Path.{◌≡◌, sym, ap, ◌∙◌}
use mathlib.Core.List.{List}
use Prim.Native.Nat.{ℕ, ◌+◌, ◌-◌, ◌<◌, ◌≤◌}
use native.Mathlib.Nat.{add-zero}
use native.Mathlib.Omega.{arith}
use lib.ListN.{length}
use borrow.Author.Rules.{rules}
use Rattle.std.specs.Prelude.{Option, Some, None}
use Rattle.refusals.specs.declared.Refusal.{Refusal}
use Rattle.trace.specs.Reading.{Reading, check_of, stop_number}
use Rattle.trace.specs.Steps.{step_at}
use Rattle.trace.specs.declared.Operation.{Operation}
use Rattle.trace.specs.declared.Found.TheVariants.{Read, End, Refused}
use Rattle.trace.specs.declared.Step.{Step}
use Rattle.trace.specs.declared.Checked.{Checked}
use Rattle.trace.proofs.Arms.{part}
use Rattle.trace.proofs.Turns.{from, turn}

abbrev checked : ℕ → Option Refusal → ℕ → Checked
checked n r o = record { operations = n; refusal = r; offset = o }

-- what a reading tells, after n operations
abbrev after : ℕ → Reading → Checked
after n r = checked (n + length r.operations) r.refusal r.offset

same_count : {n m o : ℕ} {r : Option Refusal} → n ≡ m → checked n r o ≡ checked m r o
same_count e = cc

-- the loop's invariant: n operations were read up to the place at
pub record ReadTo (s : List ℕ) (n at : ℕ) : Type 0 where
  pub inside : at ≤ length s
  pub few : n ≤ at
  pub is : after n (from s at) ≡ check_of s

pub begins : (s : List ℕ) (at : ℕ) → at ≡ 0 → ReadTo s 0 at
begins s at e = record { inside = omega arith; few = omega arith; is = rw e (same_count (omega arith)) }

-- the part of the trace that the code lends, of which x was answered
module _ (s : List ℕ) (n at : ℕ) (x : Step) (i : ReadTo s n at) (e : x ≡ step_at at (part s at)) where
  pub again : (op : Operation) → x.found ≡ Read op → ReadTo s (n + 1) x.cursor.at
  again op is =
      let h = turn s at x e (Read op) is in
      record {
        inside = h.inside;
        few = omega (arith, i.few, h.past);
        is = same_count (omega arith) ∙ sym (ap (after n) h.is) ∙ i.is;
      }

  pub falls : (op : Operation) → x.found ≡ Read op → length s - x.cursor.at < length s - at
  falls op is =
      let h = turn s at x e (Read op) is in
      omega (arith, h.past, h.inside)

  pub ends : x.found ≡ End → checked n None at ≡ check_of s
  ends is = same_count (sym (add-zero n)) ∙ sym (ap (after n) (turn s at x e End is).is) ∙ i.is

  pub stops : (r : Refusal) (o : ℕ) → x.found ≡ Refused r o → checked n (Some r) o ≡ check_of s
  stops r o is = same_count (sym (add-zero n)) ∙ sym (ap (after n) (turn s at x e (Refused r o) is).is) ∙ i.is

-- ---- a field of the answer
pub operations_of : (s : List ℕ) (r : Checked) → r ≡ check_of s → r.operations ≡ (check_of s).operations
operations_of s r e = ap (λ (x : Checked). x.operations) e

pub refusal_of : (s : List ℕ) (r : Checked) → r ≡ check_of s → stop_number r.refusal ≡ stop_number (check_of s).refusal
refusal_of s r e = ap (λ (x : Checked). stop_number x.refusal) e

pub offset_of_lem : (s : List ℕ) (r : Checked) → r ≡ check_of s → r.offset ≡ (check_of s).offset
offset_of_lem s r e = ap (λ (x : Checked). x.offset) e

pub ruleset laws = (begins, again, falls, ends, stops, operations_of, refusal_of, offset_of_lem, rules)
