-- The loop of a batch, in the shapes of the code: what was done so far, with the run of the rest, is the batch of the whole trace; and no count grows past 64 bits.
-- Assumes nothing.
use mathlib.Core.Path.{◌≡◌, refl, sym, ap, ◌∙◌}
use mathlib.Core.Bool.{false, cond}
use mathlib.Core.List.{List, [], map}
use Prim.Native.Nat.{ℕ, ◌+◌, ◌-◌, ◌^◌, ◌<◌, ◌≤◌}
use native.Mathlib.Omega.{arith}
use lib.Dec.{eqb}
use lib.ListN.{length, drop}
use borrow.Author.Rules.{rules}
use Rattle.std.specs.Prelude.{Option, Some, None, Ok, Err}
use Rattle.refusals.specs.declared.Refusal.{Refusal}
use Rattle.refusals.specs.declared.Refusal.TheVariants as refusals
use Rattle.refusals.specs.Refusals.{number_of}
use Rattle.trace.specs.Reading.{stop_number, Reading, reading, reading_of}
use Rattle.trace.specs.Steps.{step_at}
use Rattle.trace.specs.declared.Operation.{Operation}
use Rattle.trace.specs.declared.Found.TheVariants.{Read, End, Refused}
use Rattle.trace.specs.declared.Step.{Step}
use Rattle.trace.proofs.Laws.{added}
use Rattle.trace.proofs.Arms.{part}
use Rattle.trace.proofs.Turns.{from, turn}
use Rattle.rules.specs.Calls.{Call, Answer, Finished, Stopped, Done, run}
use Rattle.rules.specs.Counts as counting
use Rattle.rules.specs.Counts.{no_counts, counted, plus, tally, hits}
use Rattle.rules.specs.Batch.{call_of, batch, answer_of}
use Rattle.rules.proofs.RunLaws.{batch_runs}
use Rattle.area.specs.Area.{end_at}
use Rattle.answers.specs.Answers.{reply_is}
use Rattle.answers.specs.declared.Reply.{Reply}
use Rattle.contracts.specs.Policy.{Policy, policy_of, state_of}
use Rattle.contracts.specs.Inner.{Good, Did}
use Rattle.rules.specs.declared.Kind.{Kind}
use Rattle.batch.specs.Outcomes.{counts_is, ran_is, Fits, Finishes}
use Rattle.batch.specs.declared.Counts.{Counts}
use Rattle.batch.specs.declared.Stopped.TheVariants as stop
use Rattle.batch.specs.declared.Tally.{Tally}
use Rattle.batch.proofs.Paying.{AtMostOne, at_most_one, marks_of, pays, few_marked}

-- ---- sums of counts
same_counts : {g g2 h h2 u u2 p p2 e e2 s s2 r r2 : ℕ} → g ≡ g2 → h ≡ h2 → u ≡ u2 → p ≡ p2 → e ≡ e2 → s ≡ s2 → r ≡ r2
    → counting.counts g h u p e s r ≡ counting.counts g2 h2 u2 p2 e2 s2 r2
same_counts a b c d e f g = cc

plus_assoc : (a b d : counting.Counts) → plus a (plus b d) ≡ plus (plus a b) d
plus_assoc a b d = same_counts (omega arith) (omega arith) (omega arith) (omega arith) (omega arith) (omega arith) (omega arith)

plus_none : (a : counting.Counts) → plus a no_counts ≡ a
plus_none a = same_counts (omega arith) (omega arith) (omega arith) (omega arith) (omega arith) (omega arith) (omega arith)

none_plus : (a : counting.Counts) → plus no_counts a ≡ a
none_plus a = same_counts (omega arith) (omega arith) (omega arith) (omega arith) (omega arith) (omega arith) (omega arith)

-- ---- a batch as the reading of its trace, without its answers: after n operations that counted m
pub record Sum (S : Type 0) : Type 0 where
  pub done : ℕ
  pub refusal : Option Refusal
  pub offset : ℕ
  pub state : S
  pub counts : counting.Counts

-- what is told of it, with its refusal and that one's offset
abbrev stops : ℕ → Option Refusal → ℕ → Answer
stops n r o = cond (eqb (stop_number r) 0) (Finished n) (Stopped (stop_number r) o)

module _ {S : Type 0} where
  abbrev sum : ℕ → Option Refusal → ℕ → S → counting.Counts → Sum S
  sum n r o s m = record { done = n; refusal = r; offset = o; state = s; counts = m }

  same_sum : {n n2 o : ℕ} {r : Option Refusal} {s : S} {m m2 : counting.Counts} → n ≡ n2 → m ≡ m2 → sum n r o s m ≡ sum n2 r o s m2
  same_sum a b = cc

  abbrev after : (Call → S → Done S) → ℕ → counting.Counts → Reading → S → Sum S
  after does n m r s =
      let x = run does (map call_of r.operations) s in
      sum (n + length r.operations) r.refusal r.offset x.state (plus m (tally x.answers))

  same_after : (does : Call → S → Done S) (n : ℕ) (r : Reading) {m m2 : counting.Counts} {s s2 : S} → m ≡ m2 → s ≡ s2 → after does n m r s ≡ after does n m2 r s2
  same_after does n r {m} {m2} {s} {s2} p q = ap (λ (x : counting.Counts). after does n x r s) p ∙ ap (λ (x : S). after does n m2 r x) q

  -- one operation is done, and its answer counted
  after_one : (does : Call → S → Done S) (n : ℕ) (m : counting.Counts) (op : Operation) (r : Reading) (s : S)
      → let d = does (call_of op) s in after does n m (added op r) s ≡ after does (n + 1) (plus m (counted d.answer)) r d.state
  unfolding run
  after_one does n m op r s = same_sum (omega arith) (plus_assoc m _ _)

  -- none is left
  after_none : (does : Call → S → Done S) (n : ℕ) (m : counting.Counts) (refusal : Option Refusal) (offset : ℕ) (s : S) → after does n m (reading [] refusal offset) s ≡ sum n refusal offset s m
  unfolding run
  after_none does n m refusal offset s = same_sum (omega arith) (plus_none m)

  -- so the answer, the state and the counts of the batch are known
  pub record Ends (does : Call → S → Done S) (bs : List ℕ) (s : S) (a : Answer) (t : S) (m : counting.Counts) : Type 0 where
    pub answer : a ≡ answer_of (batch does 0 bs s)
    pub state : t ≡ (batch does 0 bs s).state
    pub counts : m ≡ (batch does 0 bs s).counts

  ends : (does : Call → S → Done S) (bs : List ℕ) (s : S) (n : ℕ) (r : Option Refusal) (o : ℕ) (t : S) (m : counting.Counts) (a : Answer)
      → sum n r o t m ≡ after does 0 no_counts (reading_of bs) s → a ≡ stops n r o → Ends does bs s a t m
  ends does bs s n r o t m a e is =
      let b = batch_runs does 0 0 bs s in
      let d : n ≡ (batch does 0 bs s).done = omega (arith, ap (λ (x : Sum S). x.done) e, b.done) in
      let f : stop_number r ≡ (batch does 0 bs s).refusal = ap (λ (x : Sum S). stop_number x.refusal) e ∙ sym b.refusal in
      let g : o ≡ (batch does 0 bs s).offset = ap (λ (x : Sum S). x.offset) e ∙ sym b.offset in
      record {
        answer = is ∙ rw (d, f, g) refl;
        state = ap (λ (x : Sum S). x.state) e ∙ sym b.state;
        counts = ap (λ (x : Sum S). x.counts) e ∙ none_plus _ ∙ sym b.counts;
      }

-- ---- a refusal has a number
some_number : (r : Refusal) → eqb (number_of r) 0 ≡ false
some_number refusals.Capacity = refl
some_number refusals.Area = refl
some_number refusals.State = refl
some_number refusals.Operation = refl
some_number refusals.Number = refl
some_number refusals.Room = refl

-- ---- counts m of n operations, where so many pages are marked still
pub record Bounded (m : counting.Counts) (marked n : ℕ) : Type 0 where
  pub gets : m.gets ≤ n
  pub new_pages : m.new_pages ≤ n
  pub removals : m.removals ≤ n
  pub paid : hits m + m.evictions ≤ n
  pub steps : m.steps + marked ≤ 1024 + (hits m + m.evictions)

-- one more operation, by the law that holds of it
bounded_one : (m a : counting.Counts) (marked left n : ℕ) → Bounded m marked n → AtMostOne a → a.steps + left ≤ marked + hits a + a.evictions → Bounded (plus m a) left (n + 1)
bounded_one m a marked left n h o p =
    record { gets = omega arith; new_pages = omega arith; removals = omega arith; paid = omega arith; steps = omega arith }

-- THE LOOP'S INVARIANT: n operations up to the place `at` of the trace s took the area w₀ to w and counted m
pub record RunTo (k : Kind) (c : ℕ) (s w₀ w : List ℕ) (at n : ℕ) (m : Counts) : Type 0 where
  pub short : length s < 2 ^ 63
  pub inside : at ≤ length s
  pub few : n ≤ at
  pub good : Good (policy_of k) c w
  pub size : length w ≡ length w₀
  pub rest : drop (end_at c) w ≡ drop (end_at c) w₀
  pub small : Bounded (counts_is m) (marks_of k (state_of (policy_of k) c w)) n
  pub is :
      after (policy_of k).does n (counts_is m) (from s at) (state_of (policy_of k) c w)
      ≡ after (policy_of k).does 0 no_counts (reading_of s) (state_of (policy_of k) c w₀)

pub begins : (k : Kind) (c : ℕ) (s w : List ℕ) (at : ℕ) (m : Counts) → length s < 2 ^ 63 → Good (policy_of k) c w → at ≡ 0 → counts_is m ≡ no_counts → RunTo k c s w w at 0 m
begins k c s w at m short good e d =
    record {
      short = short;
      inside = omega arith;
      few = omega arith;
      good = good;
      size = refl;
      rest = refl;
      small =
          rw d (record { gets = omega arith; new_pages = omega arith; removals = omega arith; paid = omega arith; steps = omega (arith, few_marked k (state_of (policy_of k) c w) good.well) });
      is =
          same_after (policy_of k).does 0 (from s at) d refl
          ∙ ap (λ (p : ℕ). after (policy_of k).does 0 no_counts (from s p) (state_of (policy_of k) c w)) e;
    }

module _ (k : Kind) (c : ℕ) (s w₀ w : List ℕ) (at n : ℕ) (m : Counts) (i : RunTo k c s w₀ w at n m) where
  abbrev P : Policy
  P = policy_of k

  -- the counts after an operation
  one_more : (call : Call) (v : List ℕ) (a : Answer) → Did P call c w v a → Bounded (plus (counts_is m) (counted a)) (marks_of k (state_of P c v)) (n + 1)
  one_more call v a d =
      rw (d.answer, d.state)
      (bounded_one (counts_is m) (counted (P.does call (state_of P c w)).answer) (marks_of k (state_of P c w)) (marks_of k (P.does call (state_of P c w)).state) n
      i.small (at_most_one (P.does call (state_of P c w)).answer) (pays k call (state_of P c w) i.good.well))

  pub counts_fit : (op : Operation) (v : List ℕ) (r : Reply) → Did P (call_of op) c w v (reply_is r) → Fits m r
  counts_fit op v r d =
      let h = one_more (call_of op) v (reply_is r) d in
      let short = i.short in
      let inside = i.inside in
      let few = i.few in
      record {
        gets = omega (arith, h.gets);
        get_hits = omega (arith, h.paid);
        updates = omega (arith, h.paid);
        new_pages = omega (arith, h.new_pages);
        evictions = omega (arith, h.paid);
        steps = omega (arith, h.steps, h.paid);
        removals = omega (arith, h.removals);
      }

  -- the part of the trace that the code lends, of which x was answered
  module _ (x : Step) (e : x ≡ step_at at (part s at)) where
    pub again : (op : Operation) (v : List ℕ) (r : Reply) (m2 : Counts) → x.found ≡ Read op → Did P (call_of op) c w v (reply_is r)
        → counts_is m2 ≡ plus (counts_is m) (counted (reply_is r)) → RunTo k c s w₀ v x.cursor.at (n + 1) m2
    again op v r m2 is d q =
        let h = turn s at x e (Read op) is in
        record {
          short = i.short;
          inside = h.inside;
          few = omega (arith, i.few, h.past);
          good = d.good;
          size = d.size ∙ i.size;
          rest = d.rest ∙ i.rest;
          small = rw q (one_more (call_of op) v (reply_is r) d);
          is =
              same_after P.does (n + 1) (from s x.cursor.at) (q ∙ ap (λ (a : Answer). plus (counts_is m) (counted a)) d.answer) d.state
              ∙ sym (after_one P.does n (counts_is m) op (from s x.cursor.at) (state_of P c w))
              ∙ sym (ap (λ (y : Reading). after P.does n (counts_is m) y (state_of P c w)) h.is)
              ∙ i.is;
        }

    pub falls : (op : Operation) → x.found ≡ Read op → length s - x.cursor.at < length s - at
    falls op is =
        let h = turn s at x e (Read op) is in
        omega (arith, h.past, h.inside)

    -- where no operation is read
    finishes : (r : Option Refusal) (o : ℕ) (y : Tally) → from s at ≡ reading [] r o → y.counts ≡ m → ran_is y.ran ≡ stops n r o → Finishes P c s w₀ w y
    finishes r o y is q a =
        let z =
        ends P.does s (state_of P c w₀) n r o (state_of P c w) (counts_is m) (ran_is y.ran)
        (sym (after_none P.does n (counts_is m) r o (state_of P c w)) ∙ sym (ap (λ (u : Reading). after P.does n (counts_is m) u (state_of P c w)) is) ∙ i.is)
        a in
        record { answer = z.answer; counts = ap counts_is q ∙ z.counts; state = z.state; good = i.good; size = i.size; rest = i.rest }

    pub at_end_fact : x.found ≡ End → Finishes P c s w₀ w (record { ran = Ok n; counts = m })
    at_end_fact is = finishes None at _ (turn s at x e End is).is refl refl

    pub at_refusal : (r : Refusal) (o : ℕ) → x.found ≡ Refused r o → Finishes P c s w₀ w (record { ran = Err (stop.Trace r o); counts = m })
    at_refusal r o is = finishes (Some r) o _ (turn s at x e (Refused r o) is).is refl (rw (some_number r) refl)

pub ruleset laws = (begins, counts_fit, again, falls, at_end_fact, at_refusal, rules)
