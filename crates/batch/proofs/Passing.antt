-- From the state test and the inner batch to the public one, in the shapes of the code. Assumes nothing.
use mathlib.Core.Path.{◌≡◌, refl}
use mathlib.Core.List.{List}
use Prim.Native.Nat.{ℕ}
use native.Mathlib.Omega.{arith}
use borrow.Author.Rules.{rules}
use Rattle.std.specs.Prelude.{Result, Ok, Err}
use Rattle.refusals.specs.declared.Refusal.{Refusal}
use Rattle.rules.specs.Public.{batched}
use Rattle.contracts.specs.Policy.{Policy, policy_of}
use Rattle.contracts.specs.Inner.{Good}
use Rattle.rules.specs.declared.Kind.{Kind}
use Rattle.contracts.proofs.Exact.{Exact, exact_of}
use Rattle.contracts.proofs.Reading.{reads_none, reads_good}
use Rattle.opening.specs.Opening.{Opens}
use Rattle.opening.proofs.Public.{opens_as, opened_good}
use Rattle.batch.specs.Outcomes.{ran_is, Finishes, BatchOutcome}
use Rattle.batch.specs.declared.Counts.{Counts}
use Rattle.batch.specs.declared.Stopped.TheVariants.{State}
use Rattle.batch.specs.declared.Tally.{Tally}

-- ---- the outcome of a trace that was run
ran_is_lem : (P : Policy) → Exact P → (c : ℕ) (trace : List ℕ) (lent : Counts) (w v : List ℕ) (r : Tally) → Good P c w → Finishes P c trace w v r
    → BatchOutcome P trace lent w v (ran_is r.ran) r.counts
unfolding batched
ran_is_lem P e c trace lent w v r g d =
    let q = reads_good P e c w g in
    record {
      is = rw (q, reads_good P e c v d.good, d.answer, d.state) (rw d.counts refl);
      size = d.size;
      rest = rw g.stored.capacity d.rest;
      refused = λ n. let z : ◌≡◌ {A = ℕ} 0 1 = cc in absurd (omega arith);
    }

-- what `open` tells of the words w
module _ (k : Kind) (o : Result ℕ Refusal) (w : List ℕ) (h : Opens (policy_of k).kind w o) where
  pub opened : (c : ℕ) → o ≡ Ok c → Good (policy_of k) c w
  opened c q = opened_good (policy_of k) o w h (exact_of k) c q

  -- the trace was run
  pub ran_through : (c : ℕ) → o ≡ Ok c → (trace : List ℕ) (lent : Counts) (v : List ℕ) (r : Tally) → Finishes (policy_of k) c trace w v r
      → BatchOutcome (policy_of k) trace lent w v (ran_is r.ran) r.counts
  ran_through c q trace lent v r d = ran_is_lem (policy_of k) (exact_of k) c trace lent w v r (opened c q) d

  -- refusal 3
  pub refused : (e : Refusal) → o ≡ Err e → (trace : List ℕ) (lent : Counts)
      → BatchOutcome (policy_of k) trace lent w w (ran_is (Err State)) lent
  unfolding batched
  refused e q trace lent =
      let z = reads_none (policy_of k) w (opens_as (policy_of k) o w h (Err e) q).1 in
      record { is = rw z refl; size = refl; rest = refl; refused = λ _. refl }

pub ruleset laws = (opened, ran_through, refused, rules)
