-- ANY TWO OUTCOMES OF A BATCH ARE EQUAL, its counts too: the maps from the code's answer and counts to the rules' are
-- one to one. Assumes nothing.
use mathlib.Core.Path.{◌≡◌, refl, sym, ap, ◌∙◌}
use mathlib.Core.List.{List}
use mathlib.Core.Option.{none}
use Prim.Native.Nat.{ℕ}
use Rattle.std.specs.Prelude.{Result, Ok, Err}
use Rattle.refusals.proofs.OneToOne.{number_one}
use Rattle.rules.specs.Counts as counting
use Rattle.rules.specs.Public.{words_needed, BatchDone}
use Rattle.area.specs.Area.{capacity_of}
use Rattle.contracts.specs.Policy.{Policy, reads}
use Rattle.contracts.specs.Equal.{Same}
use Rattle.batch.specs.Outcomes.{counts_is, ran_is, BatchOutcome}
use Rattle.batch.specs.declared.Counts.{Counts}
use Rattle.batch.specs.declared.Stopped.{Stopped}
use Rattle.batch.specs.declared.Stopped.TheVariants.{Trace, State}

pub counts_one : (m n : Counts) → counts_is m ≡ counts_is n → m ≡ n
counts_one m n q =
    let a : m.gets ≡ n.gets = ap (λ (x : counting.Counts). x.gets) q in
    let b : m.get_hits ≡ n.get_hits = ap (λ (x : counting.Counts). x.get_hits) q in
    let c : m.updates ≡ n.updates = ap (λ (x : counting.Counts). x.updates) q in
    let d : m.new_pages ≡ n.new_pages = ap (λ (x : counting.Counts). x.new_pages) q in
    let e : m.evictions ≡ n.evictions = ap (λ (x : counting.Counts). x.evictions) q in
    let f : m.steps ≡ n.steps = ap (λ (x : counting.Counts). x.steps) q in
    let g : m.removals ≡ n.removals = ap (λ (x : counting.Counts). x.removals) q in
    rw (a, b, c, d, e, f, g) refl

pub ran_one : (a b : Result ℕ Stopped) → ran_is a ≡ ran_is b → a ≡ b
ran_one (Ok n) (Ok m) q = cc
ran_one (Ok n) (Err (Trace r o)) q = cc
ran_one (Ok n) (Err State) q = cc
ran_one (Err (Trace r o)) (Ok m) q = cc
ran_one (Err (Trace r o)) (Err (Trace s p)) q = let e : r ≡ s = number_one r s cc in cc
ran_one (Err (Trace r o)) (Err State) q = cc
ran_one (Err State) (Ok m) q = cc
ran_one (Err State) (Err (Trace s p)) q = cc
ran_one (Err State) (Err State) q = cc

-- of two outcomes: the answers a and b with the counts m and n, and the areas u and v
pub batches_equal : (P : Policy) (trace : List ℕ) (lent : Counts) (w u v : List ℕ) (a b : Result ℕ Stopped) (m n : Counts)
    → BatchOutcome P trace lent w u (ran_is a) m
    → BatchOutcome P trace lent w v (ran_is b) n
    → Same P {A = Result ℕ Stopped × Counts} (words_needed (capacity_of w)) (reads P w ≡ none) u v (a, m) (b, n)
batches_equal P trace lent w u v a b m n x y =
    let q = x.is ∙ sym y.is in
    let r = ran_one a b (ap (λ (d : BatchDone P.State). d.answer) q) in
    let c = counts_one m n (ap (λ (d : BatchDone P.State). d.counts) q) in
    record {
      answer = rw (r, c) refl;
      state = ap (λ (d : BatchDone P.State). d.area) q;
      size = x.size ∙ sym y.size;
      rest = x.rest ∙ sym y.rest;
      kept = λ z. x.refused z ∙ sym (y.refused z);
    }
