-- The first bytes of the input: what the program's definition says of them, and the code that reads them. In order: the definition by its header; the
-- header depends on six bytes; its bounds; the readers; an empty cache. Assumes nothing.
use mathlib.Core.Path.{◌≡◌, refl, sym, subst, ap, ◌∙◌}
use mathlib.Core.Bool.{Bool, true, false, cond}
use mathlib.Core.List.{List, [], ◌∷◌, ◌++◌, append-nil}
use mathlib.Core.Option.{some, none}
use Prim.Native.Nat.{ℕ, suc, ◌+◌, ◌*◌, ◌<◌, ◌≤◌}
use native.Mathlib.Omega.{arith}
use mir.Val.{Fits}
use mir.Syntax.{w64}
use lib.Dec.{ltb, eqb}
use lib.ListN.{length, get_or, drop}
use borrow.Author.Rules.{rules}
use borrow.Author.Tests.{lt-ltb, le-ltb, ltb-false, ne_eqb}
use borrow.Author.Rules.{part_to_end}
use Rattle.numbers.specs.declared.Fault.{Fault}
use Rattle.numbers.specs.declared.Fault.TheVariants.{Missing, NotShortest, TooLarge}
use Rattle.std.specs.Prelude.{⊤, Result, Ok, Err}
use Rattle.refusals.specs.declared.Refusal.{Refusal}
use Rattle.refusals.specs.declared.Refusal.TheVariants as refusals
use Rattle.refusals.specs.Refusals.{number_of}
use Rattle.numbers.specs.declared.Numeral.{Numeral}
use Rattle.numbers.specs.Reading.{Number, frame_of}
use Rattle.numbers.proofs.Bounds.{frame_bounds}
use Rattle.numbers.proofs.Prefix.{frame_prefix}
use Rattle.trace.proofs.Arms.{part}
use Rattle.rules.specs.Calls.{Stopped}
use Rattle.rules.specs.Batch.{batch}
use Rattle.rules.specs.Car.{new}
use Rattle.rules.specs.Program as rules
use Rattle.rules.specs.Program.{program, text_of, max_replayed}
use Rattle.empty_cache.specs.Fresh.{answer_of, Empty, New}
use Rattle.rules.specs.declared.Kind.{Kind}
use Rattle.rules.specs.declared.Kind.TheVariants.{Arc, Car}
use Rattle.contracts.specs.Policy.{Policy, policy_of}
use Rattle.contracts.proofs.Exact.{exact_of}
use Rattle.replaying.specs.declared.Header.{Header}
use Rattle.replaying.specs.declared.Stop.{Stop}
use Rattle.replaying.specs.Pending.{told_after}
use Rattle.replaying.specs.Header.{stop, sized, header_of, Sizes, Fresh}
use Rattle.replaying.specs.Feeding.{needed}
use Rattle.replaying.proofs.Batches.{told_first}

-- ---- the definition by its header
-- what is told of an input with that header
abbrev pub headed : Result Header Stop → List ℕ → List ℕ
headed (Err s) bs = text_of (Stopped (number_of s.refusal) s.offset)
headed (Ok h) bs = told_after 0 (batch (policy_of h.kind).does h.used (drop h.used bs) ((policy_of h.kind).new h.c))

replay_is : (k : Kind) (c o : ℕ) (bs : List ℕ) → rules.replay k c o bs ≡ told_after 0 (batch (policy_of k).does o bs ((policy_of k).new c))
unfolding rules.replay
replay_is Arc c o bs = told_first _
replay_is Car c o bs = told_first _

capacity_is : (k : Kind) (f : Number) (b : ℕ) (bs : List ℕ) → rules.with_capacity k f bs ≡ headed (sized k f) (b ∷ bs)
unfolding rules.with_capacity rules.sized
capacity_is k (Ok n) b bs = by (ltb max_replayed n.value)
  where
    by : (x : Bool) → rules.sized x k n.value n.used bs
        ≡ headed (cond x (Err (stop refusals.Capacity 1)) (Ok (record { kind = k; c = n.value; used = 1 + n.used }))) (b ∷ bs)
    by true = refl
    by false =
        let q : suc n.used ≡ 1 + n.used = omega arith in
        replay_is k n.value (1 + n.used) (drop n.used bs)
        ∙ ap (λ (m : ℕ). told_after 0 (batch (policy_of k).does (1 + n.used) (drop m (b ∷ bs)) ((policy_of k).new n.value))) q
capacity_is k (Err f) b bs = refl

pub program_headed : (bs : List ℕ) → program bs ≡ headed (header_of bs) bs
unfolding program rules.with_kind header_of
program_headed [] = refl
program_headed (b ∷ bs) = by (eqb b 1) (eqb b 2)
  where
    by : (x y : Bool) → rules.with_kind (cond x (some Arc) (cond y (some Car) none)) bs
        ≡ headed (cond x (sized Arc (frame_of bs)) (cond y (sized Car (frame_of bs)) (Err (stop refusals.Operation 0)))) (b ∷ bs)
    by true y = capacity_is Arc (frame_of bs) b bs
    by false true = capacity_is Car (frame_of bs) b bs
    by false false = refl

-- ---- the header depends on six bytes
header_prefix : (bs rest : List ℕ) → 6 ≤ length bs → header_of (bs ++ rest) ≡ header_of bs
unfolding header_of
header_prefix [] rest h =
    let z : ⊥ = omega arith in
    absurd z
header_prefix (b ∷ bs) rest h =
    ap (λ (f : Number). cond (eqb b 1) (sized Arc f) (cond (eqb b 2) (sized Car f) (Err (stop refusals.Operation 0)))) (frame_prefix bs rest (omega arith))

-- with the bytes that are needed at hand, or with all
pub header_given : (last : Bool) (bs rest : List ℕ) → needed last ≤ length bs → (last ≡ true → rest ≡ []) → header_of (bs ++ rest) ≡ header_of bs
header_given true bs rest h e = ap header_of (ap (λ (l : List ℕ). bs ++ l) (e refl) ∙ append-nil bs)
header_given false bs rest h e = header_prefix bs rest (omega arith)

-- ---- its bounds
-- a cache that the program allows, in at least one of n bytes
pub record Allowed (n c used : ℕ) : Type 0 where
  pub small : c ≤ max_replayed
  pub some : 1 ≤ used
  pub there : used ≤ n

abbrev pub AllowedBy : ℕ → Result Header Stop → Type 0
AllowedBy n (Ok h) = Allowed n h.c h.used
AllowedBy n (Err s) = Unit {0}

sized_allowed : (k : Kind) (bs : List ℕ) (f : Number) → f ≡ frame_of bs → AllowedBy (1 + length bs) (sized k f)
sized_allowed k bs (Ok n) e = by (ltb max_replayed n.value) refl
  where
    by : (x : Bool) → ltb max_replayed n.value ≡ x
        → AllowedBy (1 + length bs) (cond x (Err (stop refusals.Capacity 1)) (Ok (record { kind = k; c = n.value; used = 1 + n.used })))
    by true q = tt
    by false q =
        record { small = ltb-false max_replayed n.value q; some = omega arith; there = omega (arith, (frame_bounds bs n.value n.used e).there) }
sized_allowed k bs (Err f) e = tt

header_allowed : (bs : List ℕ) → AllowedBy (length bs) (header_of bs)
unfolding header_of
header_allowed [] = tt
header_allowed (b ∷ bs) = by (eqb b 1) (eqb b 2)
  where
    n : 1 + length bs ≡ length (b ∷ bs)
    n = omega arith

    by : (x y : Bool) → AllowedBy (length (b ∷ bs)) (cond x (sized Arc (frame_of bs)) (cond y (sized Car (frame_of bs)) (Err (stop refusals.Operation 0))))
    by true y = subst (λ (m : ℕ). AllowedBy m (sized Arc (frame_of bs))) n (sized_allowed Arc bs (frame_of bs) refl)
    by false true = subst (λ (m : ℕ). AllowedBy m (sized Car (frame_of bs))) n (sized_allowed Car bs (frame_of bs) refl)
    by false false = tt

pub allowed : (bs : List ℕ) (h : Result Header Stop) (a : Header) → h ≡ header_of bs → h ≡ Ok a → Allowed (length bs) a.c a.used
allowed bs h a e d = subst (AllowedBy (length bs)) (sym e ∙ d) (header_allowed bs)

-- ---- the readers
faulty_size : (k : Kind) (f : Fault) → Err (stop refusals.Number 1) ≡ sized k (Err f)
faulty_size k (Missing p) = refl
faulty_size k (NotShortest p) = refl
faulty_size k (TooLarge p) = refl

module _ (k : Kind) (s : List ℕ) (r : Number) (e : r ≡ frame_of s) where
  pub size_faulty : (f : Fault) (h : Stop) → r ≡ Err f → h ≡ stop refusals.Number 1 → Err h ≡ sized k (frame_of s)
  size_faulty f h d q = ap Err q ∙ faulty_size k f ∙ ap (sized k) (sym d ∙ e)

  module _ (n : Numeral ℕ) (d : r ≡ Ok n) where
    pub size_large : (h : Stop) → 256 < n.value → h ≡ stop refusals.Capacity 1 → Err h ≡ sized k (frame_of s)
    size_large h l is =
        let q : Err (stop refusals.Capacity 1) ≡ sized k (Ok n) = rw (lt-ltb 256 n.value l) refl in
        ap Err is ∙ q ∙ ap (sized k) (sym d ∙ e)

    pub size_allowed : n.value ≤ 256 → Ok (record { kind = k; c = n.value; used = 1 + n.used }) ≡ sized k (frame_of s)
    size_allowed h =
        let q : Ok (record { kind = k; c = n.value; used = 1 + n.used }) ≡ sized k (Ok n) = rw (le-ltb 256 n.value h) refl in
        q ∙ ap (sized k) (sym d ∙ e)

    pub size_fits : Fits w64 (1 + n.used)
    size_fits = omega (arith, (frame_bounds s n.value n.used (sym d ∙ e)).allowed)

pub header_empty : (s : List ℕ) → length s ≡ 0 → Err (stop refusals.Number 0) ≡ header_of s
unfolding header_of
header_empty [] e = refl
header_empty (b ∷ bs) e =
    let z : ⊥ = omega arith in
    absurd z

pub header_arc : (s : List ℕ) (h : Result Header Stop) → (length s ≡ 0 → ⊥) → get_or s 0 0 ≡ 1 → h ≡ sized Arc (frame_of (part s 1)) → h ≡ header_of s
unfolding header_of
header_arc [] h n e q = absurd (n refl)
header_arc (b ∷ bs) h n e q = rw e (q ∙ ap (λ (l : List ℕ). sized Arc (frame_of l)) (part_to_end (b ∷ bs) 1))

pub header_car : (s : List ℕ) (h : Result Header Stop) → (length s ≡ 0 → ⊥) → get_or s 0 0 ≡ 2 → h ≡ sized Car (frame_of (part s 1)) → h ≡ header_of s
unfolding header_of
header_car [] h n e q = absurd (n refl)
header_car (b ∷ bs) h n e q = rw e (q ∙ ap (λ (l : List ℕ). sized Car (frame_of l)) (part_to_end (b ∷ bs) 1))

pub header_unknown : (s : List ℕ) → (length s ≡ 0 → ⊥) → (get_or s 0 0 ≡ 1 → ⊥) → (get_or s 0 0 ≡ 2 → ⊥) → Err (stop refusals.Operation 0) ≡ header_of s
unfolding header_of
header_unknown [] n p q = absurd (n refl)
header_unknown (b ∷ bs) n p q = simp (ne_eqb b 1 p, ne_eqb b 2 q)

-- ---- an empty cache
fresh_by : (k : Kind) (c : ℕ) (w v : List ℕ) → c ≤ max_replayed → Empty (policy_of k).kind c w v → Fresh k c w v
unfolding new
fresh_by k c w v small e =
    let r = e.writes in
    let P : Policy = policy_of k in
    let q = ap P.view r.reads ∙ (exact_of k).new_is c in
    record {
      good = record { stored = r.stored; kind = r.kind; well = subst P.WellFormed (sym q) ((exact_of k).new_well c (omega arith)) };
      new = q;
      rest = e.rest;
    }

module _ (k : Kind) (c number : ℕ) (w v : List ℕ) (r : Result ⊤ Refusal) (s : Sizes c w) (n : New number c w v r) where
  -- it is made
  pub made : r ≡ Ok tt
  unfolding answer_of
  made =
      let small : c ≤ 1024 = omega (arith, s.small) in
      let words : 24 * c + 64 ≤ length w = omega (arith, s.small, s.words) in
      n.answer ∙ rw (le-ltb 1024 c small, le-ltb (length w) (24 * c + 64) words) refl

  pub fresh_made : number ≡ (policy_of k).kind → Fresh k c w v
  fresh_made e =
      let l : Empty number c w v = rw made at n.area in
      fresh_by k c w v s.small (rw e at l)

pub ruleset laws = (size_faulty, size_large, size_allowed, size_fits, header_empty, header_arc, header_car, header_unknown, made, fresh_made, rules)
