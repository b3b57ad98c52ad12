-- The step over a trace, in the shapes of the code: what answers the needs of the cursor's methods. Assumes nothing.
use mathlib.Core.Path.{◌≡◌, refl, sym, ap, ◌∙◌}
use mathlib.Core.List.{List, [], ◌∷◌}
use mathlib.Core.Bool.{cond}
use Prim.Native.Nat.{ℕ, ◌+◌, ◌-◌, ◌^◌, ◌<◌, ◌≤◌}
use native.Mathlib.Nat.{add-zero}
use native.Mathlib.Omega.{arith}
use mir.Val.{Fits}
use mir.Syntax.{w64}
use lib.Dec.{eqb}
use lib.ListN.{length, get_or, take, drop, length-drop}
use lib.Seq.{drop-drop}
use borrow.Author.Tests.{ne_eqb}
use borrow.Author.Rules.{rules}
use borrow.Author.Rules.{part_to_end}
use Rattle.std.specs.Prelude.{Ok, Err}
use Rattle.refusals.specs.declared.Refusal.TheVariants as refusals
use Rattle.numbers.specs.Reading.{Number, page_of, frame_of}
use Rattle.numbers.specs.declared.Numeral.{Numeral}
use Rattle.numbers.specs.declared.Fault.{Fault}
use Rattle.numbers.specs.declared.Fault.TheVariants.{Missing, NotShortest, TooLarge}
use Rattle.numbers.proofs.Bounds.{page_bounds, frame_bounds}
use Rattle.trace.specs.Reading.{Parsed, whole, refused, faulty, with_page, with_frame, with_both, operation_of}
use Rattle.trace.specs.Steps.{step_to, stepped, step_at, step_of}
use Rattle.trace.specs.declared.Operation.TheVariants.{Get, Remove, Clear, Peek}
use Rattle.trace.specs.declared.Found.TheVariants.{End, Refused}
use Rattle.trace.specs.declared.Step.{Step}

-- the part of s from a on, as the code lends it
abbrev pub part : List ℕ → ℕ → List ℕ
part s a = take (length s - a) (drop a s)

-- the operation of a code, with what follows it read as a page
abbrev pub by_code : ℕ → List ℕ → Number → Parsed
by_code code bs page =
    cond (eqb code 1) (with_page Get page)
    (cond (eqb code 2) (with_both bs page)
    (cond (eqb code 3) (with_page Remove page)
    (cond (eqb code 4) (whole Clear 1)
    (cond (eqb code 5) (with_page Peek page)
    (refused refusals.Operation 0)))))

-- ---- nothing is left
pub ended : (at : ℕ) (s : List ℕ) → length s ≡ 0 → step_to at End ≡ step_at at s
unfolding step_at
ended at [] e = refl
ended at (b ∷ bs) e =
    let z : ⊥ = omega arith in
    absurd z

-- ---- by the code n, where x is what the definition says of it
pub by_code_lem : (at n : ℕ) (s : List ℕ) (x : Step) → (length s ≡ 0 → ⊥) → get_or s 0 0 ≡ n
    → x ≡ stepped at (by_code n (drop 1 s) (page_of (drop 1 s))) → x ≡ step_at at s
unfolding step_at operation_of
by_code_lem at n [] x h e d = absurd (h refl)
by_code_lem at n (b ∷ bs) x h e d = d ∙ rw e

pub no_code : (at : ℕ) (s : List ℕ) (x : Step) → (length s ≡ 0 → ⊥) → (get_or s 0 0 ≡ 1 → ⊥) → (get_or s 0 0 ≡ 2 → ⊥) → (get_or s 0 0 ≡ 3 → ⊥)
    → (get_or s 0 0 ≡ 4 → ⊥) → (get_or s 0 0 ≡ 5 → ⊥) → x ≡ step_to at (Refused refusals.Operation at) → x ≡ step_at at s
no_code at s x h n1 n2 n3 n4 n5 e =
    by_code_lem at (get_or s 0 0) s x h refl
    (simp (ne_eqb _ _ n1, ne_eqb _ _ n2, ne_eqb _ _ n3, ne_eqb _ _ n4, ne_eqb _ _ n5) (rw add-zero e))

-- ---- a fault in a number is refusal 5, at the operation's first byte
stepped_faulty : (at start : ℕ) (f : Fault) → stepped at (faulty start f) ≡ step_to at (Refused refusals.Number at)
stepped_faulty at start (Missing p) = rw add-zero
stepped_faulty at start (NotShortest p) = rw add-zero
stepped_faulty at start (TooLarge p) = rw add-zero

-- ---- after the code n: r is what was read as a page, and is a
pub page_arm : (at n : ℕ) (s : List ℕ) (r a : Number) (x : Step) → (length s ≡ 0 → ⊥) → get_or s 0 0 ≡ n → r ≡ page_of (part s 1) → r ≡ a
    → x ≡ stepped at (by_code n (drop 1 s) a) → x ≡ step_at at s
page_arm at n s r a x h e is arm d =
    by_code_lem at n s x h e
    (d ∙ sym (ap (λ (p : Number). stepped at (by_code n (drop 1 s) p)) (sym (ap page_of (part_to_end s 1)) ∙ sym is ∙ arm)))

pub page_refused : (at n : ℕ) (s : List ℕ) (r : Number) (f : Fault) (x : Step) → (length s ≡ 0 → ⊥) → get_or s 0 0 ≡ n → r ≡ page_of (part s 1) → r ≡ Err f
    → by_code n (drop 1 s) (Err f) ≡ faulty 1 f → x ≡ step_to at (Refused refusals.Number at) → x ≡ step_at at s
page_refused at n s r f x h e is arm d q =
    page_arm at n s r (Err f) x h e is arm (q ∙ sym (stepped_faulty at 1 f) ∙ sym (ap (stepped at) d))

-- where its page ends
page_end : (s : List ℕ) (r : Number) (p : Numeral ℕ) → (length s ≡ 0 → ⊥) → r ≡ page_of (part s 1) → r ≡ Ok p → 1 + p.used ≤ length s
page_end s r p h is arm =
    omega (arith, (page_bounds (drop 1 s) p.value p.used (sym arm ∙ is ∙ ap page_of (part_to_end s 1))).there, length-drop 1 s)

-- ---- an insert whose page is p: f is what was read after it, and is a
pub frame_arm : (at : ℕ) (s : List ℕ) (r : Number) (p : Numeral ℕ) (f a : Number) (x : Step) → (length s ≡ 0 → ⊥) → get_or s 0 0 ≡ 2 → r ≡ page_of (part s 1) → r ≡ Ok p
    → f ≡ frame_of (part s (1 + p.used)) → f ≡ a → x ≡ stepped at (with_frame p.value (1 + p.used) a) → x ≡ step_at at s
frame_arm at s r p f a x h e is arm is-frame frame-arms d =
    let read : a ≡ frame_of (drop p.used (drop 1 s))
    = sym frame-arms ∙ is-frame ∙ ap frame_of (part_to_end s (1 + p.used)) ∙ sym (ap frame_of (drop-drop p.used 1 s)) in
    page_arm at 2 s r (Ok p) x h e is arm (d ∙ ap (λ (y : Number). stepped at (with_frame p.value (1 + p.used) y)) read)

pub frame_refused : (at : ℕ) (s : List ℕ) (r : Number) (p : Numeral ℕ) (f : Number) (g : Fault) (x : Step) → (length s ≡ 0 → ⊥) → get_or s 0 0 ≡ 2 → r ≡ page_of (part s 1)
    → r ≡ Ok p → f ≡ frame_of (part s (1 + p.used)) → f ≡ Err g → x ≡ step_to at (Refused refusals.Number at) → x ≡ step_at at s
frame_refused at s r p f g x h e is arm is-frame frame-arms q =
    frame_arm at s r p f (Err g) x h e is arm is-frame frame-arms (q ∙ sym (stepped_faulty at (1 + p.used) g))

-- where its frame ends
frame_end : (s : List ℕ) (k : ℕ) (f : Number) (n : Numeral ℕ) → k ≤ length s → f ≡ frame_of (part s k) → f ≡ Ok n → k + n.used ≤ length s
frame_end s k f n h is arm =
    omega (arith, (frame_bounds (drop k s) n.value n.used (sym arm ∙ is ∙ ap frame_of (part_to_end s k))).there, length-drop k s)

-- ---- so the sums of the code fit
module _ (at : ℕ) (s : List ℕ) (r : Number) (p : Numeral ℕ) (w : at + length s < 2 ^ 64) (h : length s ≡ 0 → ⊥) (is : r ≡ page_of (part s 1)) (arm : r ≡ Ok p) where
  pub past_there : 1 + p.used ≤ length s
  past_there = page_end s r p h is arm

  pub past_fits : Fits w64 (1 + p.used)
  past_fits = omega (arith, past_there)

  pub moved_fits : at + (1 + p.used) < 2 ^ 64
  moved_fits = omega (arith, past_there)

  pub end_fits : (f : Number) (n : Numeral ℕ) → f ≡ frame_of (part s (1 + p.used)) → f ≡ Ok n → Fits w64 (1 + p.used + n.used)
  end_fits f n is-frame frame-arms = omega (arith, frame_end s (1 + p.used) f n past_there is-frame frame-arms)

  pub inserted_fits : (f : Number) (n : Numeral ℕ) → f ≡ frame_of (part s (1 + p.used)) → f ≡ Ok n → at + (1 + p.used + n.used) < 2 ^ 64
  inserted_fits f n is-frame frame-arms = omega (arith, frame_end s (1 + p.used) f n past_there is-frame frame-arms)

-- ---- over the whole trace
pub at_end_fact : (at : ℕ) (s : List ℕ) → length s ≤ at → step_to at End ≡ step_of at s
at_end_fact at s h = ended at (drop at s) (omega (arith, length-drop at s))

pub from_here : (at : ℕ) (s : List ℕ) (r : Step) → r ≡ step_at at (part s at) → r ≡ step_of at s
from_here at s r e = e ∙ ap (step_at at) (part_to_end s at)

pub ruleset laws = (ended, by_code_lem, no_code, page_arm, page_refused, frame_arm, frame_refused, past_there, past_fits, moved_fits, end_fits, inserted_fits, at_end_fact, from_here, rules)
