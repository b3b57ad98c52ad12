-- A batch, one operation at a time, and its lines. In order: the operations; the lines. Assumes nothing.
use mathlib.Core.Path.{◌≡◌, refl, sym, ap, ◌∙◌}
use mathlib.Core.Bool.{cond}
use mathlib.Core.List.{List, [], ◌∷◌, ◌++◌, append_assoc}
use Prim.Native.Nat.{ℕ, zero, suc, ◌+◌, ◌-◌, ◌≤◌}
use native.Mathlib.Nat.{add-zero}
use native.Mathlib.Omega.{arith}
use lib.Dec.{eqb}
use lib.ListN.{length, drop}
use Rattle.refusals.specs.declared.Refusal.{Refusal}
use Rattle.refusals.specs.Refusals.{number_of}
use Rattle.trace.specs.Reading.{whole, refused, operation_of}
use Rattle.trace.specs.declared.Operation.{Operation}
use Rattle.trace.proofs.Laws.{sound, Numbered}
use Rattle.rules.specs.Calls.{Call, Done, Answer, Finished, Stopped}
use Rattle.rules.specs.Batch.{call_of, Batched, stopped, answer_then, run_at, run_from, batch}
use Rattle.rules.specs.Program.{text_of, texts_of, told}
use Rattle.replaying.specs.Pending.{told_after}
use borrow.Author.Tests.{ne_eqb}

module _ {S : Type 0} (does : Call → S → Done S) where
  -- the bytes that belong to an operation that was run are passed over
  pub run_skip : (o k : ℕ) (bs : List ℕ) (s : S) → k ≤ length bs → run_from does o k bs s ≡ batch does (o + k) (drop k bs) s
  unfolding run_from
  run_skip o zero bs s h = rw add-zero
  run_skip o (suc k) [] s h =
      let z : ⊥ = omega arith in
      absurd z
  run_skip o (suc k) (b ∷ bs) s h =
      let e : o + 1 + k ≡ o + suc k = omega arith in
      run_skip (o + 1) k bs s (omega arith) ∙ ap (λ (n : ℕ). batch does n (drop k bs) s) e

  -- nothing is left
  pub run_end : (o : ℕ) (s : S) → batch does o [] s ≡ stopped 0 o s
  unfolding run_from
  run_end o s = refl

  -- a whole operation of `used` bytes, and then the rest
  pub run_whole : (o b : ℕ) (bs : List ℕ) (s : S) (op : Operation) (used : ℕ) → operation_of b bs ≡ whole op used
      → batch does o (b ∷ bs) s ≡ answer_then (does (call_of op) s).answer (batch does (o + used) (drop used (b ∷ bs)) (does (call_of op) s).state)
  unfolding run_from run_at
  run_whole o b bs s op used e =
      let z = sound b bs op used e in
      let k : ℕ = used - 1 in
      let q : used ≡ suc k = omega (arith, z.some) in
      let p : o + 1 + k ≡ o + suc k = omega arith in
      let d = does (call_of op) s in
      rw e (ap (answer_then d.answer) (run_skip (o + 1) k bs d.state (omega (arith, z.there)) ∙ ap (λ (n : ℕ). batch does n (drop k bs) d.state) p)
      ∙ ap (λ (n : ℕ). answer_then d.answer (batch does (o + n) (drop n (b ∷ bs)) d.state)) (sym q))

  -- a refusal
  pub run_refused : (o b : ℕ) (bs : List ℕ) (s : S) (r : Refusal) (place : ℕ) → operation_of b bs ≡ refused r place
      → batch does o (b ∷ bs) s ≡ stopped (number_of r) (o + place) s
  unfolding run_from run_at
  run_refused o b bs s r place e = rw e

module _ {S : Type 0} where
  -- ---- the lines
  pub told_first : (b : Batched S) → told b ≡ told_after 0 b
  unfolding told told_after
  told_first b =
      let e : b.done ≡ 0 + b.done = omega arith in
      ap (λ (n : ℕ). texts_of b.answers ++ text_of (cond (eqb b.refusal 0) (Finished n) (Stopped b.refusal b.offset))) e

  pub told_next : (n : ℕ) (a : Answer) (b : Batched S) → told_after n (answer_then a b) ≡ text_of a ++ told_after (n + 1) b
  unfolding told_after texts_of
  told_next n a b =
      let e : n + suc b.done ≡ n + 1 + b.done = omega arith in
      append_assoc (text_of a) (texts_of b.answers) _
      ∙ ap (λ (m : ℕ). text_of a ++ (texts_of b.answers ++ text_of (cond (eqb b.refusal 0) (Finished m) (Stopped b.refusal b.offset)))) e

  pub told_end : (n o : ℕ) (s : S) → told_after n (stopped 0 o s) ≡ text_of (Finished n)
  unfolding told_after texts_of
  told_end n o s = rw add-zero

  pub told_stop : (n : ℕ) (r : Refusal) (o : ℕ) (s : S) → Numbered r → told_after n (stopped (number_of r) o s) ≡ text_of (Stopped (number_of r) o)
  unfolding told_after texts_of
  told_stop n r o s h =
      let z : number_of r ≡ 0 → ⊥ = λ e. omega arith in
      rw (ne_eqb (number_of r) 0 z)
