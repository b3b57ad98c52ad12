-- Laws of operations and of whole traces, for whoever builds on them. In order: what every operation that was read obeys; a reading, one operation at
-- a time; the refusals of a trace. Assumes nothing.
use mathlib.Core.Path.{◌≡◌, refl, sym, subst, ap, ◌∙◌}
use mathlib.Core.List.{List, [], ◌∷◌}
use mathlib.Core.Bool.{Bool, true, false, cond}
use Prim.Native.Nat.{ℕ, zero, suc, ◌+◌, ◌-◌, ◌^◌, ◌<◌, ◌≤◌}
use native.Mathlib.Nat.{add-zero}
use native.Mathlib.Omega.{arith}
use lib.Dec.{eqb}
use lib.ListN.{length, drop, length-drop}
use Rattle.std.specs.Prelude.{Some, None, Ok, Err}
use Rattle.refusals.specs.declared.Refusal.{Refusal}
use Rattle.refusals.specs.Refusals.{number_of}
use Rattle.numbers.specs.Reading.{Number, page_of, frame_of}
use Rattle.numbers.specs.declared.Fault.{Fault}
use Rattle.numbers.specs.declared.Fault.TheVariants.{Missing, NotShortest, TooLarge}
use Rattle.numbers.proofs.Bounds.{page_bounds, frame_bounds}
use Rattle.trace.specs.Reading.{Parsed, whole, refused, faulty, with_page, with_frame, with_both, operation_of, Reading, reading, read_at, read_from}
use Rattle.trace.specs.declared.Operation.{Operation}
use Rattle.trace.specs.declared.Operation.TheVariants.{Get, Insert, Remove, Clear, Peek}

-- ---- what every operation that was read obeys
-- its page is below 2 ^ 64, and its frame below 2 ^ 32
abbrev pub Held : Operation → Type 0
Held (Get page) = page < 2 ^ 64
Held (Insert page frame) = (page < 2 ^ 64) × (frame < 2 ^ 32)
Held (Remove page) = page < 2 ^ 64
Held Clear = Unit {0}
Held (Peek page) = page < 2 ^ 64

-- and it takes at least one byte, and at most n
pub record Sound (n : ℕ) (op : Operation) (used : ℕ) : Type 0 where
  pub held : Held op
  pub some : 1 ≤ used
  pub there : used ≤ n

abbrev pub SoundParse : ℕ → Parsed → Type 0
SoundParse n (whole op used) = Sound n op used
SoundParse n (refused r place) = Unit {0}

cond_both : (P : Parsed → Type 0) (x : Bool) (a b : Parsed) → P a → P b → P (cond x a b)
cond_both P true a b p q = p
cond_both P false a b p q = q

sound_page : (op : ℕ → Operation) (bs : List ℕ) (r : Number) → ((p : ℕ) → p < 2 ^ 64 → Held (op p)) → r ≡ page_of bs
    → SoundParse (suc (length bs)) (with_page op r)
sound_page op bs (Ok page) h e =
    let b = page_bounds bs page.value page.used e in
    record { held = h page.value b.below; some = omega arith; there = omega (arith, b.there) }
sound_page op bs (Err f) h e = tt

sound_frame : (bs : List ℕ) (page used : ℕ) (r : Number) → page < 2 ^ 64 → used ≤ length bs → r ≡ frame_of (drop used bs)
    → SoundParse (suc (length bs)) (with_frame page (1 + used) r)
sound_frame bs page used (Ok frame) h l e =
    let b = frame_bounds (drop used bs) frame.value frame.used e in
    record { held = (h, b.below); some = omega arith; there = omega (arith, b.there, length-drop used bs) }
sound_frame bs page used (Err f) h l e = tt

sound_both : (bs : List ℕ) (r : Number) → r ≡ page_of bs → SoundParse (suc (length bs)) (with_both bs r)
sound_both bs (Ok page) e =
    let b = page_bounds bs page.value page.used e in
    sound_frame bs page.value page.used (frame_of (drop page.used bs)) b.below (omega (arith, b.there)) refl
sound_both bs (Err f) e = tt

sound_parse : (code : ℕ) (bs : List ℕ) → SoundParse (suc (length bs)) (operation_of code bs)
unfolding operation_of
sound_parse code bs =
    let P : Parsed → Type 0 = SoundParse (suc (length bs)) in
    cond_both P (eqb code 1) _ _ (sound_page Get bs _ (λ p h. h) refl)
    (cond_both P (eqb code 2) _ _ (sound_both bs _ refl)
    (cond_both P (eqb code 3) _ _ (sound_page Remove bs _ (λ p h. h) refl)
    (cond_both P (eqb code 4) _ _ (record { held = tt; some = omega arith; there = omega arith })
    (cond_both P (eqb code 5) _ _ (sound_page Peek bs _ (λ p h. h) refl) tt))))

pub sound : (code : ℕ) (bs : List ℕ) (op : Operation) (used : ℕ) → operation_of code bs ≡ whole op used → Sound (suc (length bs)) op used
sound code bs op used e = subst (SoundParse (suc (length bs))) e (sound_parse code bs)

-- ---- a reading, one operation at a time
-- an operation in front of a reading
abbrev pub added : Operation → Reading → Reading
added op r = reading (op ∷ r.operations) r.refusal r.offset

-- the bytes that belong to an operation that was read are passed over
pub read_skip : (o k : ℕ) (bs : List ℕ) → k ≤ length bs → read_from o k bs ≡ read_from (o + k) 0 (drop k bs)
unfolding read_from
read_skip o zero bs h = rw add-zero
read_skip o (suc k) [] h =
    let z : ⊥ = omega arith in
    absurd z
read_skip o (suc k) (b ∷ bs) h =
    let e : o + 1 + k ≡ o + suc k = omega arith in
    read_skip (o + 1) k bs (omega arith) ∙ ap (λ (n : ℕ). read_from n 0 (drop k bs)) e

-- nothing is left
pub read_end : (o : ℕ) → read_from o 0 [] ≡ reading [] None o
unfolding read_from
read_end o = refl

-- a whole operation of `used` bytes, and then the rest
pub read_whole : (o b : ℕ) (bs : List ℕ) (op : Operation) (used : ℕ) → operation_of b bs ≡ whole op used
    → read_from o 0 (b ∷ bs) ≡ added op (read_from (o + used) 0 (drop used (b ∷ bs)))
unfolding read_from read_at
read_whole o b bs op used e =
    let z = sound b bs op used e in
    let k : ℕ = used - 1 in
    let q : used ≡ suc k = omega (arith, z.some) in
    let p : o + 1 + k ≡ o + suc k = omega arith in
    rw e (ap (added op) (read_skip (o + 1) k bs (omega (arith, z.there)) ∙ ap (λ (n : ℕ). read_from n 0 (drop k bs)) p)
    ∙ ap (λ (n : ℕ). added op (read_from (o + n) 0 (drop n (b ∷ bs)))) (sym q))

-- a refusal
pub read_refused : (o b : ℕ) (bs : List ℕ) (r : Refusal) (place : ℕ) → operation_of b bs ≡ refused r place
    → read_from o 0 (b ∷ bs) ≡ reading [] (Some r) (o + place)
unfolding read_from read_at
read_refused o b bs r place e = rw e

-- every operation of a reading obeys what one that was read does
abbrev pub AllHeld : List Operation → Type 0
AllHeld [] = Unit {0}
AllHeld (op ∷ ops) = Held op × AllHeld ops

pub read_held : (o k : ℕ) (bs : List ℕ) → AllHeld (read_from o k bs).operations
unfolding read_from read_at
read_held o k [] = tt
read_held o (suc k) (b ∷ bs) = read_held (o + 1) k bs
read_held o zero (b ∷ bs) = by (λ k. read_held (o + 1) k bs) (operation_of b bs) (sound_parse b bs)
  where
    by : ((k : ℕ) → AllHeld (read_from (o + 1) k bs).operations) → (x : Parsed) → SoundParse (suc (length bs)) x
        → AllHeld (read_at o x (λ k. read_from (o + 1) k bs)).operations
    by rec (whole op used) z = (z.held, rec (used - 1))
    by rec (refused r place) z = tt

-- a trace has no more operations than bytes
pub read_few : (o k : ℕ) (bs : List ℕ) → length (read_from o k bs).operations ≤ length bs
unfolding read_from read_at
read_few o k [] = omega arith
read_few o (suc k) (b ∷ bs) = omega (arith, read_few (o + 1) k bs)
read_few o zero (b ∷ bs) = by (λ k. read_few (o + 1) k bs) (operation_of b bs)
  where
    by : ((k : ℕ) → length (read_from (o + 1) k bs).operations ≤ length bs) → (x : Parsed)
        → length (read_at o x (λ k. read_from (o + 1) k bs)).operations ≤ length (b ∷ bs)
    by rec (whole op used) = omega (arith, rec (used - 1))
    by rec (refused r place) = omega arith

-- ---- the refusals of a trace
-- a refusal is 4 or 5
abbrev pub Numbered : Refusal → Type 0
Numbered r = (4 ≤ number_of r) × (number_of r ≤ 5)

abbrev NumberedParse : Parsed → Type 0
NumberedParse (whole op used) = Unit {0}
NumberedParse (refused r place) = Numbered r

numbered_faulty : (start : ℕ) (f : Fault) → NumberedParse (faulty start f)
numbered_faulty start (Missing p) = omega arith
numbered_faulty start (NotShortest p) = omega arith
numbered_faulty start (TooLarge p) = omega arith

numbered_page : (op : ℕ → Operation) (r : Number) → NumberedParse (with_page op r)
numbered_page op (Ok page) = tt
numbered_page op (Err f) = numbered_faulty 1 f

numbered_frame : (page past : ℕ) (r : Number) → NumberedParse (with_frame page past r)
numbered_frame page past (Ok frame) = tt
numbered_frame page past (Err f) = numbered_faulty past f

numbered_both : (bs : List ℕ) (r : Number) → NumberedParse (with_both bs r)
numbered_both bs (Ok page) = numbered_frame page.value (1 + page.used) (frame_of (drop page.used bs))
numbered_both bs (Err f) = numbered_faulty 1 f

numbered_parse : (code : ℕ) (bs : List ℕ) → NumberedParse (operation_of code bs)
unfolding operation_of
numbered_parse code bs =
    cond_both NumberedParse (eqb code 1) _ _ (numbered_page Get (page_of bs))
    (cond_both NumberedParse (eqb code 2) _ _ (numbered_both bs (page_of bs))
    (cond_both NumberedParse (eqb code 3) _ _ (numbered_page Remove (page_of bs))
    (cond_both NumberedParse (eqb code 4) _ _ tt
    (cond_both NumberedParse (eqb code 5) _ _ (numbered_page Peek (page_of bs)) (omega arith)))))

pub numbered : (code : ℕ) (bs : List ℕ) (r : Refusal) (place : ℕ) → operation_of code bs ≡ refused r place → Numbered r
numbered code bs r place e = subst NumberedParse e (numbered_parse code bs)

-- where there is none, the offset is the length
pub unrefused : (o k : ℕ) (bs : List ℕ) → (read_from o k bs).refusal ≡ None → (read_from o k bs).offset ≡ o + length bs
unfolding read_from read_at
unrefused o k [] e = sym (add-zero o)
unrefused o (suc k) (b ∷ bs) e = omega (arith, unrefused (o + 1) k bs e)
unrefused o zero (b ∷ bs) e = by (λ k. unrefused (o + 1) k bs) (operation_of b bs) e
  where
    by : ((k : ℕ) → (read_from (o + 1) k bs).refusal ≡ None → (read_from (o + 1) k bs).offset ≡ o + 1 + length bs) → (x : Parsed)
        → (read_at o x (λ k. read_from (o + 1) k bs)).refusal ≡ None → (read_at o x (λ k. read_from (o + 1) k bs)).offset ≡ o + length (b ∷ bs)
    by rec (whole op used) e = omega (arith, rec (used - 1) e)
    by rec (refused r place) e =
        let z : ◌≡◌ {A = ℕ} 0 1 = cc in
        absurd (omega arith)
