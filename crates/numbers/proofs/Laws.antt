-- Laws of the number readers, over the most bytes of a number and the limit of the last of them: stated once, for pages and frames alike.
-- In order: one byte of the definition; what was read so far, in front of what is left; the answers; the sums that must fit.
-- Assumes nothing.
use mathlib.Core.Path.{◌≡◌, refl, sym, ap, ap₂, ◌∙◌}
use mathlib.Core.List.{List, []}
use mathlib.Core.Bool.{Bool, true, false, cond, ◌&&◌}
use Prim.Native.Nat.{ℕ, zero, suc, ◌+◌, ◌*◌, ◌-◌, ◌%◌, ◌^◌, ◌<◌, ◌≤◌}
use native.Mathlib.Nat.{mul-add, mul_assoc, mul-suc, mul-le-mul_left}
use native.Mathlib.Numerals.{add-one}
use native.Mathlib.Omega.{arith}
use lib.Dec.{ltb, eqb}
use lib.ListN.{length, get_or, drop, drop_of_length-le}
use lib.Seq.{drop-cons}
use borrow.Author.Tests.{lt-ltb, le-ltb, eq-eqb, ne_eqb}
use Rattle.std.specs.Prelude.{Ok, Err}
use Rattle.numbers.specs.Reading.{numeral, Number, read_from, number_of, last_byte, group}
use Rattle.numbers.specs.Widths.{top, Wide}
use Rattle.numbers.specs.declared.Numeral.{Numeral}
use Rattle.numbers.specs.declared.Fault.TheVariants.{Missing, NotShortest, TooLarge}

-- ---- one byte of the definition, in the terms of the code
pub nothing_of : (limit n at : ℕ) → read_from limit n at [] ≡ Err (Missing at)
unfolding read_from
nothing_of limit zero at = refl
nothing_of limit (suc n) at = refl

pub nothing_here : (limit n at : ℕ) (s : List ℕ) → length s ≤ at → read_from limit n at (drop at s) ≡ Err (Missing at)
nothing_here limit n at s h = rw (drop_of_length-le s h) (nothing_of limit n at)

pub byte_here : (limit n at : ℕ) (s : List ℕ) → at < length s
    → read_from limit (suc n) at (drop at s) ≡ cond (ltb (get_or s at 0) 128) (last_byte at (get_or s at 0)) (group (get_or s at 0) (read_from limit n (at + 1) (drop (at + 1) s)))
unfolding read_from
byte_here limit n at s h = rw (drop-cons s at 0 h, add-one)

pub last_here : (limit at : ℕ) (s : List ℕ) → at < length s
    → read_from limit 0 at (drop at s) ≡ cond (ltb limit (get_or s at 0)) (Err (TooLarge at)) (last_byte at (get_or s at 0))
unfolding read_from
last_here limit at s h = rw (drop-cons s at 0 h)

-- ---- the parts of a number that was read
pub value_same : (v u x w : ℕ) → numeral v u ≡ numeral x w → v ≡ x
value_same v u x w e =
    let r : ◌≡◌ {A = Numeral ℕ} (record { value = v; used = u }) (record { value = x; used = w }) = cc in
    ap (λ (n : Numeral ℕ). n.value) r

pub used_same : (v u x w : ℕ) → numeral v u ≡ numeral x w → u ≡ w
used_same v u x w e =
    let r : ◌≡◌ {A = Numeral ℕ} (record { value = v; used = u }) (record { value = x; used = w }) = cc in
    ap (λ (n : Numeral ℕ). n.used) r

-- ---- what was read so far, in front of what is left
-- the higher groups, behind those that were read, whose value is v, with c for the weight of the next
abbrev pub grown : ℕ → ℕ → Number → Number
grown v c (Ok r) = numeral (v + c * r.value) r.used
grown v c (Err f) = Err f

-- the bytes before the place at have the value v, each of them with its top bit set, and the next weighs c
pub record SoFar (most limit : ℕ) (s : List ℕ) (v c at : ℕ) : Type 0 where
  pub inside : at ≤ most - 1
  pub small : v < c
  pub room : c * top limit (most - 1 - at) ≤ 2 ^ 64
  pub is : grown v c (read_from limit (most - 1 - at) at (drop at s)) ≡ number_of most limit s

pub begins : (most limit : ℕ) (s : List ℕ) → Wide most limit → SoFar most limit s 0 1 0
begins most limit s w =
    let e : most - 1 - 0 ≡ most - 1 = omega arith in
    record {
      inside = omega arith;
      small = omega arith;
      room = rw e (omega (arith, w.fits));
      is = rw e (unchanged (read_from limit (most - 1) 0 s));
    }
  where
    unchanged : (r : Number) → grown 0 1 r ≡ r
    unchanged (Ok n) = ap₂ numeral (omega arith) refl
    unchanged (Err f) = refl

-- an answer x at the place is the whole answer
pub answer : (most limit : ℕ) (s : List ℕ) (v c at : ℕ) (x : Number) → SoFar most limit s v c at
    → read_from limit (most - 1 - at) at (drop at s) ≡ x → grown v c x ≡ number_of most limit s
answer most limit s v c at x i e = ap (grown v c) (sym e) ∙ i.is

-- a byte before the last place, and one at it
pub before_last : (most limit : ℕ) (s : List ℕ) (at : ℕ) → at < most - 1 → at < length s
    → read_from limit (most - 1 - at) at (drop at s)
    ≡ cond (ltb (get_or s at 0) 128) (last_byte at (get_or s at 0)) (group (get_or s at 0) (read_from limit (most - 1 - (at + 1)) (at + 1) (drop (at + 1) s)))
before_last most limit s at l h =
    let e : most - 1 - at ≡ suc (most - 1 - (at + 1)) = omega arith in
    rw e (byte_here limit (most - 1 - (at + 1)) at s h)

pub at_last : (most limit : ℕ) (s : List ℕ) (at : ℕ) → at ≡ most - 1 → at < length s
    → read_from limit (most - 1 - at) at (drop at s) ≡ cond (ltb limit (get_or s at 0)) (Err (TooLarge at)) (last_byte at (get_or s at 0))
at_last most limit s at l h =
    let e : most - 1 - at ≡ 0 = omega arith in
    rw e (last_here limit at s h)

-- ---- one byte more with its top bit set
grown_group : (v c b : ℕ) (r : Number) → grown v c (group b r) ≡ grown (v + c * (b % 128)) (c * 128) r
grown_group v c b (Ok r) = ap₂ numeral (omega (arith, mul-add c (128 * r.value) (b % 128), mul_assoc c 128 r.value)) refl
grown_group v c b (Err f) = refl

pub top_some : (limit n : ℕ) → 1 ≤ limit → 2 ≤ top limit n
unfolding top
top_some limit zero h = omega arith
top_some limit (suc n) h = omega (arith, top_some limit n h)

pub top_less : (most limit at : ℕ) → at < most - 1 → top limit (most - 1 - at) ≡ 128 * top limit (most - 1 - (at + 1))
unfolding top
top_less most limit at l =
    let e : most - 1 - at ≡ suc (most - 1 - (at + 1)) = omega arith in
    rw e

-- what a group d at the place has room for
pub record Room (v c d : ℕ) : Type 0 where
  pub product : c * d < 2 ^ 64
  pub sum : v + c * d < 2 ^ 64

pub room_for : (most limit : ℕ) (s : List ℕ) (v c at d : ℕ) → SoFar most limit s v c at → d < top limit (most - 1 - at) → Room v c d
room_for most limit s v c at d i h =
    let p : c * suc d ≤ c * top limit (most - 1 - at) = mul-le-mul_left c h in
    let r : c * suc d ≡ c * d + c = mul-suc c d in
    let a = i.room in
    let b = i.small in
    record { product = omega arith; sum = omega arith }

pub group_room : (most limit : ℕ) (s : List ℕ) (v c at d : ℕ) → Wide most limit → SoFar most limit s v c at → at < most - 1 → d < 128 → Room v c d
group_room most limit s v c at d w i l h =
    room_for most limit s v c at d i (omega (arith, top_less most limit at l, top_some limit (most - 1 - (at + 1)) w.some))

pub last_room : (most limit : ℕ) (s : List ℕ) (v c at d : ℕ) → SoFar most limit s v c at → at ≡ most - 1 → d ≤ limit → Room v c d
unfolding top
last_room most limit s v c at d i l h =
    let e : most - 1 - at ≡ 0 = omega arith in
    room_for most limit s v c at d i (rw e (omega arith))

pub weight_room : (most limit : ℕ) (s : List ℕ) (v c at : ℕ) → Wide most limit → SoFar most limit s v c at → at < most - 1 → c * 128 < 2 ^ 64
weight_room most limit s v c at w i l =
    let t : c * top limit (most - 1 - at) ≡ c * (128 * top limit (most - 1 - (at + 1))) = ap (λ (k : ℕ). c * k) (top_less most limit at l) in
    let p : c * 256 ≤ c * (128 * top limit (most - 1 - (at + 1))) = mul-le-mul_left c (omega (arith, top_some limit (most - 1 - (at + 1)) w.some)) in
    let a = i.room in
    let b = i.small in
    omega arith

pub again : (most limit : ℕ) (s : List ℕ) (v c at : ℕ) → SoFar most limit s v c at → at < most - 1 → at < length s → 128 ≤ get_or s at 0
    → SoFar most limit s (v + c * (get_or s at 0 % 128)) (c * 128) (at + 1)
again most limit s v c at i l h b =
    let d : ℕ = get_or s at 0 % 128 in
    let rest = read_from limit (most - 1 - (at + 1)) (at + 1) (drop (at + 1) s) in
    let t : c * top limit (most - 1 - at) ≡ c * 128 * top limit (most - 1 - (at + 1))
    = ap (λ (k : ℕ). c * k) (top_less most limit at l) ∙ sym (mul_assoc c 128 _) in
    let p : c * suc d ≤ c * 128 = mul-le-mul_left c (omega arith) in
    let r : c * suc d ≡ c * d + c = mul-suc c d in
    let a = i.small in
    record {
      inside = omega arith;
      small = omega arith;
      room = omega (arith, i.room);
      is =
          sym (grown_group v c (get_or s at 0) rest)
          ∙ answer most limit s v c at (group (get_or s at 0) rest) i (before_last most limit s at l h ∙ simp (le-ltb _ _ b));
    }

-- ---- the answers of the code
-- past the bytes
pub missing : (most limit : ℕ) (s : List ℕ) (v c at : ℕ) → SoFar most limit s v c at → length s ≤ at → Err (Missing at) ≡ number_of most limit s
missing most limit s v c at i h = answer most limit s v c at (Err (Missing at)) i (nothing_here limit _ at s h)

-- a last byte before the last place
module _ (most limit : ℕ) (s : List ℕ) (v c at : ℕ) (i : SoFar most limit s v c at) (l : at < most - 1) (h : at < length s) (b : get_or s at 0 < 128) where
  pub first_value : at ≡ 0 → numeral (v + c * get_or s at 0) (at + 1) ≡ number_of most limit s
  first_value z =
      let e : ltb 0 at ≡ false = le-ltb 0 at (omega arith) in
      answer most limit s v c at (numeral (get_or s at 0) (at + 1)) i (before_last most limit s at l h ∙ simp (lt-ltb _ _ b, e) (any_byte (eqb (get_or s at 0) 0)))
    where
      any_byte : (x : Bool) → cond (x && false) (Err (NotShortest at)) (numeral (get_or s at 0) (at + 1)) ≡ numeral (get_or s at 0) (at + 1)
      any_byte true = refl
      any_byte false = refl

  pub group_zero : 0 < at → get_or s at 0 ≡ 0 → Err (NotShortest at) ≡ number_of most limit s
  group_zero p z =
      answer most limit s v c at (Err (NotShortest at)) i (before_last most limit s at l h ∙ simp (lt-ltb _ _ b, eq-eqb _ _ z, lt-ltb _ _ p))

  pub group_value : (get_or s at 0 ≡ 0 → ⊥) → numeral (v + c * get_or s at 0) (at + 1) ≡ number_of most limit s
  group_value z =
      answer most limit s v c at (numeral (get_or s at 0) (at + 1)) i (before_last most limit s at l h ∙ simp (lt-ltb _ _ b, ne_eqb _ _ z))

-- a byte at the last place
module _ (most limit : ℕ) (s : List ℕ) (v c at : ℕ) (i : SoFar most limit s v c at) (l : at ≡ most - 1) (h : at < length s) where
  pub last_over : limit < get_or s at 0 → Err (TooLarge at) ≡ number_of most limit s
  last_over o = answer most limit s v c at (Err (TooLarge at)) i (at_last most limit s at l h ∙ simp (lt-ltb _ _ o))

  pub last_zero : 0 < at → get_or s at 0 ≤ limit → get_or s at 0 ≡ 0 → Err (NotShortest at) ≡ number_of most limit s
  last_zero p o z =
      answer most limit s v c at (Err (NotShortest at)) i (at_last most limit s at l h ∙ simp (le-ltb _ _ o, eq-eqb _ _ z, lt-ltb _ _ p))

  pub last_value : get_or s at 0 ≤ limit → (get_or s at 0 ≡ 0 → ⊥) → numeral (v + c * get_or s at 0) (at + 1) ≡ number_of most limit s
  last_value o z = answer most limit s v c at (numeral (get_or s at 0) (at + 1)) i (at_last most limit s at l h ∙ simp (le-ltb _ _ o, ne_eqb _ _ z))
