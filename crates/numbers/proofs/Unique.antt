-- A number has one writing: bytes that read as the same number are the same bytes. One law over the width. Assumes nothing.
--
-- In order: what a byte says that was read as part of a number; a number's higher groups are not 0, since a last byte 0 stands for zero itself alone;
-- the law.
use mathlib.Core.Path.{◌≡◌, refl, sym, ap, ap₂, ◌∙◌}
use mathlib.Core.List.{List, [], ◌∷◌}
use mathlib.Core.Bool.{Bool, true, false, cond, ◌&&◌}
use Prim.Native.Nat.{ℕ, zero, suc, ◌+◌, ◌*◌, ◌-◌, ◌%◌, ◌<◌, ◌≤◌}
use native.Mathlib.Omega.{arith}
use lib.Dec.{ltb, eqb}
use lib.ListN.{get_or, take}
use borrow.Author.Tests.{ltb-true, ltb-false, eqb-false}
use Rattle.std.specs.Prelude.{Ok, Err}
use Rattle.numbers.specs.Reading.{numeral, Number, read_from, number_of, last_byte, group}
use Rattle.numbers.specs.declared.Fault.TheVariants.{NotShortest, TooLarge}
use Rattle.numbers.proofs.Laws.{nothing_of, value_same, used_same}

-- ---- a byte that was read
positive : (b v : ℕ) → b ≡ v → (b ≡ 0 → ⊥) → 0 < v
positive b v d h = omega arith

-- as the last: the byte b at the place at is the whole of what is left, v, which ends at the place u
record Last (at b v u : ℕ) : Type 0 where
  value : b ≡ v
  used : at + 1 ≡ u
  some : 0 < at → 0 < v

last_of : (at b v u : ℕ) → last_byte at b ≡ numeral v u → Last at b v u
last_of at b v u e = split (eqb b 0) (ltb 0 at) refl refl e
  where
    split : (x y : Bool) → eqb b 0 ≡ x → ltb 0 at ≡ y → cond (x && y) (Err (NotShortest at)) (numeral b (at + 1)) ≡ numeral v u → Last at b v u
    split true true p q e =
        let z : ◌≡◌ {A = ℕ} 0 1 = cc in
        absurd (omega arith)
    split true false p q e = record { value = value_same b (at + 1) v u e; used = used_same b (at + 1) v u e; some = λ h. absurd (omega (arith, ltb-false 0 at q)) }
    split false y p q e =
        let d : b ≡ v = value_same b (at + 1) v u e in
        record { value = d; used = used_same b (at + 1) v u e; some = λ h. positive b v d (eqb-false b 0 p) }

at_limit : (limit at b v u : ℕ) → cond (ltb limit b) (Err (TooLarge at)) (last_byte at b) ≡ numeral v u → Last at b v u
at_limit limit at b v u e = split (ltb limit b) e
  where
    split : (x : Bool) → cond x (Err (TooLarge at)) (last_byte at b) ≡ numeral v u → Last at b v u
    split true e =
        let z : ◌≡◌ {A = ℕ} 0 1 = cc in
        absurd (omega arith)
    split false e = last_of at b v u e

-- or with higher groups behind it, whose value is x
record More (limit n at b : ℕ) (bs : List ℕ) (v u : ℕ) : Type 0 where
  x : ℕ
  value : 128 * x + b % 128 ≡ v
  rest : read_from limit n (at + 1) bs ≡ numeral x u

more_of : (limit n at b : ℕ) (bs : List ℕ) (v u : ℕ) (r : Number) → read_from limit n (at + 1) bs ≡ r → group b r ≡ numeral v u → More limit n at b bs v u
more_of limit n at b bs v u (Ok r) is e =
    let p : r.used ≡ u = used_same (128 * r.value + b % 128) r.used v u e in
    record { x = r.value; value = value_same (128 * r.value + b % 128) r.used v u e; rest = is ∙ ap (numeral r.value) p }
more_of limit n at b bs v u (Err f) is e =
    let z : ◌≡◌ {A = ℕ} 0 1 = cc in
    absurd (omega arith)

data Byte (limit n at b : ℕ) (bs : List ℕ) (v u : ℕ) : Type 0 where
  ends : b < 128 → Last at b v u → Byte limit n at b bs v u
  goes : 128 ≤ b → More limit n at b bs v u → Byte limit n at b bs v u

byte_of : (limit n at b : ℕ) (bs : List ℕ) (v u : ℕ) → read_from limit (suc n) at (b ∷ bs) ≡ numeral v u → Byte limit n at b bs v u
unfolding read_from
byte_of limit n at b bs v u e = split (ltb b 128) refl e
  where
    split : (x : Bool) → ltb b 128 ≡ x → cond x (last_byte at b) (group b (read_from limit n (at + 1) bs)) ≡ numeral v u → Byte limit n at b bs v u
    split true p e = ends (ltb-true b 128 p) (last_of at b v u e)
    split false p e = goes (ltb-false b 128 p) (more_of limit n at b bs v u (read_from limit n (at + 1) bs) refl e)

-- ---- higher groups are not 0, and take a byte at least
record Higher (at v u : ℕ) : Type 0 where
  some : 0 < at → 0 < v
  past : at < u

higher_last : (at b v u : ℕ) → Last at b v u → Higher at v u
higher_last at b v u l = record { some = l.some; past = omega (arith, l.used) }

no_bytes : (limit n at v u : ℕ) → read_from limit n at [] ≡ numeral v u → ⊥
no_bytes limit n at v u e =
    let h = nothing_of limit n at in
    let z : ◌≡◌ {A = ℕ} 0 1 = cc in
    omega arith

higher : (limit n at : ℕ) (bs : List ℕ) (v u : ℕ) → read_from limit n at bs ≡ numeral v u → Higher at v u
unfolding read_from
higher limit n at [] v u e = absurd (no_bytes limit n at v u e)
higher limit zero at (b ∷ bs) v u e = higher_last at b v u (at_limit limit at b v u e)
higher limit (suc n) at (b ∷ bs) v u e = by (λ x r. higher limit n (at + 1) bs x u r) (byte_of limit n at b bs v u e)
  where
    by : ((x : ℕ) → read_from limit n (at + 1) bs ≡ numeral x u → Higher (at + 1) x u) → Byte limit n at b bs v u → Higher at v u
    by rec (ends h l) = higher_last at b v u l
    by rec (goes h m) =
        let k = rec m.x m.rest in
        record { some = λ _. omega (arith, m.value, k.some (omega arith)); past = omega (arith, k.past) }

-- ---- the law
-- every element of the list is a byte
abbrev pub Bytes : List ℕ → Type 0
Bytes bs = (i : ℕ) → get_or bs i 0 < 256

-- two readings of the number v, by the bytes bs up to the place u and by the bytes cs up to the place w: these are the same bytes
pub record Same (at : ℕ) (bs cs : List ℕ) (u w : ℕ) : Type 0 where
  pub used : u ≡ w
  pub bytes : take (u - at) bs ≡ take (w - at) cs

same_last : (at b c : ℕ) (bs cs : List ℕ) (v u w : ℕ) → Last at b v u → Last at c v w → Same at (b ∷ bs) (c ∷ cs) u w
same_last at b c bs cs v u w l m =
    let p : u - at ≡ 1 = omega (arith, l.used) in
    let q : w - at ≡ 1 = omega (arith, m.used) in
    let e : b ≡ c = l.value ∙ sym m.value in
    record { used = sym l.used ∙ m.used; bytes = rw (p, q, e) }

pub same : (limit n at : ℕ) (bs cs : List ℕ) → Bytes bs → Bytes cs → (v u w : ℕ) → read_from limit n at bs ≡ numeral v u → read_from limit n at cs ≡ numeral v w
    → Same at bs cs u w
unfolding read_from
same limit n at [] cs hb hc v u w e f = absurd (no_bytes limit n at v u e)
same limit n at (b ∷ bs) [] hb hc v u w e f = absurd (no_bytes limit n at v w f)
same limit zero at (b ∷ bs) (c ∷ cs) hb hc v u w e f = same_last at b c bs cs v u w (at_limit limit at b v u e) (at_limit limit at c v w f)
same limit (suc n) at (b ∷ bs) (c ∷ cs) hb hc v u w e f =
    by (λ x p q. same limit n (at + 1) bs cs (λ i. hb (suc i)) (λ i. hc (suc i)) x u w p q) (byte_of limit n at b bs v u e) (byte_of limit n at c cs v w f)
  where
    by : ((x : ℕ) → read_from limit n (at + 1) bs ≡ numeral x u → read_from limit n (at + 1) cs ≡ numeral x w → Same (at + 1) bs cs u w)
        → Byte limit n at b bs v u → Byte limit n at c cs v w → Same at (b ∷ bs) (c ∷ cs) u w
    by rec (ends h l) (ends k m) = same_last at b c bs cs v u w l m
    by rec (ends h l) (goes k m) =
        absurd (omega (arith, l.value, m.value, (higher limit n (at + 1) cs m.x w m.rest).some (omega arith)))
    by rec (goes h m) (ends k l) =
        absurd (omega (arith, l.value, m.value, (higher limit n (at + 1) bs m.x u m.rest).some (omega arith)))
    by rec (goes h l) (goes k m) =
        let x : l.x ≡ m.x = omega (arith, l.value, m.value) in
        let d : b ≡ c = omega (arith, l.value, m.value, hb 0, hc 0) in
        let i = rec m.x (rw x at l.rest) m.rest in
        let p : u - at ≡ suc (u - (at + 1)) = omega (arith, (higher limit n (at + 1) bs l.x u l.rest).past) in
        let q : w - at ≡ suc (w - (at + 1)) = omega (arith, (higher limit n (at + 1) cs m.x w m.rest).past) in
        record { used = i.used; bytes = rw (p, q) (ap₂ ◌∷◌ d i.bytes) }

-- a number has one writing
pub one_writing : (most limit : ℕ) (bs cs : List ℕ) → Bytes bs → Bytes cs → (v u w : ℕ) → number_of most limit bs ≡ numeral v u → number_of most limit cs ≡ numeral v w
    → take u bs ≡ take w cs
one_writing most limit bs cs hb hc v u w e f =
    let z : (k : ℕ) → k - 0 ≡ k = λ k. omega arith in
    simp z at (same limit (most - 1) 0 bs cs hb hc v u w e f).bytes
