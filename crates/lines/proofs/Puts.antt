-- Texts in a buffer. In order: what a laid text leaves, and the position behind it; one text behind another; the room that is left; the outcome is one. Assumes nothing.
use mathlib.Core.Path.{◌≡◌, refl, sym, ap, ap₂, ◌∙◌}
use mathlib.Core.List.{List, [], ◌∷◌, ◌++◌, append_assoc}
use Prim.Native.Nat.{ℕ, ◌+◌, ◌<◌, ◌≤◌}
use native.Mathlib.Omega.{arith}
use lib.ListN.{length, take, drop, set, length-append, length-take, length-drop}
use lib.Seq.{sets-eq, take_at, drop-append-add, drop-drop, length-take-le}
use Rattle.lines.specs.Lines.{laid, Room, Put}

-- ---- a text
pub length_laid : (at : ℕ) (text w : List ℕ) → Room w at text → length (laid at text w) ≡ length w
unfolding laid
length_laid at text w h = simp (length-append, length-take, length-drop) (omega arith)

-- no text, and a text of one byte
pub put_nothing : (w : List ℕ) (at : ℕ) → at ≤ length w → Put w w at [] at
unfolding laid
put_nothing w at h = record { buffer = sets-eq [] w at (omega arith); past = omega arith }

pub put_byte : (w : List ℕ) (at x : ℕ) → at < length w → Put w (set w at x) at (x ∷ []) (at + 1)
unfolding laid
put_byte w at x h = record { buffer = sets-eq (x ∷ []) w at (omega arith); past = refl }

pub put_length : (w v : List ℕ) (at : ℕ) (text : List ℕ) (r : ℕ) → Put w v at text r → Room w at text → length v ≡ length w
put_length w v at text r p h = ap length p.buffer ∙ length_laid at text w h

-- ---- a text behind another
laid_then : (at : ℕ) (a b w : List ℕ) → at ≤ length w → laid (at + length a) b (laid at a w) ≡ laid at (a ++ b) w
unfolding laid
laid_then at a b w h =
    let front = take at w ++ a in
    let rest = drop (at + length a) w in
    let size : length front ≡ at + length a = length-append (take at w) a ∙ ap (λ n. n + length a) (length-take-le at w h) in
    let size-both : at + length a + length b ≡ at + length (a ++ b) = omega (arith, length-append a b) in
    let behind : drop (at + length a + length b) (front ++ rest) ≡ drop (at + length (a ++ b)) w =
    ap (λ n. drop (n + length b) (front ++ rest)) (sym size) ∙ drop-append-add front rest (length b) ∙ drop-drop (length b) (at + length a) w
    ∙ ap (λ n. drop n w) size-both in
    ap₂ (λ x y. x ++ b ++ y) (take_at front rest (at + length a) size) behind ∙ ap (λ x. x ++ drop (at + length (a ++ b)) w) (append_assoc (take at w) a b)

pub put_then : (w u v : List ℕ) (at : ℕ) (a b : List ℕ) (p r : ℕ) → at ≤ length w → Put w u at a p → Put u v p b r → Put w v at (a ++ b) r
put_then w u v at a b p r h x y =
    record {
      buffer = y.buffer ∙ ap₂ (λ n l. laid n b l) x.past x.buffer ∙ laid_then at a b w h;
      past = omega (arith, length-append a b, x.past, y.past);
    }

-- the same, where there is room for both
pub put_both : (w u v : List ℕ) (at : ℕ) (a b : List ℕ) (p r : ℕ) → Room w at (a ++ b) → Put w u at a p → Put u v p b r → Put w v at (a ++ b) r
put_both w u v at a b p r h x y = put_then w u v at a b p r (omega arith) x y

-- ---- the room for the first of two texts, and for the second behind it
pub room_first : (w : List ℕ) (at : ℕ) (a b : List ℕ) → Room w at (a ++ b) → Room w at a
room_first w at a b h = record { fits = omega (arith, length-append a b) }

pub room_second : (w u : List ℕ) (at : ℕ) (a b : List ℕ) (p : ℕ) → Put w u at a p → Room w at (a ++ b) → Room u p b
room_second w u at a b p x h = record { fits = omega (arith, length-append a b, x.past, put_length w u at a p x (room_first w at a b h)) }

-- ---- any two outcomes that the contract allows are equal
pub one_outcome : (w u v : List ℕ) (at : ℕ) (text : List ℕ) (p r : ℕ) → Put w u at text p → Put w v at text r → (u ≡ v) × (p ≡ r)
one_outcome w u v at text p r x y = (x.buffer ∙ sym y.buffer, x.past ∙ sym y.past)
