-- The laws of the words from a on. In order: what the code's lends are; the tail and the words before it, of a part whose tail or word was changed. Assumes nothing.
use mathlib.Core.Path.{◌≡◌, refl, sym, ap, ◌∙◌}
use mathlib.Core.List.{List, ◌++◌, append-nil}
use Prim.Native.Nat.{ℕ, ◌+◌, ◌-◌, ◌<◌, ◌≤◌}
use native.Mathlib.Omega.{arith}
use lib.ListN.{length, get_or, set, take, drop, length-append, length-drop, take-append-drop, get_or-append}
use lib.Seq.{take_at, drop_at, length-take-le, drop-length, drop-set-lt, take-set-lt, get_or-take, set-append_left}
use borrow.Author.Rules.{part_to_end}
use Rattle.tails.specs.Tails.{tail_of, with_tail}

-- what is lent, and what comes back
pub lent : (w : List ℕ) (a : ℕ) → take (length w - a) (drop a w) ≡ tail_of a w
unfolding tail_of
lent w a = part_to_end w a

pub back : (w l : List ℕ) (a : ℕ) → take a w ++ (l ++ drop (length w - a) (drop a w)) ≡ with_tail a l w
unfolding with_tail
back w l a = rw (ap (λ (n : ℕ). drop n (drop a w)) (sym (length-drop a w)) ∙ drop-length (drop a w), append-nil l) refl

pub length_tail : (a : ℕ) (w : List ℕ) → length (tail_of a w) ≡ length w - a
unfolding tail_of
length_tail a w = length-drop a w

module _ (a : ℕ) (l w : List ℕ) (h : a ≤ length w) where
  pub tail_with_tail : tail_of a (with_tail a l w) ≡ l
  unfolding tail_of with_tail
  tail_with_tail = drop_at (take a w) l a (length-take-le a w h)

  pub length_with_tail : length (with_tail a l w) ≡ a + length l
  unfolding with_tail
  length_with_tail = length-append (take a w) l ∙ ap (λ (n : ℕ). n + length l) (length-take-le a w h)

  pub same_length_with_tail : length l ≡ length (tail_of a w) → length (with_tail a l w) ≡ length w
  same_length_with_tail q = let z : length (tail_of a w) ≡ length w - a = length_tail a w in let y : length (with_tail a l w) ≡ a + length l = length_with_tail in omega arith

  pub word_with_tail : (i : ℕ) → i < a → get_or (with_tail a l w) i 0 ≡ get_or w i 0
  unfolding with_tail
  word_with_tail i k = let z : length (take a w) ≡ a = length-take-le a w h in get_or-append (take a w) l 0 i (omega arith) ∙ get_or-take a w i 0 k

  pub with_tail_with_tail : (k : List ℕ) → with_tail a k (with_tail a l w) ≡ with_tail a k w
  unfolding with_tail
  with_tail_with_tail k = ap (λ (t : List ℕ). t ++ k) (take_at (take a w) l a (length-take-le a w h))

  -- a word stored before a tail that was put in its place
  pub set_with_tail : (i v : ℕ) → i < a → set (with_tail a l w) i v ≡ with_tail a l (set w i v)
  unfolding with_tail
  set_with_tail i v k = let z : length (take a w) ≡ a = length-take-le a w h in set-append_left (take a w) l i v (omega arith) ∙ ap (λ (t : List ℕ). t ++ l) (sym (take-set-lt a w i v k))

-- the own tail put back
pub with_tail_own : (a : ℕ) (w : List ℕ) → with_tail a (tail_of a w) w ≡ w
unfolding with_tail tail_of
with_tail_own a w = take-append-drop a w

-- the tail where a word before it is stored
pub tail_set : (a i v : ℕ) (w : List ℕ) → i < a → tail_of a (set w i v) ≡ tail_of a w
unfolding tail_of
tail_set a i v w h = drop-set-lt a w i v h

-- two changes of the tail, one after the other
pub with_tail_step : (a : ℕ) (f : List ℕ → List ℕ) (w v u l : List ℕ) → a ≤ length w → v ≡ with_tail a l w → u ≡ with_tail a (f (tail_of a v)) v → u ≡ with_tail a (f l) w
with_tail_step a f w v u l h p q =
    let t : tail_of a v ≡ l = ap (tail_of a) p ∙ tail_with_tail a l w h in
    q ∙ ap (λ (k : List ℕ). with_tail a (f k) v) t ∙ ap (with_tail a (f l)) p ∙ with_tail_with_tail a l w h (f l)
