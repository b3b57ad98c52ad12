-- The laws of a part of an area, and of an area with a part replaced. Assumes nothing.
use mathlib.Core.Path.{◌≡◌, refl, sym, ap, ◌∙◌}
use mathlib.Core.List.{List, [], ◌∷◌, ◌++◌}
use Prim.Native.Nat.{ℕ, zero, suc, ◌+◌, ◌-◌, ◌≤◌}
use native.Mathlib.Omega.{arith}
use native.Mathlib.Nat.{add-sub_of_le, zero-add, suc-add, le_refl}
use lib.ListN.{length, take, drop, length-append, length-drop}
use lib.Seq.{take-nil, take_at, drop_at, drop-drop, take-take, length-take-le}
use Rattle.area.specs.Part.{part, splice}

pub length_part : (a b : ℕ) (xs : List ℕ) → a ≤ b → b ≤ length xs → length (part a b xs) ≡ b - a
unfolding part
length_part a b xs h k = length-take-le (b - a) (drop a xs) (simp length-drop (omega arith))

take_drop : (n c : ℕ) (zs : List ℕ) → take n (drop c zs) ≡ drop c (take (c + n) zs)
take_drop n zero zs = rw zero-add refl
take_drop n (suc c) [] = rw take-nil (sym (ap (drop (suc c)) (take-nil (suc c + n))))
take_drop n (suc c) (z ∷ zs) = rw suc-add (take_drop n c zs)

part_of_take : (c d : ℕ) (zs : List ℕ) → c ≤ d → part c d (take d zs) ≡ part c d zs
unfolding part
part_of_take c d zs h = simp (take_drop, add-sub_of_le h, take-take d d zs (le_refl d))

module _ (a b : ℕ) (ys xs : List ℕ) (low : a ≤ b) (high : b ≤ length xs) (len : length ys ≡ b - a) where
  pub length_splice : length (splice a b ys xs) ≡ length xs
  unfolding splice
  length_splice = simp (length-append, length-take-le a xs (omega arith), length-drop, len) (omega arith)

  pub take_splice : take a (splice a b ys xs) ≡ take a xs
  unfolding splice
  take_splice = take_at (take a xs) (ys ++ drop (b - a) (drop a xs)) a (length-take-le a xs (omega arith))

  drop_splice_a : drop a (splice a b ys xs) ≡ ys ++ drop (b - a) (drop a xs)
  unfolding splice
  drop_splice_a = drop_at (take a xs) (ys ++ drop (b - a) (drop a xs)) a (length-take-le a xs (omega arith))

  pub part_splice : part a b (splice a b ys xs) ≡ ys
  unfolding part
  part_splice = ap (take (b - a)) drop_splice_a ∙ take_at ys (drop (b - a) (drop a xs)) (b - a) len

  pub drop_splice : drop b (splice a b ys xs) ≡ drop b xs
  drop_splice =
      ap (λ (n : ℕ). drop n (splice a b ys xs)) (sym (add-sub_of_le low))
      ∙ sym (drop-drop (b - a) a (splice a b ys xs))
      ∙ ap (drop (b - a)) drop_splice_a
      ∙ drop_at ys (drop (b - a) (drop a xs)) (b - a) len
      ∙ drop-drop (b - a) a xs
      ∙ ap (λ (n : ℕ). drop n xs) (add-sub_of_le low)

  -- what lies wholly above, and wholly below, is as it was
  pub drop_above : (c : ℕ) → b ≤ c → drop c (splice a b ys xs) ≡ drop c xs
  drop_above c h =
      ap (λ (n : ℕ). drop n (splice a b ys xs)) (sym (add-sub_of_le h))
      ∙ sym (drop-drop (c - b) b (splice a b ys xs))
      ∙ ap (drop (c - b)) drop_splice
      ∙ drop-drop (c - b) b xs
      ∙ ap (λ (n : ℕ). drop n xs) (add-sub_of_le h)

  pub part_above : (c d : ℕ) → b ≤ c → part c d (splice a b ys xs) ≡ part c d xs
  unfolding part
  part_above c d h = ap (take (d - c)) (drop_above c h)

  pub take_below : (c : ℕ) → c ≤ a → take c (splice a b ys xs) ≡ take c xs
  take_below c h = sym (take-take c a (splice a b ys xs) h) ∙ ap (take c) take_splice ∙ take-take c a xs h

  pub part_below : (c d : ℕ) → c ≤ d → d ≤ a → part c d (splice a b ys xs) ≡ part c d xs
  part_below c d k h = sym (part_of_take c d (splice a b ys xs) k) ∙ ap (part c d) (take_below d h) ∙ part_of_take c d xs k
