-- Lists of words of 64 bits. In order: each word; any words; words that others come from. Assumes nothing.
use mathlib.Core.Path.{ap, ◌∙◌}
use mathlib.Core.List.{List, [], ◌∷◌, ◌++◌}
use Prim.Native.Nat.{ℕ, zero, suc, ◌+◌, ◌-◌, ◌≤◌}
use native.Mathlib.Omega.{arith}
use lib.ListN.{length, get_or, set, take, drop, replicate, length-set, length-append, length-drop, length-replicate}
use lib.Seq.{length-take-le}
use Rattle.rules.specs.Lists.{Each}
use Rattle.rules.proofs.EachLaws.{each_append, each_take}
use Rattle.writings.specs.Writings.{IsWord, Words}

-- ---- each word
each_set : (w : List ℕ) (i x : ℕ) → IsWord x → Each IsWord w → Each IsWord (set w i x)
each_set [] i x h e = tt
each_set (y ∷ w) zero x h e = (h, e.1)
each_set (y ∷ w) (suc i) x h e = (e.0, each_set w i x h e.1)

each_drop : (n : ℕ) (w : List ℕ) → Each IsWord w → Each IsWord (drop n w)
each_drop zero w e = e
each_drop (suc n) [] e = tt
each_drop (suc n) (y ∷ w) e = each_drop n w e.1

each_at : (w : List ℕ) (i : ℕ) → Each IsWord w → IsWord (get_or w i 0)
each_at [] i e = omega arith
each_at (y ∷ w) zero e = e.0
each_at (y ∷ w) (suc i) e = each_at w i e.1

each_zeros : (n : ℕ) → Each IsWord (replicate n 0)
each_zeros zero = tt
each_zeros (suc n) = (omega arith, each_zeros n)

-- ---- any words
pub zeros : (n : ℕ) → Words n (replicate n 0)
zeros n = record { size = length-replicate n 0; below = each_zeros n }

pub joined : {a b : ℕ} {w v : List ℕ} → Words a w → Words b v → Words (a + b) (w ++ v)
joined {a} {b} {w} {v} h k =
    record {
      size = length-append w v ∙ ap (λ (n : ℕ). n + length v) h.size ∙ ap (λ (n : ℕ). a + n) k.size;
      below = each_append IsWord w v h.below k.below;
    }

-- ---- words that others come from
module _ {n : ℕ} {w : List ℕ} (h : Words n w) where
  pub word_at : (i : ℕ) → IsWord (get_or w i 0)
  word_at i = each_at w i h.below

  pub words_set : (i x : ℕ) → IsWord x → Words n (set w i x)
  words_set i x k = record { size = length-set w i x ∙ h.size; below = each_set w i x k h.below }

  pub words_drop : (a : ℕ) → Words (n - a) (drop a w)
  words_drop a = record { size = length-drop a w ∙ ap (λ (m : ℕ). m - a) h.size; below = each_drop a w h.below }

  -- the words l in place of those from word a on
  pub words_tail : (a : ℕ) (l : List ℕ) → a ≤ n → Words (n - a) l → Words n (take a w ++ l)
  words_tail a l low k =
      let s = h.size in
      let t = k.size in
      let u = length-take-le a w (omega arith) in
      let v = length-append (take a w) l in
      let e = each_take IsWord a w h.below in
      record { size = omega arith; below = each_append IsWord (take a w) l e k.below }
