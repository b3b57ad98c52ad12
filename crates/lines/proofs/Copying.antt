-- A word, written at once. Assumes nothing.
use mathlib.Core.Path.{◌≡◌, refl, sym, ap, ap₂, ◌∙◌}
use mathlib.Core.List.{List, ◌++◌, append_assoc}
use Prim.Native.Nat.{ℕ, ◌+◌, ◌-◌}
use native.Mathlib.Omega.{arith}
use borrow.Rule.Slice.PartMut.{put_mid}
use lib.ListN.{length, take, drop}
use lib.Seq.{drop-drop}
use Rattle.lines.specs.Lines.{laid, Put}

-- the part of the buffer w that is as long as the word now holds the word
pub copied : (w : List ℕ) (at : ℕ) (word part : List ℕ) → part ≡ word
    → Put w (put_mid at (at + length word - at) w part) at word (at + length word)
unfolding laid
copied w at word part q =
    let size : at + length word - at ≡ length word = omega arith in
    let behind : drop (at + length word - at) (drop at w) ≡ drop (at + length word) w =
    ap (λ n. drop n (drop at w)) size ∙ drop-drop (length word) at w in
    record { buffer = sym (append_assoc (take at w) part _) ∙ ap₂ (λ x y. take at w ++ x ++ y) q behind; past = refl }
