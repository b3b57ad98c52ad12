-- One turn with a buffer: the bytes in it are fed, and those that are not used up are kept. Assumes nothing.
use mathlib.Core.Path.{◌≡◌, sym, ap, subst, ◌∙◌}
use mathlib.Core.Bool.{Bool}
use mathlib.Core.List.{List, ◌++◌}
use Prim.Native.Nat.{ℕ, ◌+◌, ◌-◌, ◌≤◌}
use native.Mathlib.Omega.{arith}
use lib.Dec.{ltb}
use lib.ListN.{length, take, drop, length-drop}
use lib.Seq.{length-take-le, take_at, drop_at, take-add}
use borrow.Author.Rules.{rules}
use Rattle.input_buffer.specs.Pieces.{Within, moved, Kept}
use Rattle.replaying.specs.declared.Replay.{Replay}
use Rattle.replaying.specs.Feeding.{Feeds, Turns}

pub prefix_length : (n : ℕ) (l : List ℕ) → n ≤ length l → n ≡ length (take n l)
prefix_length n l h = sym (length-take-le n l h)

pub keeps_asks : (r s : Replay) (w v b t : List ℕ) (last : Bool) (n used : ℕ) → Feeds r w (take n b) last s v used t → n ≤ length b → Within b used n
keeps_asks r s w v b t last n used f h = record { order = omega (arith, f.inside, length-take-le n b h); inside = h }

-- ---- the bytes kept are those that were not used up, in order
kept_are : (b a : List ℕ) (used n kept : ℕ) → Within b used n → Kept b a used n kept → take kept a ≡ drop used (take n b)
unfolding moved
kept_are b a used n kept i k =
    let order = i.order in
    let inside = i.inside in
    let size : length (take (n - used) (drop used b)) ≡ n - used = length-take-le (n - used) (drop used b) (omega (arith, length-drop used b)) in
    let whole : used + (n - used) ≡ n = omega arith in
    let apart : take n b ≡ take used b ++ take (n - used) (drop used b) = ap (λ (j : ℕ). take j b) (sym whole) ∙ take-add used (n - used) b in
    ap (λ (j : ℕ). take j a) k.count
    ∙ ap (take (n - used)) k.buffer
    ∙ take_at (take (n - used) (drop used b)) (drop (n - used) b) (n - used) size
    ∙ sym (ap (drop used) apart ∙ drop_at (take used b) (take (n - used) (drop used b)) used (length-take-le used b (omega arith)))

pub turns : (r s : Replay) (w v b a t : List ℕ) (n used kept : ℕ) → Feeds r w (take n b) (ltb n (length b)) s v used t → n ≤ length b → Kept b a used n kept
    → Turns (length b) r w (take n b) s v (take kept a) t
turns r s w v b a t n used kept f h k =
    record {
      used = used;
      feeds = subst (λ (m : ℕ). Feeds r w (take n b) (ltb m (length b)) s v used t) (prefix_length n b h) f;
      left = kept_are b a used n kept (keeps_asks r s w v b t (ltb n (length b)) n used f h) k;
    }

pub kept_there : (b a : List ℕ) (used n kept : ℕ) → Kept b a used n kept → n ≤ length b → length a ≡ length b → kept ≤ length a
kept_there b a used n kept k h e = omega (arith, k.count)

pub ruleset laws = (prefix_length, keeps_asks, turns, kept_there, rules)
