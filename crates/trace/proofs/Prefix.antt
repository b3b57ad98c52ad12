-- An operation depends only on its first sixteen bytes: where these are there, what follows them changes nothing. Assumes nothing.
use mathlib.Core.Path.{◌≡◌, refl, ap, ◌∙◌}
use mathlib.Core.List.{List, ◌++◌}
use Prim.Native.Nat.{ℕ, ◌+◌, ◌≤◌}
use native.Mathlib.Omega.{arith}
use lib.ListN.{length, drop, length-drop}
use lib.Seq.{drop-append-le}
use Rattle.std.specs.Prelude.{Ok, Err}
use Rattle.numbers.specs.Reading.{Number, page_of, frame_of}
use Rattle.numbers.proofs.Bounds.{page_bounds}
use Rattle.numbers.proofs.Prefix.{page_prefix, frame_prefix}
use Rattle.trace.specs.Reading.{with_frame, with_both, operation_of}
use Rattle.trace.proofs.Arms.{by_code}

-- a page, which was read as r, and then a frame
both_prefix : (bs rest : List ℕ) (r : Number) → 15 ≤ length bs → r ≡ page_of bs → with_both (bs ++ rest) r ≡ with_both bs r
both_prefix bs rest (Ok page) h e =
    let b = page_bounds bs page.value page.used e in
    ap (λ (f : Number). with_frame page.value (1 + page.used) f)
    (ap frame_of (drop-append-le page.used bs rest (omega (arith, b.there)))
    ∙ frame_prefix (drop page.used bs) rest (omega (arith, b.allowed, length-drop page.used bs)))
both_prefix bs rest (Err f) h e = refl

-- the bytes after the code b
pub operation_prefix : (b : ℕ) (bs rest : List ℕ) → 15 ≤ length bs → operation_of b (bs ++ rest) ≡ operation_of b bs
unfolding operation_of
operation_prefix b bs rest h =
    ap (by_code b (bs ++ rest)) (page_prefix bs rest (omega arith))
    ∙ rw (both_prefix bs rest (page_of bs) h refl)
