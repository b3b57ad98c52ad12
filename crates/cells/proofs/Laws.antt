-- The laws of cells: all that other crates know of how a cell's two numbers lie in words.
-- In order: which cells there are; what a store does to the cell's number, to the other number, to other cells, to the length; two stores, and a store of what is there; the sets for `search` and `simp`.
-- That a store reads back is stated for numbers of cells only (`In w x`): a layout that packs the numbers can hold no others.
-- Assumes nothing.
use mathlib.Core.Path.{◌≡◌, sym, ap, ◌∙◌}
use mathlib.Core.List.{List}
use Prim.Native.Nat.{ℕ, ◌+◌, ◌*◌, ◌<◌, ◌≤◌}
use native.Mathlib.Omega.{arith}
use lib.ListN.{length, set, length-set}
use lib.Seq.{get_or-set_same, get_or-set_other, set-set, set_comm, set-get_or}
use Rattle.cells.specs.Cells.{words_of, Cells, In, next_of, prev_of, with_next, with_prev, CanLink}

-- which cells there are
pub in_cells : (w : List ℕ) (n e : ℕ) → Cells w n → e < n → In w e
unfolding Cells In words_of
in_cells w n e h l = omega arith

pub in_below : (w : List ℕ) (n e : ℕ) → In w n → e ≤ n → In w e
unfolding In
in_below w n e h l = omega arith

pub in_length : (w v : List ℕ) (e : ℕ) → length v ≡ length w → In w e → In v e
unfolding In
in_length w v e q h = omega arith

pub cells_length : (w v : List ℕ) (n : ℕ) → length v ≡ length w → Cells w n → Cells v n
unfolding Cells
cells_length w v n q h = omega arith

pub cells_words : (w : List ℕ) (n : ℕ) → words_of n ≤ length w → Cells w n
unfolding Cells
cells_words w n h = h

-- the cell after
pub next_same : (w : List ℕ) (e x : ℕ) → In w e → In w x → next_of (with_next w e x) e ≡ x
unfolding In next_of with_next
next_same w e x h i = get_or-set_same w (2 * e) x 0 (omega arith)

pub next_other : (w : List ℕ) (e x z : ℕ) → (z ≡ e → ⊥) → next_of (with_next w e x) z ≡ next_of w z
unfolding next_of with_next
next_other w e x z n = get_or-set_other w (2 * e) (2 * z) x 0 (omega arith)

pub next_with_prev : (w : List ℕ) (e x z : ℕ) → next_of (with_prev w e x) z ≡ next_of w z
unfolding next_of with_prev
next_with_prev w e x z = get_or-set_other w (2 * e + 1) (2 * z) x 0 (omega arith)

-- the cell before
pub prev_same : (w : List ℕ) (e x : ℕ) → In w e → In w x → prev_of (with_prev w e x) e ≡ x
unfolding In prev_of with_prev
prev_same w e x h i = get_or-set_same w (2 * e + 1) x 0 h

pub prev_other : (w : List ℕ) (e x z : ℕ) → (z ≡ e → ⊥) → prev_of (with_prev w e x) z ≡ prev_of w z
unfolding prev_of with_prev
prev_other w e x z n = get_or-set_other w (2 * e + 1) (2 * z + 1) x 0 (omega arith)

pub prev_with_next : (w : List ℕ) (e x z : ℕ) → prev_of (with_next w e x) z ≡ prev_of w z
unfolding prev_of with_next
prev_with_next w e x z = get_or-set_other w (2 * e) (2 * z + 1) x 0 (omega arith)

-- the length, and so which cells there are
pub length_with_next : (w : List ℕ) (e x : ℕ) → length (with_next w e x) ≡ length w
unfolding with_next
length_with_next w e x = length-set w (2 * e) x

pub length_with_prev : (w : List ℕ) (e x : ℕ) → length (with_prev w e x) ≡ length w
unfolding with_prev
length_with_prev w e x = length-set w (2 * e + 1) x

pub in_with_next : (w : List ℕ) (e x z : ℕ) → In w z → In (with_next w e x) z
in_with_next w e x z h = in_length w (with_next w e x) z (length_with_next w e x) h

pub in_with_prev : (w : List ℕ) (e x z : ℕ) → In w z → In (with_prev w e x) z
in_with_prev w e x z h = in_length w (with_prev w e x) z (length_with_prev w e x) h

pub can_link : (w : List ℕ) (e x : ℕ) → In w e → In w x → CanLink w e x
can_link w e x h i = record { cell = h; to = i }

-- a store over a store, a store of each number, and a store of what is there
pub with_next_again : (w : List ℕ) (e x y : ℕ) → with_next (with_next w e x) e y ≡ with_next w e y
unfolding with_next
with_next_again w e x y = set-set w (2 * e) x y

pub with_prev_again : (w : List ℕ) (e x y : ℕ) → with_prev (with_prev w e x) e y ≡ with_prev w e y
unfolding with_prev
with_prev_again w e x y = set-set w (2 * e + 1) x y

pub with_next_with_prev : (w : List ℕ) (a x b y : ℕ) → with_next (with_prev w a x) b y ≡ with_prev (with_next w b y) a x
unfolding with_next with_prev
with_next_with_prev w a x b y = set_comm w (2 * a + 1) (2 * b) x y (omega arith)

pub with_next_own : (w : List ℕ) (e x : ℕ) → next_of w e ≡ x → with_next w e x ≡ w
unfolding with_next next_of
with_next_own w e x q = ap (set w (2 * e)) (sym q) ∙ set-get_or w (2 * e) 0

pub with_prev_own : (w : List ℕ) (e x : ℕ) → prev_of w e ≡ x → with_prev w e x ≡ w
unfolding with_prev prev_of
with_prev_own w e x q = ap (set w (2 * e + 1)) (sym q) ∙ set-get_or w (2 * e + 1) 0

pub ruleset lengths = (length_with_next, length_with_prev)

pub ruleset cells = (next_same, next_other, next_with_prev, prev_same, prev_other, prev_with_next, in_with_next, in_with_prev, can_link)
