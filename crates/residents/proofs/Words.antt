-- The laws of the words of the residents. In order: what a store of one word leaves of a slot, of the counts and of the links; the same of a shift; the words of a slot that is written.
-- Assumes nothing.
use mathlib.Core.Path.{◌≡◌, sym, ap, ◌∙◌}
use mathlib.Core.List.{List}
use Prim.Native.Nat.{ℕ, ◌+◌, ◌*◌, ◌<◌, ◌≤◌}
use native.Mathlib.Omega.{arith}
use lib.ListN.{length, set, length-set}
use lib.Seq.{get_or-set_same, get_or-set_other, set-get_or}
use Rattle.tails.proofs.Laws.{tail_with_tail, tail_set, word_with_tail, same_length_with_tail}
use Rattle.residents.specs.Residents.{links_of, count_of, frame_of, list_of, bit_of}
use Rattle.residents.specs.Changes.{with_frame, with_list, with_bit, recounted, shifted}

-- v has the words of slot x that w has
pub record Same (w v : List ℕ) (c x : ℕ) : Type 0 where
  pub frame : frame_of v x ≡ frame_of w x
  pub list : list_of v c x ≡ list_of w c x
  pub bit : bit_of v c x ≡ bit_of w c x

pub same_then : (w v u : List ℕ) (c x : ℕ) → Same w v c x → Same v u c x → Same w u c x
same_then w v u c x a b = record { frame = b.frame ∙ a.frame; list = b.list ∙ a.list; bit = b.bit ∙ a.bit }

pub same_set : (w : List ℕ) (k n c x : ℕ) → (3 + x ≡ k → ⊥) → (3 + c + x ≡ k → ⊥) → (3 + 2 * c + x ≡ k → ⊥) → Same w (set w k n) c x
unfolding frame_of list_of bit_of
same_set w k n c x f l b = record { frame = get_or-set_other w k (3 + x) n 0 f; list = get_or-set_other w k (3 + c + x) n 0 l; bit = get_or-set_other w k (3 + 2 * c + x) n 0 b }

-- a part that differs from w in the words of slots alone
pub record Beside (w v : List ℕ) (c : ℕ) : Type 0 where
  pub size : length v ≡ length w
  pub links : links_of c v ≡ links_of c w
  pub counts : (u : ℕ) → u < 3 → count_of v u ≡ count_of w u

pub beside_then : (w v u : List ℕ) (c : ℕ) → Beside w v c → Beside v u c → Beside w u c
beside_then w v u c a b = record { size = b.size ∙ a.size; links = b.links ∙ a.links; counts = λ i h. b.counts i h ∙ a.counts i h }

pub beside_set : (w : List ℕ) (k n c : ℕ) → 3 ≤ k → k < 3 + 3 * c → Beside w (set w k n) c
unfolding count_of
beside_set w k n c l h = record { size = length-set w k n; links = tail_set (3 + 3 * c) k n w h; counts = λ u q. get_or-set_other w k u n 0 (omega arith) }

module _ (w : List ℕ) (c e : ℕ) (h : e < c) where
  pub beside_frame : (f : ℕ) → Beside w (with_frame e f w) c
  unfolding with_frame
  beside_frame f = beside_set w (3 + e) f c (omega arith) (omega arith)

  pub beside_list : (i : ℕ) → Beside w (with_list c e i w) c
  unfolding with_list
  beside_list i = beside_set w (3 + c + e) i c (omega arith) (omega arith)

  pub beside_bit : (b : ℕ) → Beside w (with_bit c e b w) c
  unfolding with_bit
  beside_bit b = beside_set w (3 + 2 * c + e) b c (omega arith) (omega arith)

  -- other slots
  module _ (x : ℕ) (k : x < c) (d : x ≡ e → ⊥) where
    pub same_frame : (f : ℕ) → Same w (with_frame e f w) c x
    unfolding with_frame
    same_frame f = same_set w (3 + e) f c x (omega arith) (omega arith) (omega arith)

    pub same_list : (i : ℕ) → Same w (with_list c e i w) c x
    unfolding with_list
    same_list i = same_set w (3 + c + e) i c x (omega arith) (omega arith) (omega arith)

    pub same_bit : (b : ℕ) → Same w (with_bit c e b w) c x
    unfolding with_bit
    same_bit b = same_set w (3 + 2 * c + e) b c x (omega arith) (omega arith) (omega arith)

  -- and the other words of slot e itself
  pub list_with_frame : (f : ℕ) → list_of (with_frame e f w) c e ≡ list_of w c e
  unfolding with_frame list_of
  list_with_frame f = get_or-set_other w (3 + e) (3 + c + e) f 0 (omega arith)

  pub bit_with_frame : (f : ℕ) → bit_of (with_frame e f w) c e ≡ bit_of w c e
  unfolding with_frame bit_of
  bit_with_frame f = get_or-set_other w (3 + e) (3 + 2 * c + e) f 0 (omega arith)

  pub frame_with_list : (i : ℕ) → frame_of (with_list c e i w) e ≡ frame_of w e
  unfolding with_list frame_of
  frame_with_list i = get_or-set_other w (3 + c + e) (3 + e) i 0 (omega arith)

  pub bit_with_list : (i : ℕ) → bit_of (with_list c e i w) c e ≡ bit_of w c e
  unfolding with_list bit_of
  bit_with_list i = get_or-set_other w (3 + c + e) (3 + 2 * c + e) i 0 (omega arith)

  pub frame_with_bit : (b : ℕ) → frame_of (with_bit c e b w) e ≡ frame_of w e
  unfolding with_bit frame_of
  frame_with_bit b = get_or-set_other w (3 + 2 * c + e) (3 + e) b 0 (omega arith)

  pub list_with_bit : (b : ℕ) → list_of (with_bit c e b w) c e ≡ list_of w c e
  unfolding with_bit list_of
  list_with_bit b = get_or-set_other w (3 + 2 * c + e) (3 + c + e) b 0 (omega arith)

  module _ (l : 3 + 3 * c ≤ length w) where
    pub frame_here : (f : ℕ) → frame_of (with_frame e f w) e ≡ f
    unfolding with_frame frame_of
    frame_here f = get_or-set_same w (3 + e) f 0 (omega arith)

    pub list_here : (i : ℕ) → list_of (with_list c e i w) c e ≡ i
    unfolding with_list list_of
    list_here i = get_or-set_same w (3 + c + e) i 0 (omega arith)

    pub bit_here : (b : ℕ) → bit_of (with_bit c e b w) c e ≡ b
    unfolding with_bit bit_of
    bit_here b = get_or-set_same w (3 + 2 * c + e) b 0 (omega arith)

-- a list number that is there already
pub with_list_own : (w : List ℕ) (c e i : ℕ) → list_of w c e ≡ i → with_list c e i w ≡ w
unfolding with_list list_of
with_list_own w c e i q = ap (set w (3 + c + e)) (sym q) ∙ set-get_or w (3 + c + e) 0

-- the counts of a shift
pub length_recounted : (i j : ℕ) (w : List ℕ) → length (recounted i j w) ≡ length w
unfolding recounted
length_recounted i j w = length-set (set w i _) j _ ∙ length-set w i _

module _ (c i j : ℕ) (w : List ℕ) (hi : i < 3) (hj : j < 3) where
  pub links_recounted : links_of c (recounted i j w) ≡ links_of c w
  unfolding recounted
  links_recounted = tail_set (3 + 3 * c) j _ (set w i _) (omega arith) ∙ tail_set (3 + 3 * c) i _ w (omega arith)

  pub same_recounted : (x : ℕ) → Same w (recounted i j w) c x
  unfolding recounted
  same_recounted x = same_then w (set w i _) _ c x (same_set w i _ c x (omega arith) (omega arith) (omega arith)) (same_set (set w i _) j _ c x (omega arith) (omega arith) (omega arith))

  -- a shift with the links l
  module _ (l : List ℕ) (h : 3 + 3 * c ≤ length w) where
    long : 3 + 3 * c ≤ length (recounted i j w)
    long = let z : length (recounted i j w) ≡ length w = length_recounted i j w in omega arith

    pub links_shifted : links_of c (shifted c i j l w) ≡ l
    unfolding shifted
    links_shifted = tail_with_tail (3 + 3 * c) l (recounted i j w) long

    pub length_shifted : length l ≡ length (links_of c w) → length (shifted c i j l w) ≡ length w
    unfolding shifted
    length_shifted q = same_length_with_tail (3 + 3 * c) l (recounted i j w) long (q ∙ ap length (sym links_recounted)) ∙ length_recounted i j w

    pub counts_shifted : (u : ℕ) → u < 3 → count_of (shifted c i j l w) u ≡ count_of (recounted i j w) u
    unfolding shifted count_of
    counts_shifted u k = word_with_tail (3 + 3 * c) l (recounted i j w) long u (omega arith)

    pub same_shifted : (x : ℕ) → x < c → Same w (shifted c i j l w) c x
    unfolding shifted frame_of list_of bit_of
    same_shifted x k =
        same_then w (recounted i j w) (shifted c i j l w) c x (same_recounted x)
        (record {
          frame = word_with_tail (3 + 3 * c) l (recounted i j w) long (3 + x) (omega arith);
          list = word_with_tail (3 + 3 * c) l (recounted i j w) long (3 + c + x) (omega arith);
          bit = word_with_tail (3 + 3 * c) l (recounted i j w) long (3 + 2 * c + x) (omega arith);
        })
