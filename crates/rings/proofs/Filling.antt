-- The laws of a ring that is filled: all members, in rising order. Assumes nothing.
use mathlib.Core.Path.{◌≡◌, refl, sym, ap, subst, ◌∙◌}
use mathlib.Core.List.{List, []}
use Prim.Native.Nat.{ℕ, zero, suc, ◌+◌, ◌<◌, ◌≤◌}
use native.Mathlib.Omega.{arith}
use native.Mathlib.Numerals.{add-one}
use lib.ListN.{length}
use borrow.Author.Rules.{rules}
use Rattle.cells.specs.Cells.{In, with_next, with_prev, CanLink}
use Rattle.cells.proofs.Laws.{in_below, in_length, in_with_next, next_same, next_with_prev, prev_same, length_with_next, length_with_prev}
use Rattle.rings.specs.Members.{up_from}
use Rattle.rings.specs.Rings.{Links, Ring, linked, before, chained, filled, CanFill}
use Rattle.rings.proofs.Links.{links_snoc, links_with_next, links_with_prev}
use Rattle.rings.proofs.Pigeons.{up_from_more, fresh_up_from, below_up_from}

-- lengths
pub length_linked : (a b : ℕ) (w : List ℕ) → length (linked a b w) ≡ length w
unfolding linked
length_linked a b w = length_with_prev (with_next w a b) b a ∙ length_with_next w a b

length_chained : (s n : ℕ) (w : List ℕ) → length (chained s n w) ≡ length w
unfolding chained
length_chained s zero w = refl
length_chained s (suc n) w = length_linked (before s n) n (chained s n w) ∙ length_chained s n w

pub length_filled : (s n : ℕ) (w : List ℕ) → length (filled s n w) ≡ length w
unfolding filled
length_filled s n w = length_linked (before s n) s (chained s n w) ∙ length_chained s n w

-- the cells below n lead from the sentinel to a cell e that is linked after them
link_first : (w : List ℕ) (s e : ℕ) → In w s → In w e → Links (linked s e w) s [] e
unfolding linked
link_first w s e i j = (next_with_prev _ _ _ _ ∙ next_same w s e i j, prev_same (with_next w s e) e s (in_with_next w s e e j) (in_with_next w s e s i))

link_more : (w : List ℕ) (s n e : ℕ) → In w n → In w e → n < e → n < s → Links w s (up_from 0 n) n → Links (linked n e w) s (up_from 0 (suc n)) e
unfolding linked
link_more w s n e i j h k l =
    subst (λ (xs : List ℕ). Links (with_prev (with_next w n e) e n) s xs e) (sym (up_from_more 0 n n (omega arith)))
    (links_snoc _ s (up_from 0 n) n e
    (links_with_prev _ e n s (up_from 0 n) n (λ q. omega arith) (fresh_up_from 0 n e (omega arith)) (links_with_next w n e s (up_from 0 n) n (λ q. omega arith, fresh_up_from 0 n n (omega arith)) l))
    (next_with_prev _ _ _ _ ∙ next_same w n e i j)
    (prev_same (with_next w n e) e n (in_with_next w n e e j) (in_with_next w n e n i)))

chain_links : (w : List ℕ) (s : ℕ) → In w s → (n e : ℕ) → n ≤ e → e ≤ s → Links (linked (before s n) e (chained s n w)) s (up_from 0 n) e
unfolding chained
chain_links w s i zero e h k = link_first w s e i (in_below w s e i k)
chain_links w s i (suc n) e h k =
    link_more (chained s (suc n) w) s n e (there n (omega arith)) (there e k) (omega arith) (omega arith) (chain_links w s i n n (omega arith) (omega arith))
  where
    there : (x : ℕ) → x ≤ s → In (chained s (suc n) w) x
    there x l = in_length w (chained s (suc n) w) x (length_chained s (suc n) w) (in_below w s x i l)

pub fill_ring : (w : List ℕ) (m s : ℕ) → m ≤ s → In w s → Ring (filled s m w) m s (up_from 0 m)
unfolding filled
fill_ring w m s h i = record { high = h; root = in_length w (filled s m w) s (length_filled s m w) i; links = chain_links w s i m s h (omega arith); below = below_up_from m 0 m (omega arith) }

-- a ring beside it that is empty stays
link_other : (w : List ℕ) (a b t : ℕ) → (a ≡ t → ⊥) → (b ≡ t → ⊥) → Links w t [] t → Links (linked a b w) t [] t
unfolding linked
link_other w a b t d e l = links_with_prev _ b a t [] t e tt (links_with_next w a b t [] t (d, tt) l)

before_other : (s n t : ℕ) → (s ≡ t → ⊥) → n ≤ t → before s n ≡ t → ⊥
before_other s zero t d h q = d q
before_other s (suc n) t d h q = omega arith

chain_other : (w : List ℕ) (s t : ℕ) → (s ≡ t → ⊥) → Links w t [] t → (n : ℕ) → n ≤ t → Links (chained s n w) t [] t
unfolding chained
chain_other w s t d l zero h = l
chain_other w s t d l (suc n) h = link_other (chained s n w) (before s n) n t (before_other s n t d (omega arith)) (λ q. omega arith) (chain_other w s t d l n (omega arith))

pub fill_other : (w : List ℕ) (m s t : ℕ) → m ≤ s → In w s → (s ≡ t → ⊥) → Ring w m t [] → Ring (filled s m w) m t []
unfolding filled
fill_other w m s t h i d o =
    record { high = o.high; root = in_length w (filled s m w) t (length_filled s m w) o.root; links = link_other (chained s m w) (before s m) s t (before_other s m t d o.high) d (chain_other w s t d o.links m o.high); below = tt }

-- the needs of `link` and of `fill`: v is what the words w are with the cells below i chained, and p the cell before i
pub link_first_asks : (w : List ℕ) (a b : ℕ) → In w a → In w b → CanLink w a b
link_first_asks w a b i j = record { cell = i; to = j }

pub link_second_asks : (w v : List ℕ) (a b : ℕ) → In w a → In w b → v ≡ with_next w a b → CanLink v b a
link_second_asks w v a b i j q = rw q (record { cell = in_with_next w a b b j; to = in_with_next w a b a i })

pub link_is : (w v u : List ℕ) (a b : ℕ) → v ≡ with_next w a b → u ≡ with_prev v b a → u ≡ linked a b w
unfolding linked
link_is w v u a b p q = q ∙ ap (λ (l : List ℕ). with_prev l b a) p

pub record Filled (w v : List ℕ) (m s p i : ℕ) : Type 0 where
  pub can : CanFill w m s
  pub within : i ≤ m
  pub at : p ≡ before s i
  pub same : v ≡ chained s i w
  pub size : length v ≡ length w

pub filled_none : (w : List ℕ) (m s : ℕ) → CanFill w m s → Filled w w m s s 0
unfolding chained
filled_none w m s can = record { can = can; within = omega arith; at = refl; same = refl; size = refl }

before_small : (s n : ℕ) → n ≤ s → before s n ≤ s
before_small s zero h = omega arith
before_small s (suc n) h = omega arith

module _ (w v : List ℕ) (m s p i : ℕ) (f : Filled w v m s p i) where
  pub filled_before : In v p
  filled_before =
      let h : i ≤ m = f.within in
      let k : m ≤ s = f.can.high in
      in_length w v p f.size (in_below w s p f.can.root (rw f.at (before_small s i (omega arith))))

  pub filled_next : i < m → In v i
  filled_next h = let k : m ≤ s = f.can.high in in_length w v i f.size (in_below w s i f.can.root (omega arith))

  pub filled_root : In v s
  filled_root = in_length w v s f.size f.can.root

  pub filled_more : (z : List ℕ) → i < m → z ≡ linked p i v → Filled w z m s i (i + 1)
  unfolding chained
  filled_more z h q =
      rw (add-one i)
      (record { can = f.can; within = h; at = refl; same = q ∙ ap (λ (x : ℕ). linked x i v) f.at ∙ ap (linked (before s i) i) f.same; size = ap length q ∙ length_linked p i v ∙ f.size })

  pub filled_all : (z : List ℕ) → m ≤ i → z ≡ linked p s v → z ≡ filled s m w
  unfolding filled
  filled_all z h q =
      let l : i ≤ m = f.within in
      let e : i ≡ m = omega arith in
      q ∙ ap (λ (x : ℕ). linked x s v) f.at ∙ ap (linked (before s i) s) f.same ∙ ap (λ (n : ℕ). linked (before s n) s (chained s n w)) e

pub ruleset laws = (link_first_asks, link_second_asks, link_is, filled_none, filled_before, filled_next, filled_root, filled_more, filled_all, rules)
