-- The laws that answer the needs of `find`. The walk stands at cur, which follows the cell `from`; the places to come are `rest`.
-- Assumes nothing.
use Rattle.std.proofs.Common.{◌≡◌, ℕ, suc, ◌+◌, ◌-◌, ◌^◌, ◌<◌, ◌≤◌, cond, ltb, List, [], ◌∷◌, length, get_or, sym, refl, ap, ◌∙◌, arith, w64, Fits, rules, le-ltb, lt-ltb}
use Rattle.cells.specs.Cells.{In, next_of}
use Rattle.cells.proofs.Laws.{in_below}
use Rattle.rings.specs.Members.{Below}
use Rattle.rings.specs.Rings.{Links, follow}
use Rattle.rings.proofs.Ring.{ring_short}
use Rattle.rings.proofs.Reading.{follow_links}
use Rattle.lookup.specs.Buckets.{bucket_of}
use Rattle.lookup.specs.Part.{page_of, links_of}
use Rattle.lookup.specs.Lookup.{seek, bucket_in, find_of, CanFind}
use Rattle.lookup.specs.Changes.{CanReach}
use Rattle.lookup.proofs.Buckets.{bucket_below}

pub record Sought (w : List ℕ) (m k p s cur : ℕ) : Type 0 where
  pub pages : m ≤ length w
  pub high : m ≤ s
  pub root : In (links_of m w) s
  pub from : ℕ
  pub rest : List ℕ
  pub after : cur ≡ next_of (links_of m w) from
  pub links : Links (links_of m w) from rest s
  pub below : Below m rest
  pub short : length rest ≤ m
  pub same : seek w p s rest ≡ find_of w m k p

module _ (w : List ℕ) (m k p b : ℕ) (can : CanFind w m k p) (q : b ≡ bucket_of k p) where
  pub find_fits : Fits w64 (m + b)
  find_fits = let h : bucket_of k p < k = bucket_below k p can.room.some in let l : m + k < 2 ^ 64 = can.room.fits in omega arith

  pub find_root : CanReach w m (m + b)
  find_root = rw q (record { pages = can.room.pages; cell = can.ring.root })

  pub find_start : (cur : ℕ) → cur ≡ next_of (links_of m w) (m + b) → Sought w m k p (m + b) cur
  unfolding find_of
  find_start cur z =
      let r = can.ring in
      rw q
      (record {
        pages = can.room.pages;
        high = r.high;
        root = r.root;
        from = m + bucket_of k p;
        rest = bucket_in w m (bucket_of k p);
        after = rw q at z;
        links = r.links;
        below = r.below;
        short = ring_short _ _ _ _ r;
        same = refl;
      })

-- the place that the walk stands at, and what follows it
pub record Here (w : List ℕ) (m k p s cur : ℕ) : Type 0 where
  pub more : List ℕ
  pub links : Links (links_of m w) cur more s
  pub below : Below m more
  pub short : suc (length more) ≤ m
  pub left : length (follow (links_of m w) m m cur) ≡ suc (length more)
  pub same : cond (ltb (page_of w cur) p) (seek w p s more) cur ≡ find_of w m k p

module _ (w : List ℕ) (m k p s cur : ℕ) (g : Sought w m k p s cur) where
  walked : (xs : List ℕ) → Links (links_of m w) g.from xs s → Below m xs → length xs ≤ m → length (follow (links_of m w) m m cur) ≡ length xs
  walked xs ls bl sh = ap (λ (n : ℕ). length (follow (links_of m w) m m n)) g.after ∙ ap length (follow_links (links_of m w) m m g.from xs s g.high ls bl sh)

  here : cur < m → Here w m k p s cur
  here h = go g.rest g.links g.below g.short g.same
    where
      go : (xs : List ℕ) → Links (links_of m w) g.from xs s → Below m xs → length xs ≤ m → seek w p s xs ≡ find_of w m k p → Here w m k p s cur
      go [] ls bl sh e = absurd (let z : cur ≡ s = g.after ∙ ls.0 in let y : m ≤ s = g.high in let n : ⊥ = omega arith in n)
      go (x ∷ xs) ls bl sh e =
          let z : cur ≡ x = g.after ∙ ls.0 in
          rw z (record { more = xs; links = ls.2; below = bl.1; short = sh; left = rw z at (walked (x ∷ xs) ls bl sh); same = e })

  pub find_in : cur < m → CanReach w m cur
  find_in h = let y : m ≤ s = g.high in record { pages = g.pages; cell = in_below (links_of m w) s cur g.root (omega arith) }

  pub find_stop : cur < m → p ≤ get_or w cur 0 → cur ≡ find_of w m k p
  find_stop h n = sym (simp (le-ltb (page_of w cur) p n)) ∙ (here h).same

  module _ (n : ℕ) (h : cur < m) (z : n ≡ next_of (links_of m w) cur) where
    pub find_turn : get_or w cur 0 < p → Sought w m k p s n
    find_turn low =
        let r = here h in
        let sh : suc (length r.more) ≤ m = r.short in
        record {
          pages = g.pages;
          high = g.high;
          root = g.root;
          from = cur;
          rest = r.more;
          after = z;
          links = r.links;
          below = r.below;
          short = omega arith;
          same = sym (simp (lt-ltb (page_of w cur) p low)) ∙ r.same;
        }

    pub find_less : length (follow (links_of m w) m m n) < length (follow (links_of m w) m m cur)
    find_less =
        let r = here h in
        let sh : suc (length r.more) ≤ m = r.short in
        let a : length (follow (links_of m w) m m n) ≡ length r.more = ap (λ (i : ℕ). length (follow (links_of m w) m m i)) z ∙ ap length (follow_links (links_of m w) m m cur r.more s g.high r.links r.below (let y : length r.more ≤ m = omega arith in y)) in
        let b : length (follow (links_of m w) m m cur) ≡ suc (length r.more) = r.left in
        omega arith

  pub find_end : m ≤ cur → s ≡ find_of w m k p
  find_end h = go g.rest g.links g.below g.same
    where
      go : (xs : List ℕ) → Links (links_of m w) g.from xs s → Below m xs → seek w p s xs ≡ find_of w m k p → s ≡ find_of w m k p
      go [] ls bl e = e
      go (x ∷ xs) ls bl e = absurd (let z : cur ≡ x = g.after ∙ ls.0 in let y : x < m = bl.0 in let n : ⊥ = omega arith in n)

pub ruleset laws = (find_fits, find_root, find_start, find_in, find_stop, find_turn, find_less, find_end, rules)
