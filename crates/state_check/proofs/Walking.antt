-- The walk of a ring whose places have to be dead: what it asks, and what it tells. Assumes nothing.
use mathlib.Core.Path.{◌≡◌, refl, sym, ◌∙◌}
use mathlib.Core.Bool.{Bool, true}
use mathlib.Core.List.{List, [], ◌∷◌}
use Prim.Native.Nat.{ℕ, ◌+◌, ◌*◌, ◌<◌, ◌≤◌}
use native.Mathlib.Omega.{arith}
use Rattle.rings.specs.Rings.{members_of}
use Rattle.rings.specs.Walks.{between, each, ring_test, CanWalk}
use Rattle.rings.proofs.Walks.{test_complete, ends_are}
use Rattle.tails.specs.Tails.{tail_of, Tail}
use Rattle.lookup.specs.Buckets.{buckets_of, places_of}
use Rattle.lookup.specs.Changes.{CanReach}
use Rattle.lookup.proofs.Table.{room_reach}
use Rattle.state_check.specs.Check.{CanTellAll, dead_from, deads_test}

deads_each : (k : List ℕ) (c from : ℕ) (xs : List ℕ) → each (dead_from k c from) xs ≡ deads_test k (places_of c) from xs
unfolding dead_from
deads_each k c from [] = refl
deads_each k c from (x ∷ xs) = rw (deads_each k c from xs) refl

module _ (w : List ℕ) (a : ℕ) (k : List ℕ) (c s from n : ℕ) (h : CanTellAll w a k c s from n) where
  can_walk : CanWalk (tail_of a w) c s
  can_walk = record { high = h.tell.ring.high; root = h.tell.ring.root }

  pub deads_asks : Tail w a (CanWalk (tail_of a w) c s)
  deads_asks = record { within = h.tell.within; can = can_walk }

  pub deads_reach : (x : ℕ) → x < c → CanReach k (3 * c) (from + x)
  unfolding buckets_of
  deads_reach x l = let f : from ≤ 2 * c = h.tell.first in room_reach k (places_of c) (buckets_of c) (from + x) h.tell.lookup (omega arith)

  pub deads_is : (t : Bool) → t ≡ between (tail_of a w) c (dead_from k c from) n s s → t ≡ deads_test k (places_of c) from (members_of (tail_of a w) c s)
  deads_is t q =
      let r : ring_test (tail_of a w) c s n ≡ true = rw (sym h.count) (test_complete (tail_of a w) c s (members_of (tail_of a w) c s) h.tell.ring) in
      q ∙ (rw r at (ends_are (tail_of a w) c (dead_from k c from) s n can_walk)) ∙ deads_each k c from (members_of (tail_of a w) c s)
