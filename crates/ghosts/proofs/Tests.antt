-- The test of a ghost list decides: it is true where the words are one, and only there. Assumes nothing.
use mathlib.Core.Path.{◌≡◌, refl, sym}
use mathlib.Core.Bool.{Bool, true, false, cond, false≢true}
use mathlib.Core.List.{List}
use Prim.Native.Nat.{ℕ, ◌+◌, ◌-◌, ◌≤◌}
use native.Mathlib.Omega.{arith}
use lib.ListN.{length}
use lib.Dec.{ltb}
use borrow.Author.Tests.{le-ltb, ltb-false}
use Rattle.rings.specs.Rings.{members_of}
use Rattle.rings.specs.Walks.{ring_test}
use Rattle.rings.proofs.Walks.{test_sound, test_complete}
use Rattle.ghosts.specs.Ghosts.{count_of, links_of, Room, Ghosts, live_of, spare_of, IsGhosts, ghosts_test}
use Rattle.ghosts.proofs.Parts.{list_in}

pub ghosts_sound : (w : List ℕ) (c : ℕ) → Room w c → ghosts_test w c ≡ true → IsGhosts w c
unfolding ghosts_test live_of spare_of
ghosts_sound w c r = go (ltb c (count_of w)) refl (ring_test (links_of w) c c (count_of w)) refl
  where
    go : (t : Bool) → ltb c (count_of w) ≡ t → (u : Bool) → ring_test (links_of w) c c (count_of w) ≡ u → cond t false (cond u (ring_test (links_of w) c (c + 1) (c - count_of w)) false) ≡ true → Ghosts w c (members_of (links_of w) c c) (members_of (links_of w) c (c + 1))
    go true q u p e = absurd (false≢true e)
    go false q false p e = absurd (false≢true e)
    go false q true p e =
        let n : count_of w ≤ c = ltb-false c (count_of w) q in
        let a = test_sound (links_of w) c c (count_of w) (omega arith) (list_in w c r) p in
        let b = test_sound (links_of w) c (c + 1) (c - count_of w) (omega arith) r.links e in
        let x : length (members_of (links_of w) c c) ≡ count_of w = a.size in
        let y : length (members_of (links_of w) c (c + 1)) ≡ c - count_of w = b.size in
        record { room = r; count = sym x; list = a.ring; spares = b.ring; all = omega arith }

pub ghosts_complete : (w : List ℕ) (c : ℕ) (live spare : List ℕ) → Ghosts w c live spare → ghosts_test w c ≡ true
unfolding ghosts_test
ghosts_complete w c live spare g =
    let n : count_of w ≡ length live = g.count in
    let z : length live + length spare ≡ c = g.all in
    let a : ring_test (links_of w) c c (count_of w) ≡ true = rw n (test_complete (links_of w) c c live g.list) in
    let s : c - count_of w ≡ length spare = omega arith in
    let b : ring_test (links_of w) c (c + 1) (c - count_of w) ≡ true = rw s (test_complete (links_of w) c (c + 1) spare g.spares) in
    rw (le-ltb c (count_of w) (omega arith), a) b
