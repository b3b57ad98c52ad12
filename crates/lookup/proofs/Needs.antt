-- The laws that answer the needs of the lookup's functions but `find`. In order: a cell that is read; the changes of the links; the part that is lent; the loops of `make`.
-- Assumes nothing.
use Rattle.std.proofs.Common.{◌≡◌, ℕ, zero, suc, ◌+◌, ◌-◌, ◌<◌, ◌≤◌, List, ◌++◌, length, get_or, take, drop, set, refl, ap, ◌∙◌, add-one, arith, length-set, rules}
use Rattle.cells.specs.Cells.{In, next_of, prev_of, with_prev, CanLink}
use Rattle.cells.proofs.Laws.{in_cells, in_below, in_length, cells_length, length_with_prev, can_link}
use Rattle.rings.specs.Rings.{inserted, detached, replaced, emptied, CanInsert, CanDetach, CanReplace}
use Rattle.rings.proofs.Ring.{length_detached, length_emptied}
use Rattle.rings.proofs.Moves.{length_replaced}
use Rattle.lookup.specs.Part.{links_of, Room}
use Rattle.lookup.specs.Changes.{unlinked, handed_over, deadened, cleared, blank, put_in, taken, renamed, made, CanPut, CanTake, CanRename, CanReach, CanBlank}
use Rattle.lookup.proofs.Part.{links_with_page, links_lent, links_back}

-- a cell that is read
pub reach : (w : List ℕ) (m e : ℕ) → CanReach w m e → In (take (length w - m) (drop m w)) e
reach w m e can = rw links_lent can.cell

pub next_lent : (w : List ℕ) (m e r : ℕ) → r ≡ next_of (take (length w - m) (drop m w)) e → r ≡ next_of (links_of m w) e
next_lent w m e r q = q ∙ ap (λ (l : List ℕ). next_of l e) (links_lent m w)

pub prev_lent : (w : List ℕ) (m e r : ℕ) → r ≡ prev_of (take (length w - m) (drop m w)) e → r ≡ prev_of (links_of m w) e
prev_lent w m e r q = q ∙ ap (λ (l : List ℕ). prev_of l e) (links_lent m w)

-- the second store of `unlink` and of `hand_over`: the cell is still there, and any up to it
mark_up_to : (l v : List ℕ) (x z : ℕ) → length v ≡ length l → In l x → z ≤ x → CanLink v x z
mark_up_to l v x z q h s = let i : In v x = in_length l v x q h in can_link v x z i (in_below v x z i s)

pub unlink_mark : (l v : List ℕ) (x z : ℕ) → CanDetach l x → v ≡ detached x l → z ≤ x → CanLink v x z
unlink_mark l v x z can q s = mark_up_to l v x z (ap length q ∙ length_detached x l) can.self s

pub hand_mark : (l v : List ℕ) (x y z : ℕ) → CanReplace l x y → v ≡ replaced x y l → z ≤ x → CanLink v x z
hand_mark l v x y z can q s = mark_up_to l v x z (ap length q ∙ length_replaced x y l) can.out.self s

-- the part that is lent
lent_after : (m : ℕ) (w : List ℕ) (y p : ℕ) → y < m → take (length (set w y p) - m) (drop m (set w y p)) ≡ links_of m w
lent_after m w y p h = links_lent m (set w y p) ∙ links_with_page m w y p h

pub put_asks : (w : List ℕ) (m f y p : ℕ) → CanPut w m f y → CanInsert (take (length (set w y p) - m) (drop m (set w y p))) f y
put_asks w m f y p can = rw (lent_after m w y p can.place) can.links

pub take_asks : (w : List ℕ) (m x : ℕ) → CanTake w m x → CanDetach (take (length w - m) (drop m w)) x
take_asks w m x can = rw links_lent can.links

pub rename_asks : (w : List ℕ) (m x y p : ℕ) → CanRename w m x y → CanReplace (take (length (set w y p) - m) (drop m (set w y p))) x y
rename_asks w m x y p can = rw (lent_after m w y p can.to) can.links

pub make_asks : (w : List ℕ) (m k : ℕ) → Room w m k → CanBlank (take (length w - m) (drop m w)) m k
make_asks w m k room = rw links_lent (record { some = room.some; cells = room.links; fits = room.fits })

pub put_back : (w v : List ℕ) (m f y p : ℕ) → v ≡ inserted f y (take (length (set w y p) - m) (drop m (set w y p))) → take m (set w y p) ++ (v ++ drop (length (set w y p) - m) (drop m (set w y p))) ≡ put_in m f y p w
unfolding put_in
put_back w v m f y p q = links_back m (inserted f y) (set w y p) v q

pub take_back : (w v : List ℕ) (m x : ℕ) → v ≡ unlinked x (take (length w - m) (drop m w)) → take m w ++ (v ++ drop (length w - m) (drop m w)) ≡ taken m x w
unfolding taken
take_back w v m x q = links_back m (unlinked x) w v q

pub rename_back : (w v : List ℕ) (m x y : ℕ) → v ≡ handed_over x y (take (length (set w y (get_or w x 0)) - m) (drop m (set w y (get_or w x 0)))) → take m (set w y (get_or w x 0)) ++ (v ++ drop (length (set w y (get_or w x 0)) - m) (drop m (set w y (get_or w x 0)))) ≡ renamed m x y w
unfolding renamed
rename_back w v m x y q = links_back m (handed_over x y) (set w y (get_or w x 0)) v q

pub make_back : (w v : List ℕ) (m k : ℕ) → v ≡ blank m k (take (length w - m) (drop m w)) → take m w ++ (v ++ drop (length w - m) (drop m w)) ≡ made m k w
unfolding made
make_back w v m k q = links_back m (blank m k) w v q

-- a store keeps the length
pub stored_length : (u w : List ℕ) (y p : ℕ) → length u ≡ length (set w y p) → length u ≡ length w
stored_length u w y p q = q ∙ length-set w y p

-- THE LOOPS of `make`: u is what the words were at the start, v what they are once i turns are done
pub length_deadened : (n : ℕ) (l : List ℕ) → length (deadened n l) ≡ length l
unfolding deadened
length_deadened zero l = refl
length_deadened (suc n) l = length_with_prev (deadened n l) n n ∙ length_deadened n l

pub length_cleared : (m n : ℕ) (l : List ℕ) → length (cleared m n l) ≡ length l
unfolding cleared
length_cleared m zero l = refl
length_cleared m (suc n) l = length_emptied (m + n) (cleared m n l) ∙ length_cleared m n l

pub record Deadened (u v : List ℕ) (m i : ℕ) : Type 0 where
  pub within : i ≤ m
  pub same : v ≡ deadened i u
  pub size : length v ≡ length u

pub dead_none : (u : List ℕ) (m : ℕ) → Deadened u u m 0
unfolding deadened
dead_none u m = record { within = omega arith; same = refl; size = refl }

pub dead_asks : (u v : List ℕ) (m i : ℕ) → Deadened u v m i → In u m → i < m → CanLink v i i
dead_asks u v m i d c h = let j : In v i = in_length u v i d.size (in_below u m i c (omega arith)) in can_link v i i j j

pub dead_more : (u v z : List ℕ) (m i : ℕ) → Deadened u v m i → i < m → z ≡ with_prev v i i → Deadened u z m (i + 1)
unfolding deadened
dead_more u v z m i d h q = rw (add-one i) (record { within = h; same = q ∙ ap (λ (t : List ℕ). with_prev t i i) d.same; size = ap length q ∙ length_with_prev v i i ∙ d.size })

pub dead_all : (u v : List ℕ) (m i : ℕ) → Deadened u v m i → m ≤ i → v ≡ deadened m u
dead_all u v m i d h = let e : i ≡ m = let l : i ≤ m = d.within in omega arith in d.same ∙ ap (λ (n : ℕ). deadened n u) e

pub record Cleared (u v : List ℕ) (m k i : ℕ) : Type 0 where
  pub within : i ≤ k
  pub same : v ≡ cleared m i u
  pub size : length v ≡ length u

pub clear_none : (u : List ℕ) (m k : ℕ) → Cleared u u m k 0
unfolding cleared
clear_none u m k = record { within = omega arith; same = refl; size = refl }

pub clear_asks : (u v : List ℕ) (m k i : ℕ) → Cleared u v m k i → CanBlank u m k → i < k → In v (m + i)
clear_asks u v m k i d can h = in_length u v (m + i) d.size (in_cells u (m + k) (m + i) can.cells (omega arith))

pub clear_more : (u v z : List ℕ) (m k i : ℕ) → Cleared u v m k i → i < k → z ≡ emptied (m + i) v → Cleared u z m k (i + 1)
unfolding cleared
clear_more u v z m k i d h q = rw (add-one i) (record { within = h; same = q ∙ ap (emptied (m + i)) d.same; size = ap length q ∙ length_emptied (m + i) v ∙ d.size })

pub clear_all : (u v : List ℕ) (m k i : ℕ) → Cleared u v m k i → k ≤ i → v ≡ cleared m k u
clear_all u v m k i d h = let e : i ≡ k = let l : i ≤ k = d.within in omega arith in d.same ∙ ap (λ (n : ℕ). cleared m n u) e

pub wipe_first : (l : List ℕ) (m k : ℕ) → CanBlank l m k → In l m
wipe_first l m k can = let h : 0 < k = can.some in in_cells l (m + k) m can.cells (omega arith)

pub wipe_second : (l v : List ℕ) (m k : ℕ) → CanBlank l m k → v ≡ deadened m l → CanBlank v m k
wipe_second l v m k can q = record { some = can.some; cells = cells_length l v (m + k) (ap length q ∙ length_deadened m l) can.cells; fits = can.fits }

pub ruleset reading = (reach, next_lent, prev_lent, rules)

pub ruleset marking = (unlink_mark, hand_mark, rules)

pub ruleset lending = (put_asks, take_asks, rename_asks, make_asks, put_back, take_back, rename_back, make_back, stored_length, rules)

pub ruleset looping = (dead_none, dead_asks, dead_more, dead_all, clear_none, clear_asks, clear_more, clear_all, wipe_first, wipe_second, rules)
