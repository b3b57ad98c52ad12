-- The laws that answer the needs of the changes, in the shape in which the code leaves them: v is what the words are after a call. Assumes nothing.
use mathlib.Core.Path.{◌≡◌, refl, ◌∙◌}
use mathlib.Core.List.{List}
use Prim.Native.Nat.{ℕ}
use borrow.Author.Rules.{rules}
use Rattle.cells.specs.Cells.{In, next_of, prev_of, with_next, with_prev, CanLink}
use Rattle.cells.proofs.Laws.{in_with_next, in_with_prev, can_link}
use Rattle.rings.specs.Rings.{placed, inserted, fronted, detached, CanPlace, CanInsert, CanDetach, CanFront, CanEnd, CanReplace}

-- the stores of `place`
pub place_first : (w : List ℕ) (p f e : ℕ) → CanPlace w p f e → CanLink w e f
place_first w p f e can = record { cell = can.self; to = can.at }

module _ (w v : List ℕ) (p f e : ℕ) (can : CanPlace w p f e) (first : v ≡ with_next w e f) where
  pub place_second : CanLink v e p
  place_second = rw first (record { cell = in_with_next w e f e can.self; to = in_with_next w e f p can.back })

  module _ (u : List ℕ) (second : u ≡ with_prev v e p) where
    kept : (z : ℕ) → In w z → In u z
    kept z h = rw (second, first) (in_with_prev _ e p z (in_with_next w e f z h))

    pub place_third : CanLink u f e
    place_third = record { cell = kept f can.at; to = kept e can.self }

    pub place_fourth : (t : List ℕ) → t ≡ with_prev u f e → CanLink t p e
    place_fourth t third = rw third (record { cell = in_with_prev u f e p (kept p can.back); to = in_with_prev u f e e (kept e can.self) })

-- the call of it by `insert`
pub insert_at_lem : (w : List ℕ) (f e : ℕ) → CanInsert w f e → In w f
insert_at_lem w f e can = can.at

pub insert_places : (w : List ℕ) (f e p : ℕ) → CanInsert w f e → p ≡ prev_of w f → CanPlace w p f e
insert_places w f e p can q = rw q (record { self = can.self; at = can.at; back = can.back })

-- the stores of `detach`
pub detach_first : (w : List ℕ) (e p n : ℕ) → CanDetach w e → p ≡ prev_of w e → n ≡ next_of w e → CanLink w p n
detach_first w e p n can q z = rw (q, z) (record { cell = can.back; to = can.after })

pub detach_second : (w v : List ℕ) (e p n : ℕ) → CanDetach w e → v ≡ with_next w p n → p ≡ prev_of w e → n ≡ next_of w e → CanLink v n p
detach_second w v e p n can first q z = rw (first, q, z) (record { cell = in_with_next w _ _ (next_of w e) can.after; to = in_with_next w _ _ (prev_of w e) can.back })

-- the second store of `empty`
pub empty_second : (w v : List ℕ) (s : ℕ) → In w s → v ≡ with_next w s s → CanLink v s s
empty_second w v s h first = rw first (record { cell = in_with_next w s s s h; to = in_with_next w s s s h })

-- the second call of a move
pub front_root : (w v : List ℕ) (s e : ℕ) → CanFront w s e → v ≡ detached e w → In v s
front_root w v s e c q = rw q c.root

pub front_places : (w v : List ℕ) (s e f : ℕ) → CanFront w s e → v ≡ detached e w → f ≡ next_of v s → CanPlace v s f e
front_places w v s e f c q z = rw (z, q) (record { self = c.into.self; at = c.into.at; back = c.root })

-- the sentinel is before the first: the place in front of it is the one that `insert` finds
pub front_is : (w v u : List ℕ) (s e f : ℕ) → CanFront w s e → v ≡ detached e w → f ≡ next_of v s → u ≡ placed s f e v → u ≡ fronted s e w
unfolding fronted inserted
front_is w v u s e f c q z h = rw (z, q) at h ∙ rw c.back refl

pub end_into : (w v : List ℕ) (s e : ℕ) → CanEnd w s e → v ≡ detached e w → CanInsert v s e
end_into w v s e c q = rw q c.into

pub replace_into : (w v : List ℕ) (x y n : ℕ) → CanReplace w x y → v ≡ detached x w → n ≡ next_of w x → CanInsert v n y
replace_into w v x y n c q z = rw (z, q) c.into

pub ruleset laws = (can_link, rules)
