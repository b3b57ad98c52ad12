-- The laws of the test of a ring: it passes a ring where there is one, and only there. In order: what a test that is passed has found; sound; complete; the ring's
-- test; the same with a test of each member. Assumes nothing.
use mathlib.Core.Path.{◌≡◌, refl, sym, ap, ◌∙◌}
use mathlib.Core.Bool.{Bool, true, false, cond, false≢true}
use mathlib.Core.List.{List, [], ◌∷◌, ◌++◌}
use Prim.Native.Nat.{ℕ, zero, suc, ◌<◌, ◌≤◌}
use native.Mathlib.Omega.{arith}
use lib.ListN.{length}
use lib.Dec.{eqb, ltb}
use borrow.Author.Tests.{eqb-true, ltb-true, eq-eqb, lt-ltb}
use Rattle.cells.specs.Cells.{In, next_of, prev_of}
use Rattle.rings.specs.Members.{Below}
use Rattle.rings.specs.Rings.{Links, Ring, members_of}
use Rattle.rings.specs.Walks.{joined, ahead, behind, between, each, any, ring_test, CanWalk}
use Rattle.rings.proofs.Links.{links_snoc}
use Rattle.rings.proofs.Reading.{ring_members, ring_read}

both : (t u : Bool) → cond t u false ≡ true → (t ≡ true) × (u ≡ true)
both true u q = (refl, q)
both false u q = absurd (false≢true q)

pub alike : (t u : Bool) → (t ≡ true → u ≡ true) → (u ≡ true → t ≡ true) → t ≡ u
alike true u f g = sym (f refl)
alike false true f g = g refl
alike false false f g = refl

-- n cells lead from a to b, all members, and each passes the test
pub record Leads (w : List ℕ) (m : ℕ) (T : ℕ → Bool) (n a b : ℕ) : Type 0 where
  pub cells : List ℕ
  pub links : Links w a cells b
  pub below : Below m cells
  pub pass : each T cells ≡ true
  pub size : length cells ≡ n

-- a cell more at the end
below_snoc : (m : ℕ) (xs : List ℕ) (y : ℕ) → Below m xs → y < m → Below m (xs ++ (y ∷ []))
below_snoc m [] y b h = (h, tt)
below_snoc m (x ∷ xs) y b h = (b.0, below_snoc m xs y b.1 h)

each_cons : (T : ℕ → Bool) (x : ℕ) (xs : List ℕ) → T x ≡ true → each T xs ≡ true → each T (x ∷ xs) ≡ true
each_cons T x xs h e = rw h e

each_snoc : (T : ℕ → Bool) (xs : List ℕ) (y : ℕ) → each T xs ≡ true → T y ≡ true → each T (xs ++ (y ∷ [])) ≡ true
each_snoc T [] y e h = simp (h)
each_snoc T (x ∷ xs) y e h = let k = both (T x) _ e in rw k.0 (each_snoc T xs y k.1 h)

length_snoc : (xs : List ℕ) (y : ℕ) → length (xs ++ (y ∷ [])) ≡ suc (length xs)
length_snoc [] y = refl
length_snoc (x ∷ xs) y = ap suc (length_snoc xs y)

-- a cell that a step finds
pub record Found (w : List ℕ) (m : ℕ) (T : ℕ → Bool) (a x : ℕ) : Type 0 where
  pub member : x < m
  pub after : next_of w a ≡ x
  pub back : prev_of w x ≡ a
  pub pass : T x ≡ true

joined_sound : (w : List ℕ) (a b : ℕ) → joined w a b ≡ true → (next_of w a ≡ b) × (prev_of w b ≡ a)
unfolding joined
joined_sound w a b q = let k = both (eqb (next_of w a) b) _ q in (eqb-true _ _ k.0, eqb-true _ _ k.1)

pub ahead_sound : (w : List ℕ) (m : ℕ) (T : ℕ → Bool) (a : ℕ) → ahead w m T a ≡ true → Found w m T a (next_of w a)
unfolding ahead
ahead_sound w m T a q =
    let k = both (ltb (next_of w a) m) _ q in
    let j = both (eqb (prev_of w (next_of w a)) a) _ k.1 in
    record { member = ltb-true _ _ k.0; after = refl; back = eqb-true _ _ j.0; pass = j.1 }

pub behind_sound : (w : List ℕ) (m : ℕ) (T : ℕ → Bool) (b : ℕ) → behind w m T b ≡ true → (prev_of w b < m) × (next_of w (prev_of w b) ≡ b) × (T (prev_of w b) ≡ true)
unfolding behind
behind_sound w m T b q =
    let k = both (ltb (prev_of w b) m) _ q in
    let j = both (eqb (next_of w (prev_of w b)) b) _ k.1 in
    (ltb-true _ _ k.0, eqb-true _ _ j.0, j.1)

-- SOUND
between_sound : (w : List ℕ) (m : ℕ) (T : ℕ → Bool) (n a b : ℕ) → between w m T n a b ≡ true → Leads w m T n a b
between_sound w m T zero a b q = record { cells = []; links = joined_sound w a b q; below = tt; pass = refl; size = refl }
between_sound w m T (suc zero) a b q =
    let k = both (ahead w m T a) _ q in
    let f = ahead_sound w m T a k.0 in
    record { cells = next_of w a ∷ []; links = (refl, f.back, joined_sound w (next_of w a) b k.1); below = (f.member, tt); pass = rw f.pass refl; size = refl }
between_sound w m T (suc (suc n)) a b q =
    let k = both (ahead w m T a) _ q in
    let j = both (behind w m T b) _ k.1 in
    let f = ahead_sound w m T a k.0 in
    let g = behind_sound w m T b j.0 in
    let r = between_sound w m T n (next_of w a) (prev_of w b) j.1 in
    record {
      cells = next_of w a ∷ (r.cells ++ (prev_of w b ∷ []));
      links = (refl, f.back, links_snoc w (next_of w a) r.cells (prev_of w b) b r.links g.1 refl);
      below = (f.member, below_snoc m r.cells (prev_of w b) r.below g.0);
      pass = rw f.pass (each_snoc T r.cells (prev_of w b) r.pass g.2);
      size = ap suc (length_snoc r.cells (prev_of w b) ∙ ap suc r.size);
    }

-- COMPLETE: the last of some cells
pub record Last (w : List ℕ) (m : ℕ) (T : ℕ → Bool) (n a b : ℕ) : Type 0 where
  pub found : behind w m T b ≡ true
  pub rest : Leads w m T n a (prev_of w b)

joined_complete : (w : List ℕ) (a b : ℕ) → next_of w a ≡ b → prev_of w b ≡ a → joined w a b ≡ true
unfolding joined
joined_complete w a b n p = rw (eq-eqb _ _ n) (eq-eqb _ _ p)

ahead_complete : (w : List ℕ) (m : ℕ) (T : ℕ → Bool) (a x : ℕ) → next_of w a ≡ x → x < m → prev_of w x ≡ a → T x ≡ true → ahead w m T a ≡ true
unfolding ahead
ahead_complete w m T a x n h p t = rw (n, lt-ltb x m h, eq-eqb _ _ p) t

behind_complete : (w : List ℕ) (m : ℕ) (T : ℕ → Bool) (b y : ℕ) → prev_of w b ≡ y → y < m → next_of w y ≡ b → T y ≡ true → behind w m T b ≡ true
unfolding behind
behind_complete w m T b y p h n t = rw (p, lt-ltb y m h, eq-eqb _ _ n) t

last_of : (w : List ℕ) (m : ℕ) (T : ℕ → Bool) (a x : ℕ) (xs : List ℕ) (b : ℕ) → Links w a (x ∷ xs) b → Below m (x ∷ xs) → each T (x ∷ xs) ≡ true → Last w m T (length xs) a b
last_of w m T a x [] b l h e =
    let t = both (T x) _ e in
    record { found = behind_complete w m T b x l.2.1 h.0 l.2.0 t.0; rest = rw l.2.1 (record { cells = []; links = (l.0, l.1); below = tt; pass = refl; size = refl }) }
last_of w m T a x (y ∷ ys) b l h e =
    let t = both (T x) _ e in
    let r = last_of w m T x y ys b l.2 h.1 t.1 in
    let i = r.rest in
    record { found = r.found; rest = record { cells = x ∷ i.cells; links = (l.0, l.1, i.links); below = (h.0, i.below); pass = each_cons T x i.cells t.0 i.pass; size = ap suc i.size } }

between_complete : (w : List ℕ) (m : ℕ) (T : ℕ → Bool) (n a b : ℕ) → Leads w m T n a b → between w m T n a b ≡ true
between_complete w m T n a b r = go n a b r.cells r.links r.below r.pass r.size
  where
    go : (n a b : ℕ) (xs : List ℕ) → Links w a xs b → Below m xs → each T xs ≡ true → length xs ≡ n → between w m T n a b ≡ true
    go zero a b [] l h e q = joined_complete w a b l.0 l.1
    go zero a b (x ∷ xs) l h e q = absurd (let f : ⊥ = omega arith in f)
    go (suc n) a b [] l h e q = absurd (let f : ⊥ = omega arith in f)
    go (suc zero) a b (x ∷ []) l h e q = rw (ahead_complete w m T a x l.0 h.0 l.1 (both (T x) _ e).0, l.0) (joined_complete w x b l.2.0 l.2.1)
    go (suc zero) a b (x ∷ y ∷ ys) l h e q = absurd (let f : ⊥ = omega arith in f)
    go (suc (suc n)) a b (x ∷ []) l h e q = absurd (let f : ⊥ = omega arith in f)
    go (suc (suc n)) a b (x ∷ y ∷ ys) l h e q =
        let t = both (T x) _ e in
        let z = last_of w m T x y ys b l.2 h.1 t.1 in
        let i = z.rest in
        let k : length i.cells ≡ n = i.size ∙ (let g : length ys ≡ n = omega arith in g) in
        rw (ahead_complete w m T a x l.0 h.0 l.1 t.0, z.found, l.0) (go n x (prev_of w b) i.cells i.links i.below i.pass k)

-- THE TEST OF A RING
pub record Counted (w : List ℕ) (m s k : ℕ) : Type 0 where
  pub ring : Ring w m s (members_of w m s)
  pub size : length (members_of w m s) ≡ k

any_each : (xs : List ℕ) → each any xs ≡ true
any_each [] = refl
any_each (x ∷ xs) = any_each xs

pub test_complete : (w : List ℕ) (m s : ℕ) (xs : List ℕ) → Ring w m s xs → ring_test w m s (length xs) ≡ true
unfolding ring_test
test_complete w m s xs r = between_complete w m any (length xs) s s (record { cells = xs; links = r.links; below = r.below; pass = any_each xs; size = refl })

led_ring : (w : List ℕ) (m : ℕ) (T : ℕ → Bool) (s n : ℕ) → m ≤ s → In w s → (l : Leads w m T n s s) → Ring w m s l.cells
led_ring w m T s n h i l = record { high = h; root = i; links = l.links; below = l.below }

pub test_sound : (w : List ℕ) (m s n : ℕ) → m ≤ s → In w s → ring_test w m s n ≡ true → Counted w m s n
unfolding ring_test
test_sound w m s n h i q =
    let l = between_sound w m any n s s q in
    let r = led_ring w m any s n h i l in
    record { ring = ring_read w m s l.cells r; size = ap length (ring_members w m s l.cells r) ∙ l.size }

-- WITH A TEST OF EACH MEMBER: the ring, and then its members
ends_sound : (w : List ℕ) (m : ℕ) (T : ℕ → Bool) (s n : ℕ) → CanWalk w m s → between w m T n s s ≡ true → cond (ring_test w m s n) (each T (members_of w m s)) false ≡ true
ends_sound w m T s n can q =
    let l = between_sound w m T n s s q in
    let r = led_ring w m T s n can.high can.root l in
    rw (sym l.size, test_complete w m s l.cells r, ring_members w m s l.cells r) l.pass

ends_complete : (w : List ℕ) (m : ℕ) (T : ℕ → Bool) (s n : ℕ) → CanWalk w m s → cond (ring_test w m s n) (each T (members_of w m s)) false ≡ true → between w m T n s s ≡ true
ends_complete w m T s n can q =
    let k = both (ring_test w m s n) _ q in
    let r = test_sound w m s n can.high can.root k.0 in
    between_complete w m T n s s (record { cells = members_of w m s; links = r.ring.links; below = r.ring.below; pass = k.1; size = r.size })

pub ends_are : (w : List ℕ) (m : ℕ) (T : ℕ → Bool) (s n : ℕ) → CanWalk w m s → between w m T n s s ≡ cond (ring_test w m s n) (each T (members_of w m s)) false
ends_are w m T s n can = alike _ _ (ends_sound w m T s n can) (ends_complete w m T s n can)
