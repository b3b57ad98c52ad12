-- The lookup holds exactly the live places, by counting. xs are the live places; the others are dead. Assumes nothing.
use Rattle.std.proofs.Common.{◌≡◌, ℕ, ◌<◌, ◌≤◌, true, eqb, ◌⊎◌, List, [], ◌∷◌, length, inl, inr, ⊎_elim, arith, eq-eqb, eqb-true}
use Rattle.cells.specs.Cells.{prev_of}
use Rattle.rings.specs.Members.{Mem, Fresh, Distinct}
use Rattle.rings.proofs.Members.{same_or_other}
use Rattle.rings.proofs.Pigeons.{no_more, all_of}
use Rattle.lookup.specs.Part.{links_of}
use Rattle.lookup.specs.Lookup.{Lookup, bucket_in, places_in, Held, Dead}
use Rattle.lookup.proofs.Table.{held_below, places_distinct, dead_unheld}

-- the test of a dead place: it passes where the place is dead, and fails where it is held
pub dead_told : (w : List ℕ) (m x : ℕ) → eqb (prev_of (links_of m w) x) x ≡ true → Dead w m x
unfolding Dead
dead_told w m x e = eqb-true (prev_of (links_of m w) x) x e

pub tell_dead : (w : List ℕ) (m x : ℕ) → Dead w m x → eqb (prev_of (links_of m w) x) x ≡ true
unfolding Dead
tell_dead w m x d = eq-eqb (prev_of (links_of m w) x) x d

mem_or_fresh : (z : ℕ) (xs : List ℕ) → Mem z xs ⊎ Fresh z xs
mem_or_fresh z [] = inr tt
mem_or_fresh z (x ∷ xs) = go (same_or_other z x) (mem_or_fresh z xs)
  where
    go : (z ≡ x) ⊎ (z ≡ x → ⊥) → Mem z xs ⊎ Fresh z xs → Mem z (x ∷ xs) ⊎ Fresh z (x ∷ xs)
    go (inl q) r = inl (inl q)
    go (inr n) (inl j) = inl (inr j)
    go (inr n) (inr f) = inr (n, f)

module _ (w : List ℕ) (m k : ℕ) (t : Lookup w m k) (xs : List ℕ) (dead : (z : ℕ) → z < m → Fresh z xs → Dead w m z) where
  -- what is held is live, for the others are dead
  pub held_live : (z : ℕ) → Held w m k z → Mem z xs
  held_live z j = ⊎_elim (λ i. i) (λ f. absurd (dead_unheld w m k (bucket_in w m) t z (dead z (held_below w m k (bucket_in w m) t z j) f) j)) (mem_or_fresh z xs)

  -- SOUND: as many are held as live, so each that lives is held
  pub live_held : length (places_in w m k) ≡ length xs → (z : ℕ) → Mem z xs → Held w m k z
  live_held q = all_of (places_in w m k) xs (places_distinct w m k (bucket_in w m) t) held_live (omega arith)

  -- COMPLETE: where each that lives is held, as many are held as live
  pub held_count : Distinct xs → ((z : ℕ) → Mem z xs → Held w m k z) → length (places_in w m k) ≡ length xs
  held_count d all =
      let a : length (places_in w m k) ≤ length xs = no_more (places_in w m k) xs (places_distinct w m k (bucket_in w m) t) held_live in
      let b : length xs ≤ length (places_in w m k) = no_more xs (places_in w m k) d all in
      omega arith
