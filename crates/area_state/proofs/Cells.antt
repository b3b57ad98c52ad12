-- The cell that a ghost list gives for a page that is recorded: a spare one, or the oldest, whose page then leaves. Assumes nothing.
use mathlib.Core.Path.{◌≡◌, refl, ap, ◌∙◌}
use mathlib.Core.Bool.{true, false}
use mathlib.Core.Logic.{inl, inr}
use mathlib.Core.List.{List, [], ◌∷◌, map}
use Prim.Native.Nat.{ℕ, suc, ◌+◌, ◌<◌}
use native.Mathlib.Omega.{arith}
use lib.ListN.{length, take, length-map}
use lib.Seq.{take_all}
use lib.Dec.{eqb}
use borrow.Author.Tests.{eqb-true, eqb-false}
use Rattle.rings.specs.Members.{Mem, last_of, without_last}
use Rattle.rings.proofs.Members.{not_mem, below_mem}
use Rattle.rings.proofs.Pigeons.{last_mem}
use Rattle.rings.proofs.Ring.{ring_distinct}
use Rattle.ghosts.specs.Ghosts.{Ghosts, links_of, cell_of, live_after, spare_after}
use Rattle.ghosts.proofs.Laws.{apart_lists}
use Rattle.area_state.proofs.Counts.{fresh_last}
use Rattle.area_state.proofs.Maps.{drop_last_map, take_drop_last}

-- the cells that keep their pages
abbrev pub kept_of : List ℕ → List ℕ → List ℕ
kept_of live [] = without_last live
kept_of live (x ∷ xs) = live

-- what the two lists are after it, and what the cell was before
pub record Gives (c : ℕ) (live spare : List ℕ) (cell : ℕ) (kept : List ℕ) : Type 0 where
  pub low : cell < c
  pub after : live_after live spare ≡ cell ∷ kept
  pub was : (z : ℕ) → Mem z kept → Mem z live
  pub not : (z : ℕ) → Mem z kept → z ≡ cell → ⊥
  pub spares : (z : ℕ) → Mem z (spare_after spare) → Mem z spare
  pub others : (z : ℕ) → Mem z (spare_after spare) → z ≡ cell → ⊥
  pub full : eqb (length live) c ≡ true → Mem cell live
  pub room : eqb (length live) c ≡ false → Mem cell spare
  -- and, of the pages, what the rules say: the first c of them
  pub takes : (x : ℕ) (f : ℕ → ℕ) → take c (x ∷ map f live) ≡ x ∷ map f kept

mem_without_last : (z : ℕ) (xs : List ℕ) → Mem z (without_last xs) → Mem z xs
mem_without_last z (x ∷ y ∷ xs) (inl q) = inl q
mem_without_last z (x ∷ y ∷ xs) (inr k) = inr (mem_without_last z (y ∷ xs) k)
mem_without_last z [] x' = elim x' [ ]
mem_without_last z (x ∷ []) x5 = elim x5 [ ]

takes_full : (c x a : ℕ) (xs : List ℕ) (f : ℕ → ℕ) → c ≡ suc (length xs) → take c (x ∷ map f (a ∷ xs)) ≡ x ∷ map f (without_last (a ∷ xs))
takes_full c x a xs f q = rw q (ap (λ (l : List ℕ). x ∷ l) (take_drop_last (length xs) (map f (a ∷ xs)) (ap suc (length-map xs f)) ∙ drop_last_map f (a ∷ xs)))

pub gives : (w : List ℕ) (c : ℕ) (live spare : List ℕ) → 0 < c → Ghosts w c live spare → Gives c live spare (cell_of live spare) (kept_of live spare)
gives w c [] [] h g = absurd (let z : 0 + 0 ≡ c = g.all in let n : ⊥ = omega arith in n)
gives w c (a ∷ xs) [] h g =
    let z : suc (length xs) + 0 ≡ c = g.all in
    let d = ring_distinct (links_of w) c c (a ∷ xs) g.list in
    record {
      low = below_mem c (a ∷ xs) (last_of a xs) g.list.below (last_mem a xs);
      after = refl;
      was = λ y m. mem_without_last y (a ∷ xs) m;
      not = λ y m q. not_mem (last_of a xs) (without_last (a ∷ xs)) (fresh_last a xs d) (rw q at m);
      spares = λ y m. m;
      others = λ y m q. m;
      full = λ t. last_mem a xs;
      room = λ t. absurd (eqb-false (suc (length xs)) c t (omega arith));
      takes = λ x f. takes_full c x a xs f (omega arith);
    }
gives w c live (s ∷ ss) h g =
    let z : length live + suc (length ss) ≡ c = g.all in
    let d = ring_distinct (links_of w) c (c + 1) (s ∷ ss) g.spares in
    record {
      low = below_mem c (s ∷ ss) s g.spares.below (inl refl);
      after = refl;
      was = λ y m. m;
      not = λ y m q. not_mem y (s ∷ ss) (apart_lists w c live (s ∷ ss) g y m) (inl q);
      spares = λ y m. inr m;
      others = λ y m q. not_mem s ss d.0 (rw q at m);
      full = λ t. absurd (let e : length live ≡ c = eqb-true (length live) c t in let n : ⊥ = omega arith in n);
      room = λ t. inl refl;
      takes = λ x f. take_all c (x ∷ map f live) (omega (arith, length-map live f));
    }
