-- The words that are laid from parts that hold a state are a writing of it. In order: the header; what lies where; the
-- parts are read back; the writing. Assumes nothing.
use mathlib.Core.Path.{◌≡◌, refl, sym, ap, ◌∙◌}
use mathlib.Core.List.{List, ◌++◌}
use Prim.Native.Nat.{ℕ, ◌+◌, ◌-◌, ◌*◌}
use native.Mathlib.Omega.{arith}
use lib.ListN.{length, take, drop}
use lib.Seq.{take_all, take_at, drop_at, drop-drop}
use Rattle.rules.specs.Car.{Car}
use Rattle.area_state.specs.Parts.{Parts, state_of, Holds}
use Rattle.area.specs.Part.{part}
use Rattle.area.specs.Area.{residents_in, ghosts_in, lookup_in, parts_of}
use Rattle.area.specs.Stored.{state_in}
use Rattle.writings.specs.Writings.{IsWord, Words, Written}
use Rattle.writings.specs.Laying.{header_of, laid}
use Rattle.writings.proofs.Words.{zeros, joined}
use Rattle.writings.proofs.Sizes.{Sized}
use Rattle.writings.proofs.Steps.{Kept}

-- ---- the header
header_words : (k c t : ℕ) → IsWord k → IsWord c → IsWord t → Words 43 (header_of k c t)
unfolding header_of
header_words k c t hk hc ht = record { size = refl; below = (hk, (hc, (ht, (zeros 40).below))) }

-- ---- what lies where: y from word a to word b, then z
part_is : (a b : ℕ) (w y z : List ℕ) → drop a w ≡ y ++ z → a + length y ≡ b → part a b w ≡ y
unfolding part
part_is a b w y z q h = ap (take (b - a)) q ∙ take_at y z (b - a) (omega arith)

past : (a b : ℕ) (w y z : List ℕ) → drop a w ≡ y ++ z → a + length y ≡ b → drop b w ≡ z
past a b w y z q h =
    ap (λ (n : ℕ). drop n w) (sym h)
    ∙ sym (drop-drop (length y) a w)
    ∙ ap (drop (length y)) q
    ∙ drop_at y z (length y) refl

module _ (k c : ℕ) (p : Parts) (z : Sized c p) where
  from_residents : drop 43 (laid k c p) ≡ p.residents ++ (p.ghosts1 ++ (p.ghosts2 ++ p.lookup))
  unfolding laid header_of
  from_residents = drop_at (header_of k c p.target) _ 43 refl

  residents_end : 43 + length p.residents ≡ 5 * c + 52
  residents_end = let q = z.residents.size in omega arith

  from_ghosts1 : drop (5 * c + 52) (laid k c p) ≡ p.ghosts1 ++ (p.ghosts2 ++ p.lookup)
  from_ghosts1 = past 43 (5 * c + 52) (laid k c p) p.residents _ from_residents residents_end

  ghosts1_end : 5 * c + 52 + length p.ghosts1 ≡ 7 * c + 57
  ghosts1_end = let q = z.ghosts1.size in omega arith

  from_ghosts2 : drop (7 * c + 57) (laid k c p) ≡ p.ghosts2 ++ p.lookup
  from_ghosts2 = past (5 * c + 52) (7 * c + 57) (laid k c p) p.ghosts1 _ from_ghosts1 ghosts1_end

  ghosts2_end : 7 * c + 57 + length p.ghosts2 ≡ 9 * c + 62
  ghosts2_end = let q = z.ghosts2.size in omega arith

  from_lookup : drop (9 * c + 62) (laid k c p) ≡ p.lookup
  from_lookup = past (7 * c + 57) (9 * c + 62) (laid k c p) p.ghosts2 _ from_ghosts2 ghosts2_end

  -- ---- the parts are read back
  lookup_laid : part (9 * c + 62) (24 * c + 64) (laid k c p) ≡ p.lookup
  unfolding part
  lookup_laid =
      let n = 24 * c + 64 - (9 * c + 62) in
      let q = z.lookup.size in
      ap (take n) from_lookup ∙ take_all n p.lookup (omega arith)

  parts_laid : parts_of c (laid k c p) ≡ p
  unfolding parts_of residents_in ghosts_in lookup_in laid header_of
  parts_laid =
      let w = laid k c p in
      let a = 5 * c + 52 in
      let b = 7 * c + 57 in
      rw (
        part_is 43 a w p.residents _ from_residents residents_end,
        part_is a (a + 2 * c + 5) w p.ghosts1 _ from_ghosts1 (ghosts1_end ∙ omega arith),
        part_is b (b + 2 * c + 5) w p.ghosts2 _ from_ghosts2 (ghosts2_end ∙ omega arith),
        lookup_laid,
      )
      refl

  words_laid : IsWord k → IsWord c → IsWord p.target → Words (24 * c + 64) (laid k c p)
  unfolding laid
  words_laid hk hc ht =
      let n : 43 + (5 * c + 9 + (2 * c + 5 + (2 * c + 5 + (15 * c + 2)))) ≡ 24 * c + 64 = omega arith in
      let g = joined z.ghosts1 (joined z.ghosts2 z.lookup) in
      rw n at (joined (header_words k c p.target hk hc ht) (joined z.residents g))

-- ---- THE WRITING
pub kept_written : (k : ℕ) (s : Car) → IsWord k → Kept s.lists.c s → Written k s
unfolding state_in laid header_of
kept_written k s hk r =
    let c = s.lists.c in
    let p = r.parts in
    let h : Holds c p = r.becomes.holds in
    let small = h.small in
    let aim = h.target in
    let w = words_laid k c p r.sized hk (omega arith) (omega arith) in
    let q = parts_laid k c p r.sized in
    record {
      area = laid k c p;
      words = w;
      writes = record {
        kind = refl;
        stored = record { size = let n = w.size in omega arith; capacity = refl; holds = rw q h };
        reads = ap (state_of c) q ∙ r.becomes.reads;
      };
    }
