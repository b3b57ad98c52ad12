-- What answers the needs of `empty_cache`. In order: the parts that are made, one after the other; all of them; `clear`; `new`. Assumes nothing.
use mathlib.Core.Path.{◌≡◌, refl, ap, ◌∙◌}
use mathlib.Core.List.{List}
use Prim.Native.Nat.{ℕ, ◌+◌, ◌*◌, ◌/◌, ◌<◌, ◌≤◌}
use native.Mathlib.Omega.{arith}
use lib.ListN.{length, get_or, set, drop, length-set}
use lib.Seq.{get_or-set_same, get_or-set_other, drop-set-lt}
use borrow.Author.Rules.{rules}
use borrow.Author.Tests.{lt-ltb, le-ltb}
use Rattle.rules.specs.declared.Side.{Side}
use Rattle.rules.specs.declared.Side.TheVariants.{First as first, Second as second}
use Rattle.rules.specs.Car.{new}
use Rattle.residents.specs.Residents as residents
use Rattle.residents.specs.Changes as changes
use Rattle.ghosts.specs.Ghosts as ghosts
use Rattle.lookup.specs.Buckets.{inverse_of, buckets_of, places_of}
use Rattle.lookup.specs.Part as lookup
use Rattle.lookup.specs.Changes as lookups
use Rattle.lookup.proofs.Buckets.{buckets_some}
use Rattle.area_state.specs.Parts.{Parts, state_of, set_target, set_residents, set_ghosts, set_lookup}
use Rattle.area_state.specs.Changes.{made}
use Rattle.area_state.proofs.Making.{made_becomes}
use Rattle.area.specs.Part.{part, splice}
use Rattle.area.specs.Area.{end_at, residents_in, ghosts_in, lookup_in, parts_of, Starts, Fit, Became}
use Rattle.area.specs.Stored.{Stored, state_in, Left}
use Rattle.area.proofs.Laws.{ghosts_part, ghosts_written, lookup_written}
use Rattle.area.proofs.Storing.{left}
use Rattle.empty_cache.specs.Fresh.{Fits, headed, answer_of, Empty, New}
use Rattle.std.specs.Prelude.{Ok, Err}
use Rattle.refusals.specs.declared.Refusal.TheVariants.{Capacity, Area}
use Rattle.area.proofs.Laws.{residents_room, ghosts_room}
use Rattle.area.proofs.Rooms.{lookup_room, have_room}

-- ---- what the calls ask
pub residents_asks : (c : ℕ) (w : List ℕ) → Fits c w → residents.Room (residents_in c w) c
residents_asks c w f = residents_room c w f.small f.size

pub ghosts_asks : (c : ℕ) (i : Side) (a : ℕ) (w : List ℕ) → c ≤ 1024 → end_at c ≤ length w → Starts c i a → ghosts.Room (part a (a + 2 * c + 5) w) c
ghosts_asks c i a w small size s = rw (ghosts_part c i a w s) (ghosts_room c w small size i)

pub lookup_asks : (c k : ℕ) (w : List ℕ) → Fits c w → k ≡ buckets_of c → lookup.Room (lookup_in c w) (3 * c) k
lookup_asks c k w f q = rw q (lookup_room c w f.small f.size)

-- ---- what they leave
pub ghosts_fresh : (c : ℕ) (i : Side) (a : ℕ) (w u : List ℕ) → end_at c ≤ length w → Starts c i a → length u ≡ length (part a (a + 2 * c + 5) w)
    → u ≡ ghosts.made c (part a (a + 2 * c + 5) w)
    → Became c w (splice a (a + 2 * c + 5) u w) (set_ghosts i (ghosts.made c (ghosts_in i c w)) (parts_of c w))
ghosts_fresh c i a w u size s l e =
    let q = ghosts_part c i a w s in
    ghosts_written c i a w u _ size s (l ∙ ap length q) (e ∙ ap (ghosts.made c) q)

pub lookup_fresh : (c k : ℕ) (w u : List ℕ) → end_at c ≤ length w → k ≡ buckets_of c → length u ≡ length (lookup_in c w) → u ≡ lookups.made (3 * c) k (lookup_in c w)
    → Became c w (splice (9 * c + 62) (24 * c + 64) u w) (set_lookup (lookups.made (places_of c) (buckets_of c) (lookup_in c w)) (parts_of c w))
lookup_fresh c k w u size q l e = lookup_written c w u _ size l (rw q at e)

pub fit_of : (c : ℕ) (w : List ℕ) (A : Type 0) → Fits c w → A → Fit c w A
fit_of c w A f a = record { small = f.small; size = f.size; can = a }

-- ---- the same words are there after a change
pub fits_after : (c : ℕ) (w v : List ℕ) (p : Parts) → Fits c w → Became c w v p → Fits c v
fits_after c w v p f b = record { small = f.small; size = rw b.size f.size }

-- ---- all parts
module _ (c : ℕ) (w u₁ u₂ u₃ u₄ u₅ : List ℕ) where
  pub parts_made : Became c w u₁ (set_residents (changes.made c (residents_in c w)) (parts_of c w))
      → Became c u₁ u₂ (set_ghosts first (ghosts.made c (ghosts_in first c u₁)) (parts_of c u₁))
      → Became c u₂ u₃ (set_ghosts second (ghosts.made c (ghosts_in second c u₂)) (parts_of c u₂))
      → Became c u₃ u₄ (set_lookup (lookups.made (places_of c) (buckets_of c) (lookup_in c u₃)) (parts_of c u₃))
      → Became c u₄ u₅ (set_target (c / 2) (parts_of c u₄))
      → Became c w u₅ (made c (parts_of c w))
  unfolding made parts_of
  parts_made a b d e f =
      record {
        size = f.size ∙ e.size ∙ d.size ∙ b.size ∙ a.size;
        parts = f.parts ∙ whole (parts_of c w) (parts_of c u₁) (parts_of c u₂) (parts_of c u₃) (parts_of c u₄) a.parts b.parts d.parts e.parts;
        kind = f.kind ∙ e.kind ∙ d.kind ∙ b.kind ∙ a.kind;
        capacity = f.capacity ∙ e.capacity ∙ d.capacity ∙ b.capacity ∙ a.capacity;
        rest = f.rest ∙ e.rest ∙ d.rest ∙ b.rest ∙ a.rest;
      }
    where
      whole : (p p₁ p₂ p₃ p₄ : Parts)
          → p₁ ≡ set_residents (changes.made c p.residents) p
          → p₂ ≡ set_ghosts first (ghosts.made c p₁.ghosts1) p₁
          → p₃ ≡ set_ghosts second (ghosts.made c p₂.ghosts2) p₂
          → p₄ ≡ set_lookup (lookups.made (places_of c) (buckets_of c) p₃.lookup) p₃
          → set_target (c / 2) p₄ ≡ made c p
      whole p p₁ p₂ p₃ p₄ x y z v = rw (v, z, y, x) refl

-- ---- `clear`
pub stored_fits : (c : ℕ) (w : List ℕ) → Stored c w → Fits c w
stored_fits c w s = record { small = s.holds.small; size = s.size }

pub cleared : (c : ℕ) (w v : List ℕ) → Stored c w → Became c w v (made c (parts_of c w)) → Left c w v (new c)
cleared c w v s b = left c w v _ (new c) s b (made_becomes c (parts_of c w) (have_room c w s.holds.small s.size))

-- ---- `new`
pub written : (kind c : ℕ) (w u v : List ℕ) → Fits c w → u ≡ headed kind c w → Became c u v (made c (parts_of c u)) → Empty kind c w v
unfolding new state_in headed
written kind c w u v f q b =
    let a = set w 0 kind in
    let h = set a 1 c in
    let i = inverse_of (buckets_of c) in
    let s : end_at c ≤ length w = f.size in
    let m : length a ≡ length w = length-set w 0 kind in
    let g : length h ≡ length w = length-set a 1 c ∙ m in
    let l : length u ≡ length w = ap length q ∙ length-set h 3 i ∙ g in
    let d = made_becomes c (parts_of c u) (have_room c u f.small (omega arith)) in
    let n : length v ≡ length w = b.size ∙ l in
    record {
      writes =
          record {
            kind = b.kind ∙ ap (λ (z : List ℕ). get_or z 0 0) q ∙ get_or-set_other h 3 0 i 0 (λ e. omega arith) ∙ get_or-set_other a 1 0 c 0 (λ e. omega arith) ∙ get_or-set_same w 0 kind 0 (omega arith);
            stored =
                record {
                  size = omega arith;
                  capacity = b.capacity ∙ ap (λ (z : List ℕ). get_or z 1 0) q ∙ get_or-set_other h 3 1 i 0 (λ e. omega arith) ∙ get_or-set_same a 1 c 0 (omega arith);
                  holds = rw b.parts d.holds;
                };
            reads = ap (state_of c) b.parts ∙ d.reads;
          };
      size = n;
      rest = b.rest ∙ ap (drop (end_at c)) q ∙ drop-set-lt (end_at c) h 3 i (omega arith) ∙ drop-set-lt (end_at c) a 1 c (omega arith) ∙ drop-set-lt (end_at c) w 0 kind (omega arith);
    }

pub header_fits : (kind c : ℕ) (w v : List ℕ) → Fits c w → length v ≡ length w → Fits c v
header_fits kind c w v f q = record { small = f.small; size = rw q f.size }

-- what the hint asks, and the words that the header leaves
pub header_small : (c : ℕ) (w : List ℕ) → Fits c w → c ≤ 1024
header_small c w f = f.small

pub header_some : (c k : ℕ) → k ≡ buckets_of c → 0 < k
header_some c k q = rw q (buckets_some c)

pub headed_is : (kind c k i : ℕ) (w : List ℕ) → k ≡ buckets_of c → i ≡ inverse_of k → set (set (set w 0 kind) 1 c) 3 i ≡ headed kind c w
unfolding headed
headed_is kind c k i w q e = rw (e, q) refl

pub refused_capacity : (kind c : ℕ) (w : List ℕ) → 1024 < c → New kind c w w (Err Capacity)
unfolding answer_of
refused_capacity kind c w h = record { answer = rw (lt-ltb 1024 c h) refl; area = refl }

pub refused_area : (kind c : ℕ) (w : List ℕ) → c ≤ 1024 → length w < 24 * c + 64 → New kind c w w (Err Area)
unfolding answer_of
refused_area kind c w h k = record { answer = rw (le-ltb 1024 c h, lt-ltb (length w) (24 * c + 64) k) refl; area = refl }

pub made_new : (kind c : ℕ) (w v : List ℕ) → c ≤ 1024 → 24 * c + 64 ≤ length w → Empty kind c w v → New kind c w v (Ok tt)
unfolding answer_of
made_new kind c w v h k e = record { answer = rw (le-ltb 1024 c h, le-ltb (length w) (24 * c + 64) k) refl; area = e }

pub fits_new : (c : ℕ) (w : List ℕ) → c ≤ 1024 → 24 * c + 64 ≤ length w → Fits c w
fits_new c w h k = record { small = h; size = k }

pub ruleset laws = (fit_of, residents_asks, ghosts_asks, lookup_asks, fits_after, stored_fits, header_fits, header_small, header_some, headed_is, refused_capacity, refused_area, made_new, fits_new, rules)
