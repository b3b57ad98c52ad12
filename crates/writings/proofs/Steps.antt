-- Parts that hold a state, and the steps from one state that parts hold to another. In order: an empty cache; a page
-- that stands nowhere; the steps from what parts read as; the steps. Assumes nothing.
use mathlib.Core.Path.{◌≡◌, refl}
use mathlib.Core.Logic.{⊎_elim}
use mathlib.Core.Bool.{Bool, true, false}
use mathlib.Core.List.{List, map}
use Prim.Native.Nat.{ℕ, ◌+◌, ◌*◌, ◌<◌, ◌≤◌}
use native.Mathlib.Omega.{arith}
use lib.Dec.{eqb}
use lib.ListN.{length, replicate}
use Rattle.rules.specs.Lists.{one, times}
use Rattle.rules.specs.State.{pages, seen, IsPage, IsFrame}
use Rattle.rules.specs.declared.Side.{Side}
use Rattle.rules.specs.declared.Side.TheVariants.{First as first, Second as second}
use Rattle.rules.specs.Car.{Car, slots, new}
use Rattle.rings.specs.Members.{Mem}
use Rattle.rings.proofs.Members.{same_or_other}
use Rattle.lookup.specs.Buckets.{buckets_of, places_of}
use Rattle.lookup.specs.Part.{page_of}
use Rattle.lookup.specs.Lookup.{look, none}
use Rattle.lookup.proofs.Look.{look_none}
use Rattle.area_state.specs.Parts.{Parts, set_target, number_of, Holds, resident_of, ghost_of, state_of}
use Rattle.area_state.specs.Changes.{removed, evicted, entered_front, made}
use Rattle.area_state.specs.States.{aimed_at, removed_at, evicted_at, entered_at_front}
use Rattle.area_state.proofs.Counts.{times_some}
use Rattle.area_state.proofs.HoldsAs.{named, slots_of, live_in, spare_in, Becomes}
use Rattle.area_state.proofs.Pages.{Place, slot, cell, place_of_lem}
use Rattle.area_state.proofs.Reading.{pages_read, slots_read}
use Rattle.area_state.proofs.Setting.{set_target_becomes}
use Rattle.area_state.proofs.Leaving.{removed_becomes}
use Rattle.area_state.proofs.Evicting.{evicted_becomes}
use Rattle.area_state.proofs.Adding.{entered_front_becomes}
use Rattle.area_state.proofs.Making.{made_becomes}
use Rattle.area.specs.Area.{parts_of, end_at}
use Rattle.area.proofs.Rooms.{have_room}
use Rattle.writings.proofs.Words.{zeros}
use Rattle.writings.proofs.Sizes.{Sized, parts_sized, made_sized, aimed_sized, entered_sized, removed_sized}
use Rattle.writings.proofs.Sizes.{evicted_sized}

-- parts hold the state s
pub record Kept (c : ℕ) (s : Car) : Type 0 where
  pub parts : Parts
  pub sized : Sized c parts
  pub becomes : Becomes c parts s

-- ---- an empty cache, from words that are all 0
pub kept_new : (c : ℕ) → c ≤ 1024 → Kept c (new c)
kept_new c small =
    let w : List ℕ = replicate (24 * c + 64) 0 in
    let h = zeros (24 * c + 64) in
    let size : end_at c ≤ length w = (let q = h.size in omega arith) in
    record {
      parts = made c (parts_of c w);
      sized = made_sized c (parts_of c w) small (parts_sized c w h);
      becomes = made_becomes c (parts_of c w) (have_room c w small size);
    }

-- ---- a page that stands nowhere is found nowhere
module _ (c : ℕ) (p : Parts) (h : Holds c p) (x : ℕ) where
  list_has : (i z : ℕ) → Mem z (slots_of c p i) → page_of p.lookup z ≡ x
      → 1 ≤ times x (pages (map (resident_of c p) (slots_of c p i)))
  list_has i z m q = rw (pages_read c p (slots_of c p i)) (times_some (page_of p.lookup) x z (slots_of c p i) m q)

  place_seen : (z : ℕ) → page_of p.lookup z ≡ x → Place c (slots_of c p) (live_in c p) z
      → 1 ≤ seen x (state_of c p).lists
  unfolding state_of ghost_of
  place_seen z q (slot i hi m) =
      ⊎_elim
      (λ e. let k = list_has 0 z (rw e at m) q in omega arith)
      (λ n. let e : i ≡ 1 = omega arith in let k = list_has 1 z (rw e at m) q in omega arith)
      (same_or_other i 0)
  place_seen z q (cell first g m e) =
      let k = times_some (ghost_of first c p) x g (live_in c p first) m (rw e at q) in omega arith
  place_seen z q (cell second g m e) =
      let k = times_some (ghost_of second c p) x g (live_in c p second) m (rw e at q) in omega arith

  nowhere : seen x (state_of c p).lists ≡ 0 → look p.lookup (places_of c) (buckets_of c) x ≡ none
  nowhere e =
      look_none p.lookup (places_of c) (buckets_of c) h.table x
      (λ z k q. let o = place_of_lem c p (slots_of c p) (live_in c p) (spare_in c p) (named c p h) z k in
      let s = place_seen z q o in let b : ⊥ = omega arith in b)

-- ---- the steps from what parts read as
bit_below : (b : Bool) → one b < 2
bit_below true = omega arith
bit_below false = omega arith

bit_is : (b : Bool) → eqb (one b) 1 ≡ b
bit_is true = refl
bit_is false = refl

module _ (c : ℕ) (p : Parts) (h : Holds c p) (z : Sized c p) where
  enters : (i : Side) (x f : ℕ) (b : Bool) → 0 < length (state_of c p).free → seen x (state_of c p).lists ≡ 0
      → IsPage x → IsFrame f → Kept c (entered_at_front i x f b (state_of c p))
  unfolding state_of
  enters i x f b some e hx hf =
      let hb = bit_below b in
      record {
        parts = entered_front c (number_of i) x f (one b) p;
        sized = entered_sized c p h z some i x f (one b) hx (omega arith) (omega arith);
        becomes = rw (bit_is b) at (entered_front_becomes c p h some x f (one b) i (nowhere c p h x e) hf hb);
      }

  aims : (t : ℕ) → t ≤ c → Kept c (aimed_at t (state_of c p))
  aims t low =
      record { parts = set_target t p; sized = aimed_sized c p t z; becomes = set_target_becomes c p h t low }

  -- a slot of T1, as the state has it
  in_list : (e : ℕ) → Mem e (slots (state_of c p).lists.T1) → Mem e (slots_of c p 0)
  unfolding state_of
  in_list e m = rw (slots_read c p (slots_of c p 0)) at m

  leaves : (e : ℕ) → Mem e (slots (state_of c p).lists.T1) → Kept c (removed_at e (state_of c p))
  leaves e m =
      let k = in_list e m in
      record {
        parts = removed c e p;
        sized = removed_sized c p h z 0 e (omega arith) k;
        becomes = removed_becomes c p h 0 e (omega arith) k;
      }

  goes : (i : Side) (e : ℕ) → Mem e (slots (state_of c p).lists.T1) → Kept c (evicted_at i e (state_of c p))
  goes i e m =
      let k = in_list e m in
      record {
        parts = evicted i c e p;
        sized = evicted_sized c p h z 0 e (omega arith) k i;
        becomes = evicted_becomes c p h 0 e (omega arith) k i;
      }

-- ---- THE STEPS, from a state s that parts hold
module _ (c : ℕ) (s : Car) (r : Kept c s) where
  is : state_of c r.parts ≡ s
  is = r.becomes.reads

  -- a new resident at the front of a list, in the top free slot
  pub kept_entered : (i : Side) (x f : ℕ) (b : Bool) → 0 < length s.free → seen x s.lists ≡ 0 → IsPage x
      → IsFrame f → Kept c (entered_at_front i x f b s)
  kept_entered i x f b some e hx hf =
      rw is at (enters c r.parts r.becomes.holds r.sized i x f b (rw is some) (rw is e) hx hf)

  -- the target
  pub kept_aimed : (t : ℕ) → t ≤ c → Kept c (aimed_at t s)
  kept_aimed t low = rw is at (aims c r.parts r.becomes.holds r.sized t low)

  -- the resident of slot e of T1 leaves, and is recorded or not
  pub kept_removed : (e : ℕ) → Mem e (slots s.lists.T1) → Kept c (removed_at e s)
  kept_removed e m = rw is at (leaves c r.parts r.becomes.holds r.sized e (rw is m))

  pub kept_evicted : (i : Side) (e : ℕ) → Mem e (slots s.lists.T1) → Kept c (evicted_at i e s)
  kept_evicted i e m = rw is at (goes c r.parts r.becomes.holds r.sized i e (rw is m))
