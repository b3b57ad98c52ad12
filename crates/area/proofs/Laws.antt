-- What a write of one part does to the parts together, and what answers the needs of the functions.
-- Assumes nothing.
use mathlib.Core.Path.{◌≡◌, refl, sym, ap, ◌∙◌}
use mathlib.Core.List.{List, ◌++◌}
use Prim.Native.Nat.{ℕ, ◌+◌, ◌-◌, ◌*◌, ◌<◌, ◌≤◌}
use native.Mathlib.Omega.{arith}
use lib.ListN.{length, get_or, set, take, drop, length-set, length-drop}
use lib.Seq.{get_or-take, get_or-set_same, get_or-set_other, drop-set-lt}
use borrow.Author.Rules.{rules}
use Rattle.std.specs.Prelude.{Option}
use Rattle.std.specs.declared.ops.Range.{Range}
use Rattle.rules.specs.declared.Side.{Side}
use Rattle.rules.specs.declared.Side.TheVariants.{First as first, Second as second}
use Rattle.cells.specs.Cells.{In}
use Rattle.tails.specs.Tails.{tail_of}
use Rattle.residents.specs.Residents as residents
use Rattle.residents.specs.Changes.{HasList, HasSlot}
use Rattle.ghosts.specs.Ghosts as ghosts
use Rattle.lookup.specs.Buckets.{buckets_of}
use Rattle.lookup.specs.Lookup.{find_of, look, answered, CanFind}
use Rattle.area_state.specs.Parts.{Parts, set_target, set_residents, set_ghosts, set_lookup}
use Rattle.area.specs.Part.{part, splice}
use Rattle.area.specs.Area.{ghosts_at, end_at, residents_in, ghosts_in, lookup_in, residents_words, ghosts_words, lookup_words, parts_of, Starts, Became}
use Rattle.area.proofs.Part.{length_part, length_splice, take_splice, part_splice, part_above, part_below, drop_above, take_below}

-- ---- the lengths of the parts
module _ (c : ℕ) (w : List ℕ) (size : end_at c ≤ length w) where
  pub length_residents : length (residents_in c w) ≡ 5 * c + 9
  unfolding residents_in
  length_residents = length_part 43 (5 * c + 52) w (omega arith) (omega arith) ∙ omega arith

  pub length_ghosts : (i : Side) → length (ghosts_in i c w) ≡ 2 * c + 5
  unfolding ghosts_in
  length_ghosts first = length_part (5 * c + 52) (5 * c + 52 + 2 * c + 5) w (omega arith) (omega arith) ∙ omega arith
  length_ghosts second = length_part (7 * c + 57) (7 * c + 57 + 2 * c + 5) w (omega arith) (omega arith) ∙ omega arith

  pub length_lookup : length (lookup_in c w) ≡ 15 * c + 2
  unfolding lookup_in
  length_lookup = length_part (9 * c + 62) (24 * c + 64) w (omega arith) (omega arith) ∙ omega arith

-- ---- a part written: the words a to b, past the header and within the area's need
pub header_word : (n : ℕ) (w v : List ℕ) → n < 43 → take 43 v ≡ take 43 w → get_or v n 0 ≡ get_or w n 0
header_word n w v h q = sym (get_or-take 43 v n 0 h) ∙ (ap (λ l. get_or l n 0) q ∙ get_or-take 43 w n 0 h)

-- equal parts are equal together
same_parts : (t₁ t₂ : ℕ) (r₁ r₂ g₁ g₂ h₁ h₂ k₁ k₂ : List ℕ) → t₁ ≡ t₂ → r₁ ≡ r₂ → g₁ ≡ g₂ → h₁ ≡ h₂ → k₁ ≡ k₂
    → ◌≡◌ {A = Parts} (record { target = t₁; residents = r₁; ghosts1 = g₁; ghosts2 = h₁; lookup = k₁ }) (record { target = t₂; residents = r₂; ghosts1 = g₂; ghosts2 = h₂; lookup = k₂ })
same_parts t₁ t₂ r₁ r₂ g₁ g₂ h₁ h₂ k₁ k₂ a b c d e = cc

module _ (c : ℕ) (w u : List ℕ) (size : end_at c ≤ length w) where
  pub residents_became : length u ≡ 5 * c + 9 → Became c w (splice 43 (5 * c + 52) u w) (set_residents u (parts_of c w))
  unfolding parts_of residents_in ghosts_in lookup_in
  residents_became q =
      let l : length u ≡ (5 * c + 52) - 43 = omega arith in
      let v = splice 43 (5 * c + 52) u w in
      let head = take_splice 43 (5 * c + 52) u w (omega arith) (omega arith) l in
      let above : (a b : ℕ) → 5 * c + 52 ≤ a → part a b v ≡ part a b w = λ a b k. part_above 43 (5 * c + 52) u w (omega arith) (omega arith) l a b k in
      record {
        size = length_splice 43 (5 * c + 52) u w (omega arith) (omega arith) l;
        parts = same_parts _ _ _ _ _ _ _ _ _ _ (header_word 2 w v (omega arith) head) (part_splice 43 (5 * c + 52) u w (omega arith) (omega arith) l)
            (above (5 * c + 52) (5 * c + 52 + 2 * c + 5) (omega arith)) (above (7 * c + 57) (7 * c + 57 + 2 * c + 5) (omega arith)) (above (9 * c + 62) (24 * c + 64) (omega arith));
        kind = header_word 0 w v (omega arith) head;
        capacity = header_word 1 w v (omega arith) head;
        rest = drop_above 43 (5 * c + 52) u w (omega arith) (omega arith) l (24 * c + 64) (omega arith);
      }

  pub lookup_became : length u ≡ 15 * c + 2 → Became c w (splice (9 * c + 62) (24 * c + 64) u w) (set_lookup u (parts_of c w))
  unfolding parts_of residents_in ghosts_in lookup_in
  lookup_became q =
      let l : length u ≡ (24 * c + 64) - (9 * c + 62) = omega arith in
      let v = splice (9 * c + 62) (24 * c + 64) u w in
      let head = take_below (9 * c + 62) (24 * c + 64) u w (omega arith) (omega arith) l 43 (omega arith) in
      let below : (a b : ℕ) → a ≤ b → b ≤ 9 * c + 62 → part a b v ≡ part a b w = λ a b k h. part_below (9 * c + 62) (24 * c + 64) u w (omega arith) (omega arith) l a b k h in
      record {
        size = length_splice (9 * c + 62) (24 * c + 64) u w (omega arith) (omega arith) l;
        parts = same_parts _ _ _ _ _ _ _ _ _ _ (header_word 2 w v (omega arith) head) (below 43 (5 * c + 52) (omega arith) (omega arith))
            (below (5 * c + 52) (5 * c + 52 + 2 * c + 5) (omega arith) (omega arith)) (below (7 * c + 57) (7 * c + 57 + 2 * c + 5) (omega arith) (omega arith))
            (part_splice (9 * c + 62) (24 * c + 64) u w (omega arith) (omega arith) l);
        kind = header_word 0 w v (omega arith) head;
        capacity = header_word 1 w v (omega arith) head;
        rest = drop_above (9 * c + 62) (24 * c + 64) u w (omega arith) (omega arith) l (24 * c + 64) (omega arith);
      }

  pub ghosts_became : (i : Side) → length u ≡ 2 * c + 5 → Became c w (splice (ghosts_at i c) (ghosts_at i c + 2 * c + 5) u w) (set_ghosts i u (parts_of c w))
  unfolding parts_of residents_in ghosts_in lookup_in
  ghosts_became first q =
      let a = 5 * c + 52 in
      let b = 5 * c + 52 + 2 * c + 5 in
      let l : length u ≡ b - a = omega arith in
      let v = splice a b u w in
      let head = take_below a b u w (omega arith) (omega arith) l 43 (omega arith) in
      record {
        size = length_splice a b u w (omega arith) (omega arith) l;
        parts = same_parts _ _ _ _ _ _ _ _ _ _ (header_word 2 w v (omega arith) head) (part_below a b u w (omega arith) (omega arith) l 43 (5 * c + 52) (omega arith) (omega arith))
            (part_splice a b u w (omega arith) (omega arith) l) (part_above a b u w (omega arith) (omega arith) l (7 * c + 57) (7 * c + 57 + 2 * c + 5) (omega arith))
            (part_above a b u w (omega arith) (omega arith) l (9 * c + 62) (24 * c + 64) (omega arith));
        kind = header_word 0 w v (omega arith) head;
        capacity = header_word 1 w v (omega arith) head;
        rest = drop_above a b u w (omega arith) (omega arith) l (24 * c + 64) (omega arith);
      }
  ghosts_became second q =
      let a = 7 * c + 57 in
      let b = 7 * c + 57 + 2 * c + 5 in
      let l : length u ≡ b - a = omega arith in
      let v = splice a b u w in
      let head = take_below a b u w (omega arith) (omega arith) l 43 (omega arith) in
      record {
        size = length_splice a b u w (omega arith) (omega arith) l;
        parts = same_parts _ _ _ _ _ _ _ _ _ _ (header_word 2 w v (omega arith) head) (part_below a b u w (omega arith) (omega arith) l 43 (5 * c + 52) (omega arith) (omega arith))
            (part_below a b u w (omega arith) (omega arith) l (5 * c + 52) (5 * c + 52 + 2 * c + 5) (omega arith) (omega arith))
            (part_splice a b u w (omega arith) (omega arith) l)
            (part_above a b u w (omega arith) (omega arith) l (9 * c + 62) (24 * c + 64) (omega arith));
        kind = header_word 0 w v (omega arith) head;
        capacity = header_word 1 w v (omega arith) head;
        rest = drop_above a b u w (omega arith) (omega arith) l (24 * c + 64) (omega arith);
      }

-- ---- the target written
part_set : (a b : ℕ) (w : List ℕ) (t : ℕ) → 2 < a → part a b (set w 2 t) ≡ part a b w
unfolding part
part_set a b w t h = ap (take (b - a)) (drop-set-lt a w 2 t h)

pub target_became : (c t : ℕ) (w : List ℕ) → end_at c ≤ length w → Became c w (set w 2 t) (set_target t (parts_of c w))
unfolding parts_of residents_in ghosts_in lookup_in
target_became c t w size =
    let v = set w 2 t in
    record {
      size = length-set w 2 t;
      parts = same_parts _ _ _ _ _ _ _ _ _ _ (get_or-set_same w 2 t 0 (omega arith)) (part_set 43 (5 * c + 52) w t (omega arith))
          (part_set (5 * c + 52) (5 * c + 52 + 2 * c + 5) w t (omega arith)) (part_set (7 * c + 57) (7 * c + 57 + 2 * c + 5) w t (omega arith)) (part_set (9 * c + 62) (24 * c + 64) w t (omega arith));
      kind = get_or-set_other w 2 0 t 0 (λ e. omega arith);
      capacity = get_or-set_other w 2 1 t 0 (λ e. omega arith);
      rest = drop-set-lt (24 * c + 64) w 2 t (omega arith);
    }

-- ---- where a side's ghost list starts
pub starts_first : (c : ℕ) → Starts c first (5 * c + 52)
starts_first c = record { at = refl; low = omega arith; high = omega arith }

pub starts_second : (c : ℕ) → Starts c second (7 * c + 57)
starts_second c = record { at = refl; low = omega arith; high = omega arith }

-- ---- one write after another
pub then : (c : ℕ) (w u v : List ℕ) (p q : Parts) → Became c w u p → Became c u v q → Became c w v q
then c w u v p q a b =
    record { size = b.size ∙ a.size; parts = b.parts; kind = b.kind ∙ a.kind; capacity = b.capacity ∙ a.capacity; rest = b.rest ∙ a.rest }

-- ---- what the calls on a part leave, in the shape of the code: u is the part after the call, which is x
pub lookup_written : (c : ℕ) (w u x : List ℕ) → end_at c ≤ length w → length u ≡ length (lookup_in c w) → u ≡ x → Became c w (splice (9 * c + 62) (24 * c + 64) u w) (set_lookup x (parts_of c w))
lookup_written c w u x size l e = rw (sym e) (lookup_became c w u size (l ∙ length_lookup c w size))

pub residents_written : (c : ℕ) (w u x : List ℕ) → end_at c ≤ length w → length u ≡ length (residents_in c w) → u ≡ x → Became c w (splice 43 (5 * c + 52) u w) (set_residents x (parts_of c w))
residents_written c w u x size l e = rw (sym e) (residents_became c w u size (l ∙ length_residents c w size))

pub ghosts_written : (c : ℕ) (i : Side) (a : ℕ) (w u x : List ℕ) → end_at c ≤ length w → Starts c i a → length u ≡ length (ghosts_in i c w) → u ≡ x
    → Became c w (splice a (a + 2 * c + 5) u w) (set_ghosts i x (parts_of c w))
ghosts_written c i a w u x size s l e = rw (s.at, sym e) (ghosts_became c w u size i (l ∙ length_ghosts c w size i))

-- ---- what the calls on a part ask
module _ (c : ℕ) (w : List ℕ) (small : c ≤ 1024) (size : end_at c ≤ length w) where
  pub residents_room : residents.Room (residents_in c w) c
  unfolding In tail_of
  residents_room =
      let n = length_residents c w size in
      record { small = small; head = omega arith; links = simp length-drop (omega arith) }

  pub has_list : (i : ℕ) → i < 3 → HasList (residents_in c w) c i
  has_list i h = record { room = residents_room; list = h }

  pub has_slot : (e : ℕ) → e < c → HasSlot (residents_in c w) c e
  has_slot e h = record { room = residents_room; slot = h }

  pub ghosts_room : (i : Side) → ghosts.Room (ghosts_in i c w) c
  unfolding In tail_of
  ghosts_room i =
      let n = length_ghosts c w size i in
      record { small = small; head = omega arith; links = simp length-drop (omega arith) }

pub ghosts_part : (c : ℕ) (i : Side) (a : ℕ) (w : List ℕ) → Starts c i a → part a (a + 2 * c + 5) w ≡ ghosts_in i c w
unfolding ghosts_in
ghosts_part c i a w s = ap (λ n. part n (n + 2 * c + 5) w) s.at

-- ---- in the shape of the code, where r is the range that a part has
residents_here : (c : ℕ) (w : List ℕ) (r : Range ℕ) → r ≡ residents_words c → part r.start r.end w ≡ residents_in c w
unfolding residents_in
residents_here c w r q = rw q refl

ghosts_here : (i : Side) (c : ℕ) (w : List ℕ) (r : Range ℕ) → r ≡ ghosts_words i c → part r.start r.end w ≡ ghosts_in i c w
unfolding ghosts_in
ghosts_here i c w r q = rw q refl

lookup_here : (c : ℕ) (w : List ℕ) (r : Range ℕ) → r ≡ lookup_words c → part r.start r.end w ≡ lookup_in c w
unfolding lookup_in
lookup_here c w r q = rw q refl

pub residents_cut : (c : ℕ) (w : List ℕ) (r : Range ℕ) → r ≡ residents_words c → take (r.end - r.start) (drop r.start w) ≡ residents_in c w
unfolding part
residents_cut c w r q = residents_here c w r q

pub ghosts_cut : (i : Side) (c : ℕ) (w : List ℕ) (r : Range ℕ) → r ≡ ghosts_words i c → take (r.end - r.start) (drop r.start w) ≡ ghosts_in i c w
unfolding part
ghosts_cut i c w r q = ghosts_here i c w r q

pub lookup_cut : (c : ℕ) (w : List ℕ) (r : Range ℕ) → r ≡ lookup_words c → take (r.end - r.start) (drop r.start w) ≡ lookup_in c w
unfolding part
lookup_cut c w r q = lookup_here c w r q

-- u is the part after a call, and x what the call leaves of the part
module _ (c : ℕ) (w u : List ℕ) (r : Range ℕ) (size : end_at c ≤ length w) (l : length u ≡ length (take (r.end - r.start) (drop r.start w))) where
  pub residents_put : r ≡ residents_words c → (x : List ℕ) → u ≡ x → Became c w (take r.start w ++ (u ++ drop (r.end - r.start) (drop r.start w))) (set_residents x (parts_of c w))
  unfolding splice
  residents_put q x e = let n : length u ≡ length (residents_in c w) = l ∙ ap length (residents_cut c w r q) in rw q (residents_written c w u x size n e)

  pub ghosts_put : (i : Side) → r ≡ ghosts_words i c → (x : List ℕ) → u ≡ x → Became c w (take r.start w ++ (u ++ drop (r.end - r.start) (drop r.start w))) (set_ghosts i x (parts_of c w))
  unfolding splice
  ghosts_put i q x e = let n : length u ≡ length (ghosts_in i c w) = l ∙ ap length (ghosts_cut i c w r q) in rw (q, sym e) (ghosts_became c w u size i (n ∙ length_ghosts c w size i))

  pub lookup_put : r ≡ lookup_words c → (x : List ℕ) → u ≡ x → Became c w (take r.start w ++ (u ++ drop (r.end - r.start) (drop r.start w))) (set_lookup x (parts_of c w))
  unfolding splice
  lookup_put q x e = let n : length u ≡ length (lookup_in c w) = l ∙ ap length (lookup_cut c w r q) in rw q (lookup_written c w u x size n e)

-- of the lookup, with as many buckets as the code says
pub can_find_at : (w : List ℕ) (m c k x : ℕ) → k ≡ buckets_of c → CanFind w m (buckets_of c) x → CanFind w m k x
can_find_at w m c k x e h = rw e h

pub found_at : (w : List ℕ) (m c k x r : ℕ) → k ≡ buckets_of c → r ≡ find_of w m k x → r ≡ find_of w m (buckets_of c) x
found_at w m c k x r e h = h ∙ ap (λ n. find_of w m n x) e

pub place_at_lem : (w : List ℕ) (m c k x : ℕ) (r : Option ℕ) → k ≡ buckets_of c → r ≡ answered (look w m k x) → r ≡ answered (look w m (buckets_of c) x)
place_at_lem w m c k x r e h = h ∙ ap (λ n. answered (look w m n x)) e

pub ruleset laws = (target_became, starts_first, starts_second, has_list, has_slot, ghosts_room, can_find_at, found_at, place_at_lem, rules)
