-- What answers the needs of the program. In order: reading; writing; one turn; the loop; the arrays. Assumes nothing.
use mathlib.Core.Path.{◌≡◌, refl, sym, ap, subst, ◌∙◌}
use mathlib.Core.Bool.{Bool, true, false, not}
use mathlib.Core.List.{List, [], ◌∷◌, ◌++◌}
use Prim.Native.Nat.{ℕ, ◌+◌, ◌<◌, ◌≤◌}
use native.Mathlib.Omega.{arith}
use lib.Dec.{ltb}
use lib.ListN.{length, take, drop, length-append, take-append-drop}
use lib.Seq.{length-take-le, take_at, take-take}
use borrow.Author.Rules.{rules}
use borrow.Author.Tests.{not-true}
use Rattle.lines.specs.Lines.{line_room}
use Rattle.replaying.specs.declared.Running as declared
use Rattle.replaying.specs.declared.Replay.{Replay}
use Rattle.replaying.specs.declared.Replay.TheVariants.{Start, Running, Ended}
use Rattle.replaying.specs.Pending.{area_words, Ready}
use Rattle.replaying.specs.Feeding.{Turn, Turns, Wrote, Chain}
use Rattle.replaying.proofs.Pieces.{chain_more}
use Rattle.replay.specs.declared.Standing.{Standing}
use Rattle.replay.specs.Standing.{Stands, Holds, Refills, Goes, Turned, Came, Replays}

-- ---- reading: r bytes ys behind the bytes kept
pub refills : (kept r m : ℕ) (b ys : List ℕ) → kept ≤ length b → (r ≤ length ys) × (r ≡ length (take r ys))
    → Refills kept b (take kept b ++ (ys ++ drop m (drop kept b))) (kept + r)
refills kept r m b ys h (few, _) =
    let front = length-take-le kept b h in
    let all = length-append (take kept b) (ys ++ drop m (drop kept b)) in
    record {
      front = take_at (take kept b) (ys ++ drop m (drop kept b)) kept front;
      behind = omega arith;
      inside = omega (arith, front, all, length-append ys (drop m (drop kept b)));
    }

-- ---- writing
pub prefix_length : (n : ℕ) (l : List ℕ) → n ≤ length l → n ≡ length (take n l)
prefix_length n l h = sym (length-take-le n l h)

pub stops : (r : Replay) → false ≡ true → r ≡ Ended → ⊥
stops r e d = let y : ◌≡◌ {A = ℕ} 0 1 = cc in omega arith

pub goes_start : (r : Replay) (more : Bool) → r ≡ Start → more ≡ true → r ≡ Ended → ⊥
goes_start r more e _ d = let y : ◌≡◌ {A = ℕ} 0 1 = cc in omega arith

pub goes_running : (r : Replay) (more : Bool) (g : declared.Running) → r ≡ Running g → more ≡ true → r ≡ Ended → ⊥
goes_running r more g e _ d = let y : ◌≡◌ {A = ℕ} 0 1 = cc in omega arith

-- ---- one turn
pub asks_room : (s : Standing) (area bytes out : List ℕ) → Stands s area bytes out → line_room ≤ length out
asks_room s area bytes out i = i.room

pub asks_kept : (s : Standing) (area bytes out : List ℕ) → Stands s area bytes out → s.kept ≤ length bytes
asks_kept s area bytes out i = i.kept

pub asks_ready : (s : Standing) (area bytes out : List ℕ) → Stands s area bytes out → Ready s.replay area
asks_ready s area bytes out i = i.ready

pub read_there : (kept n : ℕ) (before after : List ℕ) → Refills kept before after n → n ≤ length after
read_there kept n before after r = r.inside

pub written_there : (n : ℕ) (before after : List ℕ) → Wrote n before after → n ≤ length after
written_there n before after w = w.there

stays_room : (n : ℕ) (before after : List ℕ) → Wrote n before after → line_room ≤ length before → line_room ≤ length after
stays_room n before after w h = omega (arith, w.size)

pub stands_again : (t : Standing) (n size : ℕ) (r : Replay) (area bytes area₁ bytes₁ lines out out₁ : List ℕ)
    → Turns size r area bytes t.replay area₁ (take t.kept bytes₁) lines → t.kept ≤ length bytes₁ → Wrote n out out₁ → line_room ≤ length out
    → Stands t area₁ bytes₁ out₁
stands_again t n size r area bytes area₁ bytes₁ lines out out₁ turn k w h = record { ready = turn.feeds.ready; kept = k; room = stays_room n out out₁ w h }

-- the bytes of the buffer are those kept, and the piece that was read
pieced : (kept n : ℕ) (before after : List ℕ) → Refills kept before after n → take n after ≡ take kept before ++ drop kept (take n after)
pieced kept n before after r =
    sym (take-append-drop kept (take n after)) ∙ ap (λ (l : List ℕ). l ++ drop kept (take n after)) (take-take kept n after r.behind ∙ r.front)

pub turned : (s t : Standing) (n written : ℕ) (area bytes filled area₁ bytes₁ out₁ : List ℕ) → Refills s.kept bytes filled n → length filled ≡ length bytes
    → Turns (length filled) s.replay area (take n filled) t.replay area₁ (take t.kept bytes₁) (take written out₁) → Goes t.replay t.more
    → Turned s area bytes t area₁ bytes₁ out₁
turned s t n written area bytes filled area₁ bytes₁ out₁ r e turn go =
    let is = pieced s.kept n bytes filled r in
    record {
      piece = drop s.kept (take n filled);
      written = written;
      turns = rw (sym e, sym is) turn;
      goes = go;
    }

-- ---- the loop
-- after so many turns
pub record Going (area₀ bytes₀ out₀ : List ℕ) (s : Standing) (area bytes out : List ℕ) (made : ℕ) : Type 0 where
  pub stands : Stands s area bytes out
  pub came : Came (length bytes₀) area₀ s area bytes
  pub count : length came.turns ≡ made
  pub few : made ≤ 18446744073709551615
  pub area_size : length area ≡ length area₀
  pub bytes_size : length bytes ≡ length bytes₀
  pub out_size : length out ≡ length out₀

pub begins : (area bytes out : List ℕ) (r : Replay) (s : Standing) → Holds area out → r ≡ Start → s.replay ≡ r → s.kept ≡ 0 → Going area bytes out s area bytes out 0
begins area bytes out r s h e d k =
    record {
      stands = record { ready = rw (d, e) h.words; kept = omega (arith, k); room = h.room };
      came = record { turns = []; chain = (d ∙ e, (refl, ap (λ (n : ℕ). take n bytes) k)) };
      count = refl;
      few = omega arith;
      area_size = refl;
      bytes_size = refl;
      out_size = refl;
    }

module _ (area₀ bytes₀ out₀ : List ℕ) (s t : Standing) (area bytes out area₁ bytes₁ out₁ : List ℕ) (n : ℕ) (g : Going area₀ bytes₀ out₀ s area bytes out n)
    (turn : Turned s area bytes t area₁ bytes₁ out₁) where
  abbrev kept : List ℕ
  kept = take s.kept bytes

  abbrev one : Turn
  one = record {
    piece = turn.piece;
    last = ltb (length (kept ++ turn.piece)) (length bytes₀);
    replay = t.replay;
    area = area₁;
    used = turn.turns.used;
    written = take turn.written out₁;
  }

  abbrev all : List Turn
  all = g.came.turns ++ one ∷ []

  abbrev came_more : Came (length bytes₀) area₀ t area₁ bytes₁
  came_more =
      let fed = turn.turns in
      record {
        turns = all;
        chain = subst (λ (l : List ℕ). Chain (length bytes₀) Start area₀ [] all t.replay area₁ l) (sym fed.left)
            (chain_more (length bytes₀) Start area₀ [] g.came.turns s.replay area kept one g.came.chain
            (record { feeds = rw (sym g.bytes_size) fed.feeds; last = refl }));
      }

  pub stopped : not t.more ≡ true → Replays (length bytes₀) area₀ t area₁ bytes₁
  stopped q = record { came = came_more; stops = λ e. absurd (contrary t.more q e) }
    where
      contrary : (b : Bool) → not b ≡ true → b ≡ true → ⊥
      contrary b q e = let d = not-true b q in let y : ◌≡◌ {A = ℕ} 0 1 = cc in omega arith

  pub going_on : n < 18446744073709551615 → length area₁ ≡ length area → length bytes₁ ≡ length bytes → length out₁ ≡ length out → Stands t area₁ bytes₁ out₁
      → Going area₀ bytes₀ out₀ t area₁ bytes₁ out₁ (n + 1)
  going_on less a b o still =
      record {
        stands = still;
        came = came_more;
        count = omega (arith, g.count, length-append g.came.turns (one ∷ []));
        few = omega arith;
        area_size = a ∙ g.area_size;
        bytes_size = b ∙ g.bytes_size;
        out_size = o ∙ g.out_size;
      }

pub worn_out : (area₀ bytes₀ out₀ : List ℕ) (s : Standing) (area bytes out : List ℕ) (n : ℕ) → Going area₀ bytes₀ out₀ s area bytes out n → 18446744073709551615 ≤ n
    → Replays (length bytes₀) area₀ s area bytes
worn_out area₀ bytes₀ out₀ s area bytes out n g none = record { came = g.came; stops = λ _. omega (arith, g.count, g.few) }

-- ---- the arrays
pub holds : (area out : List ℕ) → area_words ≡ length area → 262144 ≡ length out → Holds area out
holds area out a o = record { words = omega (arith, a); room = omega (arith, o) }

pub ruleset laws = (refills, prefix_length, stops, goes_start, goes_running, asks_room, asks_kept, asks_ready, read_there, written_there, stands_again, turned, begins, stopped, going_on, worn_out, holds, rules)
