-- The feed at the start. In order: what was put into the buffer; the feed waits; a cache is made; a refusal. Assumes nothing.
use mathlib.Core.Path.{◌≡◌, refl, sym, ap, ◌∙◌}
use mathlib.Core.Bool.{Bool}
use mathlib.Core.List.{List, [], ◌++◌, append-nil}
use Prim.Native.Nat.{ℕ, ◌+◌, ◌<◌, ◌≤◌}
use native.Mathlib.Omega.{arith}
use lib.ListN.{length, take, drop, length-append}
use lib.Seq.{length-take-le, take_at, drop-append-le}
use borrow.Author.Rules.{rules}
use Rattle.std.specs.Prelude.{Result, Ok, Err}
use Rattle.refusals.specs.Refusals.{number_of}
use Rattle.rules.specs.Calls.{Stopped}
use Rattle.rules.specs.Program.{text_of}
use Rattle.lines.specs.Lines.{LineRoom, laid, Put}
use Rattle.replaying.specs.declared.Replay.TheVariants.{Start, Running, Ended}
use Rattle.replaying.specs.declared.Header.{Header}
use Rattle.replaying.specs.declared.Stop.{Stop}
use Rattle.replaying.specs.Pending.{pending}
use Rattle.replaying.specs.Header.{header_of, Sizes, Fresh}
use Rattle.replaying.specs.Feeding.{needed, Feeds, Wrote}
use Rattle.replaying.specs.Asked.{Begins}
use Rattle.replaying.proofs.Headers.{headed, program_headed, header_given, allowed}

-- ---- what was put into the buffer
pub put_there : (w v : List ℕ) (at : ℕ) (text : List ℕ) (p : ℕ) → at ≤ length w → Put w v at text p → (take p v ≡ take at w ++ text) × (p ≤ length v)
unfolding laid
put_there w v at text p h s =
    let front : List ℕ = take at w ++ text in
    let n : length front ≡ p = length-append (take at w) text ∙ ap (λ (k : ℕ). k + length text) (length-take-le at w h) ∙ sym s.past in
    let back : List ℕ = drop (at + length text) w in
    (ap (take p) s.buffer ∙ take_at front back p n, omega (arith, n, ap length s.buffer, length-append front back))

-- with room for a line, all of a text that fits is in the buffer
pub wrote : (u w v : List ℕ) (at : ℕ) (text : List ℕ) (p : ℕ) → at ≤ length w → length w ≡ length u → length v ≡ length w → Put w v at text p → Wrote p u v
wrote u w v at text p h e d s = record { there = (put_there w v at text p h s).1; size = d ∙ e }

pub wrote_first : (w v text : List ℕ) (p : ℕ) → length v ≡ length w → Put w v 0 text p → Wrote p w v
wrote_first w v text p d s = wrote w w v 0 text p (omega arith) refl d s

pub wrote_nothing : (w : List ℕ) → Wrote 0 w w
wrote_nothing w = record { there = omega arith; size = refl }

pub first_room : (w out : List ℕ) → Begins w out → LineRoom out 0
first_room w out b = omega (arith, b.room)

-- ---- the feed waits for more bytes
pub waits : (w bytes out : List ℕ) (last : Bool) (need : ℕ) → Begins w out → need ≡ needed last → length bytes < need → Feeds Start w bytes last Start w 0 []
waits w bytes out last need b e h =
    record {
      inside = omega arith;
      ready = b.words;
      moved = omega arith;
      rest = refl;
      told = λ fits rest f. refl;
      progress = λ k s. absurd (omega (arith, e));
    }

-- ---- a cache is made
pub makes_sizes : (w out bytes : List ℕ) (h : Result Header Stop) (a : Header) → Begins w out → h ≡ header_of bytes → h ≡ Ok a → Sizes a.c w
makes_sizes w out bytes h a b e d = record { small = (allowed bytes h a e d).small; words = b.words }

pub begins : (w v bytes : List ℕ) (last : Bool) (need : ℕ) (h : Result Header Stop) (x : Header) → need ≡ needed last → need ≤ length bytes
    → h ≡ header_of bytes → h ≡ Ok x → Fresh x.kind x.c w v
    → Feeds Start w bytes last (Running (record { kind = x.kind; c = x.c; offset = x.used; done = 0 })) v x.used []
unfolding pending
begins w v bytes last need h x n there e d f =
    let a = allowed bytes h x e d in
    record {
      inside = a.there;
      ready = record { good = f.good; few = omega arith };
      moved = omega arith;
      rest = f.rest;
      told = λ fits rest end.
          program_headed (bytes ++ rest)
          ∙ ap (λ (y : Result Header Stop). headed y (bytes ++ rest)) (header_given last bytes rest (omega (arith, n)) end ∙ sym e ∙ d)
          ∙ rw (drop-append-le x.used bytes rest a.there, f.new) refl;
      progress = λ _ _. a.some;
    }

-- ---- a refusal
pub refuses : (w bytes before after : List ℕ) (last : Bool) (need : ℕ) (h : Result Header Stop) (x : Stop) (n p : ℕ) → need ≡ needed last → need ≤ length bytes
    → h ≡ header_of bytes → h ≡ Err x → n ≡ number_of x.refusal → Put before after 0 (text_of (Stopped n x.offset)) p → Feeds Start w bytes last Ended w 0 (take p after)
unfolding pending
refuses w bytes before after last need h x n p is there e d q s =
    record {
      inside = omega arith;
      ready = tt;
      moved = omega arith;
      rest = refl;
      told = λ fits rest end.
          program_headed (bytes ++ rest)
          ∙ ap (λ (y : Result Header Stop). headed y (bytes ++ rest)) (header_given last bytes rest (omega (arith, is)) end ∙ sym e ∙ d)
          ∙ ap (λ (m : ℕ). text_of (Stopped m x.offset)) (sym q)
          ∙ sym (put_there before after 0 (text_of (Stopped n x.offset)) p (omega arith) s).0
          ∙ sym (append-nil (take p after));
      progress = λ _ s. absurd (s refl);
    }

pub ruleset laws = (wrote_first, wrote_nothing, first_room, waits, makes_sizes, begins, refuses, rules)
