-- THE CONTRACTS IN THE RULES' WORDS: on a writing of a well-formed state a call gives and leaves what the rules say, a
-- writing again; on any other words it is refused with 3 and changes nothing. In order: any call; single calls and
-- questions (batches and listings: crates batch and listing); `new`. Assumes nothing.
use mathlib.Core.Path.{◌≡◌, refl, ap, ◌∙◌}
use mathlib.Core.List.{List}
use mathlib.Core.Option.{some, none}
use Prim.Native.Nat.{ℕ, ◌+◌, ◌*◌, ◌≤◌}
use lib.ListN.{length, drop}
use borrow.Author.Tests.{lt-ltb, le-ltb}
use Rattle.rules.specs.Calls.{Call, Question, Ask, Answer, Made, Refused, done}
use Rattle.rules.specs.Public.{words_needed, made}
use Rattle.area.specs.Area.{capacity_of}
use Rattle.area.specs.Stored.{state_in}
use Rattle.state_check.specs.Check.{Words}
use Rattle.state_check.proofs.State.{state_writes}
use Rattle.contracts.specs.Policy.{Policy, reads}
use Rattle.contracts.specs.Outer.{Outcome, Told, Making}
use Rattle.contracts.specs.Writing.{WritingOf, ByRules, CallByRules, NewExactly}
use Rattle.contracts.proofs.Exact.{Exact}
use Rattle.contracts.proofs.Reading.{reads_is, reads_sound, reads_complete, none_complete}
use Rattle.contracts.proofs.Outcomes.{outcome_is, outcome_refused, told_outcome}

module _ (P : Policy) (e : Exact P) where
  -- ---- any call, from what it gives and leaves by what the words read as
  pub by_rules : {X : Type 0} (gives : P.State → X) (after : P.State → P.State) (kept : X) (w v : List ℕ) (x : X)
      → Words w
      → Words v
      → ((t : P.State) → reads P w ≡ some t → (x ≡ gives t) × (reads P v ≡ some (after t)))
      → (reads P w ≡ none → (x ≡ kept) × (v ≡ w))
      → length v ≡ length w
      → drop (words_needed (capacity_of w)) v ≡ drop (words_needed (capacity_of w)) w
      → ByRules P gives after kept w v x
  by_rules gives after kept w v x words words_left on off size rest =
      record {
        given = λ t y. (on t (reads_complete P e w t y)).0;
        left = λ t y. reads_sound P e v (after t) words_left (on t (reads_complete P e w t y)).1;
        refused = λ n. (off (none_complete P e w words n)).0;
        unchanged = λ n. (off (none_complete P e w words n)).1;
        size = size;
        rest = rest;
      }

  -- ---- a single call
  pub call_by_rules : (k : Call) (w v : List ℕ) (a : Answer)
      → Words w
      → Words v
      → Outcome P k w v a
      → CallByRules P k w v a
  call_by_rules k w v a words words_left o =
      by_rules (λ t. (P.does k t).answer) (λ t. (P.does k t).state) (Refused 3) w v a words words_left
      (λ t r. outcome_is P k w v a t o r)
      (λ r. outcome_refused P k w v a o r)
      o.size
      o.rest

  -- a question leaves the words
  pub question_by_rules : (q : Question) (w : List ℕ) (a : Answer)
      → Words w
      → Told P q w a
      → CallByRules P (Ask q) w w a
  question_by_rules q w a words t = call_by_rules (Ask q) w w a words words (told_outcome P e q w a t)

  -- ---- `new`
  -- words that read as an empty cache are a writing of it
  new_writing : (c : ℕ) (v : List ℕ) → c ≤ 1024 → reads P v ≡ some (P.new c) → WritingOf P v (P.new c)
  new_writing c v h r =
      let q = reads_is P v (P.new c) r in
      record {
        state = state_in (capacity_of v) v;
        writes = state_writes P.kind v q.0;
        view = q.1;
        well = e.new_well c h;
      }

  pub new_exactly : (c : ℕ) (w v : List ℕ) (a : Answer) → Making P c w v a → NewExactly P c w v a
  unfolding made
  new_exactly c w v a m =
      let l = length w in
      let need = 24 * c + 64 in
      record {
        too_large =
            λ h.
            let q : done a (reads P v) ≡ done (Refused 1) (reads P w) = m.is ∙ rw (lt-ltb 1024 c h) refl in
            ap (λ d. d.answer) q;
        too_short =
            λ h k.
            let q : done a (reads P v) ≡ done (Refused 2) (reads P w)
            = m.is ∙ rw (le-ltb 1024 c h, lt-ltb l need k) refl in
            ap (λ d. d.answer) q;
        makes =
            λ h k.
            let q : done a (reads P v) ≡ done Made (some (P.new c))
            = m.is ∙ rw (le-ltb 1024 c h, le-ltb l need k) refl in
            (ap (λ d. d.answer) q, new_writing c v h (ap (λ d. d.state) q));
        unchanged = m.refused;
        size = m.size;
        rest = m.rest;
      }
