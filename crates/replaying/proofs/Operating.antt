-- Operations one after the other. In order: one operation of an input of which only the first bytes are at hand; the loop's invariant; where the loop pauses;
-- one more operation; the end, and a refusal. Assumes nothing.
use mathlib.Core.Path.{◌≡◌, refl, sym, subst, ap, ◌∙◌}
use mathlib.Core.Bool.{Bool, true, false, cond}
use mathlib.Core.List.{List, [], ◌∷◌, ◌++◌, append_assoc, append-nil}
use Prim.Native.Nat.{ℕ, zero, suc, ◌+◌, ◌-◌, ◌^◌, ◌<◌, ◌≤◌}
use native.Mathlib.Nat.{add-zero}
use native.Mathlib.Omega.{arith}
use mir.Val.{Fits}
use mir.Syntax.{w64}
use lib.Dec.{eqb}
use lib.ListN.{length, take, drop, length-drop}
use lib.Seq.{drop-drop, drop-append-le}
use borrow.Author.Rules.{rules}
use borrow.Author.Rules.{part_to_end}
use Rattle.std.specs.Prelude.{Ok, Err}
use Rattle.refusals.specs.declared.Refusal.{Refusal}
use Rattle.refusals.specs.Refusals.{number_of}
use Rattle.numbers.specs.Reading.{Number, page_of, frame_of}
use Rattle.trace.specs.Reading.{Parsed, whole, refused, with_page, with_frame, with_both, operation_of}
use Rattle.trace.specs.Steps.{stepped, step_at}
use Rattle.trace.specs.declared.Operation.{Operation}
use Rattle.trace.specs.declared.Operation.TheVariants.{Get, Remove, Peek}
use Rattle.trace.specs.declared.Found.{Found}
use Rattle.trace.specs.declared.Found.TheVariants.{Read, End, Refused}
use Rattle.trace.specs.declared.Step.{Step}
use Rattle.trace.proofs.Arms.{part}
use Rattle.trace.proofs.Laws.{sound, numbered}
use Rattle.trace.proofs.Prefix.{operation_prefix}
use Rattle.rules.specs.Calls.{Call, Done, Answer, Finished, Stopped}
use Rattle.rules.specs.Batch.{call_of, batch}
use Rattle.rules.specs.Program.{text_of}
use Rattle.rules.specs.Public.{words_needed}
use Rattle.answers.specs.Answers.{reply_is}
use Rattle.answers.specs.declared.Reply.{Reply}
use Rattle.lines.specs.Lines.{line_room, LineRoom, Put}
use Rattle.contracts.specs.Policy.{Policy, policy_of, state_of}
use Rattle.contracts.specs.Inner.{Good, Did}
use Rattle.replaying.specs.declared.Running as declared
use Rattle.replaying.specs.declared.Replay.TheVariants.{Running, Ended}
use Rattle.replaying.specs.Pending.{told_after, pending}
use Rattle.replaying.specs.Feeding.{needed, Feeds, Wrote}
use Rattle.replaying.specs.Asked.{Runs}
use Rattle.replaying.proofs.Batches.{run_end, run_whole, run_refused, told_next, told_end, told_stop}
use Rattle.replaying.proofs.Beginning.{put_there}

-- ---- one operation, of the bytes l, which rest follows
-- with the bytes that are needed at hand, or with all, the operation is the one of the whole input
operation_given : (last : Bool) (b : ℕ) (bs rest : List ℕ) → needed last ≤ length (b ∷ bs) → (last ≡ true → rest ≡ []) → operation_of b (bs ++ rest) ≡ operation_of b bs
operation_given true b bs rest h e = ap (operation_of b) (ap (λ (l : List ℕ). bs ++ l) (e refl) ∙ append-nil bs)
operation_given false b bs rest h e = operation_prefix b bs rest (omega arith)

-- a refusal's offset lies within the bytes
abbrev Placed : ℕ → Parsed → Type 0
Placed n (whole op used) = Unit {0}
Placed n (refused r place) = place ≤ n

placed_page : (n : ℕ) (op : ℕ → Operation) (r : Number) → Placed n (with_page op r)
placed_page n op (Ok page) = tt
placed_page n op (Err f) = omega arith

placed_both : (n : ℕ) (bs : List ℕ) (r : Number) → Placed n (with_both bs r)
placed_both n bs (Ok page) = by (frame_of (drop page.used bs))
  where
    by : (f : Number) → Placed n (with_frame page.value (1 + page.used) f)
    by (Ok frame) = tt
    by (Err f) = omega arith
placed_both n bs (Err f) = omega arith

either : (P : Parsed → Type 0) (x : Bool) (a b : Parsed) → P a → P b → P (cond x a b)
either P true a b p q = p
either P false a b p q = q

placed : (n code : ℕ) (bs : List ℕ) → Placed n (operation_of code bs)
unfolding operation_of
placed n code bs =
    either (Placed n) (eqb code 1) _ _ (placed_page n Get (page_of bs))
    (either (Placed n) (eqb code 2) _ _ (placed_both n bs (page_of bs))
    (either (Placed n) (eqb code 3) _ _ (placed_page n Remove (page_of bs))
    (either (Placed n) (eqb code 4) _ _ tt
    (either (Placed n) (eqb code 5) _ _ (placed_page n Peek (page_of bs)) (omega arith)))))

nothing_follows : (last : Bool) (rest : List ℕ) → needed last ≤ 0 → (last ≡ true → rest ≡ []) → rest ≡ []
nothing_follows true rest h e = e refl
nothing_follows false rest h e = absurd (omega arith)

module _ {S : Type 0} (does : Call → S → Done S) (s : S) where
  -- the lines of the bytes l from the offset o on, and then of what follows, after n operations
  abbrev telling : ℕ → ℕ → List ℕ → List ℕ
  telling o n l = told_after n (batch does o l s)

  -- an operation of the bytes up to the place c
  pub record Moved (at o n c : ℕ) (l rest : List ℕ) (op : Operation) : Type 0 where
    pub past : at < c
    pub inside : c ≤ at + length l
    pub is : telling o n (l ++ rest) ≡ text_of (does (call_of op) s).answer ++ told_after (n + 1) (batch does (o + (c - at)) (drop (c - at) l ++ rest) (does (call_of op) s).state)

  -- a refusal, whose offset lies within the bytes
  pub record Halted (at o n : ℕ) (l rest : List ℕ) (r : Refusal) (q : ℕ) : Type 0 where
    pub past : at ≤ q
    pub inside : q ≤ at + length l
    pub is : telling o n (l ++ rest) ≡ text_of (Stopped (number_of r) (o + (q - at)))

  -- what a cursor at the place `at` found at the start of the bytes l, with their offset o; it is at the place c then
  abbrev pub Found_is : ℕ → ℕ → ℕ → ℕ → List ℕ → List ℕ → Found → Type 0
  Found_is at o n c l rest (Read op) = Moved at o n c l rest op
  Found_is at o n c l rest End = telling o n (l ++ rest) ≡ text_of (Finished n)
  Found_is at o n c l rest (Refused r q) = Halted at o n l rest r q

  abbrev Step_is : ℕ → ℕ → ℕ → List ℕ → List ℕ → Step → Type 0
  Step_is at o n l rest x = Found_is at o n x.cursor.at l rest x.found

  parsed_is : (at o n b : ℕ) (bs rest : List ℕ) (x : Parsed) → operation_of b bs ≡ x → operation_of b (bs ++ rest) ≡ x → Step_is at o n (b ∷ bs) rest (stepped at x)
  parsed_is at o n b bs rest (whole op used) e d =
      let z = sound b bs op used e in
      let k : at + used - at ≡ used = omega arith in
      let t = (does (call_of op) s).state in
      record {
        past = omega (arith, z.some);
        inside = omega (arith, z.there);
        is =
            ap (told_after n) (run_whole does o b (bs ++ rest) s op used d)
            ∙ told_next n _ _
            ∙ ap (λ (l : List ℕ). text_of (does (call_of op) s).answer ++ told_after (n + 1) (batch does (o + used) l t)) (drop-append-le used (b ∷ bs) rest z.there)
            ∙ ap (λ (m : ℕ). text_of (does (call_of op) s).answer ++ told_after (n + 1) (batch does (o + m) (drop m (b ∷ bs) ++ rest) t)) (sym k);
      }
  parsed_is at o n b bs rest (refused r place) e d =
      let k : at + place - at ≡ place = omega arith in
      let near : Placed (length (b ∷ bs)) (refused r place) = subst (Placed (length (b ∷ bs))) e (placed (length (b ∷ bs)) b bs) in
      record {
        past = omega arith;
        inside = omega (arith, near);
        is =
            ap (told_after n) (run_refused does o b (bs ++ rest) s r place d)
            ∙ told_stop n r (o + place) s (numbered b bs r place e)
            ∙ ap (λ (m : ℕ). text_of (Stopped (number_of r) (o + m))) (sym k);
      }

  pub step_is : (last : Bool) (at o n : ℕ) (l rest : List ℕ) → needed last ≤ length l → (last ≡ true → rest ≡ []) → Step_is at o n l rest (step_at at l)
  unfolding step_at
  step_is last at o n [] rest h e =
      ap (λ (l : List ℕ). telling o n l) (nothing_follows last rest h e) ∙ ap (told_after n) (run_end does o s) ∙ told_end n o s
  step_is last at o n (b ∷ bs) rest h e = parsed_is at o n b bs rest (operation_of b bs) refl (operation_given last b bs rest h e)

-- ---- the loop's invariant: the bytes before the place `at` are used up, n operations were done, and the lines of those since the start of the loop
-- stand in the buffer before the place `put`
-- the replay g, at bytes later, with n operations done
abbrev pub on_from : declared.Running → ℕ → ℕ → declared.Running
on_from g at n = record { kind = g.kind; c = g.c; offset = g.offset + at; done = n }

pub record RunTo (g : declared.Running) (w bytes : List ℕ) (last : Bool) (before : List ℕ) (need : ℕ) (v out : List ℕ) (at n put : ℕ) : Type 0 where
  pub needs : need ≡ needed last
  pub fits : g.offset + length bytes < 2 ^ 64
  pub room : line_room ≤ length out
  pub inside : at ≤ length bytes
  pub few : n ≤ g.offset + at
  pub good : Good (policy_of g.kind) g.c v
  pub filled : put ≤ length out
  pub words : length v ≡ length w
  pub past : drop (words_needed g.c) v ≡ drop (words_needed g.c) w
  pub size : length out ≡ length before
  pub none : at ≡ 0 → put ≡ 0
  pub told : (rest : List ℕ) → (last ≡ true → rest ≡ [])
      → pending (Running g) w (bytes ++ rest) ≡ take put out ++ pending (Running (on_from g at n)) v (drop at bytes ++ rest)

pub starts : (g : declared.Running) (w bytes : List ℕ) (last : Bool) (out : List ℕ) (need : ℕ) → Runs g w bytes out → need ≡ needed last
    → RunTo g w bytes last out need w out 0 g.done 0
starts g w bytes last out need r e =
    record {
      needs = e;
      fits = r.fits;
      room = r.room;
      inside = omega arith;
      few = omega (arith, r.going.few);
      good = r.going.good;
      filled = omega arith;
      words = refl;
      past = refl;
      size = refl;
      none = λ z. refl;
      told = λ rest end. rw (add-zero g.offset) refl;
    }

module _ (g : declared.Running) (w bytes : List ℕ) (last : Bool) (before : List ℕ) (need : ℕ) (v out : List ℕ) (at n put : ℕ)
    (i : RunTo g w bytes last before need v out at n put) where
  pub at_inside : at ≤ length bytes
  at_inside = i.inside

  pub put_inside : put ≤ length out
  put_inside = i.filled

  pub same_words : length v ≡ length w
  same_words = i.words

  pub same_size : length out ≡ length before
  same_size = i.size

  pub offset_fits : Fits w64 (g.offset + at)
  offset_fits = omega (arith, i.fits, i.inside)

  pub wrote_so_far : Wrote put before out
  wrote_so_far = record { there = i.filled; size = i.size }

  -- ---- where the loop pauses: for more bytes, or for more room
  paused : (needed last ≤ length bytes → 1 ≤ at) → Feeds (Running g) w bytes last (Running (on_from g at n)) v at (take put out)
  paused h =
      record {
        inside = i.inside;
        ready = record { good = i.good; few = i.few };
        moved = omega arith;
        rest = i.past;
        told = λ fits rest end. i.told rest end;
        progress = λ e s. h e;
      }

  pub pauses_short : length bytes - at < need → Feeds (Running g) w bytes last (Running (on_from g at n)) v at (take put out)
  pauses_short h = paused (λ e. omega (arith, i.needs))

  pub pauses_full : length out - put < 43 → Feeds (Running g) w bytes last (Running (on_from g at n)) v at (take put out)
  pauses_full h = paused (λ e. by at refl)
    where
      by : (a : ℕ) → at ≡ a → 1 ≤ at
      by zero q = absurd (let z = i.none q in omega (arith, i.room, z))
      by (suc a) q = omega arith

  pub line_room_fact : 43 ≤ length out - put → LineRoom out put
  line_room_fact h = omega (arith, i.filled)

  -- ---- the cursor found something
  module _ (x : Step) (e : x ≡ step_at at (part bytes at)) (there : need ≤ length bytes - at) where
    found : (f : Found) → x.found ≡ f → (rest : List ℕ) → (last ≡ true → rest ≡ [])
        → Found_is (policy_of g.kind).does (state_of (policy_of g.kind) g.c v) at (g.offset + at) n x.cursor.at (drop at bytes) rest f
    found f is rest end =
        let q : step_at at (drop at bytes) ≡ x = ap (step_at at) (sym (part_to_end bytes at)) ∙ sym e in
        let P : Policy = policy_of g.kind in
        subst (Found_is P.does (state_of P g.c v) at (g.offset + at) n x.cursor.at (drop at bytes) rest) is
        (subst (λ (y : Step). Found_is P.does (state_of P g.c v) at (g.offset + at) n y.cursor.at (drop at bytes) rest y.found) q
        (step_is P.does (state_of P g.c v) last at (g.offset + at) n (drop at bytes) rest (omega (arith, i.needs, length-drop at bytes)) end))

    -- one more operation
    module _ (op : Operation) (is : x.found ≡ Read op) where
      moved : Moved (policy_of g.kind).does (state_of (policy_of g.kind) g.c v) at (g.offset + at) n x.cursor.at (drop at bytes) [] op
      moved = found (Read op) is [] (λ _. refl)

      pub more_inside : x.cursor.at ≤ length bytes
      more_inside = omega (arith, moved.inside, i.inside, length-drop at bytes)

      pub more_past : at < x.cursor.at
      more_past = moved.past

      pub falls : length bytes - x.cursor.at < length bytes - at
      falls = omega (arith, more_inside, more_past)

      pub one_more_fits : Fits w64 (n + 1)
      one_more_fits = omega (arith, i.fits, i.few, more_inside, more_past)

      pub again : (r : Reply) (u after : List ℕ) (p : ℕ) → Did (policy_of g.kind) (call_of op) g.c v u (reply_is r) → length after ≡ length out → Put out after put (text_of (reply_is r)) p
          → RunTo g w bytes last before need u after x.cursor.at (n + 1) p
      unfolding pending
      again r u after p d same s =
          let P : Policy = policy_of g.kind in
          let t = put_there out after put (text_of (reply_is r)) p i.filled s in
          let to : ℕ = x.cursor.at in
          let q : at + (to - at) ≡ to = omega (arith, more_past) in
          let l : drop (to - at) (drop at bytes) ≡ drop to bytes = drop-drop (to - at) at bytes ∙ ap (λ (a : ℕ). drop a bytes) q in
          let z : g.offset + at + (to - at) ≡ g.offset + to = omega (arith, more_past) in
          let D = P.does (call_of op) (state_of P g.c v) in
          let on : ℕ → List ℕ → P.State → List ℕ = λ a y s. told_after (n + 1) (batch P.does a y s) in
          record {
            needs = i.needs;
            fits = i.fits;
            room = omega (arith, i.room, same);
            inside = more_inside;
            few = omega (arith, i.few, more_past);
            good = d.good;
            filled = t.1;
            words = d.size ∙ i.words;
            past = d.rest ∙ i.past;
            size = same ∙ i.size;
            none = λ e. absurd (omega (arith, more_past));
            told = λ rest end.
                i.told rest end
                ∙ ap (λ (y : List ℕ). take put out ++ y) (found (Read op) is rest end).is
                ∙ sym (append_assoc (take put out) (text_of D.answer) (on (g.offset + at + (to - at)) (drop (to - at) (drop at bytes) ++ rest) D.state))
                ∙ ap (λ (a : Answer). take put out ++ text_of a ++ on (g.offset + at + (to - at)) (drop (to - at) (drop at bytes) ++ rest) D.state) (sym d.answer)
                ∙ ap (λ (y : List ℕ). y ++ on (g.offset + at + (to - at)) (drop (to - at) (drop at bytes) ++ rest) D.state) (sym t.0)
                ∙ ap (λ (y : P.State). take p after ++ on (g.offset + at + (to - at)) (drop (to - at) (drop at bytes) ++ rest) y) (sym d.state)
                ∙ ap (λ (y : List ℕ). take p after ++ on (g.offset + at + (to - at)) (y ++ rest) (state_of P g.c u)) l
                ∙ ap (λ (a : ℕ). take p after ++ on a (drop to bytes ++ rest) (state_of P g.c u)) z;
          }

    -- the end, and a refusal
    pub ends : x.found ≡ End → (after : List ℕ) (p : ℕ) → Put out after put (text_of (Finished n)) p → Feeds (Running g) w bytes last Ended v at (take p after)
    unfolding pending
    ends is after p s =
        record {
          inside = i.inside;
          ready = tt;
          moved = omega arith;
          rest = i.past;
          told = λ fits rest end.
              i.told rest end
              ∙ ap (λ (y : List ℕ). take put out ++ y) (found End is rest end)
              ∙ sym (put_there out after put (text_of (Finished n)) p i.filled s).0
              ∙ sym (append-nil (take p after));
          progress = λ _ y. absurd (y refl);
        }

    pub stop_fits : (r : Refusal) (q : ℕ) → x.found ≡ Refused r q → Fits w64 (g.offset + q)
    stop_fits r q is =
        let f = found (Refused r q) is [] (λ _. refl) in
        omega (arith, f.inside, i.fits, i.inside, length-drop at bytes)

    pub stops : (r : Refusal) (q h : ℕ) → x.found ≡ Refused r q → h ≡ number_of r → (after : List ℕ) (p : ℕ)
        → Put out after put (text_of (Stopped h (g.offset + q))) p
        → Feeds (Running g) w bytes last Ended v at (take p after)
    unfolding pending
    stops r q h is number after p s =
        record {
          inside = i.inside;
          ready = tt;
          moved = omega arith;
          rest = i.past;
          told = λ fits rest end.
              let f = found (Refused r q) is rest end in
              let z : g.offset + at + (q - at) ≡ g.offset + q = omega (arith, f.past) in
              i.told rest end
              ∙ ap (λ (y : List ℕ). take put out ++ y) (f.is ∙ ap (λ (y : ℕ). text_of (Stopped (number_of r) y)) z ∙ ap (λ (y : ℕ). text_of (Stopped y (g.offset + q))) (sym number))
              ∙ sym (put_there out after put (text_of (Stopped h (g.offset + q))) p i.filled s).0
              ∙ sym (append-nil (take p after));
          progress = λ _ y. absurd (y refl);
        }

pub wrote_last : (g : declared.Running) (w bytes : List ℕ) (last : Bool) (before : List ℕ) (need : ℕ) (v out : List ℕ) (at n put : ℕ)
    → RunTo g w bytes last before need v out at n put → (after text : List ℕ) (p : ℕ) → length after ≡ length out → Put out after put text p → Wrote p before after
wrote_last g w bytes last before need v out at n put i after text p same s =
    record { there = (put_there out after put text p i.filled s).1; size = same ∙ i.size }

pub ruleset laws =
    (starts, at_inside, put_inside, same_words, same_size, offset_fits, wrote_so_far, pauses_short, pauses_full, line_room_fact, more_inside, falls, one_more_fits, again, stop_fits, rules)

pub ruleset endings = (ends, stops, wrote_last, rules)
