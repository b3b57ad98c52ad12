-- THE THEOREM of the replay program: "for any way of cutting the input into pieces the output is the definition's". Assumes nothing.
use mathlib.Core.Path.{◌≡◌, refl, sym, ap, ◌∙◌}
use mathlib.Core.Bool.{true}
use mathlib.Core.List.{List, [], ◌∷◌, ◌++◌, append_assoc}
use Prim.Native.Nat.{ℕ, ◌+◌, ◌^◌, ◌<◌, ◌≤◌}
use native.Mathlib.Omega.{arith}
use lib.ListN.{length, drop, length-append, length-drop}
use borrow.Author.Tests.{ltb-true}
use Rattle.rules.specs.Program.{program}
use Rattle.replaying.specs.declared.Replay.{Replay}
use Rattle.replaying.specs.declared.Replay.TheVariants.{Start, Ended}
use Rattle.replaying.specs.Pending.{pending, offset_of}
use Rattle.replaying.specs.Feeding.{Feeds, Turn, pieces_of, output_of, Run, LinkIs, Chain, Fills}

-- from wherever a run starts: its output is what was still to be told
pub run_tells : (r : Replay) (w kept : List ℕ) (ts : List Turn) (unread : List ℕ) → Run r w kept ts unread → offset_of r + length (kept ++ pieces_of ts) < 2 ^ 64
    → output_of ts ≡ pending r w (kept ++ (pieces_of ts ++ unread))
unfolding pending
run_tells r w kept [] unread e h = sym (ap (λ (s : Replay). pending s w (kept ++ unread)) e)
run_tells r w kept (t ∷ ts) unread (turn, more) h =
    let left = drop t.used (kept ++ t.piece) in
    let rest = pieces_of ts ++ unread in
    let f = turn.feeds in
    let whole = length-append (kept ++ t.piece) (pieces_of ts) in
    let apart : length (kept ++ t.piece ++ pieces_of ts) ≡ length (kept ++ (t.piece ++ pieces_of ts)) = ap length (append_assoc kept t.piece (pieces_of ts)) in
    let fits : offset_of t.replay + length (left ++ pieces_of ts) < 2 ^ 64 =
    omega (arith, f.moved, f.inside, whole, apart, length-append left (pieces_of ts), length-drop t.used (kept ++ t.piece)) in
    ap (λ (l : List ℕ). t.written ++ l) (run_tells t.replay t.area left ts unread more fits)
    ∙ sym (f.told (omega (arith, whole, apart)) rest turn.end)
    ∙ ap (pending r w) (append_assoc kept t.piece rest ∙ ap (λ (l : List ℕ). kept ++ l) (sym (append_assoc t.piece (pieces_of ts) unread)))

-- "for any way of cutting the input into pieces the output is the definition's": for any feeds one after the other from the start to the end, whose pieces
-- together and what is not read after the end are the input
pub any_pieces : (w : List ℕ) (ts : List Turn) (unread input : List ℕ) → Run Start w [] ts unread → pieces_of ts ++ unread ≡ input → length input < 2 ^ 64
    → output_of ts ≡ program input
unfolding pending
any_pieces w ts unread input run e h =
    run_tells Start w [] ts unread run (omega (arith, length-append (pieces_of ts) unread, ap length e)) ∙ ap program e

-- any two ways give the same output
pub same_output : (w v : List ℕ) (ts us : List Turn) (after beyond input : List ℕ) → Run Start w [] ts after → Run Start v [] us beyond
    → pieces_of ts ++ after ≡ input → pieces_of us ++ beyond ≡ input → length input < 2 ^ 64 → output_of ts ≡ output_of us
same_output w v ts us after beyond input one other e d h =
    any_pieces w ts after input one e h ∙ sym (any_pieces v us beyond input other d h)

-- ---- a program that reads into a buffer
chain_runs : (size : ℕ) (r : Replay) (w kept : List ℕ) (ts : List Turn) (s : Replay) (v left unread : List ℕ) → Chain size r w kept ts s v left → s ≡ Ended
    → Fills size kept ts unread → Run r w kept ts unread
chain_runs size r w kept [] s v left unread (e, _) ended fills = sym e ∙ ended
chain_runs size r w kept (t ∷ ts) s v left unread (link, more) ended (full, fills) = (
  record { feeds = link.feeds; end = λ e. full (ltb-true (length (kept ++ t.piece)) size (sym link.last ∙ e)) },
  chain_runs size t.replay t.area (drop t.used (kept ++ t.piece)) ts s v left unread more ended fills,
)

-- whatever the size of the buffer: where turns led from the start to the end, and reading filled the buffer as long as there was more, the output is the definition's
pub any_buffer : (size : ℕ) (w : List ℕ) (ts : List Turn) (v left unread input : List ℕ) → Chain size Start w [] ts Ended v left → Fills size [] ts unread
    → pieces_of ts ++ unread ≡ input → length input < 2 ^ 64 → output_of ts ≡ program input
any_buffer size w ts v left unread input chain fills e h =
    any_pieces w ts unread input (chain_runs size Start w [] ts Ended v left unread chain refl fills) e h

-- one turn more
pub chain_more : (size : ℕ) (r : Replay) (w kept : List ℕ) (ts : List Turn) (s : Replay) (v left : List ℕ) (t : Turn) → Chain size r w kept ts s v left
    → LinkIs size s v left t → Chain size r w kept (ts ++ t ∷ []) t.replay t.area (drop t.used (left ++ t.piece))
chain_more size r w kept [] s v left t (e, (d, l)) link = (rw (sym e, sym d, sym l) link, (refl, (refl, ap (λ (k : List ℕ). drop t.used (k ++ t.piece)) l)))
chain_more size r w kept (u ∷ ts) s v left t (first, more) link =
    (first, chain_more size u.replay u.area (drop u.used (kept ++ u.piece)) ts s v left t more link)

-- ---- and it ends
-- feeds with no more of the input to come, none of which ends the replay
abbrev pub Lingers : Replay → List ℕ → List ℕ → List Turn → Type 0
Lingers r w bytes [] = Unit {0}
Lingers r w bytes (t ∷ ts) =
    Feeds r w bytes true t.replay t.area t.used t.written × ((t.replay ≡ Ended → ⊥) × Lingers t.replay t.area (drop t.used bytes) ts)

-- once all of the input is read, there are no more such feeds than bytes: the next one ends it
pub lingers_few : (r : Replay) (w bytes : List ℕ) (ts : List Turn) → Lingers r w bytes ts → length ts ≤ length bytes
lingers_few r w bytes [] h = omega arith
lingers_few r w bytes (t ∷ ts) (f, (n, more)) =
    omega (arith, f.inside, f.progress (omega arith) n, length-drop t.used bytes, lingers_few t.replay t.area (drop t.used bytes) ts more)
