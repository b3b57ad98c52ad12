-- `guests::round` meets its contract: the check gives what the loop asks. Assumes nothing.
use mathlib.Core.Path.{sym, ap, ◌∙◌}
use Rattle.std.specs.Prelude.{is_ok}
use Rattle.guests.proofs.Laws.{laws, checked_ok}
use Rattle.guests.proofs.round.Goals as goal

pub returns-then-words-lt9600 : goal.returns-then-words-lt9600
returns-then-words-lt9600 c = search laws

pub returns-then-pages-guests : goal.returns-then-pages-guests
returns-then-pages-guests c = search laws

pub returns-then-frames-guests : goal.returns-then-frames-guests
returns-then-frames-guests c = search laws

pub check-requires : goal.check-requires
check-requires c = search laws

pub run-requires : goal.run-requires
run-requires c = search laws

pub returns-in_err-map_err : goal.returns-in_err-map_err
returns-in_err-map_err c = search laws

pub returns : goal.returns
returns c =
    let all = checked_ok _ _ c.check.ensures (sym c.map_err.ensures.variant ∙ ap is_ok c.in_ok-map_err.was) in
    (record { areas = search laws; even = search laws }, all, c.run.ensures)
