-- `rings::place` meets its contract. The cells that the stores touch are there, before each and after it. Assumes nothing.
use Rattle.rings.proofs.Needs.{place_first, place_second, place_third, place_fourth}
use Rattle.rings.proofs.place.Goals as goal

pub set_next-requires : goal.set_next-requires
set_next-requires c = search place_first

pub set_prev-requires : goal.set_prev-requires
set_prev-requires c = search place_second

pub set_prev-requires-2 : goal.set_prev-requires-2
set_prev-requires-2 c = place_third _ _ _ _ _ c.requires c.set_next.ensures _ c.set_prev.ensures

pub set_next-requires-2 : goal.set_next-requires-2
set_next-requires-2 c = place_fourth _ _ _ _ _ c.requires c.set_next.ensures _ c.set_prev.ensures _ c.set_prev-2.ensures

pub returns : goal.returns
returns c = cc
