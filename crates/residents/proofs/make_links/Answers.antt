-- `residents::make_links` meets its contract. Each call asks the room that was there at entry. Assumes nothing.
use Rattle.residents.proofs.Making.{asks_first, asks_second, asks_third, gives_links}
use Rattle.residents.proofs.make_links.Goals as goal

pub empty-requires : goal.empty-requires
empty-requires c = search asks_first

pub empty-requires-2 : goal.empty-requires-2
empty-requires-2 c = search asks_second

pub fill-requires : goal.fill-requires
fill-requires c = asks_third _ _ c.requires _ c.empty.ensures _ c.empty-2.ensures

pub returns : goal.returns
returns c = gives_links _ _ c.requires _ c.empty.ensures _ c.empty-2.ensures _ c.fill.ensures
