-- `empty_cache::make_parts` meets its contract. Assumes nothing.
use Rattle.empty_cache.proofs.Laws.{laws, parts_made}
use Rattle.empty_cache.proofs.make_parts.Goals as goal

pub make_residents-requires : goal.make_residents-requires
make_residents-requires c = search laws

pub make_ghosts-requires : goal.make_ghosts-requires
make_ghosts-requires c = search laws

pub make_ghosts-requires-2 : goal.make_ghosts-requires-2
make_ghosts-requires-2 c = search laws

pub make_lookup-requires : goal.make_lookup-requires
make_lookup-requires c = search laws

pub set_target-requires : goal.set_target-requires
set_target-requires c = search laws

pub returns : goal.returns
returns c =
    parts_made _ _ _ _ _ _ _
    c.make_residents.ensures
    c.make_ghosts.ensures
    c.make_ghosts-2.ensures
    c.make_lookup.ensures
    c.set_target.ensures
