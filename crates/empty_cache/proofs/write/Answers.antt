-- `empty_cache::write` meets its contract. Assumes nothing.
use Rattle.empty_cache.proofs.Laws.{laws, written}
use Rattle.empty_cache.proofs.write.Goals as goal

pub set_header-requires : goal.set_header-requires
set_header-requires c = search laws

pub make_parts-requires : goal.make_parts-requires
make_parts-requires c = search laws

pub returns : goal.returns
returns c = search written
