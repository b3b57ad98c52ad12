-- `empty_cache::clear` meets its contract. Assumes nothing.
use Rattle.empty_cache.proofs.Laws.{laws, cleared}
use Rattle.empty_cache.proofs.clear.Goals as goal

pub make_parts-requires : goal.make_parts-requires
make_parts-requires c = search laws

pub returns : goal.returns
returns c = search cleared
