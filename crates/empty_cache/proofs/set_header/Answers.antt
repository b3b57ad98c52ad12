-- `empty_cache::set_header` meets its contract. Assumes nothing.
use lib.ListN.{length-set}
use Rattle.empty_cache.proofs.Laws.{laws, headed_is}
use Rattle.empty_cache.proofs.set_header.Goals as goal

pub bounds-area-0 : goal.bounds-area-0
bounds-area-0 c = search laws

pub bounds-area-1 : goal.bounds-area-1
bounds-area-1 c = simp length-set (search laws)

pub buckets_of-k-requires : goal.buckets_of-k-requires
buckets_of-k-requires c = search laws

pub inverse_of-inverse-requires : goal.inverse_of-inverse-requires
inverse_of-inverse-requires c = search laws

pub bounds-area-3 : goal.bounds-area-3
bounds-area-3 c = simp length-set (search laws)

pub returns : goal.returns
returns c = search headed_is
