use Rattle.area.proofs.Laws.{laws, lookup_cut, found_at}
use Rattle.area.proofs.lookup_part.find.Goals as goal

pub find-requires : goal.find-requires
find-requires c = rw (lookup_cut _ _ _ c.words.ensures) (search laws)

pub returns : goal.returns
returns c = found_at _ _ _ _ _ _ c.buckets_of-k.ensures (rw (lookup_cut _ _ _ c.words.ensures) at c.find.ensures)
