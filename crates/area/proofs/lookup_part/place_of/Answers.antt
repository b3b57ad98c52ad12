use Rattle.area.proofs.Laws.{laws, lookup_cut, place_at_lem}
use Rattle.area.proofs.lookup_part.place_of.Goals as goal

pub place_of-requires : goal.place_of-requires
place_of-requires c = rw (lookup_cut _ _ _ c.words.ensures) (search laws)

pub returns : goal.returns
returns c = place_at_lem _ _ _ _ _ _ c.buckets_of-k.ensures (rw (lookup_cut _ _ _ c.words.ensures) at c.place_of.ensures)
