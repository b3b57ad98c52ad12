-- `guests::serve` meets its contract: what lies outside the lent words is as it was. Assumes nothing.
use Rattle.area.specs.Part.{part, splice}
use Rattle.guests.proofs.Laws.{laws, alone}
use Rattle.guests.proofs.serve.Goals as goal

pub overflow_mul-a : goal.overflow_mul-a
overflow_mul-a c = search laws

pub overflow_add-b : goal.overflow_add-b
overflow_add-b c = search laws

pub offset_bounds-words-a : goal.offset_bounds-words-a
offset_bounds-words-a c = search laws

pub slice_bounds-fault-count : goal.slice_bounds-fault-count
slice_bounds-fault-count c = search laws

pub slice_bounds-fault-start : goal.slice_bounds-fault-start
slice_bounds-fault-start c = search laws

pub slice_bounds-fault-end : goal.slice_bounds-fault-end
slice_bounds-fault-end c = search laws

pub fault-requires : goal.fault-requires
unfolding part
fault-requires c = c.requires.0.each _ c.requires.1

pub returns : goal.returns
unfolding part splice
returns c = alone _ _ _ _ _ _ c.requires.1 c.requires.0.size c.fault.ensures
