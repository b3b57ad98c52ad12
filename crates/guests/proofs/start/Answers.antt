-- `guests::start` meets its contract: what lies outside the lent words is as it was. Assumes nothing.
use Rattle.area.specs.Part.{part, splice}
use Rattle.guests.proofs.Laws.{laws, started}
use Rattle.guests.proofs.start.Goals as goal

pub overflow_mul-a : goal.overflow_mul-a
overflow_mul-a c = search laws

pub overflow_add-b : goal.overflow_add-b
overflow_add-b c = search laws

pub offset_bounds-words-a : goal.offset_bounds-words-a
offset_bounds-words-a c = search laws

pub slice_bounds-new-count : goal.slice_bounds-new-count
slice_bounds-new-count c = search laws

pub slice_bounds-new-start : goal.slice_bounds-new-start
slice_bounds-new-start c = search laws

pub slice_bounds-new-end : goal.slice_bounds-new-end
slice_bounds-new-end c = search laws

pub new-requires : goal.new-requires
new-requires c = search laws

pub returns : goal.returns
unfolding part splice
returns c = started _ _ _ _ _ c.requires.1 c.requires.0 c.new.ensures
