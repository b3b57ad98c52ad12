-- `replay::write` meets its contract. Assumes nothing.
use Rattle.replay.proofs.Laws.{laws}
use Rattle.replay.proofs.write.Goals as goal

pub slice_bounds-write_all-end : goal.slice_bounds-write_all-end
slice_bounds-write_all-end c = search laws

pub write_all-is_written-requires : goal.write_all-is_written-requires
write_all-is_written-requires c = search laws

pub returns-in-Start : goal.returns-in-Start
returns-in-Start c = search laws

pub returns-in-Running : goal.returns-in-Running
returns-in-Running c = search laws

pub returns-in-Ended : goal.returns-in-Ended
returns-in-Ended c = search laws
