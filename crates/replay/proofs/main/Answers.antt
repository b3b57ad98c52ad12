-- `replay::main` meets its contract. Assumes nothing.
use Rattle.replay.proofs.Laws.{laws}
use Rattle.replay.proofs.main.Goals as goal

pub area-area-requires : goal.area-area-requires
area-area-requires c = search laws

pub large_buffer-bytes-requires : goal.large_buffer-bytes-requires
large_buffer-bytes-requires c = search laws

pub lines-out-requires : goal.lines-out-requires
lines-out-requires c = search laws

pub slice_bounds-replay_all-end : goal.slice_bounds-replay_all-end
slice_bounds-replay_all-end c = search laws

pub slice_bounds-replay_all-end-2 : goal.slice_bounds-replay_all-end-2
slice_bounds-replay_all-end-2 c = search laws

pub slice_bounds-replay_all-end-3 : goal.slice_bounds-replay_all-end-3
slice_bounds-replay_all-end-3 c = search laws

pub replay_all-requires : goal.replay_all-requires
replay_all-requires c = search laws

pub returns : goal.returns
returns c = search laws
