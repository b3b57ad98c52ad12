-- The laws of `store`, together. Assumes nothing.
use borrow.Author.Rules.{rules}
use Rattle.store.proofs.Slots.{slot_fits, place_fits, resident_fits, frame_reads, frame_fits, bit_reads, page_reads, frame_left, bit_left, front_left, end_left, remove_takes, remove_left, target_left}
use Rattle.store.proofs.Finding.{may_look, finds_slot, finds_b1, finds_b2, finds_nowhere}
use Rattle.store.proofs.Ghosts.{ghost_low, forget_takes, forget_left, oldest_low, oldest_left, listed_is_lem, recorded_is}
use Rattle.store.proofs.Ends.{first_is, last_is}
use Rattle.store.proofs.Order.{start_is, next_is, taken_is}

pub ruleset laws = (
  slot_fits,
  place_fits,
  resident_fits,
  frame_reads,
  frame_fits,
  bit_reads,
  page_reads,
  frame_left,
  bit_left,
  front_left,
  end_left,
  remove_takes,
  remove_left,
  target_left,
  may_look,
  finds_slot,
  finds_b1,
  finds_b2,
  finds_nowhere,
  ghost_low,
  forget_takes,
  forget_left,
  oldest_low,
  oldest_left,
  listed_is_lem,
  recorded_is,
  first_is,
  last_is,
  start_is,
  next_is,
  taken_is,
  rules,
)
