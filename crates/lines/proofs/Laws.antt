-- What answers the needs of `lines`. Assumes nothing.
use borrow.Author.Rules.{rules}
use Rattle.lines.proofs.Puts.{put_nothing, put_both, room_first, room_second}
use Rattle.lines.proofs.Numbering.{higher_room, small_fits, last_fits, behind_fits, number_small, number_large}
use Rattle.lines.proofs.Texts.{word_room, line_room_fact, frame_room, no_line, page_room, after_page_room, page_and_frame, place_room, victim_line, place_told, place_word_room, refusal_room, offset_room, stop_line}

pub ruleset laws = (higher_room, small_fits, last_fits, behind_fits, number_small, number_large, put_nothing, put_both, room_first, room_second, rules)

pub ruleset texts = (word_room, line_room_fact, frame_room, no_line, page_room, after_page_room, page_and_frame, place_room, victim_line, place_told, place_word_room, refusal_room, offset_room, stop_line, rules)
