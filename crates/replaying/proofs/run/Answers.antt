use borrow.Author.Rules.{rules}
use Rattle.replaying.proofs.Operating.{laws, ends, stops, wrote_last}
use Rattle.replaying.proofs.run.Goals as goal

pub bytes_needed-need-requires : goal.bytes_needed-need-requires
bytes_needed-need-requires c = search laws

pub loop-at-init : goal.loop-at-init
loop-at-init c = search laws

pub overflow_sub-bytes : goal.overflow_sub-bytes
overflow_sub-bytes c = search laws

pub overflow_add-here : goal.overflow_add-here
overflow_add-here c = search laws

pub returns-then-bytes-at : goal.returns-then-bytes-at
returns-then-bytes-at c = search laws

pub overflow_sub-out : goal.overflow_sub-out
overflow_sub-out c = search laws

pub returns-then-out-put-lt43 : goal.returns-then-out-put-lt43
returns-then-out-put-lt43 c = search laws

pub slice_bounds-next-count : goal.slice_bounds-next-count
slice_bounds-next-count c = search laws

pub slice_bounds-next-start : goal.slice_bounds-next-start
slice_bounds-next-start c = search laws

pub slice_bounds-next-end : goal.slice_bounds-next-end
slice_bounds-next-end c = search laws

pub next-step-requires : goal.next-step-requires
next-step-requires c = search laws

pub operate-reply-requires : goal.operate-reply-requires
operate-reply-requires c = search laws

pub put_reply-put-requires : goal.put_reply-put-requires
put_reply-put-requires c = search laws

pub overflow_add-n : goal.overflow_add-n
overflow_add-n c = search laws

pub loop-at-smaller : goal.loop-at-smaller
loop-at-smaller c = search laws

pub loop-at-preserved : goal.loop-at-preserved
loop-at-preserved c = search laws

pub put_end-written-requires : goal.put_end-written-requires
put_end-written-requires c = search laws

pub returns-in-End : goal.returns-in-End
returns-in-End c = record {
  feeds = ends _ _ _ _ _ _ _ _ _ _ _ c.loop-at.invariant _ c.next-step.ensures c.if-bytes-at.false (search rules) _ _ c.put_end-written.ensures;
  wrote = search wrote_last;
}

pub overflow_add-offset : goal.overflow_add-offset
overflow_add-offset c = search laws

pub put_stop-written-requires : goal.put_stop-written-requires
put_stop-written-requires c = search laws

pub returns-in-Refused : goal.returns-in-Refused
returns-in-Refused c = record {
  feeds = stops _ _ _ _ _ _ _ _ _ _ _ c.loop-at.invariant _ c.next-step.ensures c.if-bytes-at.false _ _ _ (search rules) c.number-number.ensures _ _ c.put_stop-written.ensures;
  wrote = search wrote_last;
}
