use Rattle.std.proofs.Common.{rules, arith, length-take}
use Rattle.listing.proofs.Looping.{listing_refused, listing_fits, listing_stands, listing_goes_on, listing_ends}
use Rattle.listing.proofs.list.Goals as goal

pub returns-in_err-p : goal.returns-in_err-p
returns-in_err-p c = listing_refused _ _ _ _ c.prepare.ensures _ _ c.in_err-p.was (search rules)

pub slice_bounds-r-items-end : goal.slice_bounds-r-items-end
slice_bounds-r-items-end c = listing_fits _ _ _ _ c.prepare.ensures _ c.in_ok-p.was

pub slice_bounds-r-items-end-2 : goal.slice_bounds-r-items-end-2
slice_bounds-r-items-end-2 c = let h = listing_fits _ _ _ _ c.prepare.ensures _ c.in_ok-p.was in omega (arith, length-take {A = _} c.in_ok-p.p.count c.args.records.now)

pub advance-s-requires : goal.advance-s-requires
advance-s-requires c = listing_stands _ _ _ _ _ _ _ c.loop-r.invariant c.loop-r-test.true

pub loop-r-preserved : goal.loop-r-preserved
loop-r-preserved c = listing_goes_on _ _ _ _ _ _ _ c.loop-r.invariant c.loop-r-test.true _ c.advance-s.ensures

pub returns : goal.returns
returns c = listing_ends _ _ _ _ _ _ _ c.loop-r.invariant c.loop-r-test.false
