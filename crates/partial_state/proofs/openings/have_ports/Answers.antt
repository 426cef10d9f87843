use Rattle.std.proofs.Common.{rules, ◌≡◌, true, false}
use Rattle.partial_state.proofs.KindSearches.{least_known, one_has, fewer_left, one_searched, all_searched}
use Rattle.partial_state.proofs.openings.have_ports.Goals as goal

-- the least type that is left is a type
pub ports_of-requires : goal.ports_of-requires
ports_of-requires c = least_known c.args.problem.now c.args.mask c.loop-rest.rest c.ranges.mask.fits c.loop-rest-test.true c.loop-rest.invariant c.requires

-- it has ports
pub returns-then-not-is_empty : goal.returns-then-not-is_empty
returns-then-not-is_empty c =
    let some : c.is_empty.result ≡ false = search rules in
    one_has c.args.problem.now c.args.mask c.loop-rest.rest c.ranges.mask.fits c.loop-rest-test.true c.loop-rest.invariant
    c.ports_of.result.now c.is_empty.result c.ports_of.ensures c.is_empty.ensures some

-- without it fewer are left
pub loop-rest-smaller : goal.loop-rest-smaller
loop-rest-smaller c = fewer_left c.args.problem.now c.args.mask c.loop-rest.rest c.ranges.mask.fits c.loop-rest-test.true c.loop-rest.invariant

-- it has none
pub loop-rest-preserved : goal.loop-rest-preserved
loop-rest-preserved c =
    let none : c.is_empty.result ≡ true = search rules in
    one_searched c.args.problem.now c.args.mask c.loop-rest.rest c.ranges.mask.fits c.loop-rest-test.true c.loop-rest.invariant
    c.ports_of.result.now c.is_empty.result c.ports_of.ensures c.is_empty.ensures none

-- none has ports
pub returns : goal.returns
returns c = all_searched c.args.problem.now c.args.mask c.loop-rest.rest c.ranges.mask.fits c.loop-rest-test.false c.loop-rest.invariant
