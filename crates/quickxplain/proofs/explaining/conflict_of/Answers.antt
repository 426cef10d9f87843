-- The least of all places is the preferred conflict.
use Rattle.std.proofs.Common.{◌+◌, ◌*◌, ◌≤◌, length, ap, subst, sym, ◌∙◌, refl}
use Rattle.quickxplain.proofs.Quick.{least_is_preferred}
use Rattle.quickxplain.proofs.Wholes.{length-places_kept}
use Rattle.quickxplain.proofs.explaining.conflict_of.Goals as goal

pub returns-clause-preferred : goal.returns-clause-preferred
returns-clause-preferred g c = record {
  keep = c.narrow_all.new.keep;
  preferred = least_is_preferred (g.T.Tester.consistent c.args.tester.now) (length c.args.keep.now) c.args.keep.now c.narrow_all.new.keep
      refl c.narrow_all.auto.keep c.in_ok-narrow_all.ensures.least;
  places = c.in_ok-members.ensures;
}

pub returns-clause-asked : goal.returns-clause-asked
returns-clause-asked g c l fits =
    let same = sym (ap length c.in_ok-members.ensures ∙ length-places_kept 0 c.narrow_all.new.keep) in
    subst (λ k. g.T.Tester.asked c.narrow_all.new.tester ≤ g.T.Tester.asked c.args.tester.now + 1 + 2 * k * l) same (c.in_ok-narrow_all.ensures.asked l fits)
