use Rattle.std.proofs.Common.{rules, ◌≡◌, ℤ, subst, to_z, of_z, w64}
use Rattle.std.specs.Prelude.{IsTrue}
use Rattle.domain_store.specs.Intervals.{are_intervals, IsLeastNumber}
use Rattle.domain_store.specs.steps.Ends.{low_of}
use Rattle.domain_store.proofs.Intervals.{least}
use Rattle.domain_store.proofs.int_domain.IntDomain.low.Goals as goal

-- the lower end of the first interval
pub returns-clause-least : goal.returns-clause-least
returns-clause-least c =
    let formed : IsTrue (are_intervals c.args.self.now) = search rules in
    let is : low_of c.args.self.now ≡ to_z w64 (of_z w64 c.first_low.result) = search rules in
    let Least : ℤ → Type 0 = λ v. IsLeastNumber c.args.self.now v in
    subst Least is (least c.args.self.now formed)
