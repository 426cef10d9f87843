use Rattle.std.proofs.Common.{rules, ◌≡◌, ℤ, subst, to_z, of_z, w64}
use Rattle.std.specs.Prelude.{IsTrue}
use Rattle.domain_store.specs.Intervals.{are_intervals, IsGreatestNumber}
use Rattle.domain_store.specs.steps.Ends.{high_of}
use Rattle.domain_store.proofs.Intervals.{greatest}
use Rattle.domain_store.proofs.int_domain.IntDomain.high.Goals as goal

-- the upper end of the last interval
pub returns : goal.returns
returns c =
    let formed : IsTrue (are_intervals c.args.self.now) = search rules in
    let is : high_of c.args.self.now ≡ to_z w64 (of_z w64 c.last_high.result) = search rules in
    let Greatest : ℤ → Type 0 = λ v. IsGreatestNumber c.args.self.now v in
    subst Greatest is (greatest c.args.self.now formed)
