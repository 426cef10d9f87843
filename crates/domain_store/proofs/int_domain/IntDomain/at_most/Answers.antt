use Rattle.std.proofs.Common.{rules, ◌≡◌, to_z, of_z, w64}
use Rattle.domain_store.proofs.Ranges.{up_to}
use Rattle.domain_store.proofs.int_domain.IntDomain.at_most.Goals as goal

-- no number is below the least
pub returns-clause-narrowed : goal.returns-clause-narrowed
returns-clause-narrowed c =
    let low : to_z w64 (of_z w64 c.low-low.result) ≡ c.low-low.result = search rules in
    let high : to_z w64 (of_z w64 c.args.n) ≡ c.args.n = search rules in
    up_to c.args.self.now c.narrow.new.self c.narrow.result _ _ _ _ low high c.low-low.ensures.least c.narrow.ensures.narrowed
