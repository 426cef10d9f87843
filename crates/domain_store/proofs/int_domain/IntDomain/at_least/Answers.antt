use Rattle.std.proofs.Common.{rules, ◌≡◌, to_z, of_z, w64}
use Rattle.domain_store.proofs.Ranges.{from_on}
use Rattle.domain_store.proofs.int_domain.IntDomain.at_least.Goals as goal

-- no number is above the greatest
pub returns-clause-narrowed : goal.returns-clause-narrowed
returns-clause-narrowed c =
    let low : to_z w64 (of_z w64 c.args.n) ≡ c.args.n = search rules in
    let high : to_z w64 (of_z w64 c.high-high.result) ≡ c.high-high.result = search rules in
    from_on c.args.self.now c.narrow.new.self c.narrow.result _ _ _ _ low high c.high-high.ensures c.narrow.ensures.narrowed
