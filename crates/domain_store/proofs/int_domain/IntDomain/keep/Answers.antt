use Rattle.std.proofs.Common.{rules, ◌≡◌, to_z, of_z, w64}
use Rattle.domain_store.proofs.Ranges.{alone}
use Rattle.domain_store.proofs.int_domain.IntDomain.keep.Goals as goal

-- the range has one number
pub returns-clause-narrowed : goal.returns-clause-narrowed
returns-clause-narrowed c =
    let same : to_z w64 (of_z w64 c.args.n) ≡ c.args.n = search rules in
    alone c.args.self.now c.narrow.new.self c.narrow.result _ _ same c.narrow.ensures.narrowed
