use Rattle.std.proofs.Common.{arith}
use Rattle.port_wildcards.proofs.Bounds.{at_least_empty, at_least_same, at_least_smaller}
use Rattle.port_wildcards.proofs.port_domain.PortDomain.fresh_at_least.Goals as goal

-- so many are not allowed
pub returns-then-self-n-clause-narrowed : goal.returns-then-self-n-clause-narrowed
returns-then-self-n-clause-narrowed c = at_least_empty c.args.self.now c.args.n c.requires (omega (arith, c.if-self-n.true))

-- so many are owed already
pub returns-then-n-self-clause-narrowed : goal.returns-then-n-self-clause-narrowed
returns-then-n-self-clause-narrowed c = at_least_same c.args.self.now c.args.n c.requires (omega (arith, c.if-n-self.true))

-- the lower bound rises
pub returns-clause-narrowed : goal.returns-clause-narrowed
returns-clause-narrowed c =
    at_least_smaller c.args.self.now c.args.n c.requires (omega (arith, c.if-self-n.false)) (omega (arith, c.if-n-self.false))
