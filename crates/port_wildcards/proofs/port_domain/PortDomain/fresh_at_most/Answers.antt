use Rattle.std.proofs.Common.{arith}
use Rattle.port_wildcards.proofs.Bounds.{at_most_empty, at_most_same, at_most_smaller}
use Rattle.port_wildcards.proofs.port_domain.PortDomain.fresh_at_most.Goals as goal

-- more links are owed
pub returns-then-n-self-clause-narrowed : goal.returns-then-n-self-clause-narrowed
returns-then-n-self-clause-narrowed c = at_most_empty c.args.self.now c.args.n c.requires (omega (arith, c.if-n-self.true))

-- no more are allowed anyway
pub returns-then-self-n-clause-narrowed : goal.returns-then-self-n-clause-narrowed
returns-then-self-n-clause-narrowed c = at_most_same c.args.self.now c.args.n c.requires (omega (arith, c.if-self-n.true))

-- the upper bound falls
pub returns-clause-narrowed : goal.returns-clause-narrowed
returns-clause-narrowed c =
    at_most_smaller c.args.self.now c.args.n c.requires (omega (arith, c.if-n-self.false)) (omega (arith, c.if-self-n.false))
