use Rattle.std.proofs.Common.{◌≡◌, ◌-◌, refl}
use Rattle.port_wildcards.specs.Ports.{IsClosed}
use Rattle.port_wildcards.proofs.Made.{makes_elsewhere, closed_elsewhere}
use Rattle.port_wildcards.proofs.port_domain.PortDomain.made_elsewhere.Goals as goal

-- a closed port has no later link that could lead to the new instance
pub returns-then-is_closed-clause-made : goal.returns-then-is_closed-clause-made
returns-then-is_closed-clause-made c =
    let closed : IsClosed c.args.self.now = c.is_closed.ensures.0 c.if-is_closed.true in
    closed_elsewhere c.args.j c.args.self.now closed

-- the new instance is possible, and the lower bound has fallen
pub returns-clause-made : goal.returns-clause-made
returns-clause-made c =
    let low : c.saturating_sub-self.result ≡ c.args.self.now.fresh_low - 1 = c.saturating_sub-self.ensures in
    makes_elsewhere c.args.j c.args.self.now
    (record c.args.self.now { possible = c.insert.new.self; fresh_low = c.saturating_sub-self.result })
    refl c.insert.ensures low refl
