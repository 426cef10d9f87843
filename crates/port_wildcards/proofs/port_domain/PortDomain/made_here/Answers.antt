use Rattle.std.proofs.Common.{◌≡◌, ◌-◌, refl}
use Rattle.port_wildcards.proofs.Made.{makes_here}
use Rattle.port_wildcards.proofs.port_domain.PortDomain.made_here.Goals as goal

-- both sets have the new instance, and the bounds have fallen
pub returns-clause-made : goal.returns-clause-made
returns-clause-made c =
    let low : c.saturating_sub-self.result ≡ c.args.self.now.fresh_low - 1 = c.saturating_sub-self.ensures in
    makes_here c.args.j c.args.self.now
    (record {
      required = c.insert.new.self;
      possible = c.insert-2.new.self;
      fresh_low = c.saturating_sub-self.result;
      fresh_high = c.args.self.now.fresh_high - 1;
    })
    c.insert.ensures c.insert-2.ensures low refl c.requires.open c.requires.formed
