use Rattle.std.proofs.Common.{◌≡◌, true, false, arith}
use Rattle.instance_set.specs.InstanceSets.{is_member}
use Rattle.port_wildcards.proofs.Instances.{required_empty, required_same, required_smaller}
use Rattle.port_wildcards.proofs.port_domain.PortDomain.require.Goals as goal

-- it is not possible
pub returns-then-not-contains-clause-narrowed : goal.returns-then-not-contains-clause-narrowed
returns-then-not-contains-clause-narrowed c =
    let out : is_member c.args.self.now.possible c.args.j ≡ false = grind (arith, c.contains.ensures, c.if-not-contains.true) in
    required_empty c.args.self.now c.args.j c.requires.formed out

-- it is required already
pub returns-then-contains-clause-narrowed : goal.returns-then-contains-clause-narrowed
returns-then-contains-clause-narrowed c =
    let inside : is_member c.args.self.now.required c.args.j ≡ true = grind (arith, c.contains-2.ensures, c.if-contains.true) in
    required_same c.args.self.now c.args.j c.requires.formed inside

-- it becomes required
pub returns-clause-narrowed : goal.returns-clause-narrowed
returns-clause-narrowed c =
    let inside : is_member c.args.self.now.possible c.args.j ≡ true = grind (arith, c.contains.ensures, c.if-not-contains.false) in
    let out : is_member c.args.self.now.required c.args.j ≡ false = grind (arith, c.contains-2.ensures, c.if-contains.false) in
    required_smaller c.args.self.now c.args.j c.requires.formed c.insert.new.self c.insert.ensures inside out
