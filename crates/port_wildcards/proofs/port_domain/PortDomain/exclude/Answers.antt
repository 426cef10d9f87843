use Rattle.std.proofs.Common.{◌≡◌, true, false, arith}
use Rattle.instance_set.specs.InstanceSets.{is_member}
use Rattle.port_wildcards.proofs.Instances.{excluded_empty, excluded_same, excluded_smaller}
use Rattle.port_wildcards.proofs.port_domain.PortDomain.exclude.Goals as goal

-- it is required
pub returns-then-contains-clause-narrowed : goal.returns-then-contains-clause-narrowed
returns-then-contains-clause-narrowed c =
    let inside : is_member c.args.self.now.required c.args.j ≡ true = grind (arith, c.contains.ensures, c.if-contains.true) in
    excluded_empty c.args.self.now c.args.j c.requires.formed inside

-- it is possible no more
pub returns-then-contains-2-clause-narrowed : goal.returns-then-contains-2-clause-narrowed
returns-then-contains-2-clause-narrowed c =
    let inside : is_member c.args.self.now.possible c.args.j ≡ true = grind (arith, c.contains-2.ensures, c.if-contains-2.true) in
    let out : is_member c.args.self.now.required c.args.j ≡ false = grind (arith, c.contains.ensures, c.if-contains.false) in
    excluded_smaller c.args.self.now c.args.j c.requires.formed c.remove.new.self c.remove.ensures inside out

-- it is not possible anyway
pub returns-clause-narrowed : goal.returns-clause-narrowed
returns-clause-narrowed c =
    let out : is_member c.args.self.now.possible c.args.j ≡ false = grind (arith, c.contains-2.ensures, c.if-contains-2.false) in
    excluded_same c.args.self.now c.args.j c.requires.formed out
