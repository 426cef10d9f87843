-- What literals declare.
use Rattle.std.specs.Prelude.{ℕ, ◌&&◌, nat_le, List, map, length, if◌then◌else◌, codes}
use Rattle.std.specs.Option.{option_map}
use Rattle.prod_model.specs.declared.model.AttrDecl.{AttrDecl}
use Rattle.prod_model.specs.declared.model.PortDecl.{PortDecl}
use Rattle.prod_model.specs.declared.model.TypeDecl.{TypeDecl}
use Rattle.prod_model.specs.declared.model.Domain.{Domain}
use Rattle.prod_model.specs.declared.model.Domain.TheVariants.{Range, Words}
use Rattle.model_literals.specs.declared.literal.Values.{Values}
use Rattle.model_literals.specs.declared.literal.Values.TheVariants.{Between, OneOf}
use Rattle.model_literals.specs.declared.literal.AttributeLiteral.{AttributeLiteral}
use Rattle.model_literals.specs.declared.literal.PortLiteral.{PortLiteral}
use Rattle.model_literals.specs.declared.literal.TypeLiteral.{TypeLiteral}

-- the text, where it has 1 to 32 bytes, as each name has; else `unnamed`
abbrev pub name_of : List ℕ → List ℕ
name_of text = if nat_le 1 (length text) && nat_le (length text) 32 then text else codes "unnamed"

-- the numbers from low to high, or the words
abbrev pub domain_of : Values → Domain
domain_of (Between low high) = Range low high
domain_of (OneOf words) = Words (map (λ word. name_of word.now) words.now)

-- the attribute of that name and these values
abbrev pub attribute_of : AttributeLiteral → AttrDecl
attribute_of a = record { name = name_of a.name.now; domain = domain_of a.values }

-- the port of that name, with all that is said of it
abbrev pub port_of : PortLiteral → PortDecl
port_of p = record {
  name = name_of p.name.now;
  kind = p.kind;
  target = p.target;
  low = p.low;
  high = p.high;
  inverse = option_map (λ text. name_of text.now) p.inverse;
}

-- the type of that name and parent, with its attributes and ports in order
abbrev pub type_of : TypeLiteral → TypeDecl
type_of t = record {
  name = name_of t.name.now;
  parent = t.parent;
  attributes = map attribute_of t.attributes.now;
  ports = map port_of t.ports.now;
}
