-- A type of the tests.
use Rattle.std.specs.Prelude.{codes, [], ◌∷◌, Some, None}
use Rattle.prod_model.specs.declared.model.TypeDecl.{TypeDecl}
use Rattle.prod_model.specs.declared.model.PortKind.TheVariants.{Shared}

-- a type with a port that is its own inverse
abbrev pub peer : TypeDecl
peer = record {
  name = codes "Box";
  parent = None;
  attributes = [];
  ports = record {
    name = codes "peer";
    kind = Shared;
    target = 0;
    low = 0;
    high = 1;
    inverse = Some (codes "peer");
  } ∷ [];
}
