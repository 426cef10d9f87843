-- Short words for expressions and declarations, in which the examples are written.
use Rattle.std.specs.Prelude.{ℕ, ℤ, List, Some, None}
use Rattle.prod_model.specs.declared.expr.Expr.{Expr}
use Rattle.prod_model.specs.declared.expr.Expr.TheOpen as form
use Rattle.prod_model.specs.declared.expr.Expr.TheViews.{roll-Expr}
use Rattle.prod_model.specs.declared.expr.Relation.TheVariants.{Less, AtMost, Equal, Differs, AtLeast, Greater}
use Rattle.prod_model.specs.declared.model.TypeDecl.{TypeDecl}
use Rattle.prod_model.specs.declared.model.AttrDecl.{AttrDecl}
use Rattle.prod_model.specs.declared.model.PortDecl.{PortDecl}
use Rattle.prod_model.specs.declared.model.PortKind.TheVariants.{Part, Shared}
use Rattle.prod_model.specs.declared.model.Domain.TheVariants.{Range, Words}

-- ---- declarations

abbrev pub range : List ℕ → ℤ → ℤ → AttrDecl
range name low high = record { name = name; domain = Range low high }

abbrev pub words : List ℕ → List (List ℕ) → AttrDecl
words name ws = record { name = name; domain = Words ws }

-- a part port, by its target and its least and greatest number of links
abbrev pub part : List ℕ → ℕ → ℕ → ℕ → PortDecl
part name target low high = record { name = name; kind = Part; target = target; low = low; high = high; inverse = None }

-- a port of kind `use`
abbrev pub shared : List ℕ → ℕ → ℕ → ℕ → PortDecl
shared name target low high = record { name = name; kind = Shared; target = target; low = low; high = high; inverse = None }

-- the port with an inverse of this name
abbrev pub with_inverse : List ℕ → PortDecl → PortDecl
with_inverse name d = record d { inverse = Some name }

-- a type without parent
abbrev pub root_type : List ℕ → List AttrDecl → List PortDecl → TypeDecl
root_type name attributes ports = record { name = name; parent = None; attributes = attributes; ports = ports }

abbrev pub subtype : List ℕ → ℕ → List AttrDecl → List PortDecl → TypeDecl
subtype name parent attributes ports = record { name = name; parent = Some parent; attributes = attributes; ports = ports }

-- ---- expressions

abbrev pub num : ℤ → Expr
num n = roll-Expr (form.Num n)

abbrev pub attr : ℕ → Expr
attr a = roll-Expr (form.Attr a)

abbrev pub count : ℕ → Expr
count p = roll-Expr (form.Count p)

abbrev pub count_of : ℕ → ℕ → Expr
count_of p t = roll-Expr (form.CountOf p t)

abbrev pub sum : ℕ → ℕ → Expr
sum p a = roll-Expr (form.Sum p a)

abbrev pub total : ℕ → ℕ → Expr
total t a = roll-Expr (form.Total t a)

abbrev pub number_of : ℕ → Expr
number_of t = roll-Expr (form.Number t)

abbrev pub add : List Expr → Expr
add es = roll-Expr (form.Add es)

abbrev pub sub : Expr → Expr → Expr
sub e f = roll-Expr (form.Sub e f)

abbrev pub times : ℤ → Expr → Expr
times k e = roll-Expr (form.Times k e)

abbrev pub less : Expr → Expr → Expr
less e f = roll-Expr (form.Cmp Less e f)

abbrev pub at_most : Expr → Expr → Expr
at_most e f = roll-Expr (form.Cmp AtMost e f)

abbrev pub equal : Expr → Expr → Expr
equal e f = roll-Expr (form.Cmp Equal e f)

abbrev pub differs : Expr → Expr → Expr
differs e f = roll-Expr (form.Cmp Differs e f)

abbrev pub at_least : Expr → Expr → Expr
at_least e f = roll-Expr (form.Cmp AtLeast e f)

abbrev pub greater : Expr → Expr → Expr
greater e f = roll-Expr (form.Cmp Greater e f)

abbrev pub is_word : ℕ → ℕ → Expr
is_word a w = roll-Expr (form.Is a w)

abbrev pub kind : ℕ → Expr
kind t = roll-Expr (form.Kind t)

abbrev pub and_of : List Expr → Expr
and_of es = roll-Expr (form.And es)

abbrev pub or_of : List Expr → Expr
or_of es = roll-Expr (form.Or es)

abbrev pub negated : Expr → Expr
negated e = roll-Expr (form.Not e)

abbrev pub implied : Expr → Expr → Expr
implied e f = roll-Expr (form.If e f)

abbrev pub all_linked : ℕ → Expr → Expr
all_linked p e = roll-Expr (form.All p e)

abbrev pub any_linked : ℕ → Expr → Expr
any_linked p e = roll-Expr (form.Any p e)
