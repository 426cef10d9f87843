-- Which model, and which order, the members of a value say. A name or a word that isn't of its
-- form, a number of links or instances past its limit, and a type that isn't known are read as
-- something that no valid model has; the rest that isn't of its kind is read as anything.
use Rattle.std.specs.Prelude.{ℕ, ◌+◌, ℤ, pos, negsuc, List, [], map, codes, if◌then◌else◌, Some}
use Rattle.std.specs.Option.{option_map}
use Rattle.std.specs.List.{position_or_len}
use Rattle.serde_json.specs.Data.{Data}
use Rattle.serde_json.specs.Find.{get}
use Rattle.prod_model.specs.declared.model.Model.{Model}
use Rattle.prod_model.specs.declared.model.Order.{Order}
use Rattle.prod_model.specs.declared.model.Request.{Request}
use Rattle.prod_model.specs.declared.model.Criterion.{Criterion}
use Rattle.prod_model.specs.declared.model.TypeDecl.{TypeDecl}
use Rattle.prod_model.specs.declared.model.AttrDecl.{AttrDecl}
use Rattle.prod_model.specs.declared.model.PortDecl.{PortDecl}
use Rattle.prod_model.specs.declared.model.CountBound.{CountBound}
use Rattle.prod_model.specs.declared.model.Rule.{Rule}
use Rattle.prod_model.specs.declared.model.PortKind.{PortKind}
use Rattle.prod_model.specs.declared.model.PortKind.TheVariants as port_kind
use Rattle.prod_model.specs.declared.model.Domain.{Domain}
use Rattle.prod_model.specs.declared.model.Domain.TheVariants as domain
use Rattle.prod_model.specs.Limits.{most_links}
use Rattle.prod_model.specs.Names.{is_name, is_word, same_text}
use Rattle.file_values.specs.declared.kind.Key.{Key}
use Rattle.file_values.specs.declared.kind.Key.TheVariants.{Root, Instances, Types, Bounds, Rules, Requests, Criteria, Name, Parent, Attributes, Ports, Range, Words, Kind, Target, Links, OfType, Count, Holds, Minimise, Maximise, Inverse}
use Rattle.file_values.specs.Places.{text_of}
use Rattle.file_values.specs.Tests.{is_count_between}
use Rattle.file_values.specs.Read.{member_of, has, text_in, whole_in, text_at, items_at, low_in, high_in}
use Rattle.file_meaning.specs.Expressions.{expression_of}

-- ---- names and numbers, and what stands for those that aren't of their form

-- a name; `-` is none
abbrev pub name_in : Data → List ℕ
name_in d = if is_name (text_in d) then text_in d else codes "-"

-- the name in a member
abbrev pub name_at : Key → Data → List ℕ
name_at k d = name_in (member_of k d)

-- a word; `/` is none
abbrev pub word_in : Data → List ℕ
word_in d = if is_word (text_in d) then text_in d else codes "/"

-- a number that isn't negative; 0 stands for one that is
abbrev pub natural : ℤ → ℕ
natural (pos n) = n
natural (negsuc n) = 0

-- a number of links or instances; one past the limit stands for any other
abbrev pub count_of : ℤ → ℕ
count_of n = if is_count_between 0 most_links n then natural n else most_links + 1

-- ---- members of a model

-- the names of the types
abbrev pub type_names : Data → List (List ℕ)
type_names d = map (text_at Name) (items_at Types d)

-- the number of the type of a name; one past all types where none has it
abbrev pub number_named : List (List ℕ) → Data → ℕ
number_named names d = position_or_len (λ n. same_text n (text_in d)) names

-- `range`, else `words`
abbrev pub domain_of : Data → Domain
domain_of d =
    if has Range d then domain.Range (low_in (member_of Range d)) (high_in (member_of Range d))
    else domain.Words (map word_in (items_at Words d))

-- an attribute, with its domain
abbrev pub attribute_in : Data → AttrDecl
attribute_in d = record { name = name_at Name d; domain = domain_of d }

-- `part`, else `use`
abbrev pub kind_of : List ℕ → PortKind
kind_of text = if same_text text (codes "part") then port_kind.Part else port_kind.Shared

-- a port; its target is named among the types
abbrev pub port_in : List (List ℕ) → Data → PortDecl
port_in names d = record {
  name = name_at Name d;
  kind = kind_of (text_at Kind d);
  target = number_named names (member_of Target d);
  low = count_of (low_in (member_of Links d));
  high = count_of (high_in (member_of Links d));
  inverse = option_map name_in (get (text_of Inverse) d);
}

-- a type; its parent is named among the types
abbrev pub type_in : List (List ℕ) → Data → TypeDecl
type_in names d = record {
  name = name_at Name d;
  parent = option_map (number_named names) (get (text_of Parent) d);
  attributes = map attribute_in (items_at Attributes d);
  ports = map (port_in names) (items_at Ports d);
}

-- an entry of `bounds`
abbrev pub bound_in : List (List ℕ) → Data → CountBound
bound_in names d = record {
  kind = number_named names (member_of OfType d);
  low = count_of (low_in (member_of Count d));
  high = count_of (high_in (member_of Count d));
}

-- the model without its rules
unfoldable pub declared_in : Data → Model
declared_in d = record {
  root = number_named (type_names d) (member_of Root d);
  instances = count_of (whole_in (member_of Instances d));
  types = map (type_in (type_names d)) (items_at Types d);
  bounds = map (bound_in (type_names d)) (items_at Bounds d);
  rules = [];
}

-- a rule stands at its type
abbrev pub rule_in : Model → List (List ℕ) → Data → Rule
rule_in m names d = record {
  name = name_at Name d;
  kind = number_named names (member_of OfType d);
  holds =
      expression_of m (member_of Holds d) (Some (number_named names (member_of OfType d)));
}

-- the model that the members of the value say
unfoldable pub model_in : Data → Model
model_in d =
    record (declared_in d) {
      rules = map (rule_in (declared_in d) (type_names d)) (items_at Rules d);
    }

-- ---- members of an order, for a model

-- a request, which stands at the root type
abbrev pub request_in : Model → Data → Request
request_in m d = record {
  name = name_at Name d;
  holds = expression_of m (member_of Holds d) (Some m.root);
}

-- the key of a criterion's expression
abbrev pub aim_of : Data → Key
aim_of d = if has Maximise d then Maximise else Minimise

-- a criterion, which stands at the root type
abbrev pub criterion_in : Model → Data → Criterion
criterion_in m d = record {
  name = name_at Name d;
  maximise = has Maximise d;
  value = expression_of m (member_of (aim_of d) d) (Some m.root);
}

-- the order that the members of the value say
unfoldable pub order_in : Model → Data → Order
order_in m d = record {
  requests = map (request_in m) (items_at Requests d);
  criteria = map (criterion_in m) (items_at Criteria d);
}
