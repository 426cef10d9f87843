-- Which expression a value stands for, at a type of a declared model.
use Rattle.std.specs.Prelude.{ℕ, pos, List, [], ◌∷◌, map, Option, Some}
use Rattle.std.specs.Option.{option_map_or, option_and_then, option_map}
use Rattle.std.specs.List.{find, position_or_len}
use Rattle.serde_json.specs.Data.{Data, null, boolean, number, string, array, object, Items, no_items, item}
use Rattle.serde_json.specs.Find.{as_str}
use Rattle.prod_model.specs.declared.model.Model.{Model}
use Rattle.prod_model.specs.declared.model.AttrAt.{AttrAt}
use Rattle.prod_model.specs.declared.model.PortAt.{PortAt}
use Rattle.prod_model.specs.declared.expr.Expr.{Expr}
use Rattle.prod_model.specs.declared.expr.Expr.TheVariants as expr
use Rattle.prod_model.specs.Names.{same_text}
use Rattle.prod_model.specs.Taxonomy.{Named, attributes_of, ports_of, first_words}
use Rattle.file_values.specs.declared.operator.Operator.{Operator}
use Rattle.file_values.specs.declared.operator.Operator.TheVariants.{Attr, Count, Sum, Total, Number, Add, Sub, Times, Cmp, Is, Kind, And, Or, Not, If, All, Any}
use Rattle.file_values.specs.Forms.{operator_of}
use Rattle.file_values.specs.Read.{text_in, whole_in}

-- ---- names: what has none under a name is numbered past all that there are

-- the number of a type
abbrev pub type_named : Model → List ℕ → ℕ
type_named m name = position_or_len (λ d. same_text d.name name) m.types

-- what a type has under a name
abbrev pub under_name : {A : Type 0} → List ℕ → List (Named A) → Option A
under_name name entries =
    option_map (λ e. e.what) (find (λ e. same_text e.name name) entries)

-- an id that no attribute or port has
abbrev pub no_id : ℕ
no_id = 4294967295

-- the attribute or port of this name at a type, if the type is known
abbrev pub attribute_named : Model → Option ℕ → List ℕ → Option AttrAt
attribute_named m t name = option_and_then (λ u. under_name name (attributes_of m.types u)) t

-- the port of this name at a type, if the type is known
abbrev pub port_named : Model → Option ℕ → List ℕ → Option PortAt
port_named m t name = option_and_then (λ u. under_name name (ports_of m.types u)) t

-- the id of the attribute of this name at a type
abbrev pub attribute_id : Model → Option ℕ → List ℕ → ℕ
attribute_id m t name = option_map_or (λ a. a.id) (attribute_named m t name) no_id

-- the id of the port of this name at a type
abbrev pub port_id : Model → Option ℕ → List ℕ → ℕ
port_id m t name = option_map_or (λ p. p.id) (port_named m t name) no_id

-- the type of the port's target
abbrev pub target_of : Model → Option ℕ → List ℕ → Option ℕ
target_of m t name = option_map (λ p. p.target) (port_named m t name)

-- the value of a word, which is looked up in the attribute's first declaration
abbrev pub word_value : Model → Option ℕ → List ℕ → List ℕ → ℕ
word_value m t name word =
    position_or_len (λ w. same_text w word)
    (option_map_or (λ a. first_words m a.id) (attribute_named m t name) [])

-- ---- expressions

-- a value in an array, with the expression that it is at each type
pub record Element : Type 0 where
  pub value : Data
  pub at : Option ℕ → Expr

-- the text of an element, which is empty where it is none
abbrev pub text_of : Element → List ℕ
text_of p = text_in p.value

-- An operator with its arguments, at a type. Of another form it is the number 0, which then stands
-- for nothing.
unfoldable pub form_of : Model → Operator → List Element → Option ℕ → Expr
form_of m Attr (a ∷ []) t = expr.Attr (attribute_id m t (text_of a))
form_of m Count (p ∷ []) t = expr.Count (port_id m t (text_of p))
form_of m Count (p ∷ u ∷ []) t = expr.CountOf (port_id m t (text_of p)) (type_named m (text_of u))
form_of m Sum (p ∷ a ∷ []) t =
    expr.Sum (port_id m t (text_of p)) (attribute_id m (target_of m t (text_of p)) (text_of a))
form_of m Total (u ∷ a ∷ []) t =
    expr.Total (type_named m (text_of u))
    (attribute_id m (Some (type_named m (text_of u))) (text_of a))
form_of m Number (u ∷ []) t = expr.Number (type_named m (text_of u))
form_of m Add es t = expr.Add (map (λ e. e.at t) es)
form_of m Sub (e ∷ f ∷ []) t = expr.Sub (e.at t) (f.at t)
form_of m Times (k ∷ e ∷ []) t = expr.Times (whole_in k.value) (e.at t)
form_of m (Cmp relation) (e ∷ f ∷ []) t = expr.Cmp relation (e.at t) (f.at t)
form_of m Is (a ∷ w ∷ []) t =
    expr.Is (attribute_id m t (text_of a)) (word_value m t (text_of a) (text_of w))
form_of m Kind (u ∷ []) t = expr.Kind (type_named m (text_of u))
form_of m And es t = expr.And (map (λ e. e.at t) es)
form_of m Or es t = expr.Or (map (λ e. e.at t) es)
form_of m Not (e ∷ []) t = expr.Not (e.at t)
form_of m If (e ∷ f ∷ []) t = expr.If (e.at t) (f.at t)
form_of m All (p ∷ e ∷ []) t =
    expr.All (port_id m t (text_of p)) (e.at (target_of m t (text_of p)))
form_of m Any (p ∷ e ∷ []) t =
    expr.Any (port_id m t (text_of p)) (e.at (target_of m t (text_of p)))
form_of m op ps t = expr.Num (pos 0)

-- the expression of an array, which begins with its operator
abbrev pub array_of : Model → List Element → Option ℕ → Expr
array_of m [] t = expr.Num (pos 0)
array_of m (o ∷ ps) t =
    option_map_or (λ op. form_of m op ps t) (option_and_then operator_of (as_str o.value))
    (expr.Num (pos 0))

abbrev mutual
  -- The expression that a value is, of which no part is misformed, at a type; none where the type
  -- of a part isn't known.
  pub expression_of : Model → Data → Option ℕ → Expr
  expression_of m null t = expr.Num (pos 0)
  expression_of m (boolean b) t = expr.Num (pos 0)
  expression_of m (number n) t = expr.Num (whole_in (number n))
  expression_of m (string s) t = expr.Num (pos 0)
  expression_of m (array ds) t = array_of m (elements_of m ds) t
  expression_of m (object ms) t = expr.Num (pos 0)

  pub elements_of : Model → Items → List Element
  elements_of m no_items = []
  elements_of m (item d ds) =
      record { value = d; at = λ t. expression_of m d t } ∷ elements_of m ds
