-- What the arguments of an operator are.
use Rattle.std.specs.Prelude.{Bool, true, false, List, map}
use Rattle.serde_json.specs.Data.{Data}
use Rattle.serde_json.specs.View.{view}
use Rattle.serde_json.specs.declared.value.Value.{Value}
use Rattle.prod_model.specs.declared.model.Model.{Model}
use Rattle.file_values.specs.declared.operator.Operator.{Operator}
use Rattle.file_values.specs.declared.operator.Operator.TheVariants.{Add, And, Or}
use Rattle.file_meaning.specs.Expressions.{Element, expression_of}

-- a value with the expression that it is at each type
abbrev pub element : Model → Data → Element
element m d = record { value = d; at = λ t. expression_of m d t }

abbrev pub elements : Model → List Value → List Element
elements m vs = map (element m) (map view vs)

-- the operator has any number of arguments
abbrev pub is_of_list : Operator → Bool
is_of_list Add = true
is_of_list And = true
is_of_list Or = true
is_of_list op = false
