-- The forms of expressions as they stand in a file.
use Rattle.std.specs.Prelude.{ℕ, ◌+◌, Bool, not, ◌==◌, List, [], ◌∷◌, ◌++◌, map, length, codes, replicate, if◌then◌else◌, Option, Some, None}
use Rattle.std.specs.Option.{option_map_or, option_and_then, option_map}
use Rattle.std.specs.List.{find}
use Rattle.serde_json.specs.Data.{Data, null, boolean, number, string, array, object, Items, no_items, item}
use Rattle.serde_json.specs.Find.{as_str}
use Rattle.prod_model.specs.declared.expr.Relation.TheVariants.{Less, AtMost, Equal, Differs, AtLeast, Greater}
use Rattle.prod_model.specs.Limits.{is_between, most_arguments}
use Rattle.prod_model.specs.Names.{same_text}
use Rattle.file_values.specs.declared.part.Part.{Part}
use Rattle.file_values.specs.declared.part.Part.TheVariants.{At as at}
use Rattle.file_values.specs.declared.operator.Operator.{Operator}
use Rattle.file_values.specs.declared.operator.Operator.TheVariants.{Attr, Count, Sum, Total, Number, Add, Sub, Times, Cmp, Is, Kind, And, Or, Not, If, All, Any}
use Rattle.file_values.specs.declared.operator.Argument.{Argument}
use Rattle.file_values.specs.declared.operator.Argument.TheVariants.{Text, Factor, Inner}
use Rattle.file_values.specs.Kinds.{is_text, is_whole}

-- ---- the table of operators

-- an operator with the text that it has in a file
pub record Operation : Type 0 where
  pub text : List ℕ
  pub is : Operator

-- the operator of this text
abbrev pub called : List ℕ → Operator → Operation
called text o = record { text = text; is = o }

-- all operators
abbrev pub operators : List Operation
operators =
    called (codes "attr") Attr ∷ called (codes "count") Count ∷ called (codes "sum") Sum
    ∷ called (codes "total") Total ∷ called (codes "number") Number
    ∷ called (codes "+") Add ∷ called (codes "-") Sub ∷ called (codes "*") Times
    ∷ called (codes "<") (Cmp Less) ∷ called (codes "<=") (Cmp AtMost)
    ∷ called (codes "=") (Cmp Equal) ∷ called (codes "!=") (Cmp Differs)
    ∷ called (codes ">=") (Cmp AtLeast) ∷ called (codes ">") (Cmp Greater)
    ∷ called (codes "is") Is ∷ called (codes "kind") Kind ∷ called (codes "and") And
    ∷ called (codes "or") Or ∷ called (codes "not") Not ∷ called (codes "if") If
    ∷ called (codes "all") All ∷ called (codes "any") Any ∷ []

-- the operator of a text, if it is one
unfoldable pub operator_of : List ℕ → Option Operator
operator_of text = option_map (λ o. o.is) (find (λ o. same_text text o.text) operators)

-- these arguments, where there are as many
abbrev pub just : List Argument → ℕ → Option (List Argument)
just args n = if n == length args then Some args else None

-- 1 to 64 expressions
abbrev pub some_inner : ℕ → Option (List Argument)
some_inner n = if is_between 1 most_arguments n then Some (replicate n Inner) else None

-- what so many arguments of an operator have to be; nothing where it can't have so many
unfoldable pub takes : Operator → ℕ → Option (List Argument)
takes Attr n = just (Text ∷ []) n
takes Count n = if n == 1 then Some (Text ∷ []) else just (Text ∷ Text ∷ []) n
takes Sum n = just (Text ∷ Text ∷ []) n
takes Total n = just (Text ∷ Text ∷ []) n
takes Number n = just (Text ∷ []) n
takes Add n = some_inner n
takes Sub n = just (Inner ∷ Inner ∷ []) n
takes Times n = just (Factor ∷ Inner ∷ []) n
takes (Cmp relation) n = just (Inner ∷ Inner ∷ []) n
takes Is n = just (Text ∷ Text ∷ []) n
takes Kind n = just (Text ∷ []) n
takes And n = some_inner n
takes Or n = some_inner n
takes Not n = just (Inner ∷ []) n
takes If n = just (Inner ∷ Inner ∷ []) n
takes All n = just (Text ∷ Inner ∷ []) n
takes Any n = just (Text ∷ Inner ∷ []) n

-- ---- values that are of none of the forms

-- the whole, provided that it is wrong
abbrev pub whole_if : Bool → List (List Part)
whole_if wrong = if wrong then [] ∷ [] else []

-- an argument that is wrong; an expression is wrong where something in it is
abbrev pub misformed_argument : Argument → Data → List (List Part) → List (List Part)
misformed_argument Text d inner = whole_if (not (is_text d))
misformed_argument Factor d inner = whole_if (not (is_whole d))
misformed_argument Inner d inner = inner

-- the wrong places of arguments that begin at this place of the array, each with what is wrong in
-- it as an expression
abbrev pub misformed_arguments
    : ℕ → List Argument → List (Data × List (List Part)) → List (List Part)
misformed_arguments n (a ∷ as_) (d ∷ ds) =
    map (λ p. at n ∷ p) (misformed_argument a d.0 d.1) ++ misformed_arguments (n + 1) as_ ds
misformed_arguments n _ _ = []

-- what the arguments of an array have to be that begins with this value and has so many
abbrev pub arguments_of : Data → ℕ → Option (List Argument)
arguments_of d n = option_and_then (λ op. takes op n) (option_and_then operator_of (as_str d))

-- the wrong places of an array: itself, where it begins with no operator or has not as many
-- arguments
abbrev pub misformed_array : List (Data × List (List Part)) → List (List Part)
misformed_array [] = [] ∷ []
misformed_array (o ∷ ds) =
    option_map_or (λ args. misformed_arguments 1 args ds) (arguments_of o.0 (length ds)) ([] ∷ [])

abbrev mutual
  -- The places of a value at which it is of none of the forms, or an argument isn't what it has to
  -- be, in the order of the document.
  pub misformed : Data → List (List Part)
  misformed null = [] ∷ []
  misformed (boolean b) = [] ∷ []
  misformed (number n) = whole_if (not (is_whole (number n)))
  misformed (string s) = [] ∷ []
  misformed (array ds) = misformed_array (each_misformed ds)
  misformed (object ms) = [] ∷ []

  pub each_misformed : Items → List (Data × List (List Part))
  each_misformed no_items = []
  each_misformed (item d ds) = (d, misformed d) ∷ each_misformed ds

-- a value with what is wrong in it as an expression
abbrev pub judged : Data → Data × List (List Part)
judged d = (d, misformed d)
