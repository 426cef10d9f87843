-- The faults of an expression, and the first of them.
use Rattle.std.specs.Prelude.{◌≡◌, ℕ, Bool, true, false, not, ◌||◌, nat_lt, IsTrue, List, [], ◌∷◌, ◌++◌, length, flat_map, if◌then◌else◌, is_some, Some, Contains}
use Rattle.std.specs.declared.option.Option.{Option}
use Rattle.std.specs.Option.{option_map_or, option_and_then}
use Rattle.std.specs.Ordering.{nat_cmp, is_lt}
use Rattle.std.specs.Cmp.Lexicographic.{slice_cmp}
use Rattle.prod_model.specs.declared.model.Model.{Model}
use Rattle.prod_model.specs.declared.model.AttrAt.{AttrAt}
use Rattle.prod_model.specs.declared.model.Domain.TheVariants.{Range, Words}
use Rattle.prod_model.specs.declared.expr.Expr.{Expr}
use Rattle.prod_model.specs.declared.expr.Expr.TheOpen.{Expr-F, Attr, Count, CountOf, Sum, Total, Number, Cmp, Is, Kind, And, Or, Not, If, All, Any}
use Rattle.prod_model.specs.declared.expr.Expr.TheViews.{out-Expr}
use Rattle.prod_model.specs.First.{IsFirst}
use Rattle.prod_model.specs.Limits.{most_nesting}
use Rattle.prod_model.specs.Forest.{is_type}
use Rattle.prod_model.specs.Taxonomy.{attribute_of, declared_port_of, first_words}
use Rattle.expr_bounds.specs.Parts.{IsPart, arguments}
use Rattle.expr_bounds.specs.Ends.{is_wide}
use Rattle.expr_bounds.specs.declared.fault.ExprFault.{ExprFault}
use Rattle.expr_bounds.specs.declared.fault.ExprFault.TheVariants.{Deep, UnknownName, WrongKind, Wide, Memory}

-- the place, provided that the name there isn't known
abbrev pub place_unless : Bool → ℕ → List ℕ
place_unless known place = if known then [] else place ∷ []

-- its values are the numbers of a range
abbrev pub has_range : AttrAt → Bool
has_range a = elim a.domain [ Range low high ↦ true | Words words ↦ false ]

-- its values are words
abbrev pub has_words : AttrAt → Bool
has_words a = not (has_range a)

-- the attribute of a type of the target of a port, if there is such a port
abbrev pub attribute_of_target : Model → ℕ → ℕ → ℕ → Option AttrAt
attribute_of_target m t p a =
    option_and_then (λ q. attribute_of m q.target a) (declared_port_of m t p)

-- a word of the attribute's first declaration; it isn't tested where the attribute has a range
abbrev pub is_known_word : Model → ℕ → AttrAt → Bool
is_known_word m w a = has_range a || nat_lt w (length (first_words m a.id))

-- The places of the names and words of a form at a type that are not allowed there. An attribute
-- of the target of a port that isn't known, and a word of an attribute that isn't known, are not
-- tested.
abbrev pub unknown_names : Model → Expr-F Expr → ℕ → List ℕ
unknown_names m (Attr a) t = place_unless (is_some (attribute_of m t a)) 1
unknown_names m (Count p) t = place_unless (is_some (declared_port_of m t p)) 1
unknown_names m (CountOf p u) t =
    place_unless (is_some (declared_port_of m t p)) 1 ++ place_unless (is_type m u) 2
unknown_names m (Sum p a) t =
    place_unless (is_some (declared_port_of m t p)) 1
    ++ option_map_or (λ q. place_unless (is_some (attribute_of m q.target a)) 2)
    (declared_port_of m t p) []
unknown_names m (Total u a) t =
    place_unless (is_type m u) 1
    ++ (if is_type m u then place_unless (is_some (attribute_of m u a)) 2 else [])
unknown_names m (Number u) t = place_unless (is_type m u) 1
unknown_names m (Is a w) t =
    place_unless (is_some (attribute_of m t a)) 1
    ++ option_map_or (λ b. place_unless (is_known_word m w b) 2) (attribute_of m t a) []
unknown_names m (Kind u) t = place_unless (is_type m u) 1
unknown_names m (All p e) t = place_unless (is_some (declared_port_of m t p)) 1
unknown_names m (Any p e) t = place_unless (is_some (declared_port_of m t p)) 1
unknown_names m form t = []

-- a truth, by its form; the others are numbers
abbrev pub is_truth_form : Expr-F Expr → Bool
is_truth_form (Cmp r e f) = true
is_truth_form (Is a w) = true
is_truth_form (Kind t) = true
is_truth_form (And args) = true
is_truth_form (Or args) = true
is_truth_form (Not e) = true
is_truth_form (If e f) = true
is_truth_form (All p e) = true
is_truth_form (Any p e) = true
is_truth_form form = false

-- the arguments of a form have to be truths; those of the others, numbers
abbrev pub needs_truths : Expr-F Expr → Bool
needs_truths (And args) = true
needs_truths (Or args) = true
needs_truths (Not e) = true
needs_truths (If e f) = true
needs_truths (All p e) = true
needs_truths (Any p e) = true
needs_truths form = false

-- both are truths, or both are numbers
abbrev pub same_truth : Bool → Bool → Bool
same_truth true b = b
same_truth false b = not b

-- the places of the arguments that are numbers where a truth is needed, or the reverse
abbrev pub wrong_arguments : Expr-F Expr → List ℕ
wrong_arguments form = flat_map
    (λ arg. place_unless (same_truth (needs_truths form) (is_truth_form (out-Expr arg.1))) arg.0)
    (arguments form)

-- the places of the attributes that have words where a range is needed, or the reverse
abbrev pub wrong_attributes : Model → Expr-F Expr → ℕ → List ℕ
wrong_attributes m (Attr a) t = place_unless (option_map_or has_range (attribute_of m t a) true) 1
wrong_attributes m (Sum p a) t =
    place_unless (option_map_or has_range (attribute_of_target m t p a) true) 2
wrong_attributes m (Total u a) t =
    place_unless (option_map_or has_range (attribute_of m u a) true) 2
wrong_attributes m (Is a w) t = place_unless (option_map_or has_words (attribute_of m t a) true) 1
wrong_attributes m form t = []

-- The expression has this fault at the type: a part nests too deep, a name or word of a part isn't
-- known, an argument or an attribute of a part is of the wrong kind, or a part is wide. Want of
-- memory is none.
pub data HasExprFault (m : Model) (e : Expr) (t : ℕ) (f : ExprFault) : Type 0 where
  deep : (path : List ℕ) (part : Expr) (of : Option ℕ) → IsPart m e t path part of
      → length path ≡ most_nesting → f ≡ Deep path → HasExprFault m e t f
  unknown_name : (path : List ℕ) (part : Expr) (of : ℕ) → IsPart m e t path part (Some of)
      → (k : ℕ) → Contains (unknown_names m (out-Expr part) of) k
      → f ≡ UnknownName (path ++ k ∷ []) → HasExprFault m e t f
  wrong_argument : (path : List ℕ) (part : Expr) (of : Option ℕ) → IsPart m e t path part of
      → (k : ℕ) → Contains (wrong_arguments (out-Expr part)) k
      → f ≡ WrongKind (path ++ k ∷ []) → HasExprFault m e t f
  wrong_attribute : (path : List ℕ) (part : Expr) (of : ℕ) → IsPart m e t path part (Some of)
      → (k : ℕ) → Contains (wrong_attributes m (out-Expr part) of) k
      → f ≡ WrongKind (path ++ k ∷ []) → HasExprFault m e t f
  wide : (path : List ℕ) (part : Expr) (of : ℕ) → IsPart m e t path part (Some of)
      → IsTrue (is_wide m (out-Expr part) of) → f ≡ Wide path → HasExprFault m e t f

-- By kind of fault, and then by path. A part comes before what is in it, and arguments ascend.
abbrev pub rank_of : ExprFault → List ℕ
rank_of (Deep path) = 0 ∷ path
rank_of (UnknownName path) = 1 ∷ path
rank_of (WrongKind path) = 2 ∷ path
rank_of (Wide path) = 3 ∷ path
rank_of Memory = []

-- the first fault comes before the second
abbrev pub IsFaultBefore : ExprFault → ExprFault → Type 0
IsFaultBefore f g = IsTrue (is_lt (slice_cmp nat_cmp (rank_of f) (rank_of g)))

-- the expression has this fault at the type, and none before it
abbrev pub IsFirstExprFault : Model → Expr → ℕ → ExprFault → Type 0
IsFirstExprFault m e t = IsFirst (HasExprFault m e t) IsFaultBefore

-- what a fault says of the expression: it is the first one; want of memory says nothing
abbrev pub Faults : Model → Expr → ℕ → ExprFault → Type 0
Faults m e t (Deep path) = IsFirstExprFault m e t (Deep path)
Faults m e t (UnknownName path) = IsFirstExprFault m e t (UnknownName path)
Faults m e t (WrongKind path) = IsFirstExprFault m e t (WrongKind path)
Faults m e t (Wide path) = IsFirstExprFault m e t (Wide path)
Faults m e t Memory = Unit {0}
