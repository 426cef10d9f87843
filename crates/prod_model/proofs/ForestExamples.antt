-- Which types are under which, which are leaves, and which parents go round in a circle, computed.
use Rattle.std.specs.Prelude.{◌≡◌, ℕ, ◌==◌, true, false, List, [], ◌∷◌, map, Some, None, refl}
use Rattle.std.specs.declared.option.Option.{Option}
use Rattle.std.specs.List.{list_any}
use Rattle.prod_model.specs.declared.model.Model.{Model}
use Rattle.prod_model.specs.Forest.{line, ancestors, is_type, is_a, is_leaf, is_forest}

-- A model of types with these parents. Nothing here depends on their names.
abbrev model_of : List (Option ℕ) → Model
model_of parents = record {
  root = 0;
  instances = 1;
  bounds = [];
  rules = [];
  types = map (λ p. record { name = []; parent = p; attributes = []; ports = [] }) parents;
}

-- 0 is under 1, 3 under 0, 5 under 1; 4 is under 2
abbrev forest : Model
forest = model_of (Some 1 ∷ None ∷ None ∷ Some 0 ∷ Some 2 ∷ Some 1 ∷ [])

-- ---- under

-- A type's line is the type, its parent, and that one's parent.
line_of_grandchild : line forest.types 3 ≡ 3 ∷ 0 ∷ 1 ∷ []
line_of_grandchild = refl

line_of_root : line forest.types 1 ≡ 1 ∷ []
line_of_root = refl

line_of_no_type : line forest.types 6 ≡ []
line_of_no_type = refl

-- Its ancestors are the line without itself.
ancestors_of_grandchild : ancestors forest.types 3 ≡ 0 ∷ 1 ∷ []
ancestors_of_grandchild = refl

-- A type is under itself, its parent and its grandparent, and under no other type.
above_grandchild : map (is_a forest 3) (0 ∷ 1 ∷ 2 ∷ 3 ∷ 4 ∷ 5 ∷ 6 ∷ []) ≡ true ∷ true ∷ false ∷ true ∷ false ∷ false ∷ false ∷ []
unfolding is_a
above_grandchild = refl

-- A parent isn't under its child, nor a type under its sibling.
above_parent : map (is_a forest 1) (0 ∷ 1 ∷ 5 ∷ []) ≡ false ∷ true ∷ false ∷ []
unfolding is_a
above_parent = refl

above_sibling : map (is_a forest 5) (0 ∷ 1 ∷ 5 ∷ []) ≡ false ∷ true ∷ true ∷ []
unfolding is_a
above_sibling = refl

-- What is no type is under nothing, itself included.
above_no_type : map (is_a forest 6) (0 ∷ 1 ∷ 6 ∷ []) ≡ false ∷ false ∷ false ∷ []
unfolding is_a
above_no_type = refl

-- ---- leaves

-- A type with a child is no leaf, one without is, and what is no type isn't.
leaves : map (is_leaf forest) (0 ∷ 1 ∷ 2 ∷ 3 ∷ 4 ∷ 5 ∷ 6 ∷ []) ≡ false ∷ false ∷ false ∷ true ∷ true ∷ true ∷ false ∷ []
unfolding is_leaf
leaves = refl

-- Types are numbered from 0.
types : map (is_type forest) (0 ∷ 5 ∷ 6 ∷ []) ≡ true ∷ true ∷ false ∷ []
types = refl

-- ---- circles

forest_is_one : is_forest forest ≡ true
unfolding is_forest
forest_is_one = refl

-- a single type, and no type at all
single_is_forest : map (λ parents. is_forest (model_of parents)) ((None ∷ []) ∷ [] ∷ []) ≡ true ∷ true ∷ []
unfolding is_forest
single_is_forest = refl

-- A line as long as there are types is no circle.
chain_is_forest : is_forest (model_of (Some 1 ∷ Some 2 ∷ Some 3 ∷ Some 4 ∷ None ∷ [])) ≡ true
unfolding is_forest
chain_is_forest = refl

-- a type that is its own parent
circle_of_one : is_forest (model_of (Some 0 ∷ [])) ≡ false
unfolding is_forest
circle_of_one = refl

circle_of_two : is_forest (model_of (Some 1 ∷ Some 0 ∷ [])) ≡ false
unfolding is_forest
circle_of_two = refl

circle_of_three : is_forest (model_of (Some 1 ∷ Some 2 ∷ Some 0 ∷ [])) ≡ false
unfolding is_forest
circle_of_three = refl

-- a circle of 1, 3 and 4; 0 and 2 are a tree of their own, and 5 is under the circle
abbrev beside_circle : Model
beside_circle = model_of (None ∷ Some 3 ∷ Some 0 ∷ Some 4 ∷ Some 1 ∷ Some 1 ∷ [])

circle_beside_others : is_forest beside_circle ≡ false
unfolding is_forest
circle_beside_others = refl

-- Only the types of the circle are their own ancestors.
own_ancestors : map (λ t. list_any (λ u. u == t) (ancestors beside_circle.types t)) (0 ∷ 1 ∷ 2 ∷ 3 ∷ 4 ∷ 5 ∷ [])
    ≡ false ∷ true ∷ false ∷ true ∷ true ∷ false ∷ []
own_ancestors = refl

-- A parent that is no type ends the line, and is a fault of its own.
unknown_parent : is_forest (model_of (Some 7 ∷ [])) ≡ true
unfolding is_forest
unknown_parent = refl
