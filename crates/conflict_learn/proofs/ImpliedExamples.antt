-- What literals imply in the model of racks, computed.
use Rattle.std.specs.Prelude.{◌≡◌, pos, Bool, true, false, List, [], ◌∷◌, map, refl}
use Rattle.prod_model.specs.Forest.{is_a}
use Rattle.prod_model.proofs.Models.{rack}
use Rattle.config_value.specs.declared.literal.Literal.{Literal}
use Rattle.config_value.specs.declared.literal.Literal.TheVariants as literal
use Rattle.conflict_learn.specs.Implied.{implies}

abbrev shown : List (Literal × Literal) → List Bool
shown pairs = map (λ (e : Literal × Literal). implies rack e.0 e.1) pairs

-- a small card is a card and no big one; a card may be small; what is no card is no small one
of_types : shown (
    (literal.Kind 1 3, literal.Kind 1 2) ∷ (literal.Kind 1 2, literal.Kind 1 3) ∷ (literal.Kind 1 3, literal.NotKind 1 4)
    ∷ (literal.Kind 1 2, literal.NotKind 1 3) ∷ (literal.Kind 1 3, literal.NotKind 1 2) ∷ (literal.NotKind 1 2, literal.NotKind 1 3)
    ∷ (literal.NotKind 1 3, literal.NotKind 1 2) ∷ (literal.Kind 1 3, literal.Kind 2 2) ∷ (literal.Kind 2 3, literal.Made 1) ∷ (literal.Kind 1 3, literal.Made 2) ∷ [])
    ≡ true ∷ false ∷ true ∷ false ∷ false ∷ true ∷ false ∷ false ∷ true ∷ false ∷ []
unfolding implies is_a
of_types = refl

-- at most 10 is at most 11 and not 11, but may be 10 and 9
of_values : shown (
    (literal.AtMost 1 0 (pos 10), literal.AtMost 1 0 (pos 11)) ∷ (literal.AtMost 1 0 (pos 10), literal.AtMost 1 0 (pos 9))
    ∷ (literal.AtMost 1 0 (pos 10), literal.ValueIsNot 1 0 (pos 11)) ∷ (literal.AtMost 1 0 (pos 10), literal.ValueIsNot 1 0 (pos 10))
    ∷ (literal.AtLeast 1 0 (pos 10), literal.AtLeast 1 0 (pos 9)) ∷ (literal.AtLeast 1 0 (pos 10), literal.ValueIsNot 1 0 (pos 9))
    ∷ (literal.AtLeast 1 0 (pos 10), literal.AtLeast 1 1 (pos 9)) ∷ (literal.ValueIsNot 1 0 (pos 10), literal.ValueIsNot 1 0 (pos 10)) ∷ [])
    ≡ true ∷ false ∷ true ∷ false ∷ true ∷ true ∷ false ∷ true ∷ []
unfolding implies
of_values = refl

-- a link to instance 2 is one of those from 2 on, and none of those from 3 on; no link from 2 on is none to 3
of_links : shown (
    (literal.Linked 0 0 2, literal.FreshAtLeast 0 0 2 1) ∷ (literal.Linked 0 0 2, literal.FreshAtLeast 0 0 3 1) ∷ (literal.Linked 0 0 2, literal.LinksAtLeast 0 0 1)
    ∷ (literal.Linked 0 0 2, literal.LinksAtLeast 0 0 2) ∷ (literal.FreshAtMost 0 0 2 0, literal.NotLinked 0 0 3) ∷ (literal.FreshAtMost 0 0 2 0, literal.NotLinked 0 0 1)
    ∷ (literal.LinksAtMost 0 0 3, literal.FreshAtMost 0 0 2 3) ∷ (literal.FreshAtMost 0 0 2 3, literal.LinksAtMost 0 0 3) ∷ (literal.FreshAtLeast 0 0 2 3, literal.LinksAtLeast 0 0 2) ∷ [])
    ≡ true ∷ false ∷ true ∷ false ∷ true ∷ false ∷ true ∷ false ∷ true ∷ []
unfolding implies
of_links = refl
