-- Which literals say less than another one.
use Rattle.std.specs.Prelude.{ℕ, int_le, int_lt, Bool, false, not, ◌&&◌, ◌||◌, ◌==◌, nat_le, IsTrue, List}
use Rattle.std.specs.Ordering.{int_eq}
use Rattle.prod_model.specs.declared.model.Model.{Model}
use Rattle.prod_model.specs.Forest.{is_a}
use Rattle.prod_model.specs.Valid.{IsValid}
use Rattle.config_value.specs.declared.configuration.Instance.{Instance}
use Rattle.config_value.specs.declared.literal.Literal.{Literal}
use Rattle.config_value.specs.declared.literal.Literal.TheVariants.{Made, Kind, NotKind, AtMost, AtLeast, ValueIsNot, Linked, NotLinked, LinksAtMost, LinksAtLeast, FreshAtMost, FreshAtLeast}
use Rattle.config_value.specs.Literals.{has_literal}

-- the instance that a literal speaks of
abbrev pub instance_of : Literal → ℕ
instance_of (Made i) = i
instance_of (Kind i t) = i
instance_of (NotKind i t) = i
instance_of (AtMost i a n) = i
instance_of (AtLeast i a n) = i
instance_of (ValueIsNot i a n) = i
instance_of (Linked i p j) = i
instance_of (NotLinked i p j) = i
instance_of (LinksAtMost i p n) = i
instance_of (LinksAtLeast i p n) = i
instance_of (FreshAtMost i p from n) = i
instance_of (FreshAtLeast i p from n) = i

-- both numbers are the same
abbrev pub both : ℕ → ℕ → ℕ → ℕ → Bool
both i j p q = (i == j) && (p == q)

-- A literal shows that there is its instance, and each one of a lower number.
abbrev pub shows_made : Literal → Literal → Bool
shows_made k (Made j) = nat_le j (instance_of k)
shows_made k l = false

-- A type shows those above it, and that the instance is of none that is neither above nor under it;
-- what is not of a type is of none under it.
abbrev pub shows_type : Model → Literal → Literal → Bool
shows_type m (Kind i t) (Kind j u) = (i == j) && is_a m t u
shows_type m (Kind i t) (NotKind j u) = (i == j) && not (is_a m t u) && not (is_a m u t)
shows_type m (NotKind i t) (NotKind j u) = (i == j) && is_a m u t
shows_type m k l = false

-- A bound of a value shows wider ones, and that the value is none beyond it.
abbrev pub shows_value : Literal → Literal → Bool
shows_value (AtMost i a n) (AtMost j b v) = both i j a b && int_le n v
shows_value (AtMost i a n) (ValueIsNot j b v) = both i j a b && int_lt n v
shows_value (AtLeast i a n) (AtLeast j b v) = both i j a b && int_le v n
shows_value (AtLeast i a n) (ValueIsNot j b v) = both i j a b && int_lt v n
shows_value (ValueIsNot i a n) (ValueIsNot j b v) = both i j a b && int_eq n v
shows_value k l = false

-- A link shows itself, and that there is one; no link shows itself; a bound of the number of links
-- shows wider ones, and where none can be there, that none is.
abbrev pub shows_links : Literal → Literal → Bool
shows_links (Linked i p to) (Linked j q other) = both i j p q && (to == other)
shows_links (Linked i p to) (LinksAtLeast j q l) = both i j p q && nat_le l 1
shows_links (Linked i p to) (FreshAtLeast j q start l) =
    both i j p q && nat_le start to && nat_le l 1
shows_links (NotLinked i p to) (NotLinked j q other) = both i j p q && (to == other)
shows_links (LinksAtMost i p n) (LinksAtMost j q l) = both i j p q && nat_le n l
shows_links (LinksAtMost i p n) (FreshAtMost j q start l) = both i j p q && nat_le n l
shows_links (LinksAtMost i p n) (NotLinked j q other) = both i j p q && (n == 0)
shows_links (LinksAtLeast i p n) (LinksAtLeast j q l) = both i j p q && nat_le l n
shows_links (FreshAtMost i p from n) (FreshAtMost j q start l) =
    both i j p q && nat_le from start && nat_le n l
shows_links (FreshAtMost i p from n) (NotLinked j q other) =
    both i j p q && nat_le from other && (n == 0)
shows_links (FreshAtLeast i p from n) (FreshAtLeast j q start l) =
    both i j p q && nat_le start from && nat_le l n
shows_links (FreshAtLeast i p from n) (LinksAtLeast j q l) = both i j p q && nat_le l n
shows_links k l = false

-- Whether the first literal alone shows the second, as far as types and bounds tell.
unfoldable pub implies : Model → Literal → Literal → Bool
implies m k l = shows_made k l || shows_type m k l || shows_value k l || shows_links k l

-- What a literal implies holds wherever it does.
abbrev pub ImpliedHolds : Type 0
ImpliedHolds =
    (m : Model) (k l : Literal) (c : List Instance) → IsValid m → IsTrue (implies m k l)
    → IsTrue (has_literal m c k) → IsTrue (has_literal m c l)
