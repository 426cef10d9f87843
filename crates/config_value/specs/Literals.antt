-- Which literals hold in a finished configuration.
use Rattle.std.specs.Prelude.{ℕ, ℤ, int_le, Bool, false, not, ◌&&◌, ◌==◌, nat_lt, nat_le, List, length}
use Rattle.std.specs.Ordering.{int_eq}
use Rattle.std.specs.List.{list_any, count_by}
use Rattle.prod_model.specs.declared.model.Model.{Model}
use Rattle.prod_model.specs.Taxonomy.{attributes_at, ports_at}
use Rattle.config_value.specs.declared.configuration.Instance.{Instance}
use Rattle.config_value.specs.declared.literal.Literal.{Literal}
use Rattle.config_value.specs.declared.literal.Literal.TheVariants.{Made, Kind, NotKind, AtMost, AtLeast, ValueIsNot, Linked, NotLinked, LinksAtMost, LinksAtLeast, FreshAtMost, FreshAtLeast}
use Rattle.config_value.specs.Value.{value_of, links_of, under, at_instance}

-- the type has an attribute of that id
abbrev pub has_attribute : Model → ℕ → ℕ → Bool
has_attribute m t id = list_any (λ a. a.id == id) (attributes_at m t)

-- the type has a port of that id
abbrev pub has_port : Model → ℕ → ℕ → Bool
has_port m t id = list_any (λ p. p.id == id) (ports_at m t)

-- instance i is there and has the attribute, and its value passes
abbrev pub has_value_that : Model → List Instance → ℕ → ℕ → (ℤ → Bool) → Bool
has_value_that m c i id test =
    at_instance c (λ x. has_attribute m x.kind id && test (value_of m x id)) false i

-- instance i is there and has the port, and its links pass
abbrev pub has_links_that : Model → List Instance → ℕ → ℕ → (List ℕ → Bool) → Bool
has_links_that m c i id test =
    at_instance c (λ x. has_port m x.kind id && test (links_of m x id)) false i

-- one of the links leads to instance j
abbrev pub leads_to : ℕ → List ℕ → Bool
leads_to j links = list_any (λ k. k == j) links

-- how many of the links lead to instances numbered so or more
abbrev pub count_from : ℕ → List ℕ → ℕ
count_from from links = count_by (nat_le from) links

-- Whether a literal holds. It does so only where there is the instance, and its type has the
-- attribute or port.
unfoldable pub has_literal : Model → List Instance → Literal → Bool
has_literal m c (Made i) = nat_lt i (length c)
has_literal m c (Kind i t) = at_instance c (under m t) false i
has_literal m c (NotKind i t) = at_instance c (λ x. not (under m t x)) false i
has_literal m c (AtMost i a n) = has_value_that m c i a (λ v. int_le v n)
has_literal m c (AtLeast i a n) = has_value_that m c i a (λ v. int_le n v)
has_literal m c (ValueIsNot i a n) = has_value_that m c i a (λ v. not (int_eq v n))
has_literal m c (Linked i p j) = has_links_that m c i p (leads_to j)
has_literal m c (NotLinked i p j) = has_links_that m c i p (λ links. not (leads_to j links))
has_literal m c (LinksAtMost i p n) = has_links_that m c i p (λ links. nat_le (length links) n)
has_literal m c (LinksAtLeast i p n) = has_links_that m c i p (λ links. nat_le n (length links))
has_literal m c (FreshAtMost i p from n) =
    has_links_that m c i p (λ links. nat_le (count_from from links) n)
has_literal m c (FreshAtLeast i p from n) =
    has_links_that m c i p (λ links. nat_le n (count_from from links))
