-- Which lists of instances are shaped as configurations of a model.
use Rattle.std.specs.Prelude.{ℕ, ℤ, pos, negsuc, int_le, Bool, true, false, ◌&&◌, ◌==◌, nat_lt, nat_le, List, [], ◌∷◌, length, slice_get, if◌then◌else◌}
use Rattle.std.specs.Option.{option_map_or}
use Rattle.std.specs.List.{list_any, list_all, flat_map, count_by, enumerate_from, range_with_len, zip}
use lib.Pointwise.{pointwise}
use Rattle.prod_model.specs.declared.model.Model.{Model}
use Rattle.prod_model.specs.declared.model.Domain.{Domain}
use Rattle.prod_model.specs.declared.model.Domain.TheVariants.{Range, Words}
use Rattle.prod_model.specs.declared.model.PortKind.TheVariants.{Part, Shared}
use Rattle.prod_model.specs.declared.model.AttrAt.{AttrAt}
use Rattle.prod_model.specs.declared.model.PortAt.{PortAt}
use Rattle.prod_model.specs.Names.{same_text}
use Rattle.prod_model.specs.Limits.{is_between}
use Rattle.prod_model.specs.Forest.{is_leaf}
use Rattle.prod_model.specs.Taxonomy.{first_words, attributes_at, ports_at}
use Rattle.config_value.specs.declared.configuration.Instance.{Instance}
use Rattle.config_value.specs.Value.{under, is_under, links_at_instance}

-- the numbers of the instances, which count from 0
abbrev pub instance_numbers : List Instance → List ℕ
instance_numbers c = range_with_len 0 (length c)

-- Whether a value is one of a domain. The value of a word is its place among the words of the
-- attribute's first declaration.
abbrev pub is_in : Domain → List (List ℕ) → ℤ → Bool
is_in (Range low high) first v = int_le low v && int_le v high
is_in (Words words) first (pos n) =
    option_map_or (λ w. list_any (same_text w) words) (slice_get first n) false
is_in (Words words) first (negsuc n) = false

-- a value is in the attribute's domain at the type
abbrev pub has_value : Model → AttrAt → ℤ → Bool
has_value m a v = is_in a.domain (first_words m a.id) v

-- each number is above the one before it
abbrev pub ascends : List ℕ → Bool
ascends [] = true
ascends (n ∷ []) = true
ascends (n ∷ k ∷ ks) = nat_lt n k && ascends (k ∷ ks)

-- Each instance is of a leaf type, with as many values and lists of links as the type has
-- attributes and ports.
unfoldable pub has_leaf_types : Model → List Instance → Bool
has_leaf_types m c = list_all (λ x. is_leaf m x.kind
    && (length x.values == length (attributes_at m x.kind))
    && (length x.links == length (ports_at m x.kind))) c

-- Instance 0 is of a type under the root type.
unfoldable pub has_root : Model → List Instance → Bool
has_root m c = is_under m c m.root 0

-- There is an instance, and there are no more than the model allows.
unfoldable pub has_size : Model → List Instance → Bool
has_size m c = is_between 1 m.instances (length c)

-- Each value is in its attribute's domain at the instance's type.
unfoldable pub has_values : Model → List Instance → Bool
has_values m c = list_all (λ x. pointwise (has_value m) (attributes_at m x.kind) x.values) c

-- The links of a port ascend, lead to instances under its target, and are as many as it allows.
abbrev pub has_links_of : Model → List Instance → PortAt → List ℕ → Bool
has_links_of m c p links =
    ascends links && list_all (is_under m c p.target) links
    && is_between p.low p.high (length links)

-- This holds of the links of each port of each instance.
unfoldable pub has_links : Model → List Instance → Bool
has_links m c = list_all (λ x. pointwise (has_links_of m c) (ports_at m x.kind) x.links) c

-- a port whose links are to parts
abbrev pub is_part : PortAt → Bool
is_part p = elim p.kind [ Part ↦ true | Shared ↦ false ]

-- where the links of part ports lead, over all instances and their ports
abbrev pub part_links : Model → List Instance → List ℕ
part_links m c =
    flat_map (λ x. flat_map (λ pair. if is_part pair.0 then pair.1 else [])
    (zip (ports_at m x.kind) x.links)) c

-- An instance has at most one part link into it, and instance 0 has none.
unfoldable pub has_single_parts : Model → List Instance → Bool
has_single_parts m c =
    list_all
    (λ j. nat_le (count_by (λ k. k == j) (part_links m c)) (if j == 0 then 0 else 1))
    (instance_numbers c)

-- the instance of number j has a port of id q, and links i by it
abbrev pub links_back : Model → List Instance → ℕ → ℕ → ℕ → Bool
links_back m c q i j = list_any (λ k. k == i) (links_at_instance m c q j)

-- The links of instance i by a port: where it has an inverse, each linked instance links back by
-- that.
abbrev pub has_links_back_of : Model → List Instance → ℕ → PortAt → List ℕ → Bool
has_links_back_of m c i p links =
    option_map_or (λ q. list_all (links_back m c q i) links) p.inverse true

-- This holds of the links of each port of each instance.
unfoldable pub has_links_back : Model → List Instance → Bool
has_links_back m c =
    list_all
    (λ e. pointwise (has_links_back_of m c e.0) (ports_at m e.1.kind) e.1.links)
    (enumerate_from 0 c)

-- For each entry of `bounds`, the number of instances under its type is within its pair.
unfoldable pub has_counts : Model → List Instance → Bool
has_counts m c = list_all (λ b. is_between b.low b.high (count_by (under m b.kind) c)) m.bounds

-- It is shaped: all that a model asks, but for the numbering and the rules.
unfoldable pub is_shaped : Model → List Instance → Bool
is_shaped m c =
    has_leaf_types m c && has_root m c
    && has_size m c && has_values m c && has_links m c && has_single_parts m c
    && has_links_back m c && has_counts m c
