-- Which lists of instances have an answer text.
use Rattle.std.specs.Prelude.{ℕ, ℤ, pos, negsuc, Bool, false, ◌&&◌, nat_lt, List, length}
use Rattle.std.specs.List.{list_all}
use lib.Pointwise.{pointwise}
use Rattle.prod_model.specs.declared.model.Model.{Model}
use Rattle.prod_model.specs.declared.model.AttrAt.{AttrAt}
use Rattle.prod_model.specs.declared.model.Domain.TheVariants.{Range, Words}
use Rattle.prod_model.specs.Limits
use Rattle.prod_model.specs.Limits.{is_within, is_between}
use Rattle.prod_model.specs.Taxonomy.{first_words, attributes_at}
use Rattle.config_value.specs.declared.configuration.Instance.{Instance}
use Rattle.config_value.specs.Shaped.{has_leaf_types, ascends}

-- the place of a word, where there are so many
abbrev pub is_word_place : ℕ → ℤ → Bool
is_word_place words (pos n) = nat_lt n words
is_word_place words (negsuc n) = false

-- a whole number within a million, or the place of a word of the attribute's first declaration
abbrev pub is_spelled_value : Model → AttrAt → ℤ → Bool
is_spelled_value m a v = elim a.domain [
  | Range low high ↦ is_within Limits.farthest_end v
  | Words words ↦ is_word_place (length (first_words m a.id)) v
]

-- links that ascend, to instances numbered below the greatest number of instances
abbrev pub is_spelled_links : List ℕ → Bool
is_spelled_links links = ascends links && list_all (λ j. nat_lt j Limits.most_instances) links

-- 1 to 256 instances, each of a leaf type, with as many values and lists of links as the type has
-- attributes and ports, and values and links that can be written
unfoldable pub is_spelled : Model → List Instance → Bool
is_spelled m c =
    is_between 1 Limits.most_instances (length c) && has_leaf_types m c
    && list_all
    (λ x. pointwise (is_spelled_value m) (attributes_at m x.kind) x.values
    && list_all is_spelled_links x.links) c
