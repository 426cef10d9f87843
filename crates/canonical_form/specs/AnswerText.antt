-- The text of an answer: a header, and a line for each instance.
use Rattle.std.specs.Prelude.{ℕ, ℤ, pos, negsuc, List, [], ◌∷◌, ◌++◌, map, slice_index_or, slice_get, codes}
use Rattle.std.specs.Option.{option_map_or}
use Rattle.std.specs.Fmt.{decimal, signed_decimal}
use Rattle.std.specs.List.{flat_map, enumerate_from, zip, join_with_byte}
use Rattle.prod_model.specs.declared.model.Model.{Model}
use Rattle.prod_model.specs.declared.model.AttrAt.{AttrAt}
use Rattle.prod_model.specs.declared.model.Domain.TheVariants.{Range, Words}
use Rattle.prod_model.specs.Taxonomy.{Named, attributes_of, ports_of, first_words}
use Rattle.config_value.specs.declared.configuration.Instance.{Instance}

-- a line feed, alone
abbrev pub line_end : List ℕ
line_end = 10 ∷ []

-- the word at a place of the attribute's first declaration
abbrev pub word_at : Model → AttrAt → ℤ → List ℕ
word_at m a (pos n) = slice_index_or (first_words m a.id) n []
word_at m a (negsuc n) = []

-- a whole number in decimal digits, with `-` before a negative one; or a word
abbrev pub value_text : Model → AttrAt → ℤ → List ℕ
value_text m a v = elim a.domain [ Range low high ↦ signed_decimal v | Words words ↦ word_at m a v ]

-- an attribute with its value: ` NAME=VALUE`
abbrev pub attribute_text : Model → Named AttrAt × ℤ → List ℕ
attribute_text m p = codes " " ++ p.0.name ++ codes "=" ++ value_text m p.0.what p.1

-- a port with its links: ` NAME:` and the linked numbers, with a comma between two of them
abbrev pub port_text : {A : Type 0} → Named A × List ℕ → List ℕ
port_text p = codes " " ++ p.0.name ++ codes ":" ++ join_with_byte 44 (map decimal p.1)

-- the name of a type
abbrev pub type_name : Model → ℕ → List ℕ
type_name m t = option_map_or (λ d. d.name) (slice_get m.types t) []

-- the line of an instance: its number, its type, its attributes and its ports
unfoldable pub instance_text : Model → ℕ × Instance → List ℕ
instance_text m e =
    decimal e.0 ++ codes " " ++ type_name m e.1.kind
    ++ flat_map (attribute_text m) (zip (attributes_of m.types e.1.kind) e.1.values)
    ++ flat_map port_text (zip (ports_of m.types e.1.kind) e.1.links)
    ++ line_end

-- the line `preferred`, and one line for each instance
unfoldable pub answer_text : Model → List Instance → List ℕ
answer_text m c = codes "preferred" ++ line_end ++ flat_map (instance_text m) (enumerate_from 0 c)
