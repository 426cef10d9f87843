-- The pieces of an instance's line, by the first declarations of what its type has.
use Rattle.std.specs.Prelude.{ℕ, ℤ, pos, negsuc, Bool, List, [], ◌++◌, map, length, slice_index_or, codes}
use Rattle.std.specs.Fmt.{decimal, signed_decimal}
use Rattle.std.specs.List.{join_with_byte}
use Rattle.prod_model.specs.declared.model.AttrAt.{AttrAt}
use Rattle.prod_model.specs.declared.model.AttrDecl.{AttrDecl}
use Rattle.prod_model.specs.declared.model.PortDecl.{PortDecl}
use Rattle.prod_model.specs.declared.model.Domain.{Domain}
use Rattle.prod_model.specs.declared.model.Domain.TheVariants.{Range, Words}
use Rattle.prod_model.specs.Limits
use Rattle.prod_model.specs.Limits.{is_within}
use Rattle.prod_model.specs.Taxonomy.{words_of}
use Rattle.config_value.specs.Spelled.{is_word_place}

-- one of some words, by its place
abbrev pub word_piece : List (List ℕ) → ℤ → List ℕ
word_piece words (pos n) = slice_index_or words n []
word_piece words (negsuc n) = []

-- a number, or one of some words
abbrev pub value_piece : List (List ℕ) → Domain → ℤ → List ℕ
value_piece words domain v =
    elim domain [ Range low high ↦ signed_decimal v | Words own ↦ word_piece words v ]

-- a value that can be written where an attribute's first declaration has so many words
abbrev pub is_written_value : ℕ → Domain → ℤ → Bool
is_written_value words domain v = elim domain [
  | Range low high ↦ is_within Limits.farthest_end v
  | Words own ↦ is_word_place words v
]

-- ` NAME=VALUE`
unfoldable pub attribute_piece : AttrDecl × (AttrAt × ℤ) → List ℕ
attribute_piece p =
    codes " " ++ p.0.name ++ codes "=" ++ value_piece (words_of p.0.domain) p.1.0.domain p.1.1

-- numbers with a comma between two of them
abbrev pub numbers_piece : List ℕ → List ℕ
numbers_piece ns = join_with_byte 44 (map decimal ns)

-- ` NAME:` and the linked numbers
unfoldable pub port_piece : PortDecl × List ℕ → List ℕ
port_piece p = codes " " ++ p.0.name ++ codes ":" ++ numbers_piece p.1

-- an attribute's first declaration, the attribute at a type, and a value that can be written for it
abbrev pub is_written : AttrDecl × (AttrAt × ℤ) → Bool
is_written p = is_written_value (length (words_of p.0.domain)) p.1.0.domain p.1.1
