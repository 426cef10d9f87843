-- The parts of an answer text, each with its line and its code.
use Rattle.std.specs.Prelude.{ℕ, ℤ, ◌+◌, Bool, false, ◌||◌, ◌==◌, List, [], ◌∷◌, ◌++◌, map, codes}
use Rattle.std.specs.Fmt.{decimal}
use Rattle.std.specs.List.{flat_map, enumerate_from, zip}
use Rattle.prod_model.specs.declared.model.Model.{Model}
use Rattle.prod_model.specs.declared.model.AttrAt.{AttrAt}
use Rattle.prod_model.specs.declared.model.PortAt.{PortAt}
use Rattle.prod_model.specs.declared.model.Domain.TheVariants.{Range, Words}
use Rattle.prod_model.specs.Names.{is_digit, is_name_byte, is_word_byte}
use Rattle.prod_model.specs.Taxonomy.{Named, attributes_of, ports_of}
use Rattle.config_value.specs.declared.configuration.Instance.{Instance}
use Rattle.canonical_form.specs.declared.fault.PartCode.{PartCode}
use Rattle.canonical_form.specs.declared.fault.PartCode.TheVariants.{Header, Number, TypeName, Attribute, Port, LineEnd}
use Rattle.canonical_form.specs.AnswerText.{attribute_text, port_text, type_name, line_end}

-- How a part ends: at once, or behind a number, a name, a word or a list of links.
pub data End : Type 0 where
  at_once : End
  behind_number : End
  behind_name : End
  behind_word : End
  behind_links : End

-- The byte would belong to a part of that end: a number, a name or a word reaches to the first byte
-- that can't belong to it, and a comma behind a link asks for another link.
abbrev pub belongs : End → ℕ → Bool
belongs at_once b = false
belongs behind_number b = is_digit b
belongs behind_name b = is_name_byte b
belongs behind_word b = is_word_byte b
belongs behind_links b = is_digit b || (b == 44)

-- a part of an answer text: its line, what it is, its bytes, and how it ends
pub record Part : Type 0 where
  pub line : ℕ
  pub code : PartCode
  pub text : List ℕ
  pub end : End

-- a number ends as numbers do, and a word as words do
abbrev pub value_end : AttrAt → End
value_end a = elim a.domain [ Range low high ↦ behind_number | Words words ↦ behind_word ]

-- a port without links ends with its colon, behind which a number would be a link
abbrev pub links_end : List ℕ → End
links_end [] = behind_number
links_end (j ∷ js) = behind_links

-- the number of an instance: the lines of instances begin behind the header
abbrev pub number_part : ℕ → Part
number_part n = record { line = n + 2; code = Number; text = decimal n; end = behind_number }

-- the type of an instance, behind a blank
abbrev pub type_part : Model → ℕ → ℕ → Part
type_part m n t =
    record { line = n + 2; code = TypeName; text = codes " " ++ type_name m t; end = behind_name }

-- an attribute and its value
abbrev pub attribute_part : Model → ℕ → Named AttrAt × ℤ → Part
attribute_part m line p =
    record { line = line; code = Attribute; text = attribute_text m p; end = value_end p.0.what }

-- a port and its links
abbrev pub port_part : ℕ → Named PortAt × List ℕ → Part
port_part line p = record { line = line; code = Port; text = port_text p; end = links_end p.1 }

-- the end of a line
abbrev pub end_part : ℕ → Part
end_part line = record { line = line; code = LineEnd; text = line_end; end = at_once }

-- an instance's line: its number, its type, its attributes, its ports and the end of the line
unfoldable pub instance_parts : Model → ℕ × Instance → List Part
instance_parts m e =
    number_part e.0 ∷ type_part m e.0 e.1.kind
    ∷ (map (attribute_part m (e.0 + 2)) (zip (attributes_of m.types e.1.kind) e.1.values)
    ++ map (port_part (e.0 + 2)) (zip (ports_of m.types e.1.kind) e.1.links)
    ++ end_part (e.0 + 2) ∷ [])

-- the word in the first line
abbrev pub header_part : Part
header_part = record { line = 1; code = Header; text = codes "preferred"; end = at_once }

-- the header line, and the parts of each instance's line
unfoldable pub parts_of : Model → List Instance → List Part
parts_of m c = header_part ∷ end_part 1 ∷ flat_map (instance_parts m) (enumerate_from 0 c)
