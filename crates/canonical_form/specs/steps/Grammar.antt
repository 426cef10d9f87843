-- Which parts may stand behind others in an answer text.
use Rattle.std.specs.Prelude.{◌≡◌, ◌≢◌, ℕ, ℤ, suc, ◌+◌, ◌<◌, Bool, ◌&&◌, ◌==◌, IsTrue, List, [], ◌∷◌, ◌++◌, length}
use Rattle.std.specs.List.{list_all}
use lib.Pointwise.{pointwise}
use Rattle.prod_model.specs.declared.model.Model.{Model}
use Rattle.prod_model.specs.declared.model.AttrAt.{AttrAt}
use Rattle.prod_model.specs.declared.model.PortAt.{PortAt}
use Rattle.prod_model.specs.Limits
use Rattle.prod_model.specs.Forest.{is_leaf}
use Rattle.prod_model.specs.Taxonomy.{Named, attributes_of, ports_of, attributes_at, ports_at}
use Rattle.config_value.specs.declared.configuration.Instance.{Instance}
use Rattle.config_value.specs.Spelled.{is_spelled_value, is_spelled_links}
use Rattle.canonical_form.specs.declared.fault.PartCode.{PartCode}
use Rattle.canonical_form.specs.declared.fault.PartCode.TheVariants.{Header, Number, TypeName, Attribute, Port, LineEnd}
use Rattle.canonical_form.specs.AnswerParts.{Part, number_part, type_part, header_part, end_part, attribute_part, port_part}
use Rattle.canonical_form.specs.BadLine.{ends_there}

-- What stands next: the header, its end, the number of a line behind so many instances, the type in
-- the line of that number, or one of the attributes and ports that are left in that line, with the
-- line's end behind them.
pub data State : Type 0 where
  at_header : State
  at_header_end : State
  at_number : ℕ → State
  at_type : ℕ → State
  at_members : ℕ → List (Named AttrAt) → List (Named PortAt) → State

-- the part may stand there, and the second state is behind it
abbrev pub Follows : Model → State → Part → State → Type 0
Follows m at_header p s = (p ≡ header_part) × (s ≡ at_header_end)
Follows m at_header_end p s = (p ≡ end_part 1) × (s ≡ at_number 0)
Follows m (at_number n) p s = (n < Limits.most_instances) × (p ≡ number_part n) × (s ≡ at_type n)
Follows m (at_type n) p s =
    (t : ℕ) × IsTrue (is_leaf m t) × (p ≡ type_part m n t)
    × (s ≡ at_members n (attributes_of m.types t) (ports_of m.types t))
Follows m (at_members n (a ∷ attributes) ports) p s =
    (v : ℤ) × IsTrue (is_spelled_value m a.what v) × (p ≡ attribute_part m (n + 2) (a, v))
    × (s ≡ at_members n attributes ports)
Follows m (at_members n [] (q ∷ ports)) p s =
    (links : List ℕ) × IsTrue (is_spelled_links links) × (p ≡ port_part (n + 2) (q, links))
    × (s ≡ at_members n [] ports)
Follows m (at_members n [] []) p s = (p ≡ end_part (n + 2)) × (s ≡ at_number (n + 1))

-- the parts lead from one state to another
abbrev pub Leads : Model → State → List Part → State → Type 0
Leads m s [] u = s ≡ u
Leads m s (p ∷ ps) u = (t : State) × Follows m s p t × Leads m t ps u

-- the bytes begin with these parts, and the rest stands behind them
abbrev pub BeginsThen : List Part → List ℕ → List ℕ → Type 0
BeginsThen [] bytes rest = bytes ≡ rest
BeginsThen (p ∷ ps) bytes rest =
    (behind : List ℕ) × (bytes ≡ p.text ++ behind) × IsTrue (ends_there p.end behind)
    × BeginsThen ps behind rest

-- the line and the code of what stands next
abbrev pub line_of : State → ℕ
line_of at_header = 1
line_of at_header_end = 1
line_of (at_number n) = n + 2
line_of (at_type n) = n + 2
line_of (at_members n attributes ports) = n + 2

-- the code of the part that comes next
abbrev pub code_of : State → PartCode
code_of at_header = Header
code_of at_header_end = LineEnd
code_of (at_number n) = Number
code_of (at_type n) = TypeName
code_of (at_members n (a ∷ attributes) ports) = Attribute
code_of (at_members n [] (q ∷ ports)) = Port
code_of (at_members n [] []) = LineEnd

-- the bytes begin with no part that may stand there
abbrev pub IsStuck : Model → State → List ℕ → Type 0
IsStuck m s bytes =
    (p : Part) (t : State) (behind : List ℕ) → Follows m s p t → bytes ≡ p.text ++ behind
    → ¬ IsTrue (ends_there p.end behind)

-- from one state the bytes begin with parts that lead to the other, and the rest stands behind them
pub record Reads (m : Model) (s : State) (bytes : List ℕ) (t : State) (rest : List ℕ) : Type 0 where
  pub read : List Part
  pub leads : Leads m s read t
  pub begins : BeginsThen read bytes rest

-- from one state the bytes begin with parts behind which they go on with no part of an answer, and
-- they do not end as an answer
pub record Stops (m : Model) (s : State) (bytes : List ℕ) (line : ℕ) (code : PartCode)
    : Type 0 where
  pub state : State
  pub rest : List ℕ
  pub reads : Reads m s bytes state rest
  pub stuck : IsStuck m state rest
  pub unended : (k : ℕ) → state ≡ at_number (suc k) → rest ≢ []
  pub line_is : line_of state ≡ line
  pub code_is : code_of state ≡ code

-- an instance of a leaf type, with values and links that can be written
abbrev pub is_spelled_instance : Model → Instance → Bool
is_spelled_instance m x =
    is_leaf m x.kind && (length x.values == length (attributes_at m x.kind))
    && (length x.links == length (ports_at m x.kind))
    && (pointwise (is_spelled_value m) (attributes_at m x.kind) x.values
    && list_all is_spelled_links x.links)
