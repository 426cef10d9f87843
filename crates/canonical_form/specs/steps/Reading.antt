-- What the steps of a reader of answers tell.
use Rattle.std.specs.Prelude.{◌≡◌, ℕ, ℤ, pos, int_le, int_lt, ◌+◌, ◌≤◌, Bool, false, ◌&&◌, nat_le, nat_lt, IsTrue, List, [], ◌∷◌, ◌++◌, map, length, codes, ◌==◌, if◌then◌else◌}
use Rattle.std.specs.List.{list_all, flat_map, enumerate_from, zip}
use lib.Pointwise.{pointwise}
use Rattle.prod_model.specs.declared.model.Model.{Model}
use Rattle.prod_model.specs.declared.model.Domain.{Domain}
use Rattle.prod_model.specs.declared.model.Domain.TheVariants.{Range, Words}
use Rattle.prod_model.specs.Names.{is_digit}
use Rattle.prod_model.specs.Limits
use Rattle.prod_model.specs.Taxonomy.{attributes_of, ports_of, attributes_at}
use Rattle.config_value.specs.declared.configuration.Instance.{Instance}
use Rattle.config_value.specs.Spelled.{is_spelled_value, is_spelled_links}
use Rattle.canonical_form.specs.declared.reading.tokens.Reach.{Reach}
use Rattle.canonical_form.specs.declared.reading.tokens.Reach.TheVariants.{Number, Name, Word}
use Rattle.canonical_form.specs.declared.fault.AnswerRefusal.{AnswerRefusal}
use Rattle.canonical_form.specs.declared.fault.AnswerRefusal.TheVariants.{Line, Memory}
use Rattle.canonical_form.specs.AnswerText.{type_name}
use Rattle.canonical_form.specs.AnswerParts.{End, belongs, behind_number, behind_name, behind_word, behind_links, attribute_part, port_part, instance_parts}
use Rattle.canonical_form.specs.steps.Pieces.{numbers_piece}
use Rattle.canonical_form.specs.BadLine.{ends_there}
use Rattle.canonical_form.specs.steps.Grammar.{State, Stops, BeginsThen, is_spelled_instance}

-- ---- a text at the front of bytes

-- the bytes begin with this text, and it ends there
pub record Takes (text : List ℕ) (end : End) (bytes rest : List ℕ) : Type 0 where
  pub parts : bytes ≡ text ++ rest
  pub ends : IsTrue (ends_there end rest)

-- the bytes don't begin with the text of any value
abbrev pub TakesNone : {X : Type 0} → (X → List ℕ) → (X → End) → (X → Bool) → List ℕ → Type 0
TakesNone {X} text end is bytes =
    (v : X) (rest : List ℕ) → IsTrue (is v) → ¬ Takes (text v) (end v) bytes rest

-- where a token of that kind ends
abbrev pub end_of : Reach → End
end_of Number = behind_number
end_of Name = behind_name
end_of Word = behind_word

-- the longest front of bytes that belong
pub record IsToken (end : End) (bytes front rest : List ℕ) : Type 0 where
  pub takes : Takes front end bytes rest
  pub belonging : IsTrue (list_all (belongs end) front)

-- ---- values and links

-- how a value of a domain ends
abbrev pub end_of_domain : Domain → End
end_of_domain domain = elim domain [ Range low high ↦ behind_number | Words words ↦ behind_word ]

-- what is behind a minus sign, or all
abbrev pub without_sign : List ℕ → List ℕ
without_sign [] = []
without_sign (b ∷ bs) = if b == 45 then bs else b ∷ bs

-- the first byte is a digit
abbrev pub begins_with_digit : List ℕ → Bool
begins_with_digit [] = false
begins_with_digit (b ∷ bs) = is_digit b

-- a number from `low` on, below the greatest number of instances
abbrev pub is_link_from : ℕ → ℤ → Bool
is_link_from low v = int_le (pos low) v && int_lt v (pos Limits.most_instances)

-- links of which each is at least `low`, above the one before it and below the greatest number of
-- instances; there is one
abbrev pub ascends_from : ℕ → List ℕ → Bool
ascends_from low [] = false
ascends_from low (j ∷ []) = nat_le low j && nat_lt j Limits.most_instances
ascends_from low (j ∷ k ∷ ks) =
    nat_le low j && nat_lt j Limits.most_instances && ascends_from (j + 1) (k ∷ ks)

-- further links behind others
pub record AddsLinks (low : ℕ) (old new bytes rest : List ℕ) : Type 0 where
  pub links : List ℕ
  pub added : new ≡ old ++ links
  pub ascending : IsTrue (ascends_from low links)
  pub takes : Takes (numbers_piece links) behind_links bytes rest

-- ---- lines

-- a blank and the name of a type
abbrev pub type_text : Model → ℕ → List ℕ
type_text m t = codes " " ++ type_name m t

-- values that can be written of all attributes of a type
pub record AreValues (m : Model) (n kind : ℕ) (bytes : List ℕ) (values : List ℤ) (rest : List ℕ)
    : Type 0 where
  pub begins :
      BeginsThen (map (attribute_part m (n + 2)) (zip (attributes_of m.types kind) values))
      bytes rest
  pub spelled : IsTrue (pointwise (is_spelled_value m) (attributes_at m kind) values)

-- links that can be written of all ports of a type
pub record AreLinks (m : Model) (n kind : ℕ) (bytes : List ℕ) (links : List (List ℕ))
    (rest : List ℕ) : Type 0 where
  pub begins : BeginsThen (map (port_part (n + 2)) (zip (ports_of m.types kind) links)) bytes rest
  pub long : length links ≡ length (ports_of m.types kind)
  pub spelled : IsTrue (list_all is_spelled_links links)

-- an instance that can be written, with its whole line
pub record IsInstance (m : Model) (n : ℕ) (bytes : List ℕ) (x : Instance) (rest : List ℕ)
    : Type 0 where
  pub begins : BeginsThen (instance_parts m (n, x)) bytes rest
  pub spelled : IsTrue (is_spelled_instance m x)

-- instances that can be written, one or more and no more than the limit, with their lines and
-- nothing behind them
pub record AreInstances (m : Model) (bytes : List ℕ) (c : List Instance) : Type 0 where
  pub begins : BeginsThen (flat_map (instance_parts m) (enumerate_from 0 c)) bytes []
  pub spelled : IsTrue (list_all (is_spelled_instance m) c)
  pub some : 1 ≤ length c
  pub few : length c ≤ Limits.most_instances

-- ---- refusals

-- a refusal names the line and the code at which reading stops; want of memory tells nothing
abbrev pub Refuses : Model → State → List ℕ → AnswerRefusal → Type 0
Refuses m s bytes (Line fault) = Stops m s bytes fault.line fault.code
Refuses m s bytes (Memory e) = Unit {0}
