-- The tests of a port's links that a configuration may break.
use Rattle.std.specs.Prelude.{ℕ, Bool, false, not, nat_le, List, length}
use Rattle.std.specs.Option.{option_map_or}
use Rattle.std.specs.List.{list_any}
use Rattle.prod_model.specs.declared.model.Model.{Model}
use Rattle.prod_model.specs.declared.model.PortAt.{PortAt}
use Rattle.prod_model.specs.Limits.{is_between}
use Rattle.config_value.specs.declared.configuration.Instance.{Instance}
use Rattle.config_value.specs.Value.{under, at_instance}
use Rattle.config_value.specs.Shaped.{links_back}
use Rattle.answer_check.specs.Codes.{no_instance_code, off_target_code, bad_number_code, not_linked_back_code}
use Rattle.answer_check.specs.declared.links.PortTest.{PortTest}
use Rattle.answer_check.specs.declared.links.PortTest.TheVariants.{Leads, OnTarget, Number, LinksBack}

-- the number of the test
abbrev pub code_of : PortTest → ℕ
code_of Leads = no_instance_code
code_of OnTarget = off_target_code
code_of Number = bad_number_code
code_of LinksBack = not_linked_back_code

-- there is an instance of that number, and it is not under the type
abbrev pub is_off : Model → List Instance → ℕ → ℕ → Bool
is_off m c t j = at_instance c (λ y. not (under m t y)) false j

-- the port has an inverse, by which one of the linked instances doesn't link back
abbrev pub is_not_linked_back : Model → List Instance → ℕ → PortAt → List ℕ → Bool
is_not_linked_back m c i p links =
    option_map_or (λ id. list_any (λ j. not (links_back m c id i j)) links) p.inverse false

-- the links of a port of instance i break the test
abbrev pub breaks_port : Model → List Instance → PortTest → ℕ → PortAt → List ℕ → Bool
breaks_port m c Leads i p links = list_any (λ j. nat_le (length c) j) links
breaks_port m c OnTarget i p links = list_any (is_off m c p.target) links
breaks_port m c Number i p links = not (is_between p.low p.high (length links))
breaks_port m c LinksBack i p links = is_not_linked_back m c i p links
