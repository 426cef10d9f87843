-- The texts of a check.
use Rattle.std.specs.Prelude.{ℕ, ℤ, ◌==◌, ◌||◌, Bool, List, ◌++◌, map, slice_get, unwrap_or, codes, if◌then◌else◌}
use Rattle.std.specs.Fmt.{decimal, signed_decimal}
use Rattle.std.specs.List.{flat_map, zip}
use Rattle.prod_model.specs.declared.model.Model.{Model}
use Rattle.prod_model.specs.declared.model.Order.{Order}
use Rattle.prod_model.specs.declared.model.Criterion.{Criterion}
use Rattle.prod_model.specs.Taxonomy.{attributes_of, ports_of}
use Rattle.config_value.specs.declared.configuration.Instance.{Instance}
use Rattle.config_value.specs.Value.{at_instance}
use Rattle.canonical_form.specs.declared.fault.PartCode.{PartCode}
use Rattle.canonical_form.specs.PartCodes.{number_of}
use Rattle.canonical_form.specs.AnswerText.{line_end, type_name}
use Rattle.canonical_form.specs.ConflictText.{request_name}
use Rattle.answer_check.specs.Codes.{bad_value_code, no_instance_code, off_target_code, bad_number_code, not_linked_back_code, bad_count_code, false_rule_code}
use Rattle.answer_check.specs.Breaks.{Break}
use Rattle.criteria_order.specs.CriteriaValues.{criteria_values}
use Rattle.config_cli.specs.Texts.{two_digits}

-- ---- refused answers

-- an answer with too many bytes
unfoldable pub long_answer_text : List ℕ
long_answer_text = codes "refused answer F01 /" ++ line_end

-- an answer whose first bad line has this number, with the code of the part that is wrong
unfoldable pub refused_answer_text : ℕ → PartCode → List ℕ
refused_answer_text line code =
    codes "refused answer A" ++ decimal (number_of code) ++ codes " " ++ decimal line ++ line_end

-- ---- satisfied

-- a criterion with its value: `NAME=VALUE`
abbrev pub criterion_text : Criterion × ℤ → List ℕ
criterion_text p = p.0.name ++ codes "=" ++ signed_decimal p.1 ++ line_end

-- `satisfied`, and a line for each criterion. The value of a maximised one isn't negated.
unfoldable pub satisfied_text : Model → Order → List Instance → List ℕ
satisfied_text m o c =
    codes "satisfied" ++ line_end
    ++ flat_map criterion_text (zip o.criteria (criteria_values m o c))

-- ---- broken

-- what is printed where there is no item
abbrev pub no_name : List ℕ
no_name = codes "-"

-- the name of what stands at a place
abbrev pub name_at : {A : Type 0} → (A → List ℕ) → List A → ℕ → List ℕ
name_at name_of xs k = unwrap_or (slice_get (map name_of xs) k) no_name

-- the number of the type of an instance
abbrev pub kind_at : List Instance → ℕ → ℕ
kind_at c i = at_instance c (λ x. x.kind) 0 i

-- the item of the test is a port of the instance
abbrev pub is_of_port : ℕ → Bool
is_of_port code =
    (code == no_instance_code) || (code == off_target_code)
    || (code == bad_number_code) || (code == not_linked_back_code)

-- The name of a broken test's item: of the attribute or of the port of the instance, of the type
-- whose instances were counted, or of the rule. The other tests have none.
unfoldable pub item_name : Model → List Instance → Break → List ℕ
item_name m c b =
    if b.code == bad_value_code then
    name_at (λ a. a.name) (attributes_of m.types (kind_at c b.instance)) b.item
    else if is_of_port b.code then
    name_at (λ p. p.name) (ports_of m.types (kind_at c b.instance)) b.item
    else if b.code == bad_count_code then name_at (λ n. type_name m n.kind) m.bounds b.item
    else if b.code == false_rule_code then name_at (λ r. r.name) m.rules b.item
    else no_name

-- a broken test: `broken B`, its number in two digits, the instance and the name of the item
unfoldable pub broken_text : ℕ → ℕ → List ℕ → List ℕ
broken_text code instance name =
    codes "broken B" ++ two_digits code ++ codes " " ++ decimal instance ++ codes " " ++ name
    ++ line_end

-- the number of the test that a request is met
abbrev pub false_request_code : ℕ
false_request_code = 11

-- a request that isn't met, by its place
abbrev pub unmet_text : Order → ℕ → List ℕ
unmet_text o k = broken_text false_request_code 0 (request_name o k)
