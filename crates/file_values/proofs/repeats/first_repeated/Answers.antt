use Rattle.std.proofs.Common.{rules, ◌≡◌, List, map, subst, Some, None}
use Rattle.std.specs.Prelude.{slice_get}
use Rattle.std.specs.Option.{option_map}
use Rattle.serde_json.specs.View.{view}
use Rattle.file_values.specs.Twice.{Placed, texts_in}
use Rattle.file_values.specs.steps.Groups.{grouped}
use Rattle.file_values.specs.steps.Repeats.{IsFirstRepeat}
use Rattle.file_values.proofs.TextLaws.{texts_ascend, none_repeated, first_place}
use Rattle.file_values.proofs.repeats.first_repeated.Goals as goal

pub returns-in-None : goal.returns-in-None
returns-in-None c =
    let none : IsFirstRepeat (map (λ p. p.text) (grouped c.group_of-group.result)) None = search rules in
    let First : List Placed → Type 0 = λ texts. IsFirstRepeat (map (λ p. p.text) texts) None in
    none_repeated (texts_in c.args.kind (view c.args.value.now)) (subst First c.group_of-group.ensures none)

pub returns-in_ok-place-in-Some : goal.returns-in_ok-place-in-Some
returns-in_ok-place-in-Some c =
    let first : IsFirstRepeat (map (λ p. p.text) (grouped c.group_of-group.result)) (Some c.in-Some.number) = search rules in
    let First : List Placed → Type 0 = λ texts. IsFirstRepeat (map (λ p. p.text) texts) (Some c.in-Some.number) in
    let there : option_map (λ p. p.place) (slice_get (grouped c.group_of-group.result) c.in-Some.number) ≡ Some c.in_ok-place-in-Some.field-0 = search rules in
    let At : List Placed → Type 0 = λ texts. option_map (λ p. p.place) (slice_get texts c.in-Some.number) ≡ Some c.in_ok-place-in-Some.field-0 in
    first_place (texts_in c.args.kind (view c.args.value.now)) (texts_ascend c.args.kind (view c.args.value.now)) c.in-Some.number
    (subst First c.group_of-group.ensures first) c.in_ok-place-in-Some.field-0 (subst At c.group_of-group.ensures there)
