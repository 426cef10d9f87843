use Rattle.std.proofs.Common.{rules, ◌≡◌, ◌∙◌, ◌∷◌, ◌++◌, [], map, sym, ap, true, false, arith}
use Rattle.std.proofs.lemmas.List.{length-map}
use Rattle.std.proofs.lemmas.Option.{slice_get-map}
use Rattle.std.specs.Prelude.{not, Some}
use Rattle.std.specs.List.{list_any}
use Rattle.prod_model.specs.Names.{same_text}
use Rattle.base_laws.specs.Places.{IsAt}
use Rattle.file_values.specs.steps.Groups.{grouped}
use Rattle.file_values.proofs.RepeatLaws.{taken_next, taken_twice, taken_all}
use Rattle.file_values.proofs.repeats.first_repeat.Goals as goal

pub returns-then-not-branch : goal.returns-then-not-branch
returns-then-not-branch c =
    let text : c.as_bytes.result.now ≡ c.text.result.now = search rules in
    let there : IsAt (map (λ p. p.text) (grouped c.args.group.now)) c.loop-number.number c.as_bytes.result.now =
    slice_get-map (λ p. p.text) (grouped c.args.group.now) c.loop-number.number ∙ c.text.ensures ∙ ap (λ s. Some s) (sym text) in
    let known : not (list_any (same_text c.as_bytes.result.now) c.loop-number.names) ≡ false = search rules in
    taken_twice (map (λ p. p.text) (grouped c.args.group.now)) c.loop-number.number c.loop-number.names c.loop-number.invariant c.as_bytes.result.now there known

pub loop-number-preserved : goal.loop-number-preserved
loop-number-preserved c =
    let text : c.as_bytes.result.now ≡ c.text.result.now = search rules in
    let there : IsAt (map (λ p. p.text) (grouped c.args.group.now)) c.loop-number.number c.as_bytes.result.now =
    slice_get-map (λ p. p.text) (grouped c.args.group.now) c.loop-number.number ∙ c.text.ensures ∙ ap (λ s. Some s) (sym text) in
    let fresh : not (list_any (same_text c.as_bytes.result.now) c.loop-number.names) ≡ true = search rules in
    let is : c.insert.new.self ≡ c.loop-number.names ++ c.as_bytes.result.now ∷ [] = search rules in
    taken_next (map (λ p. p.text) (grouped c.args.group.now)) c.loop-number.number c.loop-number.names c.loop-number.invariant c.as_bytes.result.now there
    c.insert.new.self fresh is

-- none of all
pub returns : goal.returns
returns c =
    let long = length-map (grouped c.args.group.now) (λ p. p.text) in
    let all = c.count-number-end.ensures in
    taken_all (map (λ p. p.text) (grouped c.args.group.now)) c.loop-number.number c.loop-number.names c.loop-number.invariant (omega arith)
