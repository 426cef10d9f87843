use Rattle.std.proofs.Common.{rules, ◌≡◌, ◌∙◌, ap, sym, Some, None, [], unwrap_or}
use Rattle.std.specs.Prelude.{slice_get}
use Rattle.std.specs.List.{position}
use Rattle.std.specs.Option.{option_copied}
use Rattle.prod_model.specs.Names.{same_text}
use Rattle.file_meaning.specs.Expressions.{attribute_named}
use Rattle.file_meaning.proofs.LookUps.{attribute_found, attribute_none}
use Rattle.file_meaning.proofs.look_ups.attribute_named.Goals as goal

pub returns : goal.returns
returns c =
    let m = c.args.model.now in
    let t = c.in_ok-t.t in
    let k = c.in_ok-place.place in
    let known : c.args.t ≡ Some t = search rules in
    let found : position (λ n. same_text n c.args.name.now) (unwrap_or (slice_get c.args.named.now.attributes t) []) ≡ Some k = search rules in
    let row : c.attributes_at.result.now ≡ unwrap_or (slice_get c.args.named.now.tables.now.attributes t) [] = search rules in
    let got : option_copied c.at.result ≡ slice_get c.attributes_at.result.now k = search rules in
    (got ∙ ap (λ r. slice_get r k) row) ∙ attribute_found m c.args.named.now t c.args.name.now c.requires.named k found
    ∙ sym (ap (λ u. attribute_named m u c.args.name.now) known)

pub returns-in_err-place : goal.returns-in_err-place
returns-in_err-place c =
    let m = c.args.model.now in
    let t = c.in_ok-t.t in
    let known : c.args.t ≡ Some t = search rules in
    let none : position (λ n. same_text n c.args.name.now) (unwrap_or (slice_get c.args.named.now.attributes t) []) ≡ None = search rules in
    let nothing : c.from_residual-in_err-place.result ≡ None = search rules in
    ap option_copied nothing ∙ attribute_none m c.args.named.now t c.args.name.now c.requires.named none
    ∙ sym (ap (λ u. attribute_named m u c.args.name.now) known)
