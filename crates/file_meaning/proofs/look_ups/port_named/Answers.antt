use Rattle.std.proofs.Common.{rules, ◌≡◌, ◌∙◌, ap, sym, Some, None, [], unwrap_or}
use Rattle.std.specs.Prelude.{slice_get}
use Rattle.std.specs.List.{position}
use Rattle.std.specs.Option.{option_copied, option_map}
use Rattle.prod_model.specs.Names.{same_text}
use Rattle.prod_model.specs.Taxonomy.{without_inverse}
use Rattle.file_meaning.specs.Expressions.{port_named}
use Rattle.file_meaning.proofs.LookUps.{port_found, port_none}
use Rattle.file_meaning.proofs.look_ups.port_named.Goals as goal

pub returns : goal.returns
returns c =
    let m = c.args.model.now in
    let t = c.in_ok-t.t in
    let k = c.in_ok-place.place in
    let known : c.args.t ≡ Some t = search rules in
    let found : position (λ n. same_text n c.args.name.now) (unwrap_or (slice_get c.args.named.now.ports t) []) ≡ Some k = search rules in
    let row : c.ports_at.result.now ≡ unwrap_or (slice_get c.args.named.now.tables.now.ports t) [] = search rules in
    let got : option_copied c.at.result ≡ slice_get c.ports_at.result.now k = search rules in
    ap (option_map without_inverse) (got ∙ ap (λ r. slice_get r k) row) ∙ port_found m c.args.named.now t c.args.name.now c.requires.named k found
    ∙ sym (ap (λ u. port_named m u c.args.name.now) known)

pub returns-in_err-place : goal.returns-in_err-place
returns-in_err-place c =
    let m = c.args.model.now in
    let t = c.in_ok-t.t in
    let known : c.args.t ≡ Some t = search rules in
    let none : position (λ n. same_text n c.args.name.now) (unwrap_or (slice_get c.args.named.now.ports t) []) ≡ None = search rules in
    let nothing : c.from_residual-in_err-place.result ≡ None = search rules in
    ap (λ o. option_map without_inverse (option_copied o)) nothing ∙ port_none m c.args.named.now t c.args.name.now c.requires.named none
    ∙ sym (ap (λ u. port_named m u c.args.name.now) known)
