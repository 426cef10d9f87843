use Rattle.std.proofs.Common.{◌∙◌, ap, sym, map}
use Rattle.std.proofs.lemmas.Result.{IfOk-weaker}
use Rattle.std.proofs.lemmas.Simd.{map-map}
use Rattle.canonical_form.proofs.TypeNames.{port_names}
use Rattle.canonical_form.proofs.names.first_ports.Goals as goal

pub returns : goal.returns
returns c = record {
  names =
      IfOk-weaker c.first_declarations.result _ _
      (λ firsts read. sym (map-map (λ d. d.name) (λ d. d.now) firsts.items) ∙ ap (map (λ d. d.name)) read ∙ port_names c.args.model.now c.args.t c.requires.valid)
      c.first_declarations.ensures;
}
