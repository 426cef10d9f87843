use Rattle.std.proofs.Common.{◌≡◌, ◌∙◌, ◌-◌, ap, sym, map, Some, None, arith}
use Rattle.std.specs.Prelude.{slice_get}
use Rattle.prod_model.specs.Forest.{parent_of}
use Rattle.prod_model.specs.Taxonomy.{new_declarations}
use Rattle.config_cli.proofs.TypeNames.{ports_alone, inherited_port, new_port, shorter_line}
use Rattle.config_cli.proofs.names.+port_name.Goals as goal

-- a type without a parent has its new ones alone
pub returns-in_default : goal.returns-in_default
returns-in_default t c =
    let m = c.args.problem.now in
    let same : c.model-model.result.now ≡ m = c.model-model.ensures.model in
    let alone : parent_of m c.args.t ≡ None = ap (λ n. parent_of n c.args.t) (sym same) ∙ sym c.parent_of.ensures ∙ c.in_default.is in
    c.new_name.ensures
    ∙ ap (λ n. slice_get (map (λ d. d.name) (new_declarations (λ d. d.ports) (λ d. d.name) n.types c.args.t)) c.args.place) same
    ∙ ap (λ ns. slice_get ns c.args.place) (sym (ports_alone m c.model-model.ensures.valid c.args.t alone))

-- the line of the parent is shorter
pub port_name-requires : goal.port_name-requires
port_name-requires t c =
    let m = c.args.problem.now in
    let above : parent_of m c.args.t ≡ Some c.in-Some.parent = ap (λ n. parent_of n c.args.t) (sym c.model-model.ensures.model) ∙ sym c.parent_of.ensures ∙ c.in-Some.is in
    (omega (arith, c.decreases, shorter_line m c.model-model.ensures.valid c.args.t c.in-Some.parent above), tt)

pub returns-then-place-inherited : goal.returns-then-place-inherited
returns-then-place-inherited t c =
    let m = c.args.problem.now in
    let above : parent_of m c.args.t ≡ Some c.in-Some.parent = ap (λ n. parent_of n c.args.t) (sym c.model-model.ensures.model) ∙ sym c.parent_of.ensures ∙ c.in-Some.is in
    c.port_name.ensures
    ∙ inherited_port m c.model-model.ensures.valid c.args.t c.in-Some.parent c.args.place above
    (omega (arith, c.if-place-inherited.true, c.port_count-inherited.ensures))

pub returns-else-place-inherited : goal.returns-else-place-inherited
returns-else-place-inherited t c =
    let m = c.args.problem.now in
    let same : c.model-model.result.now ≡ m = c.model-model.ensures.model in
    let above : parent_of m c.args.t ≡ Some c.in-Some.parent = ap (λ n. parent_of n c.args.t) (sym same) ∙ sym c.parent_of.ensures ∙ c.in-Some.is in
    let behind = c.args.place - c.port_count-inherited.result in
    c.new_name-else-place-inherited.ensures
    ∙ ap (λ n. slice_get (map (λ d. d.name) (new_declarations (λ d. d.ports) (λ d. d.name) n.types c.args.t)) behind) same
    ∙ new_port m c.model-model.ensures.valid c.args.t c.in-Some.parent c.args.place c.port_count-inherited.result above c.port_count-inherited.ensures
    (omega (arith, c.if-place-inherited.false))
