use Rattle.std.proofs.Common.{◌≡◌, ap, sym, ◌∙◌, length, slice_get, Some, None, rules, arith}
use Rattle.std.specs.Option.{option_map_or}
use Rattle.std.proofs.lemmas.Option.{slice_get_within}
use Rattle.prod_model.specs.Taxonomy.{first_id, new_declarations}
use Rattle.prod_model.proofs.Ancestors.{length_line_parent}
use Rattle.type_taxonomy.specs.steps.PortSearch.{numbered, of_name, narrowed}
use Rattle.type_taxonomy.proofs.PortLaws.{named_from_parent, no_port}
use Rattle.type_taxonomy.proofs.port_search.+port_named.Goals as goal

-- what is no type has no port
pub returns-in_default : goal.returns-in_default
returns-in_default t c =
    let none : slice_get c.args.model.now.types c.args.t ≡ None = search rules in
    sym (no_port c.args.model.now.types c.args.t c.args.name.now none)

pub new_named-requires-clause-within : goal.new_named-requires-clause-within
new_named-requires-clause-within t c =
    let is_type : slice_get c.args.model.now.types c.args.t ≡ Some c.in-Some.decl.now = search rules in
    omega (arith, slice_get_within c.args.model.now.types c.args.t c.in-Some.decl.now is_type, ap length c.as_slice-types.ensures)

pub new_named-requires-in-None-clause-within : goal.new_named-requires-in-None-clause-within
new_named-requires-in-None-clause-within t c =
    let is_type : slice_get c.args.model.now.types c.args.t ≡ Some c.in-Some.decl.now = search rules in
    omega (arith, slice_get_within c.args.model.now.types c.args.t c.in-Some.decl.now is_type, ap length c.as_slice-types.ensures)

-- a type without a parent has what is new there
pub returns-in_default-parent : goal.returns-in_default-parent
returns-in_default-parent t c =
    let types = c.args.model.now.types in
    let name = c.args.name.now in
    let kind = c.args.t in
    let is_type : slice_get types kind ≡ Some c.in-Some.decl.now = search rules in
    c.new_named.ensures
    ∙ ap (λ ts. of_name name (numbered (first_id (λ d. d.ports) (λ d. d.name) ts kind) (new_declarations (λ d. d.ports) (λ d. d.name) ts kind))) c.as_slice-types.ensures
    ∙ sym (named_from_parent types c.requires.forest.no_cycle kind c.in-Some.decl.now name None is_type c.in_default-parent.is)

-- so does one whose parent has none of the name
pub returns-in-None : goal.returns-in-None
returns-in-None t c =
    let types = c.args.model.now.types in
    let name = c.args.name.now in
    let kind = c.args.t in
    let is_type : slice_get types kind ≡ Some c.in-Some.decl.now = search rules in
    let new = of_name name (numbered (first_id (λ d. d.ports) (λ d. d.name) types kind) (new_declarations (λ d. d.ports) (λ d. d.name) types kind)) in
    c.new_named-in-None.ensures
    ∙ ap (λ ts. of_name name (numbered (first_id (λ d. d.ports) (λ d. d.name) ts kind) (new_declarations (λ d. d.ports) (λ d. d.name) ts kind))) c.as_slice-types.ensures
    ∙ sym (named_from_parent types c.requires.forest.no_cycle kind c.in-Some.decl.now name (Some c.in-Some-parent.parent) is_type c.in-Some-parent.is
    ∙ ap (λ o. option_map_or (λ p. Some (narrowed c.in-Some.decl.now.ports name p)) o new) (sym c.port_named.ensures ∙ c.in-None.is))

-- and else a type has its parent's, narrowed
pub returns-in-Some-port_named : goal.returns-in-Some-port_named
returns-in-Some-port_named t c =
    let types = c.args.model.now.types in
    let name = c.args.name.now in
    let kind = c.args.t in
    let is_type : slice_get types kind ≡ Some c.in-Some.decl.now = search rules in
    let new = of_name name (numbered (first_id (λ d. d.ports) (λ d. d.name) types kind) (new_declarations (λ d. d.ports) (λ d. d.name) types kind)) in
    ap Some (c.narrowed.ensures ∙ ap (λ ds. narrowed ds name c.in-Some-port_named.port) c.as_slice.ensures)
    ∙ sym (named_from_parent types c.requires.forest.no_cycle kind c.in-Some.decl.now name (Some c.in-Some-parent.parent) is_type c.in-Some-parent.is
    ∙ ap (λ o. option_map_or (λ p. Some (narrowed c.in-Some.decl.now.ports name p)) o new) (sym c.port_named.ensures ∙ c.in-Some-port_named.is))

pub port_named-requires : goal.port_named-requires
port_named-requires t c =
    let types = c.args.model.now.types in
    let is_type : slice_get types c.args.t ≡ Some c.in-Some.decl.now = search rules in
    let shorter =
    length_line_parent types c.requires.forest.no_cycle c.args.t c.in-Some-parent.parent
    (record { decl = c.in-Some.decl.now; stands = is_type; parent = c.in-Some-parent.is }) in
    (omega (arith, c.decreases, shorter), (c.requires.few_ports, c.requires.forest))
