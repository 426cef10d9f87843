use Rattle.std.proofs.Common.{map, refl, sym, subst}
use Rattle.std.specs.Prelude.{IsTrue}
use Rattle.prod_model.specs.declared.model.Model.{Model}
use Rattle.prod_model.specs.Names.{is_distinct}
use Rattle.canonical_form.specs.declared.fault.PartCode.TheVariants.{Header, LineEnd}
use Rattle.canonical_form.specs.BadLine.{IsAnswerOf, IsRefusal}
use Rattle.canonical_form.specs.steps.Grammar.{at_header, at_number}
use Rattle.canonical_form.specs.steps.Reading.{AreInstances, Refuses}
use Rattle.canonical_form.proofs.ModelTexts.{type_names_distinct}
use Rattle.canonical_form.proofs.LineSteps.{refused_behind, same_refusal}
use Rattle.canonical_form.proofs.AnswerSteps.{header_stops, header_end_stops, header_line_reads, is_answer}
use Rattle.canonical_form.proofs.Witness.{first_bad_line, refusal_of}
use Rattle.canonical_form.proofs.reading.read_answer.Goals as goal

pub of-requires : goal.of-requires
of-requires c =
    subst (λ (m : Model). IsTrue (is_distinct (map (λ d. d.name) m.types))) (sym c.model-model.ensures.model) (type_names_distinct c.args.problem.now c.model-model.ensures.valid)

pub returns-in_default-clause-fault : goal.returns-in_default-clause-fault
returns-in_default-clause-fault c =
    let m = c.args.problem.now in
    let bytes = c.args.bytes.now in
    subst (IsRefusal m bytes) (sym c.at.ensures) (first_bad_line m bytes 1 Header c.model-model.ensures.valid (header_stops m bytes (c.in_default.ensures.none refl)))

pub returns-in_default-behind_byte-clause-fault : goal.returns-in_default-behind_byte-clause-fault
returns-in_default-behind_byte-clause-fault c =
    let m = c.args.problem.now in
    let bytes = c.args.bytes.now in
    subst (IsRefusal m bytes) (sym c.at-in_default-behind_byte.ensures)
    (first_bad_line m bytes 1 LineEnd c.model-model.ensures.valid (header_end_stops m bytes c.in-Some.headed.now c.in-Some.ensures.found (c.in_default-behind_byte.ensures.none refl)))

pub returns-in_err-instances-clause-fault : goal.returns-in_err-instances-clause-fault
returns-in_err-instances-clause-fault c =
    let m = c.args.problem.now in
    let bytes = c.args.bytes.now in
    let e = c.in_err-instances.field-0.0 in
    let reads = header_line_reads m bytes c.in-Some.headed.now c.in-Some-behind_byte.rest.now c.in-Some.ensures.found c.in-Some-behind_byte.ensures.found in
    let stops = refused_behind m at_header (at_number 0) bytes c.in-Some-behind_byte.rest.now e reads
    (subst (λ (m : Model). Refuses m (at_number 0) c.in-Some-behind_byte.rest.now e) c.in_ok-known.ensures.problem c.in_err-instances.ensures.refused) in
    same_refusal c.from_residual-in_err-instances.result e (IsRefusal m bytes) c.from_residual-in_err-instances.ensures.1 (refusal_of m bytes e c.model-model.ensures.valid stops)

pub returns-clause-answer : goal.returns-clause-answer
returns-clause-answer c =
    let m = c.args.problem.now in
    subst (IsAnswerOf m c.args.bytes.now) (sym c.from_list.ensures) (is_answer m c.args.bytes.now c.in-Some.headed.now c.in-Some-behind_byte.rest.now c.in_ok-instances.instances c.in-Some.ensures.found c.in-Some-behind_byte.ensures.found
    (subst (λ (m : Model). AreInstances m c.in-Some-behind_byte.rest.now c.in_ok-instances.instances) c.in_ok-known.ensures.problem c.in_ok-instances.ensures.read))
