use Rattle.std.proofs.Common.{subst, sym}
use Rattle.std.specs.Prelude.{IfErr}
use Rattle.std.proofs.lemmas.Result.{IfErr-weaker}
use Rattle.serde_json.specs.View.{view}
use Rattle.prod_model.specs.declared.model.Model.{Model}
use Rattle.prod_model.specs.Taxonomy.{AreTablesOf}
use Rattle.prod_model.proofs.Inverses.{own_tables}
use Rattle.file_meaning.specs.Faults.{HasOrderFault}
use Rattle.file_meaning.specs.Refused.{IsRefusalOfFile}
use Rattle.model_reader.specs.Passes.{IsRefusalBy}
use Rattle.model_reader.proofs.WholeFiles.{refused_value}
use Rattle.order_reader.proofs.order.read_order.Goals as goal

pub order_of-requires-clause-tables : goal.order_of-requires-clause-tables
order_of-requires-clause-tables c =
    subst (λ m. AreTablesOf m c.tables.result.now) (sym c.model.ensures.model) (own_tables c.args.problem.now c.tables.result.now c.tables.ensures)

pub returns-clause-fault : goal.returns-clause-fault
returns-clause-fault c =
    let d = view c.in_ok-value.value in
    let m = c.args.problem.now in
    let Refused : Model → Type 0 = λ n. IfErr c.order_of.result (IsRefusalBy (HasOrderFault n d)) in
    IfErr-weaker c.order_of.result (IsRefusalBy (HasOrderFault m d)) (IsRefusalOfFile (HasOrderFault m) c.args.bytes.now)
    (λ e refused. refused_value (HasOrderFault m) c.args.bytes.now d e c.in_ok-value.ensures.value refused) (subst Refused c.model.ensures.model c.order_of.ensures.fault)
