use Rattle.std.proofs.Common.{◌+◌, List, [], ◌∷◌, map, take, sym, subst, ◌≡◌, Option, Some, None}
use Rattle.std.specs.List.{enumerate_from}
use Rattle.base_laws.proofs.Lists.{slice_get_map_read}
use Rattle.serde_json.specs.View.{view}
use Rattle.prod_model.specs.declared.model.Rule.{Rule}
use Rattle.file_values.specs.declared.fault.Fault.{Fault as AFault}
use Rattle.file_meaning.specs.ModelOf.{rule_in}
use Rattle.file_meaning.specs.steps.Names.{names_in}
use Rattle.file_meaning.specs.declared.refusal.Refusal.{Refusal}
use Rattle.model_reader.specs.Stated.{AreRead, earlier_fault, IsRefusalOfStated, stated_rule}
use Rattle.model_reader.proofs.StatedLists.{none_read, next_sound, next_faulty}
use Rattle.model_reader.proofs.rules.rules_in.Goals.{in-Ok+in_ok-push-in-Ok, in-Err-Fault}
use Rattle.model_reader.proofs.rules.rules_in.Goals as goal

pub loop-i-init : goal.loop-i-init
loop-i-init c =
    let m = c.args.model.now in
    let names = names_in c.args.types.now in
    let Read : List Rule → Type 0 = λ rules. AreRead {A = Rule} m [] [] None rules in
    subst Read (sym c.new-rules.ensures) (none_read m (stated_rule names) (rule_in m names))

pub read_rule-requires-clause-known : goal.read_rule-requires-clause-known
read_rule-requires-clause-known c =
    c.requires.known c.loop-i.i (view c.index-list-i.result)
    (slice_get_map_read view c.args.list.now c.loop-i.i c.index-list-i.result c.loop-i-test.true c.index-list-i.is)

pub loop-i-preserved : goal.loop-i-preserved
loop-i-preserved c =
    let m = c.args.model.now in
    let names = names_in c.args.types.now in
    let all = c.args.list.now in
    let i = c.loop-i.i in
    let v = c.index-list-i.result in
    let Read : Option AFault → List Rule → Type 0 =
    λ first rules. AreRead m (map (stated_rule names) (enumerate_from 0 (map view (take (i + 1) all)))) (map (rule_in m names) (map view (take (i + 1) all))) first rules in
    let Refused : Refusal → Type 0 = λ e. IsRefusalOfStated m (stated_rule names (i, view v) ∷ []) e in
    let Earlier : AFault → AFault → Type 0 = λ g f. Some g ≡ earlier_fault c.loop-i.first (Some f) in
    elim c.match-read_rule.branch [
      | in-Ok+in_ok-push-in-Ok w ↦ subst (λ first. Read first c.match-read_rule.rules) (sym w.first-is) (subst (Read c.loop-i.first) (sym w.rules-is)
          (next_sound m (stated_rule names) (rule_in m names) all i v c.loop-i.first c.loop-i.rules w.push.new.self w.in-Ok.rule c.loop-i-test.true c.index-list-i.is c.loop-i.invariant
          w.in-Ok.ensures.sound w.in-Ok.ensures.rule w.in_ok-push-in-Ok.ensures.ok))
      | in-Err-Fault w ↦ subst (λ first. Read first c.match-read_rule.rules) (sym w.first-is) (subst (Read _) (sym w.rules-is)
          (next_faulty m (stated_rule names) (rule_in m names) all i v c.loop-i.first c.loop-i.rules w.in-Err-Fault.fault w.earlier_fault.result c.loop-i-test.true c.index-list-i.is c.loop-i.invariant
          (subst Refused w.in-Err-Fault.field-0-is w.in-Err-Fault.ensures.fault) (subst (Earlier w.earlier_fault.result) w.in-Err-Fault.fault-is w.earlier_fault.ensures)))
    ]
