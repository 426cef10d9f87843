use Rattle.std.proofs.Common.{◌+◌, List, [], ◌∷◌, map, take, sym, subst, ◌≡◌, Option, Some, None}
use Rattle.std.specs.List.{enumerate_from}
use Rattle.serde_json.specs.View.{view}
use Rattle.prod_model.specs.declared.model.Request.{Request}
use Rattle.file_values.specs.declared.fault.Fault.{Fault as AFault}
use Rattle.file_meaning.specs.ModelOf.{request_in}
use Rattle.file_meaning.specs.declared.refusal.Refusal.{Refusal}
use Rattle.model_reader.specs.Stated.{AreRead, earlier_fault, IsRefusalOfStated}
use Rattle.order_reader.specs.Wishes.{stated_request}
use Rattle.model_reader.proofs.StatedLists.{none_read, next_sound, next_faulty}
use Rattle.order_reader.proofs.requests.requests_in.Goals.{in-Ok+in_ok-push-in-Ok, in-Err-Fault}
use Rattle.order_reader.proofs.requests.requests_in.Goals as goal

pub loop-i-init : goal.loop-i-init
loop-i-init c =
    let m = c.args.model.now in
    let Read : List Request → Type 0 = λ requests. AreRead {A = Request} m [] [] None requests in
    subst Read (sym c.new-requests.ensures) (none_read m (stated_request m) (request_in m))

pub loop-i-preserved : goal.loop-i-preserved
loop-i-preserved c =
    let m = c.args.model.now in
    let all = c.args.list.now in
    let i = c.loop-i.i in
    let v = c.index-list-i.result in
    let Read : Option AFault → List Request → Type 0 =
    λ first requests. AreRead m (map (stated_request m) (enumerate_from 0 (map view (take (i + 1) all)))) (map (request_in m) (map view (take (i + 1) all))) first requests in
    let Refused : Refusal → Type 0 = λ e. IsRefusalOfStated m (stated_request m (i, view v) ∷ []) e in
    let Earlier : AFault → AFault → Type 0 = λ g f. Some g ≡ earlier_fault c.loop-i.first (Some f) in
    elim c.match-read_request.branch [
      | in-Ok+in_ok-push-in-Ok w ↦ subst (λ first. Read first c.match-read_request.requests) (sym w.first-is) (subst (Read c.loop-i.first) (sym w.requests-is)
          (next_sound m (stated_request m) (request_in m) all i v c.loop-i.first c.loop-i.requests w.push.new.self w.in-Ok.request c.loop-i-test.true c.index-list-i.is c.loop-i.invariant
          w.in-Ok.ensures.sound w.in-Ok.ensures.request w.in_ok-push-in-Ok.ensures.ok))
      | in-Err-Fault w ↦ subst (λ first. Read first c.match-read_request.requests) (sym w.first-is) (subst (Read _) (sym w.requests-is)
          (next_faulty m (stated_request m) (request_in m) all i v c.loop-i.first c.loop-i.requests w.in-Err-Fault.fault w.earlier_fault.result c.loop-i-test.true c.index-list-i.is c.loop-i.invariant
          (subst Refused w.in-Err-Fault.field-0-is w.in-Err-Fault.ensures.fault) (subst (Earlier w.earlier_fault.result) w.in-Err-Fault.fault-is w.earlier_fault.ensures)))
    ]
