use Rattle.std.proofs.Common.{◌≡◌, ◌∙◌, ap, sym, false, length}
use Rattle.std.proofs.lemmas.Bool.{ltb-false}
use Rattle.prod_model.specs.Forest.{is_type}
use Rattle.partial_state.proofs.KindTests.{none_under}
use Rattle.partial_state.proofs.kind_changes.leaves_under.Goals as goal

-- nothing is under what is no type
pub returns : goal.returns
returns c =
    let m = c.args.problem.now in
    let none : is_type m c.args.t ≡ false = sym (c.is_type.ensures ∙ ap (λ n. is_type n c.args.t) c.model.ensures.model) ∙ c.if-is_type.false in
    none_under m c.args.t (ltb-false c.args.t (length m.types) none)
