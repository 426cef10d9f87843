-- The test is the same before its first question and after it.
use Rattle.std.proofs.Common.{rules, subst, length, ◌≡◌, ◌∙◌, sym}
use Rattle.std.proofs.lemmas.Bool.{true≢false}
use Rattle.quickxplain.specs.Explains.{ArePlacesOfPreferred, all_of}
use Rattle.quickxplain.proofs.Wholes.{places_by_same}
use Rattle.quickxplain.proofs.explaining.explain.Goals as goal

pub returns-clause-explains : goal.returns-clause-explains
returns-clause-explains g c =
    let f = g.T.Tester.consistent c.args.tester.now in
    let all : c.deref.result.now ≡ all_of c.args.n = search rules in
    let long : length c.deref_mut.result.now ≡ c.args.n = search rules in (
      λ holds. true≢false (sym (c.in_ok-consistent.ensures.answer.1 (subst f (sym all) holds)) ∙ c.if-branch.false),
      places_by_same (g.T.Tester.consistent c.consistent.new.self) f c.consistent.ensures.test c.args.n c.in_ok-conflict_of.field-0.items
          (subst (λ n. ArePlacesOfPreferred (g.T.Tester.consistent c.consistent.new.self) n c.in_ok-conflict_of.field-0.items) long
          c.in_ok-conflict_of.ensures.preferred),
    )
