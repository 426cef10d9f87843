use Rattle.std.proofs.Common.{arith}
use Rattle.std.proofs.lemmas.Grind.{common_steps}
use Rattle.canonical_form.proofs.SameNames.{same_test}
use Rattle.canonical_form.proofs.names.put_new.Goals as goal

pub returns-in_ok-push-clause-firsts : goal.returns-in_ok-push-clause-firsts
returns-in_ok-push-clause-firsts g c =
    let same = same_test (λ n. n.now) (λ e. e.now) g.D.Declaration.name_of c.args.names.now.keys c.args.firsts.now.items c.bytes.result.now c.requires in
    grind (arith, common_steps)

pub returns-else-branch-clause-firsts : goal.returns-else-branch-clause-firsts
returns-else-branch-clause-firsts g c =
    let same = same_test (λ n. n.now) (λ e. e.now) g.D.Declaration.name_of c.args.names.now.keys c.args.firsts.now.items c.bytes.result.now c.requires in
    grind (arith, common_steps)
