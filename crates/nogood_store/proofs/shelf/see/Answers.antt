use Rattle.std.proofs.Common.{rules}
use Rattle.std.proofs.lemmas.Option.{slice_get_within}
use Rattle.state_space.specs.Entails.{entails}
use Rattle.base_laws.proofs.Tests.{list_all_from}
use Rattle.nogood_store.specs.steps.Watching.{AreWatchedEntailed}
use Rattle.nogood_store.proofs.Shelves.{not_all, open_apart}
use Rattle.nogood_store.proofs.shelf.see.Goals as goal

-- a literal isn't entailed, and it is none of the watched ones
pub returns-in-Some : goal.returns-in-Some
returns-in-Some c =
    let w = c.args.watched.now in
    let m = c.args.trail.now.job.model in
    let s = c.args.trail.now.state in
    let reached : AreWatchedEntailed m s w.nogood.literals w.watch = search rules in (
      λ applies. not_all m s w.nogood.literals c.in-Some.place c.in-Some.ensures applies.entailed,
      record {
        within = slice_get_within w.nogood.literals c.in-Some.place c.in-Some.ensures.0 c.in-Some.ensures.1;
        other = open_apart m s w.nogood.literals w.watch c.in-Some.place reached c.in-Some.ensures;
      },
    )

-- all are entailed
pub returns-in-None : goal.returns-in-None
returns-in-None c =
    let w = c.args.watched.now in
    record {
      kept = search rules;
      entailed = list_all_from (entails c.args.trail.now.job.model c.args.trail.now.state) w.nogood.literals
          (λ k l at. c.in-None.ensures k l at);
    }
