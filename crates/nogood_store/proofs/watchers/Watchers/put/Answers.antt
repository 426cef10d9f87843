use Rattle.std.proofs.Common.{sym, ◌∙◌}
use Rattle.config_value.specs.contracts.literal.LiteralPartialEq.TheImpl.{eq-value}
use Rattle.nogood_store.proofs.Watches.{kept_watches, same_literal, place_of_literal}
use Rattle.nogood_store.proofs.watchers.Watchers.put.Goals as goal

pub returns-clause-kept : goal.returns-clause-kept
returns-clause-kept c = kept_watches _ _ (λ i x at. at) c.put_in.ensures.kept

pub returns-clause-put : goal.returns-clause-put
returns-clause-put c ok =
    let there = c.put_in.ensures.put ok in
    record {
      row = c.in-Some.k;
      place = there.0;
      literal = place_of_literal eq-value.it same_literal c.args.self.now.literals.keys c.args.l.now c.in-Some.k
          (sym c.get_index_of.ensures.index ∙ c.in-Some.is);
      there = there.1;
    }
