use Rattle.std.proofs.Common.{rules, ◌≢◌, sym, ◌∙◌}
use Rattle.std.specs.Prelude.{IsTrue}
use Rattle.config_value.specs.contracts.literal.LiteralPartialEq.TheImpl.{eq-value}
use Rattle.nogood_store.proofs.Watches.{same_literal, place_of_literal, watch_moved}
use Rattle.nogood_store.proofs.watchers.Watchers.shift.Goals as goal

pub returns-clause-moved : goal.returns-clause-moved
returns-clause-moved c =
    let done : IsTrue c.put_in.result = search rules in
    let apart : c.in-Some-get_index_of.t ≢ c.args.k = search rules in
    watch_moved c.args.k c.args.at c.in-Some-get_index_of.t c.in-Some.n c.args.l.now c.args.self.now _ c.put_in.new.rows.items
    (λ i x at. at) (sym c.number.ensures ∙ c.in-Some.is) c.put_in.ensures.kept (c.put_in.ensures.put done) apart
    (place_of_literal eq-value.it same_literal c.args.self.now.literals.keys c.args.l.now c.in-Some-get_index_of.t
    (sym c.get_index_of.ensures.index ∙ c.in-Some-get_index_of.is))
    c.take_out.ensures
