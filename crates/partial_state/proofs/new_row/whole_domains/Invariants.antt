use Rattle.std.proofs.Common.{◌≡◌, slice_index}
use Rattle.partial_state.specs.steps.NewRows.{shares}
use Rattle.partial_state.proofs.NewRows.{domains_before}
use Rattle.partial_state.proofs.new_row.whole_domains.Given as goal

abbrev pub invariant-loop-t : goal.invariant-loop-t
invariant-loop-t l = l.domains.items ≡ domains_before l.problem (λ a. shares (slice_index l.attribute_types a) l.kinds) l.t
