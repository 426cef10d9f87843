use Rattle.std.proofs.Common.{◌≡◌, ◌++◌, slice_index, length, map, take}
use Rattle.partial_state.specs.steps.NewRows.{shares, new_domains}
use Rattle.partial_state.proofs.new_row.push_domains.Given as goal

abbrev pub invariant-loop-attribute : goal.invariant-loop-attribute
invariant-loop-attribute l =
    l.domains.items ≡ l.fn.domains.items ++ new_domains (λ a. shares (slice_index l.attribute_types a) l.kinds) (length l.fn.domains.items) (map (λ a. a.domain) (take l.attribute-index l.new))
