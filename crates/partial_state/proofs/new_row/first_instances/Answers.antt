use Rattle.std.proofs.Common.{◌≡◌, ◌∙◌, ap, nat_lt, arith}
use Rattle.partial_state.proofs.NewPorts.{instances_first}
use Rattle.partial_state.proofs.new_row.first_instances.Goals as goal

pub returns : goal.returns
returns c =
    let end : c.loop-i.i ≡ c.args.made = omega arith in
    instances_first c.loop-i.set c.args.made c.requires (λ k. c.loop-i.invariant k ∙ ap (nat_lt k) end)
