use Rattle.std.proofs.Common.{◌∙◌, ◌==◌, ap, refl, ℕ}
use Rattle.std.specs.Int.{bit_at}
use Rattle.std.proofs.lemmas.List.{get_or_read}
use Rattle.partial_state.proofs.MarkedTypes.{one_marked, set_if}
use Rattle.partial_state.proofs.root.mark.Goals as goal

pub returns : goal.returns
returns c =
    one_marked c.args.t c.args.id c.with_type.result c.args.masks.now.items _ c.requires.within refl
    (λ k. c.with_type.ensures k ∙ ap (λ (n : ℕ). set_if (k == c.args.t) (bit_at n k)) (get_or_read c.args.masks.now.items _ _ c.requires.within c.index.ensures 0))
