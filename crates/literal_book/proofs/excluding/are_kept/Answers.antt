use Rattle.std.proofs.Common.{sym, ◌∙◌}
use Rattle.literal_book.proofs.Masks.{kept_tells}
use Rattle.literal_book.proofs.excluding.are_kept.Goals as goal

-- the requests below 64 are all that a mask can ask for
pub returns : goal.returns
returns c =
    let tells = kept_tells c.args.requests c.args.keep.now c.ranges.requests.fits in
    (λ is. tells.0 (sym c.first_are_kept.ensures ∙ is), λ each. c.first_are_kept.ensures ∙ tells.1 each)
