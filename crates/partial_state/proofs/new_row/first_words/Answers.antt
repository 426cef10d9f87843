use Rattle.std.proofs.Common.{sym, subst, ◌≡◌, ℕ}
use Rattle.std.specs.List.{range_with_len}
use Rattle.partial_state.specs.Masks.{words_of, IsWordMask}
use Rattle.partial_state.proofs.NewPorts.{words_first, words_formed, bits_some}
use Rattle.partial_state.proofs.new_row.first_words.Goals as goal

pub from_mask-requires : goal.from_mask-requires
from_mask-requires c = bits_some c.first_bits.result c.args.count c.requires.some c.first_bits.ensures

pub returns-clause-words : goal.returns-clause-words
returns-clause-words c =
    subst (λ (n : ℕ). words_of n ≡ range_with_len 0 c.args.count) (sym c.from_mask.ensures)
    (words_first c.first_bits.result c.args.count c.requires.few c.first_bits.ensures)

pub returns-clause-stored : goal.returns-clause-stored
returns-clause-stored c =
    subst (λ (n : ℕ). IsWordMask n) (sym c.from_mask.ensures)
    (words_formed c.first_bits.result c.args.count c.requires.some c.requires.few c.first_bits.ensures)
