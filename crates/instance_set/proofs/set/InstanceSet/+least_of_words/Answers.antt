use Rattle.std.proofs.Common.{ℕ, ◌+◌, ◌*◌, ◌<◌, ◌∙◌, ◌^◌, Some, arith, sym, subst}
use Rattle.std.specs.Int.{trailing_zeros, w64}
use Rattle.instance_set.specs.InstanceSets.{word_of, IsLeastFrom}
use Rattle.instance_set.proofs.Least.{least_in_words, least_in_word}
use Rattle.instance_set.proofs.set.InstanceSet.+least_of_words.Goals as goal

-- the lowest bit of the word
pub returns : goal.returns
returns t c =
    let s = c.args.self.now in
    let k = c.args.k in
    let Least : ℕ → Type 0 = λ w. IsLeastFrom s (64 * k) (Some (64 * k + trailing_zeros w64 w)) in
    let fits : word_of s k < 2 ^ 64 = omega (arith, c.word-word.ensures, c.word-word.type_inv) in
    subst Least (sym c.word-word.ensures)
    (least_in_word s k (omega (arith, c.requires, c.if-k-eq4.false)) (λ e. c.if-word-eq0.false (c.word-word.ensures ∙ e)) fits)
