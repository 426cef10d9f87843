use Rattle.std.proofs.Common.{ℕ, ◌+◌, ◌<◌, ◌/◌, ◌%◌, ◌∙◌, ◌^◌, Some, arith, ap, sym, subst}
use Rattle.std.specs.Int.{trailing_zeros, w64}
use Rattle.instance_set.specs.InstanceSets.{word_of, IsLeastFrom}
use Rattle.instance_set.proofs.Least.{least_after, least_here}
use Rattle.instance_set.proofs.set.InstanceSet.least_from.Goals as goal

-- the words after
pub returns-then-word-eq0 : goal.returns-then-word-eq0
returns-then-word-eq0 c =
    least_after c.args.self.now c.args.from c.least_of_words.result (omega (arith, c.if-from-ge256.false))
    (ap (λ w. w / 2 ^ (c.args.from % 64)) (sym c.word.ensures) ∙ c.if-word-eq0.true) c.least_of_words.ensures

-- the lowest bit of the rest of the word
pub returns : goal.returns
returns c =
    let s = c.args.self.now in
    let from = c.args.from in
    let Least : ℕ → Type 0 = λ w. IsLeastFrom s from (Some (from + trailing_zeros w64 (w / 2 ^ (from % 64)))) in
    let fits : word_of s (from / 64) < 2 ^ 64 = omega (arith, c.word.ensures, c.word.type_inv) in
    subst Least (sym c.word.ensures)
    (least_here s from (omega (arith, c.if-from-ge256.false)) (λ e. c.if-word-eq0.false (ap (λ w. w / 2 ^ (from % 64)) c.word.ensures ∙ e)) fits)
