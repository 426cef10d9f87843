use mir.Val.{SFits}
use Rattle.std.proofs.Common.{rules, ◌≡◌, ◌∙◌, subst, sym, to_z, of_z, w64, ℤ, pos, ◌<ℤ◌, Some, arith}
use Rattle.std.proofs.lemmas.Int.{ints, to_z-of_z}
use Rattle.domain_store.specs.Gaps.{IsNextGap}
use Rattle.state_space.specs.Values.{Words, has_value}
use Rattle.partial_state.specs.Masks.{words_of}
use Rattle.partial_state.specs.steps.Clamped.{IsClamped}
use Rattle.partial_state.proofs.WordGaps.{gap_below_words, gap_at_word, no_gap_of_words}
use Rattle.partial_state.proofs.words.gap_from.Goals as goal

-- below all words
pub returns-then-from-lt0 : goal.returns-then-from-lt0
returns-then-from-lt0 c =
    let Next : ℤ → Type 0 = λ v. IsNextGap (has_value (Words (words_of c.args.words.now))) c.args.from (Some v) in
    let shown : to_z w64 (of_z w64 c.args.from) ≡ c.args.from = search rules in
    let below : c.args.from <ℤ pos 0 = grind (arith, ints) in
    subst Next (sym shown) (gap_below_words c.args.words.now c.high-high.result c.requires c.high-high.ensures c.args.from below)

-- at the first word that is missing
pub returns-then-not-contains : goal.returns-then-not-contains
returns-then-not-contains c =
    let fits : SFits w64 c.args.from = c.ranges.from in
    let Next : ℤ → Type 0 = λ v. IsNextGap (has_value (Words (words_of c.args.words.now))) c.args.from (Some v) in
    let shown : to_z w64 (of_z w64 c.from.result) ≡ pos c.loop-word.word = search (rules, ints, c.from.ensures) in
    let clamped : IsClamped c.args.from c.clamped-word.result = simp to_z-of_z at c.clamped-word.ensures in
    subst Next (sym shown)
    (gap_at_word c.args.words.now c.high-high.result c.requires c.high-high.ensures c.args.from c.clamped-word.result clamped c.loop-word.word c.loop-word.invariant
    c.loop-word.auto.word c.loop-word-test.true (sym c.contains.ensures ∙ c.if-not-contains.true))

-- none is missing below the greatest
pub returns : goal.returns
returns c =
    let fits : SFits w64 c.args.from = c.ranges.from in
    let clamped : IsClamped c.args.from c.clamped-word.result = simp to_z-of_z at c.clamped-word.ensures in
    no_gap_of_words c.args.words.now c.high-high.result c.requires c.high-high.ensures c.args.from c.clamped-word.result clamped c.loop-word.word c.loop-word.invariant c.loop-word-test.false
