use Rattle.std.proofs.Common.{ℕ, bit_and, subst}
use Rattle.domain_store.specs.declared.change.Change.TheVariants.{Same, Smaller, Empty}
use Rattle.domain_store.specs.Words.{has_word, NarrowsWords}
use Rattle.domain_store.proofs.Words.{words_emptied, words_same, words_fewer}
use Rattle.domain_store.proofs.word_domain.WordDomain.narrow.Goals as goal

-- no word is left
pub returns-then-left-eq0-clause-narrowed : goal.returns-then-left-eq0-clause-narrowed
returns-then-left-eq0-clause-narrowed c =
    let Narrowed : ℕ → Type 0 = λ n. NarrowsWords (has_word c.args.wanted) Empty n n in
    subst Narrowed c.self.view_is (words_emptied c.self.inside.mask c.args.wanted c.self.invariant c.if-left-eq0.true)

-- all are
pub returns-then-left-self-clause-narrowed : goal.returns-then-left-self-clause-narrowed
returns-then-left-self-clause-narrowed c =
    let Narrowed : ℕ → Type 0 = λ n. NarrowsWords (has_word c.args.wanted) Same n n in
    subst Narrowed c.self.view_is (words_same c.self.inside.mask c.args.wanted c.self.invariant c.if-left-self.true)

-- some are
pub returns-clause-narrowed : goal.returns-clause-narrowed
returns-clause-narrowed c =
    let Narrowed : ℕ → Type 0 = λ n. NarrowsWords (has_word c.args.wanted) Smaller n (bit_and c.self.inside.mask c.args.wanted) in
    subst Narrowed c.self.view_is (words_fewer c.self.inside.mask c.args.wanted c.if-left-eq0.false c.if-left-self.false)
