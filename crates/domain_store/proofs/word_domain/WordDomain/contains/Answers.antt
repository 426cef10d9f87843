use Rattle.std.proofs.Common.{◌∙◌, ap, arith}
use Rattle.domain_store.specs.Words.{has_word}
use Rattle.domain_store.proofs.Words.{word_absent}
use Rattle.domain_store.proofs.word_domain.WordDomain.contains.Goals as goal

-- there are no bits from 64 on
pub returns-else-n-lt64 : goal.returns-else-n-lt64
returns-else-n-lt64 c =
    word_absent c.self.inside.mask c.args.n (omega arith) c.if-n-lt64.false ∙ ap (λ m. has_word m c.args.n) c.self.view_is
