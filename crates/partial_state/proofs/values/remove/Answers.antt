use mir.Val.{SFits}
use Rattle.std.proofs.Common.{not, w64}
use Rattle.std.specs.Ordering.{int_eq}
use Rattle.std.proofs.lemmas.Int.{to_z-of_z}
use Rattle.std.proofs.lemmas.Result.{IfOk-weaker}
use Rattle.domain_store.specs.Intervals.{NarrowsNumbers, is_other}
use Rattle.partial_state.specs.steps.Narrowed.{NarrowsStored}
use Rattle.partial_state.specs.declared.values.Domain.TheVariants as stored
use Rattle.partial_state.proofs.StoredNarrowings.{numbers_stored, words_stored}
use Rattle.partial_state.proofs.values.remove.Goals as goal

pub returns-in-Numbers-clause-narrowed : goal.returns-in-Numbers-clause-narrowed
returns-in-Numbers-clause-narrowed c =
    let fits : SFits w64 c.args.n = c.ranges.n in
    let given = simp to_z-of_z at c.remove.ensures.narrowed in
    IfOk-weaker c.remove.result (λ r. NarrowsNumbers (is_other c.args.n) r _ c.remove.new.self)
    (λ r. NarrowsStored (λ v. not (int_eq v c.args.n)) r c.args.domain.now (stored.Numbers c.remove.new.self))
    (λ r narrows. numbers_stored c.args.domain.now _ c.remove.new.self (λ v. not (int_eq v c.args.n)) r c.in-Numbers.is c.requires c.remove.ensures.formed narrows) given

pub returns-in-Words-clause-narrowed : goal.returns-in-Words-clause-narrowed
returns-in-Words-clause-narrowed c =
    let fits : SFits w64 c.args.n = c.ranges.n in
    let given = simp to_z-of_z at c.remove-in-Words.ensures in
    words_stored c.args.domain.now _ c.remove-in-Words.new.words (λ v. not (int_eq v c.args.n)) c.remove-in-Words.result c.in-Words.is c.requires given
