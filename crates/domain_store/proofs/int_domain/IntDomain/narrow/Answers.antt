use Rattle.std.proofs.Common.{rules, ◌≡◌, ◌∙◌, ap, false}
use Rattle.std.specs.Prelude.{IsTrue}
use Rattle.std.specs.List.{list_all}
use Rattle.domain_store.specs.Intervals.{are_intervals}
use Rattle.domain_store.specs.steps.Cut.{is_part, cut}
use Rattle.domain_store.proofs.Fronts.{written_front}
use Rattle.domain_store.proofs.Cuts.{meets, numbers_emptied, numbers_same, numbers_fewer, numbers_formed}
use Rattle.domain_store.proofs.int_domain.IntDomain.narrow.Goals as goal

-- no interval meets the range
pub returns-then-not-any_meets-clause-narrowed : goal.returns-then-not-any_meets-clause-narrowed
returns-then-not-any_meets-clause-narrowed c =
    let formed : IsTrue (are_intervals c.args.self.now) = search rules in
    let none : meets c.args.range c.args.self.now ≡ false = search rules in
    numbers_emptied c.args.range c.args.self.now formed none

-- each lies in it
pub returns-then-all_are_part-clause-narrowed : goal.returns-then-all_are_part-clause-narrowed
returns-then-all_are_part-clause-narrowed c =
    let formed : IsTrue (are_intervals c.args.self.now) = search rules in
    let all : IsTrue (list_all (is_part c.args.range) c.args.self.now) = search rules in
    numbers_same c.args.range c.args.self.now formed all

-- they are cut to it
pub invariant_of-self : goal.invariant_of-self
invariant_of-self c =
    let formed : IsTrue (are_intervals c.args.self.now) = search rules in
    let some : IsTrue (meets c.args.range c.args.self.now) = search rules in
    let seen : c.self.inside.intervals.items ≡ c.args.self.now = search rules in
    let is : c.truncate.new.self.items ≡ cut c.args.range c.args.self.now =
    c.truncate.ensures.items
    ∙ written_front c.args.range c.cut_to-count.result c.self.inside.intervals.items c.as_mut_slice.result.now c.cut_to-count.new.intervals c.as_mut_slice.ensures.value c.cut_to-count.ensures.length c.cut_to-count.ensures.cut
    ∙ ap (cut c.args.range) seen in
    numbers_formed c.args.range c.args.self.now c.truncate.new.self.items formed some is

pub returns-clause-narrowed : goal.returns-clause-narrowed
returns-clause-narrowed c =
    let formed : IsTrue (are_intervals c.args.self.now) = search rules in
    let some : IsTrue (meets c.args.range c.args.self.now) = search rules in
    let fails : list_all (is_part c.args.range) c.args.self.now ≡ false = search rules in
    let seen : c.self.inside.intervals.items ≡ c.args.self.now = search rules in
    let is : c.truncate.new.self.items ≡ cut c.args.range c.args.self.now =
    c.truncate.ensures.items
    ∙ written_front c.args.range c.cut_to-count.result c.self.inside.intervals.items c.as_mut_slice.result.now c.cut_to-count.new.intervals c.as_mut_slice.ensures.value c.cut_to-count.ensures.length c.cut_to-count.ensures.cut
    ∙ ap (cut c.args.range) seen in
    numbers_fewer c.args.range c.args.self.now c.truncate.new.self.items formed some fails is

pub returns-clause-formed : goal.returns-clause-formed
returns-clause-formed c =
    let formed : IsTrue (are_intervals c.args.self.now) = search rules in
    let some : IsTrue (meets c.args.range c.args.self.now) = search rules in
    let seen : c.self.inside.intervals.items ≡ c.args.self.now = search rules in
    let is : c.truncate.new.self.items ≡ cut c.args.range c.args.self.now =
    c.truncate.ensures.items
    ∙ written_front c.args.range c.cut_to-count.result c.self.inside.intervals.items c.as_mut_slice.result.now c.cut_to-count.new.intervals c.as_mut_slice.ensures.value c.cut_to-count.ensures.length c.cut_to-count.ensures.cut
    ∙ ap (cut c.args.range) seen in
    numbers_formed c.args.range c.args.self.now c.truncate.new.self.items formed some is
