-- The least of a range is found from its halves.
use Rattle.std.proofs.Common.{◌≡◌, ◌+◌, ◌-◌, ◌/◌, ◌≤◌, subst, sym, ◌∙◌, ap, arith, rules, refl, false, if◌then◌else◌}
use Rattle.quickxplain.specs.steps.Ranges.{fill, KeepsAll}
use Rattle.quickxplain.proofs.Halves.{same_test_by, stayed, cleared_is_least, cleared_count, single_is_least, keeps_earlier, others_known, none_of_halves, halves, some_needed, all_questions}
use Rattle.quickxplain.proofs.halving.+narrow.Goals as goal

pub returns-then-branch-clause-least : goal.returns-then-branch-clause-least
returns-then-branch-clause-least g t c =
    let told = c.in_ok-others_clash.ensures in
    cleared_is_least (g.T.Tester.consistent c.args.tester.now) c.args.from c.args.to c.args.keep.now _ _ told.clash told.others told.kept c.if-branch.true

pub returns-then-branch-clause-count : goal.returns-then-branch-clause-count
returns-then-branch-clause-count g t c =
    let told = c.in_ok-others_clash.ensures in
    cleared_count (g.T.Tester.consistent c.args.tester.now) c.args.from c.args.to c.args.keep.now _ _ told.clash told.others told.kept c.if-branch.true (omega (arith, c.requires.some)) c.requires.all

pub returns-then-to-from-eq1-clause-least : goal.returns-then-to-from-eq1-clause-least
returns-then-to-from-eq1-clause-least g t c =
    let told = c.in_ok-others_clash.ensures in
    single_is_least (g.T.Tester.consistent c.args.tester.now) c.args.from c.args.to c.args.keep.now _ _ told.clash told.others told.kept c.if-branch.false (omega (arith, c.if-to-from-eq1.true)) c.requires.clash

pub narrow-requires-2 : goal.narrow-requires-2
narrow-requires-2 g t c κs within =
    let told = c.in_ok-others_clash.ensures in
    let later = c.in_ok-later.ensures in
    let f = g.T.Tester.consistent c.args.tester.now in
    let x = c.args.keep.now in
    let middle = c.args.from + (c.args.to - c.args.from) / 2 in
    let low : c.args.from ≤ middle = omega arith in
    let high : middle ≤ c.args.to = omega (arith, c.requires.some) in
    let same = stayed f c.args.from c.args.to x c.others_clash.new.keep c.in_ok-others_clash.field-0 told.clash told.others told.kept c.if-branch.false in
    let all : KeepsAll c.args.from c.args.to c.others_clash.new.keep = subst (KeepsAll c.args.from c.args.to) (sym same.0) c.requires.all in
    let test = same_test_by (g.T.Tester.consistent c.narrow.new.tester) (g.T.Tester.consistent c.others_clash.new.tester) f later.test told.test in (
      omega (arith, c.decreases, c.requires.some, c.if-to-from-eq1.false),
      (
        within,
        (
          search rules,
          (
            omega (arith, c.requires.some, c.if-to-from-eq1.false),
            (
              omega (arith, c.requires.some, c.requires.high, c.narrow.auto.keep, c.others_clash.auto.keep),
              (
                keeps_earlier (g.T.Tester.consistent c.others_clash.new.tester) c.args.from middle c.args.to c.others_clash.new.keep c.narrow.new.keep high all later.least,
                (
                  λ holds. later.least.clash ((later.test c.narrow.new.keep).0 holds),
                  others_known f (g.T.Tester.consistent c.narrow.new.tester) c.args.from middle c.args.to x c.narrow.new.keep c.in_ok-later.later low high test same.1
                      (λ none. later.none none ∙ ap (fill middle c.args.to false) same.0),
                ),
              ),
            ),
          ),
        ),
      ),
    )

pub returns-clause-least : goal.returns-clause-least
returns-clause-least g t c =
    let told = c.in_ok-others_clash.ensures in
    let x = c.args.keep.now in
    let same = stayed (g.T.Tester.consistent c.args.tester.now) c.args.from c.args.to x c.others_clash.new.keep c.in_ok-others_clash.field-0 told.clash told.others told.kept c.if-branch.false in
    halves (g.T.Tester.consistent c.args.tester.now) (g.T.Tester.consistent c.others_clash.new.tester) (g.T.Tester.consistent c.narrow.new.tester)
    (g.met.T.Tester.closed c.args.tester.now) told.test
    (same_test_by (g.T.Tester.consistent c.narrow.new.tester) (g.T.Tester.consistent c.others_clash.new.tester) (g.T.Tester.consistent c.args.tester.now)
    c.in_ok-later.ensures.test told.test)
    c.args.from (c.args.from + (c.args.to - c.args.from) / 2) c.args.to
    x c.others_clash.new.keep c.narrow.new.keep c.narrow-2.new.keep
    (omega arith) (omega (arith, c.requires.some)) c.requires.all same.0 c.in_ok-later.ensures.least c.in_ok-earlier.ensures.least

pub returns-clause-none : goal.returns-clause-none
returns-clause-none g t c =
    let told = c.in_ok-others_clash.ensures in
    let middle = c.args.from + (c.args.to - c.args.from) / 2 in
    let same : c.others_clash.new.keep ≡ c.args.keep.now = (stayed (g.T.Tester.consistent c.args.tester.now) c.args.from c.args.to c.args.keep.now c.others_clash.new.keep c.in_ok-others_clash.field-0 told.clash told.others told.kept c.if-branch.false).0 in
    let later : c.in_ok-later.later ≡ 0 → c.narrow.new.keep ≡ fill middle c.args.to false c.args.keep.now
    = λ none. subst (λ y. c.narrow.new.keep ≡ fill middle c.args.to false y) same (c.in_ok-later.ensures.none none) in
    none_of_halves c.args.from middle c.args.to c.args.keep.now c.narrow.new.keep c.narrow-2.new.keep
    c.in_ok-earlier.earlier c.in_ok-later.later (omega arith) (omega (arith, c.requires.some)) later c.in_ok-earlier.ensures.none

pub returns-clause-asked : goal.returns-clause-asked
returns-clause-asked g t c l fits =
    let told = c.in_ok-others_clash.ensures in
    let same = stayed (g.T.Tester.consistent c.args.tester.now) c.args.from c.args.to c.args.keep.now c.others_clash.new.keep c.in_ok-others_clash.field-0 told.clash told.others told.kept c.if-branch.false in
    let least = returns-clause-least g t c in
    all_questions (g.T.Tester.asked c.args.tester.now) (g.T.Tester.asked c.others_clash.new.tester) (g.T.Tester.asked c.narrow.new.tester) (g.T.Tester.asked c.narrow-2.new.tester)
    (if c.args.added then 1 else 0) c.in_ok-earlier.earlier c.in_ok-later.later
    c.args.from (c.args.from + (c.args.to - c.args.from) / 2) c.args.to l refl c.requires.some c.if-to-from-eq1.false
    told.counted c.in_ok-later.ensures.asked c.in_ok-earlier.ensures.asked
    (some_needed (g.T.Tester.consistent c.args.tester.now) c.args.from c.args.to c.args.keep.now c.narrow-2.new.keep (c.in_ok-earlier.earlier + c.in_ok-later.later)
    same.1 least.clash (returns-clause-none g t c))
    fits
