use Rattle.std.proofs.Common.{sym, subst, Some}
use Rattle.answer_check.specs.declared.verdict.Verdict.{Verdict}
use Rattle.answer_check.specs.steps.Finds.{FindsBreakBelow}
use Rattle.answer_check.proofs.FirstBreaks.{found_break, below_2, below_3, below_4, below_5, below_6, below_7, below_8, below_9, below_10, below_11}
use Rattle.answer_check.proofs.in_order.broken_before_rules.Goals as goal

pub returns-in-Some-other_root : goal.returns-in-Some-other_root
returns-in-Some-other_root c =
    let Finds : Verdict → Type 0 = λ v. FindsBreakBelow c.args.problem.now c.args.c.now 11 (Some v) in
    let below = below_2 c.args.problem.now c.args.c.now c.in_default.ensures in
    subst Finds (sym c.broken-in-Some-other_root.ensures) (found_break c.args.problem.now c.args.c.now 2 11 c.in-Some-other_root.place below c.in-Some-other_root.ensures)

pub returns-in-Some-bad_value : goal.returns-in-Some-bad_value
returns-in-Some-bad_value c =
    let Finds : Verdict → Type 0 = λ v. FindsBreakBelow c.args.problem.now c.args.c.now 11 (Some v) in
    let below = below_3 c.args.problem.now c.args.c.now c.in_default.ensures c.in_default-other_root.ensures in
    subst Finds (sym c.broken-in-Some-bad_value.ensures) (found_break c.args.problem.now c.args.c.now 3 11 c.in-Some-bad_value.place below c.in-Some-bad_value.ensures)

pub returns-in-Some-broken_port : goal.returns-in-Some-broken_port
returns-in-Some-broken_port c =
    let Finds : Verdict → Type 0 = λ v. FindsBreakBelow c.args.problem.now c.args.c.now 11 (Some v) in
    let below = below_4 c.args.problem.now c.args.c.now c.in_default.ensures c.in_default-other_root.ensures c.in_default-bad_value.ensures in
    subst Finds (sym c.broken-in-Some-broken_port.ensures) (found_break c.args.problem.now c.args.c.now 4 11 c.in-Some-broken_port.place below c.in-Some-broken_port.ensures)

pub returns-in-Some-broken_port-2 : goal.returns-in-Some-broken_port-2
returns-in-Some-broken_port-2 c =
    let Finds : Verdict → Type 0 = λ v. FindsBreakBelow c.args.problem.now c.args.c.now 11 (Some v) in
    let below = below_5 c.args.problem.now c.args.c.now c.in_default.ensures c.in_default-other_root.ensures c.in_default-bad_value.ensures c.in_default-broken_port.ensures in
    subst Finds (sym c.broken-in-Some-broken_port-2.ensures) (found_break c.args.problem.now c.args.c.now 5 11 c.in-Some-broken_port-2.place below c.in-Some-broken_port-2.ensures)

pub returns-in-Some-broken_port-3 : goal.returns-in-Some-broken_port-3
returns-in-Some-broken_port-3 c =
    let Finds : Verdict → Type 0 = λ v. FindsBreakBelow c.args.problem.now c.args.c.now 11 (Some v) in
    let below = below_6 c.args.problem.now c.args.c.now c.in_default.ensures c.in_default-other_root.ensures c.in_default-bad_value.ensures c.in_default-broken_port.ensures c.in_default-broken_port-2.ensures in
    subst Finds (sym c.broken-in-Some-broken_port-3.ensures) (found_break c.args.problem.now c.args.c.now 6 11 c.in-Some-broken_port-3.place below c.in-Some-broken_port-3.ensures)

pub returns-in-Some-shared_part : goal.returns-in-Some-shared_part
returns-in-Some-shared_part c =
    let Finds : Verdict → Type 0 = λ v. FindsBreakBelow c.args.problem.now c.args.c.now 11 (Some v) in
    let below = below_7 c.args.problem.now c.args.c.now c.in_default.ensures c.in_default-other_root.ensures c.in_default-bad_value.ensures c.in_default-broken_port.ensures c.in_default-broken_port-2.ensures c.in_default-broken_port-3.ensures in
    subst Finds (sym c.broken-in-Some-shared_part.ensures) (found_break c.args.problem.now c.args.c.now 7 11 c.in-Some-shared_part.place below c.in-Some-shared_part.ensures)

pub returns-in-Some-broken_port-4 : goal.returns-in-Some-broken_port-4
returns-in-Some-broken_port-4 c =
    let Finds : Verdict → Type 0 = λ v. FindsBreakBelow c.args.problem.now c.args.c.now 11 (Some v) in
    let below = below_8 c.args.problem.now c.args.c.now c.in_default.ensures c.in_default-other_root.ensures c.in_default-bad_value.ensures c.in_default-broken_port.ensures c.in_default-broken_port-2.ensures c.in_default-broken_port-3.ensures c.in_default-shared_part.ensures in
    subst Finds (sym c.broken-in-Some-broken_port-4.ensures) (found_break c.args.problem.now c.args.c.now 12 11 c.in-Some-broken_port-4.place below c.in-Some-broken_port-4.ensures)

pub returns-in-Some-out_of_turn : goal.returns-in-Some-out_of_turn
returns-in-Some-out_of_turn c =
    let Finds : Verdict → Type 0 = λ v. FindsBreakBelow c.args.problem.now c.args.c.now 11 (Some v) in
    let below = below_9 c.args.problem.now c.args.c.now c.in_default.ensures c.in_default-other_root.ensures c.in_default-bad_value.ensures c.in_default-broken_port.ensures c.in_default-broken_port-2.ensures c.in_default-broken_port-3.ensures c.in_default-shared_part.ensures c.in_default-broken_port-4.ensures in
    subst Finds (sym c.broken-in-Some-out_of_turn.ensures) (found_break c.args.problem.now c.args.c.now 8 11 c.in-Some-out_of_turn.place below c.in-Some-out_of_turn.ensures)

pub returns-in-Some-bad_count : goal.returns-in-Some-bad_count
returns-in-Some-bad_count c =
    let Finds : Verdict → Type 0 = λ v. FindsBreakBelow c.args.problem.now c.args.c.now 11 (Some v) in
    let below = below_10 c.args.problem.now c.args.c.now c.in_default.ensures c.in_default-other_root.ensures c.in_default-bad_value.ensures c.in_default-broken_port.ensures c.in_default-broken_port-2.ensures c.in_default-broken_port-3.ensures c.in_default-shared_part.ensures c.in_default-broken_port-4.ensures c.in_default-out_of_turn.ensures in
    subst Finds (sym c.broken-in-Some-bad_count.ensures) (found_break c.args.problem.now c.args.c.now 9 11 c.in-Some-bad_count.place below c.in-Some-bad_count.ensures)

pub returns : goal.returns
returns c = below_11 c.args.problem.now c.args.c.now c.in_default.ensures c.in_default-other_root.ensures c.in_default-bad_value.ensures c.in_default-broken_port.ensures c.in_default-broken_port-2.ensures c.in_default-broken_port-3.ensures c.in_default-shared_part.ensures c.in_default-broken_port-4.ensures c.in_default-out_of_turn.ensures c.in_default-bad_count.ensures
