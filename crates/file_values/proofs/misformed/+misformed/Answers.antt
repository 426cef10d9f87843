use Rattle.std.proofs.Common.{rules, ◌≡◌, ◌+◌, ◌∙◌, ◌∷◌, List, ℕ, Some, None, sym, ap, subst, arith, map}
use Rattle.std.specs.Prelude.{IfOk, slice_get, Option}
use Rattle.std.specs.Option.{option_map_or}
use Rattle.serde_json.specs.Data.{array}
use Rattle.serde_json.specs.View.{view, items_view}
use Rattle.serde_json.proofs.Views.{view-Array}
use Rattle.file_values.specs.declared.part.Part.{Part}
use Rattle.file_values.specs.declared.part.Part.TheVariants.{At}
use Rattle.file_values.specs.Forms.{misformed, judged, misformed_argument, misformed_arguments, misformed_array}
use Rattle.file_values.proofs.FormLaws.{size-array, weight-cons, next_argument, each_misformed_items}
use Rattle.file_values.proofs.misformed.+misformed.Goals as goal

pub first_misformed-first_in_array-requires : goal.first_misformed-first_in_array-requires
first_misformed-first_in_array-requires t c =
    let is : view c.args.value.now ≡ array (items_view c.as_slice.result.now) =
    ap view c.in-Array.is ∙ view-Array c.in-Array.items ∙ ap (λ vs. array (items_view vs)) (sym c.as_slice.ensures.value) in
    let sized = size-array c.args.value.now c.as_slice.result.now is in
    (omega (arith, c.decreases, sized), tt)

pub first_misformed-returns-in-Array : goal.first_misformed-returns-in-Array
first_misformed-returns-in-Array t c =
    let is : view c.args.value.now ≡ array (items_view c.as_slice.result.now) =
    ap view c.in-Array.is ∙ view-Array c.in-Array.items ∙ ap (λ vs. array (items_view vs)) (sym c.as_slice.ensures.value) in
    let same : misformed_array (map judged (map view c.as_slice.result.now)) ≡ misformed (view c.args.value.now) =
    ap misformed_array (sym (each_misformed_items (map view c.as_slice.result.now))) ∙ sym (ap misformed is) in
    let First : List (List Part) → Type 0 = λ places. IfOk c.first_in_array.result (λ place. place ≡ slice_get places 0) in
    subst First same c.first_in_array.ensures

pub first_in_array-first_in_arguments-requires : goal.first_in_array-first_in_arguments-requires
first_in_array-first_in_arguments-requires t c =
    let parted : c.args.items.now ≡ c.in-Some.operator.now ∷ c.in-Some.args.now = search rules in
    let sized = weight-cons c.args.items.now c.in-Some.operator.now c.in-Some.args.now parted in
    (omega (arith, c.decreases, sized), tt)

pub first_in_arguments-first_in_argument-requires : goal.first_in_arguments-first_in_argument-requires
first_in_arguments-first_in_argument-requires t c =
    let parted : c.args.args.now ≡ c.in-Some-split_first.arg.now ∷ c.in-Some-split_first.args.now = search rules in
    let sized = weight-cons c.args.args.now c.in-Some-split_first.arg.now c.in-Some-split_first.args.now parted in
    (omega (arith, c.decreases, sized), tt)

pub first_in_arguments-first_in_arguments-requires : goal.first_in_arguments-first_in_arguments-requires
first_in_arguments-first_in_arguments-requires t c =
    let parted : c.args.args.now ≡ c.in-Some-split_first.arg.now ∷ c.in-Some-split_first.args.now = search rules in
    let sized = weight-cons c.args.args.now c.in-Some-split_first.arg.now c.in-Some-split_first.args.now parted in
    (omega (arith, c.decreases, sized), tt)

-- the first wrong place is in the first argument
pub first_in_arguments-returns-in_ok-behind-in-Some-2 : goal.first_in_arguments-returns-in_ok-behind-in-Some-2
first_in_arguments-returns-in_ok-behind-in-Some-2 t c =
    let kinds : c.args.kinds.now ≡ c.in-Some.kind.now ∷ c.in-Some.kinds.now = search rules in
    let args : c.args.args.now ≡ c.in-Some-split_first.arg.now ∷ c.in-Some-split_first.args.now = search rules in
    let there : slice_get (misformed_argument c.in-Some.kind.now (view c.in-Some-split_first.arg.now) (misformed (view c.in-Some-split_first.arg.now))) 0 ≡ Some c.in-Some-2.inner = search rules in
    let whole : c.in_ok-behind-in-Some-2.field-0 ≡ At c.args.place ∷ c.in-Some-2.inner = search rules in
    ap (λ p. Some p) whole
    ∙ sym (ap (λ o. option_map_or (λ p. Some (At c.args.place ∷ p)) o (slice_get (misformed_arguments (c.args.place + 1) c.in-Some.kinds.now (map judged (map view c.in-Some-split_first.args.now))) 0)) there)
    ∙ sym (next_argument c.args.place c.args.kinds.now c.in-Some.kind.now c.in-Some.kinds.now c.args.args.now c.in-Some-split_first.arg.now c.in-Some-split_first.args.now kinds args)

-- the first argument is right, so it is that of the rest
pub first_in_arguments-returns-in_ok-ok_or-in-None : goal.first_in_arguments-returns-in_ok-ok_or-in-None
first_in_arguments-returns-in_ok-ok_or-in-None t c =
    let kinds : c.args.kinds.now ≡ c.in-Some.kind.now ∷ c.in-Some.kinds.now = search rules in
    let args : c.args.args.now ≡ c.in-Some-split_first.arg.now ∷ c.in-Some-split_first.args.now = search rules in
    let none : slice_get (misformed_argument c.in-Some.kind.now (view c.in-Some-split_first.arg.now) (misformed (view c.in-Some-split_first.arg.now))) 0 ≡ None = search rules in
    let next : c.in_ok-ok_or-in-None.field-0 ≡ c.args.place + 1 = search rules in
    let rest : ℕ → Option (List Part) = λ n. slice_get (misformed_arguments n c.in-Some.kinds.now (map judged (map view c.in-Some-split_first.args.now))) 0 in
    let First : Option (List Part) → Type 0 = λ o. IfOk c.first_in_arguments.result (λ found. found ≡ o) in
    subst First
    (ap rest next
    ∙ sym (ap (λ o. option_map_or (λ p. Some (At c.args.place ∷ p)) o (rest (c.args.place + 1))) none)
    ∙ sym (next_argument c.args.place c.args.kinds.now c.in-Some.kind.now c.in-Some.kinds.now c.args.args.now c.in-Some-split_first.arg.now c.in-Some-split_first.args.now kinds args))
    c.first_in_arguments.ensures
