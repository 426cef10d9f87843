-- A value no part of which is misformed is an expression of the forms of the language.
use Rattle.std.proofs.Common.{◌≡◌, ℕ, suc, ◌+◌, Bool, true, IsTrue, List, [], ◌∷◌, ◌++◌, map, length, refl, sym, ap, subst, ◌∙◌, Option, Some, None}
use Rattle.std.specs.Prelude.{pos, ◌&&◌, replicate, if◌then◌else◌}
use Rattle.std.specs.Option.{option_map_or, option_and_then}
use Rattle.std.specs.List.{list_all}
use Rattle.std.proofs.lemmas.Bool.{and_from}
use Rattle.std.proofs.lemmas.List.{length-map}
use Rattle.std.proofs.lemmas.Option.{none-some, same_Some}
use Rattle.serde_json.specs.Data.{null, boolean, number, string, array, object, Items, no_items, item}
use Rattle.serde_json.specs.Find.{as_str}
use Rattle.prod_model.specs.declared.model.Model.{Model}
use Rattle.prod_model.specs.declared.expr.Expr.{Expr}
use Rattle.prod_model.specs.declared.expr.Expr.TheOpen.{Expr-F}
use Rattle.prod_model.specs.declared.expr.Expr.TheOpen as form
use Rattle.prod_model.specs.declared.expr.Expr.TheVariants as expr
use Rattle.prod_model.specs.declared.expr.Expr.TheFolds.{fold-roll-Expr}
use Rattle.prod_model.specs.Limits.{is_between, most_arguments}
use Rattle.prod_model.specs.ExprBounds.{has_arguments}
use Rattle.expr_bounds.specs.Forms.{is_form, layer_is_form}
use Rattle.expr_bounds.proofs.FormLaws.{all_map}
use Rattle.file_values.specs.declared.part.Part.{Part}
use Rattle.file_values.specs.declared.operator.Operator.{Operator}
use Rattle.file_values.specs.declared.operator.Operator.TheVariants.{Attr, Count, Sum, Total, Number, Add, Sub, Times, Cmp, Is, Kind, And, Or, Not, If, All, Any}
use Rattle.file_values.specs.declared.operator.Argument.{Argument}
use Rattle.file_values.specs.declared.operator.Argument.TheVariants.{Text, Factor, Inner}
use Rattle.file_values.specs.Forms.{operator_of, takes, some_inner, misformed_arguments, misformed, each_misformed}
use Rattle.file_meaning.specs.Expressions.{Element, form_of, elements_of}
use Rattle.file_meaning.specs.Laws.{FormedIsForm}
use Rattle.file_meaning.proofs.NoneFails.{by_test}

-- ---- forms

-- each argument that is an expression is of the forms of the language, at any type
abbrev pub AreForms : List Argument → List Element → Type 0
AreForms (Inner ∷ as') (e ∷ es) = ((t : Option ℕ) → IsTrue (is_form (e.at t))) × AreForms as' es
AreForms (Text ∷ as') (e ∷ es) = AreForms as' es
AreForms (Factor ∷ as') (e ∷ es) = AreForms as' es
AreForms as' es = Unit {0}

-- an expression is of the forms where its form says so
rolled : {e e' : Expr} → e ≡ e' → IsTrue (is_form e) → IsTrue (is_form e')
rolled same is = ap is_form (sym same) ∙ is

-- the number 0 is of the forms
zero_form : IsTrue (is_form (expr.Num (pos 0)))
unfolding is_form
zero_form = rolled (expr.rolls-Num (pos 0)) (fold-roll-Expr Bool layer_is_form (form.Num (pos 0)))

number_form : (n : _) → IsTrue (is_form (expr.Num n))
unfolding is_form
number_form n = rolled (expr.rolls-Num n) (fold-roll-Expr Bool layer_is_form (form.Num n))

-- all of a list are of the forms
all_forms : (es : List Element) (t : Option ℕ) → AreForms (replicate (length es) Inner) es → list_all is_form (map (λ e. e.at t) es) ≡ true
all_forms [] t forms = refl
all_forms (e ∷ es) t forms = and_from _ _ (forms.0 t) (all_forms es t forms.1)

-- so many arguments that are all expressions
abbrev InnerOf : List Element → List Argument → Type 0
InnerOf es args = (has_arguments es ≡ true) × (args ≡ replicate (length es) Inner)

inner_of : (es : List Element) (args : List Argument) → some_inner (length es) ≡ Some args → InnerOf es args
inner_of es args is = by_test (has_arguments es)
    (λ few. (few, same_Some _ _ (sym is ∙ ap (λ b. if b then Some (replicate (length es) Inner) else None) few)))
    (λ many. absurd (none-some args (sym (ap (λ b. if b then Some (replicate (length es) Inner) else None) many) ∙ is)))

list_form : (es : List Element) (args : List Argument) (t : Option ℕ) → some_inner (length es) ≡ Some args → AreForms args es
    → (has_arguments (map is_form (map (λ e. e.at t) es)) && list_all (λ b. b) (map is_form (map (λ e. e.at t) es))) ≡ true
list_form es args t takes_some forms =
    let inner = inner_of es args takes_some in
    let each = all_forms es t (subst (λ as'. AreForms as' es) inner.1 forms) in
    and_from _ _ (ap (is_between 1 most_arguments) (length-map (map (λ (e : Element). e.at t) es) is_form ∙ length-map es (λ (e : Element). e.at t)) ∙ inner.0)
    (all_map (map (λ e. e.at t) es) ∙ each)

two_forms : (es : List Element) (args : List Argument) (as' : List Argument) → Some as' ≡ Some args → AreForms args es → AreForms as' es
two_forms es args as' is forms = subst (λ l. AreForms l es) (sym (same_Some as' args is)) forms

-- an operator with right arguments is of the forms
form_is_form : (m : Model) (op : Operator) (es : List Element) (args : List Argument) → takes op (length es) ≡ Some args → AreForms args es → (t : Option ℕ) → IsTrue (is_form (form_of m op es t))
unfolding form_of takes is_form
form_is_form m Attr [] args is forms t = zero_form
form_is_form m Attr (a ∷ []) args is forms t = rolled (expr.rolls-Attr _) (fold-roll-Expr Bool layer_is_form (form.Attr _))
form_is_form m Attr (a ∷ b ∷ es) args is forms t = zero_form
form_is_form m Count [] args is forms t = zero_form
form_is_form m Count (a ∷ []) args is forms t = rolled (expr.rolls-Count _) (fold-roll-Expr Bool layer_is_form (form.Count _))
form_is_form m Count (a ∷ b ∷ []) args is forms t = rolled (expr.rolls-CountOf _ _) (fold-roll-Expr Bool layer_is_form (form.CountOf _ _))
form_is_form m Count (a ∷ b ∷ c ∷ es) args is forms t = zero_form
form_is_form m Sum [] args is forms t = zero_form
form_is_form m Sum (a ∷ []) args is forms t = zero_form
form_is_form m Sum (a ∷ b ∷ []) args is forms t = rolled (expr.rolls-Sum _ _) (fold-roll-Expr Bool layer_is_form (form.Sum _ _))
form_is_form m Sum (a ∷ b ∷ c ∷ es) args is forms t = zero_form
form_is_form m Total [] args is forms t = zero_form
form_is_form m Total (a ∷ []) args is forms t = zero_form
form_is_form m Total (a ∷ b ∷ []) args is forms t = rolled (expr.rolls-Total _ _) (fold-roll-Expr Bool layer_is_form (form.Total _ _))
form_is_form m Total (a ∷ b ∷ c ∷ es) args is forms t = zero_form
form_is_form m Number [] args is forms t = zero_form
form_is_form m Number (a ∷ []) args is forms t = rolled (expr.rolls-Number _) (fold-roll-Expr Bool layer_is_form (form.Number _))
form_is_form m Number (a ∷ b ∷ es) args is forms t = zero_form
form_is_form m Add es args is forms t = rolled (expr.rolls-Add (map (λ e. e.at t) es)) (fold-roll-Expr Bool layer_is_form (form.Add (map (λ e. e.at t) es)) ∙ list_form es args t is forms)
form_is_form m Sub [] args is forms t = zero_form
form_is_form m Sub (a ∷ []) args is forms t = zero_form
form_is_form m Sub (a ∷ b ∷ []) args is forms t =
    let two = two_forms (a ∷ b ∷ []) args (Inner ∷ Inner ∷ []) is forms in rolled (expr.rolls-Sub (a.at t) (b.at t)) (fold-roll-Expr Bool layer_is_form (form.Sub (a.at t) (b.at t)) ∙ and_from _ _ (two.0 t) (two.1.0 t))
form_is_form m Sub (a ∷ b ∷ c ∷ es) args is forms t = zero_form
form_is_form m Times [] args is forms t = zero_form
form_is_form m Times (a ∷ []) args is forms t = zero_form
form_is_form m Times (a ∷ b ∷ []) args is forms t =
    let two = two_forms (a ∷ b ∷ []) args (Factor ∷ Inner ∷ []) is forms in rolled (expr.rolls-Times _ (b.at t)) (fold-roll-Expr Bool layer_is_form (form.Times _ (b.at t)) ∙ two.0 t)
form_is_form m Times (a ∷ b ∷ c ∷ es) args is forms t = zero_form
form_is_form m (Cmp relation) [] args is forms t = zero_form
form_is_form m (Cmp relation) (a ∷ []) args is forms t = zero_form
form_is_form m (Cmp relation) (a ∷ b ∷ []) args is forms t =
    let two = two_forms (a ∷ b ∷ []) args (Inner ∷ Inner ∷ []) is forms in rolled (expr.rolls-Cmp relation (a.at t) (b.at t)) (fold-roll-Expr Bool layer_is_form (form.Cmp relation (a.at t) (b.at t)) ∙ and_from _ _ (two.0 t) (two.1.0 t))
form_is_form m (Cmp relation) (a ∷ b ∷ c ∷ es) args is forms t = zero_form
form_is_form m Is [] args is forms t = zero_form
form_is_form m Is (a ∷ []) args is forms t = zero_form
form_is_form m Is (a ∷ b ∷ []) args is forms t = rolled (expr.rolls-Is _ _) (fold-roll-Expr Bool layer_is_form (form.Is _ _))
form_is_form m Is (a ∷ b ∷ c ∷ es) args is forms t = zero_form
form_is_form m Kind [] args is forms t = zero_form
form_is_form m Kind (a ∷ []) args is forms t = rolled (expr.rolls-Kind _) (fold-roll-Expr Bool layer_is_form (form.Kind _))
form_is_form m Kind (a ∷ b ∷ es) args is forms t = zero_form
form_is_form m And es args is forms t = rolled (expr.rolls-And (map (λ e. e.at t) es)) (fold-roll-Expr Bool layer_is_form (form.And (map (λ e. e.at t) es)) ∙ list_form es args t is forms)
form_is_form m Or es args is forms t = rolled (expr.rolls-Or (map (λ e. e.at t) es)) (fold-roll-Expr Bool layer_is_form (form.Or (map (λ e. e.at t) es)) ∙ list_form es args t is forms)
form_is_form m Not [] args is forms t = zero_form
form_is_form m Not (a ∷ []) args is forms t =
    let one = two_forms (a ∷ []) args (Inner ∷ []) is forms in rolled (expr.rolls-Not (a.at t)) (fold-roll-Expr Bool layer_is_form (form.Not (a.at t)) ∙ one.0 t)
form_is_form m Not (a ∷ b ∷ es) args is forms t = zero_form
form_is_form m If [] args is forms t = zero_form
form_is_form m If (a ∷ []) args is forms t = zero_form
form_is_form m If (a ∷ b ∷ []) args is forms t =
    let two = two_forms (a ∷ b ∷ []) args (Inner ∷ Inner ∷ []) is forms in rolled (expr.rolls-If (a.at t) (b.at t)) (fold-roll-Expr Bool layer_is_form (form.If (a.at t) (b.at t)) ∙ and_from _ _ (two.0 t) (two.1.0 t))
form_is_form m If (a ∷ b ∷ c ∷ es) args is forms t = zero_form
form_is_form m All [] args is forms t = zero_form
form_is_form m All (a ∷ []) args is forms t = zero_form
form_is_form m All (a ∷ b ∷ []) args is forms t =
    let two = two_forms (a ∷ b ∷ []) args (Text ∷ Inner ∷ []) is forms in rolled (expr.rolls-All _ (b.at _)) (fold-roll-Expr Bool layer_is_form (form.All _ (b.at _)) ∙ two.0 _)
form_is_form m All (a ∷ b ∷ c ∷ es) args is forms t = zero_form
form_is_form m Any [] args is forms t = zero_form
form_is_form m Any (a ∷ []) args is forms t = zero_form
form_is_form m Any (a ∷ b ∷ []) args is forms t =
    let two = two_forms (a ∷ b ∷ []) args (Text ∷ Inner ∷ []) is forms in rolled (expr.rolls-Any _ (b.at _)) (fold-roll-Expr Bool layer_is_form (form.Any _ (b.at _)) ∙ two.0 _)
form_is_form m Any (a ∷ b ∷ c ∷ es) args is forms t = zero_form

-- ---- arrays

nothing_front : {X : Type 0} (xs ys : List X) → xs ++ ys ≡ [] → xs ≡ []
nothing_front [] ys none = refl
nothing_front (x ∷ xs) ys none = absurd (cc)

nothing_back : {X : Type 0} (xs ys : List X) → xs ++ ys ≡ [] → ys ≡ []
nothing_back [] ys none = none
nothing_back (x ∷ xs) ys none = absurd (cc)

nothing_mapped : {X Y : Type 0} (f : X → Y) (xs : List X) → map f xs ≡ [] → xs ≡ []
nothing_mapped f [] none = refl
nothing_mapped f (x ∷ xs) none = absurd (cc)

as_many : (m : Model) (ds : Items) → length (each_misformed ds) ≡ length (elements_of m ds)
as_many m no_items = refl
as_many m (item d ds) = ap (λ n. suc n) (as_many m ds)

operator_form : (m : Model) (es : List Element) (t : Option ℕ) (op : Option Operator) (n : ℕ) (Wrong : List Argument → List (List Part)) → n ≡ length es
    → ((args : List Argument) → Wrong args ≡ [] → AreForms args es)
    → option_map_or Wrong (option_and_then (λ o. takes o n) op) ([] ∷ []) ≡ []
    → IsTrue (is_form (option_map_or (λ o. form_of m o es t) op (expr.Num (pos 0))))
operator_form m es t None n Wrong count each none = zero_form
operator_form m es t (Some op) n Wrong count each none = by (takes op n) refl none
  where
    by : (o : Option (List Argument)) → takes op n ≡ o → option_map_or Wrong o ([] ∷ []) ≡ [] → IsTrue (is_form (form_of m op es t))
    by None is none = absurd (cc)
    by (Some args) is none = form_is_form m op es args (ap (takes op) (sym count) ∙ is) (each args none) t

mutual
  pub formed_is_form : FormedIsForm
  formed_is_form m null t none = absurd (cc)
  formed_is_form m (boolean b) t none = absurd (cc)
  formed_is_form m (number n) t none = number_form _
  formed_is_form m (string s) t none = absurd (cc)
  formed_is_form m (array no_items) t none = absurd (cc)
  formed_is_form m (array (item o ds)) t none =
      operator_form m (elements_of m ds) t (option_and_then operator_of (as_str o)) (length (each_misformed ds)) (λ args. misformed_arguments 1 args (each_misformed ds)) (as_many m ds)
      (λ args right. arguments_are_forms m 1 args ds right) none
  formed_is_form m (object ms) t none = absurd (cc)

  arguments_are_forms : (m : Model) (n : ℕ) (args : List Argument) (ds : Items) → misformed_arguments n args (each_misformed ds) ≡ [] → AreForms args (elements_of m ds)
  arguments_are_forms m n [] no_items none = tt
  arguments_are_forms m n [] (item d ds) none = tt
  arguments_are_forms m n (Inner ∷ args) no_items none = tt
  arguments_are_forms m n (Text ∷ args) no_items none = tt
  arguments_are_forms m n (Factor ∷ args) no_items none = tt
  arguments_are_forms m n (Inner ∷ args) (item d ds) none =
      (λ t. formed_is_form m d t (nothing_mapped _ (misformed d) (nothing_front _ _ none)), arguments_are_forms m (n + 1) args ds (nothing_back _ _ none))
  arguments_are_forms m n (Text ∷ args) (item d ds) none = arguments_are_forms m (n + 1) args ds (nothing_back _ _ none)
  arguments_are_forms m n (Factor ∷ args) (item d ds) none = arguments_are_forms m (n + 1) args ds (nothing_back _ _ none)
