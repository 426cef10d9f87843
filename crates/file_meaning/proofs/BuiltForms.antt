-- What the building of an expression needs.
use Rattle.std.proofs.Common.{◌≡◌, ℕ, ◌<◌, ◌≢◌, List, [], ◌∷◌, map, refl, sym, ap, get_or, arith, zero, suc, length, Option, ◌∙◌}
use Rattle.std.specs.Prelude.{IsFalse, pos}
use Rattle.std.proofs.lemmas.Bool.{false≢true}
use Rattle.serde_json.specs.Data.{Data}
use Rattle.serde_json.specs.View.{view, items_of}
use Rattle.serde_json.specs.declared.value.Value.{Value}
use Rattle.prod_model.specs.declared.model.Model.{Model}
use Rattle.file_values.proofs.FormLaws.{size, weight}
use Rattle.file_values.specs.declared.operator.Operator.{Operator}
use Rattle.file_values.specs.declared.operator.Operator.TheVariants.{Attr, Count, Sum, Total, Number, Add, Sub, Times, Cmp, Is, Kind, And, Or, Not, If, All, Any}
use Rattle.prod_model.specs.declared.expr.Expr.TheVariants as expr
use Rattle.file_meaning.specs.Expressions.{Element, elements_of, form_of}
use Rattle.file_meaning.specs.steps.Built.{element, elements, is_of_list}

pub elements_items : (m : Model) (ds : List Data) → elements_of m (items_of ds) ≡ map (element m) ds
elements_items m [] = refl
elements_items m (d ∷ ds) = ap (λ more. element m d ∷ more) (elements_items m ds)

-- a value has less values in it than a list in which it stands
pub size_within : (vs : List Value) (k : ℕ) (v : Value) → k < length vs → v ≡ get_or vs k v → size (view v) < weight vs
size_within [] k v within is = absurd (omega (arith, within))
size_within (x ∷ xs) zero v within is = let same : size (view v) ≡ size (view x) = ap (λ w. size (view w)) is in omega (arith, same)
size_within (x ∷ xs) (suc k) v within is = let rest = size_within xs k v (omega (arith, within)) is in omega (arith, rest)

-- an operator of one or two arguments stands for nothing where it has none
few_none : (m : Model) (op : Operator) (t : Option ℕ) → IsFalse (is_of_list op)
    → form_of m op [] t ≡ expr.Num (pos 0)
unfolding form_of
few_none m Attr t few = refl
few_none m Count t few = refl
few_none m Sum t few = refl
few_none m Total t few = refl
few_none m Number t few = refl
few_none m Add t few = absurd (false≢true (sym few))
few_none m Sub t few = refl
few_none m Times t few = refl
few_none m (Cmp r) t few = refl
few_none m Is t few = refl
few_none m Kind t few = refl
few_none m And t few = absurd (false≢true (sym few))
few_none m Or t few = absurd (false≢true (sym few))
few_none m Not t few = refl
few_none m If t few = refl
few_none m All t few = refl
few_none m Any t few = refl

-- nor where it has more
few_many : (m : Model) (op : Operator) (t : Option ℕ) (a b c : Element) (es : List Element) → IsFalse (is_of_list op)
    → form_of m op (a ∷ b ∷ c ∷ es) t ≡ expr.Num (pos 0)
unfolding form_of
few_many m Attr t a b c es few = refl
few_many m Count t a b c es few = refl
few_many m Sum t a b c es few = refl
few_many m Total t a b c es few = refl
few_many m Number t a b c es few = refl
few_many m Add t a b c es few = absurd (false≢true (sym few))
few_many m Sub t a b c es few = refl
few_many m Times t a b c es few = refl
few_many m (Cmp r) t a b c es few = refl
few_many m Is t a b c es few = refl
few_many m Kind t a b c es few = refl
few_many m And t a b c es few = absurd (false≢true (sym few))
few_many m Or t a b c es few = absurd (false≢true (sym few))
few_many m Not t a b c es few = refl
few_many m If t a b c es few = refl
few_many m All t a b c es few = refl
few_many m Any t a b c es few = refl

-- ---- by the values of the list

pub none_of_few : (m : Model) (op : Operator) (t : Option ℕ) (vs : List Value) → length vs ≡ 0 → IsFalse (is_of_list op)
    → form_of m op (elements m vs) t ≡ expr.Num (pos 0)
none_of_few m op t [] none few = few_none m op t few
none_of_few m op t (v ∷ vs) none few = absurd (omega (arith, none))

more_of_few : (m : Model) (op : Operator) (t : Option ℕ) (v w : Value) (more : List Value) → length more ≢ 0 → IsFalse (is_of_list op)
    → form_of m op (elements m (v ∷ w ∷ more)) t ≡ expr.Num (pos 0)
more_of_few m op t v w [] some few = absurd (some refl)
more_of_few m op t v w (x ∷ xs) some few = few_many m op t (element m (view v)) (element m (view w)) (element m (view x)) (elements m xs) few

pub many_of_few : (m : Model) (op : Operator) (t : Option ℕ) (vs rest more : List Value) (v w : Value) → vs ≡ v ∷ rest → rest ≡ w ∷ more → length more ≢ 0 → IsFalse (is_of_list op)
    → form_of m op (elements m vs) t ≡ expr.Num (pos 0)
many_of_few m op t vs rest more v w is next some few =
    ap (λ ws. form_of m op (elements m ws) t) is ∙ ap (λ ws. form_of m op (elements m (v ∷ ws)) t) next ∙ more_of_few m op t v w more some few
