-- A number at the root type has its value at instance 0 of a shaped configuration.
use Rattle.std.proofs.Common.{◌≡◌, ◌<◌, refl, leb-true, List, length, Option, Some, None, true}
use Rattle.std.specs.Prelude.{IsTrue, nat_le}
use Rattle.std.proofs.lemmas.Bool.{and_parts}
use Rattle.std.proofs.lemmas.Option.{slice_get_within}
use Rattle.prod_model.specs.declared.model.Model.{Model}
use Rattle.prod_model.specs.declared.expr.Expr.{Expr}
use Rattle.prod_model.specs.declared.expr_bounds.Bounds.{Bounds}
use Rattle.prod_model.specs.declared.expr_bounds.Bounds.TheVariants.{Number, Truth}
use Rattle.prod_model.specs.Limits.{most_nesting}
use Rattle.prod_model.specs.Nesting.{nesting}
use Rattle.prod_model.specs.ExprBounds.{bounds_at, is_number, is_number_at}
use Rattle.config_value.specs.declared.configuration.Instance.{Instance}
use Rattle.config_value.specs.Shaped.{is_shaped}
use Rattle.config_value.proofs.ShapedSentences.{shaped_sentences}
use Rattle.answer_check.specs.Faultless.{IsFaultlessAt}

-- a number has bounds
bounds_told : (o : Option Bounds) → is_number o ≡ true → (b : Bounds) × (o ≡ Some b)
bounds_told (Some (Number low high)) is = (Number low high, refl)
bounds_told (Some Truth) is = absurd cc
bounds_told None is = absurd cc

-- there is an instance 0
pub root_within : (m : Model) (c : List Instance) → IsTrue (is_shaped m c) → 0 < length c
root_within m c shaped = let root = ((shaped_sentences m c).0 shaped).root in slice_get_within c 0 root.instance root.there

-- a number at the root type has no fault at instance 0
pub faultless_at_root : (m : Model) (c : List Instance) (e : Expr) → IsTrue (is_shaped m c) → IsTrue (is_number_at m m.root e) → IsFaultlessAt m c 0 e
faultless_at_root m c e shaped number =
    let root = ((shaped_sentences m c).0 shaped).root in
    let both = and_parts (nat_le (nesting e) most_nesting) (is_number (bounds_at m e m.root)) number in
    let told = bounds_told (bounds_at m e m.root) both.1 in
    record {
      bounded = record {
        instance = root.instance;
        stands = root.there;
        kind = m.root;
        under = root.of_type;
        bounds = told.0;
        told = told.1;
      };
      shallow = leb-true (nesting e) most_nesting both.0;
    }

pub ruleset at_root = (root_within, faultless_at_root)
