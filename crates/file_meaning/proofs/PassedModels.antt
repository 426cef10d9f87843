-- What a model file stands for where its values pass the tests of lengths, forms, limits, names and
-- repeats, and back.
use Rattle.std.proofs.Common.{◌≡◌, ℕ, Bool, List, [], map, length, refl, sym, subst, ◌∙◌, Some}
use Rattle.std.specs.Prelude.{IsTrue, nat_lt}
use Rattle.std.proofs.lemmas.List.{length-map}
use Rattle.std.proofs.lemmas.Option.{none-some}
use Rattle.serde_json.specs.Data.{Data}
use Rattle.serde_json.specs.Find.{get}
use Rattle.base_laws.proofs.Places.{map_at, at_map}
use Rattle.prod_model.specs.Names.{is_name}
use Rattle.file_values.specs.declared.format.Format.{Format}
use Rattle.file_values.specs.declared.kind.Kind.{Kind}
use Rattle.file_values.specs.declared.kind.Kind.TheVariants as kind
use Rattle.file_values.specs.declared.kind.Key.TheVariants as key
use Rattle.file_values.specs.Places.{text_of}
use Rattle.file_values.specs.Table.{members_of, item_of}
use Rattle.file_values.specs.Read.{items_in, items_at, text_at, member_of}
use Rattle.file_values.specs.Kinds.{is_right, has_members}
use Rattle.file_values.specs.Tests.{is_short, is_formed, is_in_limits, is_known}
use Rattle.file_values.specs.Twice.{texts_in}
use Rattle.file_meaning.specs.ModelOf.{number_named, type_in, bound_in, rule_in, type_names, declared_in, model_in}
use Rattle.file_meaning.proofs.NoneFails.{NoneFails, whole_passes, none-member, object_from, must_stand}
use Rattle.file_meaning.proofs.GoodParts.{AreGoodBounds, AreGoodRules, IsGood}
use Rattle.file_meaning.proofs.PassedValues.{passes_rest, rest_from, Right, Sound, good_name, type_name_from, instances_from, instances_back, format_back}
use Rattle.file_meaning.proofs.PassedTypes.{member_is, NamesAreFormed, type_name_under}
use Rattle.file_meaning.proofs.PassedLists.{of_member, types_from, types_back, bounds_from, bounds_back, rules_from, rules_back}

no_bounds : (n : ℕ) → AreGoodBounds n []
no_bounds n = record { few = refl; distinct = refl; each = λ k b at. absurd (none-some b at) }

pub no_rules : (n : ℕ) → AreGoodRules n []
no_rules n = record { few = refl; distinct = refl; each = λ k r at. absurd (none-some r at) }

module _ (format : Format) (d : Data) (right : Right format (type_names d) kind.Model d) where
  -- the names of the types
  abbrev own_names : List (List ℕ)
  own_names = type_names d

  model_right : IsTrue (has_members (members_of format kind.Model) d)
  unfolding is_right
  model_right = whole_passes format (is_right format) kind.Model d right

  model_root : (passes : Kind → Data → Bool) → NoneFails format passes kind.Model d → NoneFails format passes kind.TypeName (member_of key.Root d)
  unfolding members_of
  model_root passes none =
      none-member format passes kind.Model d none 1 _ refl (member_of key.Root d) (must_stand (members_of format kind.Model) d model_right 1 key.Root kind.TypeName refl)

  model_instances : (passes : Kind → Data → Bool) → NoneFails format passes kind.Model d → NoneFails format passes kind.Instances (member_of key.Instances d)
  unfolding members_of
  model_instances passes none =
      none-member format passes kind.Model d none 2 _ refl (member_of key.Instances d) (must_stand (members_of format kind.Model) d model_right 2 key.Instances kind.Instances refl)

  model_types : (passes : Kind → Data → Bool) → NoneFails format passes kind.Model d → NoneFails format passes kind.Types (member_of key.Types d)
  unfolding members_of
  model_types passes none =
      none-member format passes kind.Model d none 3 _ refl (member_of key.Types d) (must_stand (members_of format kind.Model) d model_right 3 key.Types kind.Types refl)

  model_bounds : (passes : Kind → Data → Bool) → NoneFails format passes kind.Model d → (v : Data) → get (text_of key.Bounds) d ≡ Some v → NoneFails format passes kind.Bounds v
  unfolding members_of
  model_bounds passes none v there = none-member format passes kind.Model d none 4 _ refl v there

  model_rules : (passes : Kind → Data → Bool) → NoneFails format passes kind.Model d → (v : Data) → get (text_of key.Rules) d ≡ Some v → NoneFails format passes kind.Rules v
  unfolding members_of
  model_rules passes none v there = none-member format passes kind.Model d none 5 _ refl v there

  -- there are as many types as names of types
  as_many_names : length own_names ≡ length (items_at key.Types d)
  as_many_names = length-map (items_at key.Types d) (text_at key.Name)

  as_many_types : length own_names ≡ length (map (type_in own_names) (items_at key.Types d))
  as_many_types = as_many_names ∙ sym (length-map (items_at key.Types d) (type_in own_names))

  pub model_from : Sound format own_names kind.Model d → IsGood (model_in d)
  unfolding model_in declared_in
  model_from sound =
      let n = length own_names in
      let bounds : AreGoodBounds n (map (bound_in own_names) (items_at key.Bounds d)) =
      of_member (λ v. AreGoodBounds n (map (bound_in own_names) (items_in v))) key.Bounds d (no_bounds n)
      (λ v there. bounds_from format own_names v (model_bounds (is_right format) right v there) (model_bounds (passes_rest own_names) sound v there)) in
      let rules : AreGoodRules n (map (rule_in (declared_in d) own_names) (items_at key.Rules d)) =
      of_member (λ v. AreGoodRules n (map (rule_in (declared_in d) own_names) (items_in v))) key.Rules d (no_rules n)
      (λ v there. rules_from format own_names (declared_in d) v (model_rules (is_right format) right v there) (model_rules (passes_rest own_names) sound v there)) in
      record {
        root = subst (λ k. IsTrue (nat_lt (number_named own_names (member_of key.Root d)) k)) as_many_types
            (type_name_from format own_names (member_of key.Root d) (model_root (passes_rest own_names) sound));
        instances = instances_from format own_names (member_of key.Instances d) (model_instances (passes_rest own_names) sound);
        types = types_from format own_names (member_of key.Types d) as_many_names (model_types (is_right format) right) (model_types (passes_rest own_names) sound);
        bounds = subst (λ k. AreGoodBounds k (map (bound_in own_names) (items_at key.Bounds d))) as_many_types bounds;
        rules = subst (λ k. AreGoodRules k (map (rule_in (declared_in d) own_names) (items_at key.Rules d))) as_many_types rules;
      }

  pub model_back : IsGood (model_in d) → Sound format own_names kind.Model d
  unfolding model_in declared_in is_short is_formed is_in_limits is_known texts_in members_of item_of
  model_back good =
      let n = length own_names in
      let formed : NamesAreFormed format own_names =
      λ k name at.
      let read = map_at (text_at key.Name) (items_at key.Types d) k name at in
      let type = good.types.each k (type_in own_names read.0) (at_map (type_in own_names) (items_at key.Types d) k read.0 read.1) in
      subst (λ t. IsTrue (is_name t)) read.2 (good_name (member_of key.Name read.0) type.formed) in
      let bounds : AreGoodBounds n (map (bound_in own_names) (items_at key.Bounds d)) =
      subst (λ k. AreGoodBounds k (map (bound_in own_names) (items_at key.Bounds d))) (sym as_many_types) good.bounds in
      let rules : AreGoodRules n (map (rule_in (declared_in d) own_names) (items_at key.Rules d)) =
      subst (λ k. AreGoodRules k (map (rule_in (declared_in d) own_names) (items_at key.Rules d))) (sym as_many_types) good.rules in
      object_from format (passes_rest own_names) kind.Model d (rest_from own_names kind.Model d record { short = refl; formed = refl; limits = refl; known = refl; different = refl }) refl (
        λ e there. format_back format own_names e,
        (
          type_name_under format own_names formed key.Root d (subst (λ k. IsTrue (nat_lt (number_named own_names (member_of key.Root d)) k)) (sym as_many_types) good.root),
          (
            λ e there. subst (Sound format own_names kind.Instances) (member_is key.Instances d e there) (instances_back format own_names (member_of key.Instances d) good.instances),
            (
              λ e there. subst (Sound format own_names kind.Types) (member_is key.Types d e there)
                  (types_back format own_names (member_of key.Types d) as_many_names formed (model_types (is_right format) right) good.types),
              (
                λ e there. bounds_back format own_names formed e (model_bounds (is_right format) right e there)
                    (subst (λ v. AreGoodBounds n (map (bound_in own_names) (items_in v))) (member_is key.Bounds d e there) bounds),
                (
                  λ e there. rules_back format own_names (declared_in d) formed e
                      (subst (λ v. AreGoodRules n (map (rule_in (declared_in d) own_names) (items_in v))) (member_is key.Rules d e there) rules),
                  tt,
                ),
              ),
            ),
          ),
        ),
      )
