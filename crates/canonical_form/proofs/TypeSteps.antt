-- Looking up the type whose name bytes begin with.
use Rattle.std.proofs.Common.{◌≡◌, ℕ, zero, suc, ◌<◌, true, false, List, [], ◌∷◌, ◌++◌, map, length, Some, None, refl, sym, ap, subst, ◌∙◌, arith}
use Rattle.std.specs.Prelude.{IsTrue, slice_get}
use Rattle.std.specs.Option.{option_map_or}
use Rattle.std.specs.List.{position}
use Rattle.std.specs.Cmp.Lexicographic.{same_text as text_same}
use Rattle.std.proofs.lemmas.Bool.{false≢true}
use Rattle.std.proofs.lemmas.List.{length-map}
use Rattle.prod_model.specs.declared.model.Model.{Model}
use Rattle.prod_model.specs.declared.model.TypeDecl.{TypeDecl}
use Rattle.prod_model.specs.Names.{same_text}
use Rattle.prod_model.specs.Forest.{is_leaf}
use Rattle.prod_model.specs.Valid.{IsValid}
use Rattle.canonical_form.specs.AnswerText.{type_name}
use Rattle.canonical_form.specs.AnswerParts.{behind_name}
use Rattle.canonical_form.specs.steps.Reading.{Takes, IsToken, type_text}
use Rattle.canonical_form.proofs.LookUps.{same_item, position_hit, position_miss}
use Rattle.prod_model.proofs.NameLaws.{same_text_refl}
use Rattle.canonical_form.proofs.ModelTexts.{leaf_is_type, type_bytes, type_of_name}
use Rattle.canonical_form.proofs.ReadingSteps.{token_is}

name_at : (types : List TypeDecl) (t : ℕ) → t < length types → slice_get (map (λ d. d.name) types) t ≡ Some (option_map_or (λ d. d.name) (slice_get types t) [])
name_at [] t within = absurd (omega arith)
name_at (d ∷ types) zero within = refl
name_at (d ∷ types) (suc t) within = name_at types t (omega arith)

-- the name that was looked up is the name of the type at that place
pub record IsTypeOf (m : Model) (name : List ℕ) (t : ℕ) : Type 0 where
  pub within : t < length m.types
  pub name_is : type_name m t ≡ name

pub type_found : (m : Model) (names : List (List ℕ)) (name : List ℕ) (t : ℕ) → names ≡ map (λ d. d.name) m.types → position (λ n. same_text n name) names ≡ Some t → IsTypeOf m name t
type_found m names name t named found =
    let found' = subst (λ ns. position (λ n. same_text n name) ns ≡ Some t) named found in
    let hit = position_hit (λ n. same_text n name) (map (λ d. d.name) m.types) t found' in
    let many = length-map m.types (λ d. d.name) in
    let below = hit.within in
    let inside : t < length m.types = omega arith in
    let item : type_name m t ≡ hit.item = same_item (type_name m t) hit.item (sym (name_at m.types t inside) ∙ hit.at) in
    record { within = inside; name_is = item ∙ text_same hit.item name (sym hit.passes) }

same_tail : (xs ys : List ℕ) → 32 ∷ xs ≡ 32 ∷ ys → xs ≡ ys
same_tail xs ys same = cc

-- a type whose name stands there is the token
leaf_token : (m : Model) (bytes named name rest behind : List ℕ) (t : ℕ) → IsValid m → bytes ≡ 32 ∷ named → IsToken behind_name named name rest
    → Takes (type_text m t) behind_name bytes behind → name ≡ type_name m t
leaf_token m bytes named name rest behind t valid blank token takes =
    let parts : named ≡ type_name m t ++ behind = same_tail named (type_name m t ++ behind) (sym blank ∙ takes.parts) in
    (token_is behind_name named name rest (type_name m t) behind token (type_bytes m t valid) (record { parts = parts; ends = takes.ends })).0

pub no_type : (m : Model) (names : List (List ℕ)) (bytes named name rest behind : List ℕ) (t : ℕ) → IsValid m → names ≡ map (λ d. d.name) m.types → bytes ≡ 32 ∷ named
    → IsToken behind_name named name rest → position (λ n. same_text n name) names ≡ None → IsTrue (is_leaf m t) → Takes (type_text m t) behind_name bytes behind → ⊥
no_type m names bytes named name rest behind t valid known blank token none leaf takes =
    let same = leaf_token m bytes named name rest behind t valid blank token takes in
    let none' = subst (λ ns. position (λ n. same_text n name) ns ≡ None) known none in
    let other : same_text (type_name m t) name ≡ false =
    position_miss (λ n. same_text n name) (map (λ d. d.name) m.types) none' t (type_name m t) (name_at m.types t (leaf_is_type m t leaf)) in
    let e : same_text (type_name m t) (type_name m t) ≡ false = subst (λ n. same_text (type_name m t) n ≡ false) same other in
    false≢true (sym e ∙ same_text_refl (type_name m t))

pub no_leaf : (m : Model) (bytes named name rest behind : List ℕ) (t k : ℕ) → IsValid m → bytes ≡ 32 ∷ named → IsToken behind_name named name rest
    → IsTypeOf m name k → is_leaf m k ≡ false → IsTrue (is_leaf m t) → Takes (type_text m t) behind_name bytes behind → ⊥
no_leaf m bytes named name rest behind t k valid blank token found inner leaf takes =
    let same = leaf_token m bytes named name rest behind t valid blank token takes in
    let one : t ≡ k = type_of_name m t k valid (leaf_is_type m t leaf) found.within (sym same ∙ sym found.name_is) in
    let leaf' : is_leaf m k ≡ true = subst (λ u. is_leaf m u ≡ true) one leaf in
    false≢true (sym inner ∙ leaf')

pub leaf_takes : (m : Model) (bytes named name rest : List ℕ) (k : ℕ) → bytes ≡ 32 ∷ named → IsToken behind_name named name rest → IsTypeOf m name k → Takes (type_text m k) behind_name bytes rest
leaf_takes m bytes named name rest k blank token found = record {
  parts = blank ∙ ap (λ t. 32 ∷ t) token.takes.parts ∙ ap (λ n. 32 ∷ (n ++ rest)) (sym found.name_is);
  ends = token.takes.ends;
}
