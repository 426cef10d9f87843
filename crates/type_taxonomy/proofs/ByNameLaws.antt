-- Maps from names to declarations.
use Rattle.std.proofs.Common.{◌≡◌, ℕ, Bool, true, false, cond, not, ◌||◌, is_none, List, ap, ◌∙◌, refl, Option, Some, None}
use Rattle.std.specs.Borrow.{Bor}
use Rattle.std.specs.Option.{option_map, option_or}
use Rattle.std.specs.List.{find, list_any}
use Rattle.std.specs.Str.{bytes_eq}
use Rattle.std.specs.HashMap.{UpdatesBy}
use Rattle.std.proofs.lemmas.Map.Text.{hash_map_updates_str}
use Rattle.indexmap.specs.IndexMap.{IndexMap, get_by}
use Rattle.prod_model.specs.Names.{same_text}
use Rattle.type_taxonomy.specs.declared.by_name.Found.{Found}
use Rattle.type_taxonomy.specs.steps.ByName.{found, found_at}
use Rattle.type_taxonomy.proofs.Inherited.{is_none_map}
use Rattle.prod_model.proofs.NamedDeclarations.{none_found}

cond_map : {A B : Type 0} (f : A → B) (b : Bool) (x : A) (o : Option A) → option_map f (cond b (Some x) o) ≡ cond b (Some (f x)) (option_map f o)
cond_map f true x o = refl
cond_map f false x o = refl

-- after a declaration is put under a name
pub found_put : {D S : Type 0} (m n : IndexMap (Bor (List ℕ)) (Found D) S) (key : Bor (List ℕ)) (name : List ℕ) (f : Found D)
    → UpdatesBy (λ x y. bytes_eq x.now y.now) (λ k. bytes_eq key.now k.now) m n (Some f) → key.now ≡ name
    → (q : List ℕ) → found n q ≡ cond (same_text name q) (Some (f.height, f.declared.now)) (found m q)
found_put m n key name f updates is q =
    ap (option_map (λ g. (g.height, g.declared.now))) (hash_map_updates_str key.now m n (Some f) updates q)
    ∙ cond_map (λ g. (g.height, g.declared.now)) (same_text key.now q) f (get_by (λ k. same_text q k.now) m)
    ∙ ap (λ l. cond (same_text l q) (Some (f.height, f.declared.now)) (found m q)) is

-- ---- which names are free

pub none_or : {A : Type 0} (o p : Option A) (a b : Bool) → is_none o ≡ not a → is_none p ≡ not b → is_none (option_or o p) ≡ not (a || b)
none_or None p true b first second = cc
none_or None p false b first second = second
none_or (Some x) p true b first second = refl
none_or (Some x) p false b first second = cc

-- nothing is found exactly where none of the declarations has the name
pub none_at : {D : Type 0} (name_of : D → List ℕ) (height : ℕ) (ds : List D) (name : List ℕ)
    → is_none (found_at name_of height ds name) ≡ not (list_any (λ d. same_text name (name_of d)) ds)
none_at name_of height ds name = is_none_map (λ d. (height, d)) (find (λ d. same_text (name_of d) name) ds) ∙ none_found name_of ds name
