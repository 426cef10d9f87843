-- Names that are the same, and names that are looked up in a list.
use Rattle.std.proofs.Common.{◌≡◌, ℕ, true, List, [], ◌∷◌, ◌++◌, map, refl, arith}
use Rattle.std.specs.Prelude.{IsTrue}
use Rattle.std.specs.Borrow.{Bor}
use Rattle.std.specs.List.{list_any, position}
use Rattle.std.specs.Cmp.Lexicographic.{nat_list_eq_equiv}
use Rattle.std.proofs.lemmas.Bool.Decides.{nat_tests}
use Rattle.std.proofs.lemmas.Bool.{and_parts}
use Rattle.std.proofs.lemmas.List.Folds.{list_any-append}
use Rattle.prod_model.specs.Names.{same_text, is_distinct}
use Rattle.base_laws.proofs.Tests.{list_any_map, position_map}

-- a text is the same as itself
pub same_text_refl : (t : List ℕ) → same_text t t ≡ true
same_text_refl [] = refl
same_text_refl (b ∷ bs) = let rest = same_text_refl bs in grind (arith, nat_tests)

-- either way round
pub same_text_symm : (a b : List ℕ) → same_text a b ≡ same_text b a
same_text_symm = nat_list_eq_equiv.symm

-- one of the borrowed names is the same as one of the names
pub list_any_now : (name : List ℕ) (texts : List (Bor (List ℕ)))
    → list_any (same_text name) (map (λ t. t.now) texts) ≡ list_any (λ t. same_text name t.now) texts
list_any_now name texts = list_any_map (same_text name) (λ t. t.now) texts

-- borrowed names are searched as the names are
pub position_now : (name : List ℕ) (texts : List (Bor (List ℕ)))
    → position (λ n. same_text n name) (map (λ t. t.now) texts) ≡ position (λ t. same_text name t.now) texts
position_now name texts =
    position_map (λ t. t.now) (λ n. same_text n name) (λ t. same_text name t.now)
    (λ t. same_text_symm t.now name) texts

-- of names of which none stands twice, none of the first stands twice
pub distinct_front : (ns ks : List (List ℕ)) → IsTrue (is_distinct (ns ++ ks)) → IsTrue (is_distinct ns)
distinct_front [] ks distinct = refl
distinct_front (n ∷ ns) ks distinct = let rest = distinct_front ns ks in let apart = list_any-append (same_text n) ns ks in grind (arith)

-- and the names after them
pub distinct_back : (ns ks : List (List ℕ)) → IsTrue (is_distinct (ns ++ ks)) → IsTrue (is_distinct ks)
distinct_back [] ks distinct = distinct
distinct_back (n ∷ ns) ks distinct = distinct_back ns ks (and_parts _ _ distinct).1
