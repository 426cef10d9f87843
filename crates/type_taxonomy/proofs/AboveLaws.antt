-- Maps from names to the nearest declarations.
use Rattle.std.proofs.Common.{◌≡◌, ℕ, ◌≤◌, suc, Bool, true, false, cond, not, ◌&&◌, ◌||◌, nat_lt, is_some, is_none, List, [], ◌∷◌, length, sym, ap, ◌∙◌, refl, Option, Some, None, slice_get, arith}
use Rattle.std.specs.Borrow.{Bor}
use Rattle.std.specs.Option.{option_map, option_map_or, option_or}
use Rattle.std.specs.List.{find, filter_map, cons_option, flat_map, list_any}
use Rattle.std.proofs.Math.Bool.{and-true, and-false}
use Rattle.std.proofs.lemmas.Bool.Decides.{nat_tests}
use Rattle.std.proofs.lemmas.List.Folds.{list_any-append}
use Rattle.indexmap.specs.IndexMap.{IndexMap}
use Rattle.prod_model.specs.declared.model.TypeDecl.{TypeDecl}
use Rattle.prod_model.specs.Names.{same_text}
use Rattle.prod_model.specs.Taxonomy.{declarations_of}
use Rattle.type_taxonomy.specs.steps.Above.{found_along, passes_nearest}
use Rattle.type_taxonomy.specs.steps.ByName.{found, found_at}
use Rattle.type_taxonomy.specs.declared.by_name.Found.{Found}
use Rattle.type_taxonomy.specs.steps.Entries.{is_new_among}
use Rattle.type_taxonomy.specs.Nearest.{declares}
use Rattle.type_taxonomy.proofs.ByNameLaws.{none_or, none_at}
use Rattle.type_taxonomy.proofs.Sorts.{declares_by}

-- ---- which names are free

module _ {D : Type 0} (declared : TypeDecl → List D) (name_of : D → List ℕ) where
  -- nothing is found along a line exactly where none of its types declares the name
  none_along : (types : List TypeDecl) (line : List ℕ) (name : List ℕ)
      → is_none (found_along declared name_of types line name) ≡ not (list_any (λ d. same_text name (name_of d)) (flat_map (declarations_of declared name_of types) line))
  none_along types [] name = refl
  none_along types (t ∷ line) name =
      let here = declarations_of declared name_of types t in
      let above = flat_map (declarations_of declared name_of types) line in
      let has_name = λ (d : D). same_text name (name_of d) in
      none_or (found_at name_of (suc (length line)) here name) (found_along declared name_of types line name) (list_any has_name here) (list_any has_name above)
      (none_at name_of (suc (length line)) here name) (none_along types line name)
      ∙ ap not (sym (list_any-append has_name here above))

  -- a declaration is new where its name is free above
  pub new_told : {S : Type 0} (types : List TypeDecl) (ancestors : List ℕ) (names : IndexMap (Bor (List ℕ)) (Found D) S) (d : D) (name : List ℕ) (free : Bool)
      → ((q : List ℕ) → found names q ≡ found_along declared name_of types ancestors q) → name ≡ name_of d → free ≡ is_none (found names name)
      → is_new_among declared name_of types ancestors d ≡ free
  new_told types ancestors names d name free are_above is_name is_free =
      sym (none_along types ancestors (name_of d)) ∙ ap is_none (sym (are_above (name_of d))) ∙ ap (λ n. is_none (found names n)) (sym is_name) ∙ sym is_free

-- ---- which declaration is nearest

-- what the other sort has is nearer than this height
abbrev is_past : {E : Type 0} → ℕ → Option (ℕ × E) → Bool
is_past height other = option_map_or (λ g. nat_lt height g.0) other false

-- no height along a line is greater than its length
record IsLow {E : Type 0} (n : ℕ) (other : Option (ℕ × E)) : Type 0 where
  low : (height : ℕ) → n ≤ height → is_past height other ≡ false

low_none : {E : Type 0} (n : ℕ) → IsLow {E = E} n None
low_none n = record { low = λ height above. refl }

low_some : {E : Type 0} (n m : ℕ) (e : E) → m ≤ n → IsLow n (Some (m, e))
low_some n m e within = record { low = λ height above. grind (arith, nat_tests) }

low_more : {E : Type 0} (n : ℕ) (o : Option (ℕ × E)) → IsLow n o → IsLow (suc n) o
low_more n o below = record { low = λ height above. below.low height (omega arith) }

low_or : {E : Type 0} (n : ℕ) (o : Option E) (later : Option (ℕ × E)) → IsLow n later → IsLow (suc n) (option_or (option_map (λ e. (suc n, e)) o) later)
low_or n None later below = low_more n later below
low_or n (Some e) later below = low_some (suc n) (suc n) e (omega arith)

low_along : {E : Type 0} (other : TypeDecl → List E) (other_name : E → List ℕ) (types : List TypeDecl) (line : List ℕ) (name : List ℕ)
    → IsLow (length line) (found_along other other_name types line name)
low_along other other_name types [] name = low_none 0
low_along other other_name types (t ∷ line) name =
    low_or (length line) (find (λ e. same_text (other_name e) name) (declarations_of other other_name types t)) (found_along other other_name types line name)
    (low_along other other_name types line name)

module _ {D E : Type 0} (declared : TypeDecl → List D) (name_of : D → List ℕ) (other : TypeDecl → List E) (other_name : E → List ℕ)
    (either : (name : List ℕ) (d : TypeDecl) → declares name d ≡ (list_any (λ e. same_text (name_of e) name) (declared d) || list_any (λ e. same_text (other_name e) name) (other d))) where
  -- the other sort is nearer than what is declared further up
  other_nearer : (test : D → Bool) (n : ℕ) (later : Option (ℕ × D)) (y : E) → IsLow n later → passes_nearest test later (Some (suc n, y)) ≡ false
  other_nearer test n None y low = refl
  other_nearer test n (Some f) y low =
      let below : nat_lt n f.0 ≡ false = low.low n (omega arith) in
      let past : nat_lt f.0 (suc n) ≡ true = grind (arith, nat_tests) in
      ap (λ b. test f.1 && not b) past ∙ and-false (test f.1)

  nearer_step : (test : D → Bool) (tells : TypeDecl → Bool) (n : ℕ) (d : TypeDecl) (own : Option D) (others : Option E) (later : Option (ℕ × D)) (later' : Option (ℕ × E)) (rest : Option TypeDecl)
      → tells d ≡ option_map_or test own false → IsLow n later → IsLow n later' → option_map_or tells rest true ≡ passes_nearest test later later'
      → option_map_or tells (cond (is_some own || is_some others) (Some d) rest) true
      ≡ passes_nearest test (option_or (option_map (λ e. (suc n, e)) own) later) (option_or (option_map (λ e. (suc n, e)) others) later')
  nearer_step test tells n d (Some x) others later later' rest is low low' above =
      is ∙ sym (and-true (test x)) ∙ ap (λ b. test x && not b) (sym ((low_or n others later' low').low (suc n) (omega arith)))
  nearer_step test tells n d None (Some y) later later' rest is low low' above = is ∙ sym (other_nearer test n later y low)
  nearer_step test tells n d None None later later' rest is low low' above = above

  nearer_at : (test : D → Bool) (n : ℕ) (kind : Option TypeDecl) (name : List ℕ) (later : Option (ℕ × D)) (later' : Option (ℕ × E)) (rest : List TypeDecl) → IsLow n later → IsLow n later'
      → option_map_or (λ d. option_map_or test (find (λ e. same_text (name_of e) name) (declared d)) false) (find (declares name) rest) true ≡ passes_nearest test later later'
      → option_map_or (λ d. option_map_or test (find (λ e. same_text (name_of e) name) (declared d)) false) (find (declares name) (cons_option kind rest)) true
      ≡ passes_nearest test (option_or (found_at name_of (suc n) (option_map_or declared kind []) name) later)
      (option_or (found_at other_name (suc n) (option_map_or other kind []) name) later')
  nearer_at test n None name later later' rest low low' above = above
  nearer_at test n (Some d) name later later' rest low low' above =
      let tells = λ (k : TypeDecl). option_map_or test (find (λ e. same_text (name_of e) name) (declared k)) false in
      ap (λ b. option_map_or tells (cond b (Some d) (find (declares name) rest)) true) (declares_by declared name_of other other_name either name d)
      ∙ nearer_step test tells n d (find (λ e. same_text (name_of e) name) (declared d)) (find (λ e. same_text (other_name e) name) (other d)) later later' (find (declares name) rest) refl low low' above

  -- the nearest type that declares the name, by the heights of the declarations
  pub nearer : (test : D → Bool) (types : List TypeDecl) (line : List ℕ) (name : List ℕ)
      → option_map_or (λ d. option_map_or test (find (λ e. same_text (name_of e) name) (declared d)) false) (find (declares name) (filter_map (slice_get types) line)) true
      ≡ passes_nearest test (found_along declared name_of types line name) (found_along other other_name types line name)
  nearer test types [] name = refl
  nearer test types (t ∷ line) name =
      nearer_at test (length line) (slice_get types t) name (found_along declared name_of types line name) (found_along other other_name types line name) (filter_map (slice_get types) line)
      (low_along declared name_of types line name) (low_along other other_name types line name) (nearer test types line name)
