-- What holds of each declaration of all types holds of each entry: ranges and pairs are within the limits.
use Rattle.std.proofs.Common.{◌≡◌, ℕ, suc, ◌+◌, Bool, ◌&&◌, List, [], ◌∷◌, map, reverse, Option, Some, None, refl, ◌∙◌, subst}
use Rattle.std.specs.Prelude.{slice_get, IsTrue, not}
use Rattle.std.specs.Option.{option_map_or}
use Rattle.std.specs.List.{list_all, find, fold}
use Rattle.std.proofs.lemmas.Bool.{and_parts, and_from}
use Rattle.std.proofs.lemmas.List.Folds.{list_all-append}
use Rattle.std.proofs.lemmas.Option.{none-some}
use Rattle.base_laws.specs.Places.{IsAt}
use Rattle.base_laws.proofs.Places.{find_at, map_at, filter_at}
use Rattle.base_laws.proofs.Tests.{list_all_at, list_all_from}
use Rattle.prod_model.specs.declared.model.Model.{Model}
use Rattle.prod_model.specs.declared.model.TypeDecl.{TypeDecl}
use Rattle.prod_model.specs.declared.model.AttrAt.{AttrAt}
use Rattle.prod_model.specs.declared.model.PortAt.{PortAt}
use Rattle.prod_model.specs.Names.{same_text}
use Rattle.prod_model.specs.Limits
use Rattle.prod_model.specs.Limits.{is_between}
use Rattle.prod_model.specs.Forest.{line}
use Rattle.prod_model.specs.Taxonomy.{Named, declarations_of, is_declared_above, new_declarations, new_entries, kept_entry, extended_entries, entries_of, first_id, attributes_of, ports_of, attributes_at, ports_at, made_attribute, made_port}
use Rattle.prod_model.proofs.Inverses.{declared_at}
use Rattle.prod_model.specs.Valid.{IsDeclared, is_pair, has_ends, has_numbers_of, has_numbers_in_limits}

module _ {D A : Type 0} (declared : TypeDecl → List D) (name_of : D → List ℕ) (made : ℕ → D → A) (narrowed : D → A → A) (types : List TypeDecl)
    (p : D → Bool) (q : A → Bool)
    (of_made : (id : ℕ) (d : D) → IsTrue (p d) → IsTrue (q (made id d))) (of_narrowed : (d : D) (a : A) → IsTrue (p d) → IsTrue (q (narrowed d a)))
    (each : IsTrue (list_all (λ t. list_all p (declared t)) types)) where
  -- the declarations of a type pass
  declarations_pass : (t : ℕ) (k : ℕ) (d : D) → IsAt (declarations_of declared name_of types t) k d → IsTrue (p d)
  declarations_pass t = by (slice_get types t) refl
    where
      by : (o : Option TypeDecl) → slice_get types t ≡ o → (k : ℕ) (d : D) → IsAt (option_map_or declared o []) k d → IsTrue (p d)
      by None is k d at = absurd (none-some d at)
      by (Some u) is k d at = list_all_at p (declared u) (list_all_at (λ t. list_all p (declared t)) types each t u is) k d at

  -- what an entry names passes
  abbrev passes : Named A → Bool
  passes e = q e.what

  -- new entries of declarations that pass do
  new_pass : (id : ℕ) (ds : List D) → ((k : ℕ) (d : D) → IsAt ds k d → IsTrue (p d)) → IsTrue (list_all passes (new_entries declared name_of made narrowed id ds))
  new_pass id [] pass = refl
  new_pass id (d ∷ ds) pass = and_from _ _ (of_made id d (pass 0 d refl)) (new_pass (id + 1) ds (λ k. pass (suc k)))

  -- inherited entries that pass do so when narrowed
  kept_pass : (t : ℕ) (es : List (Named A)) → IsTrue (list_all passes es)
      → IsTrue (list_all passes (map (kept_entry declared name_of made narrowed (declarations_of declared name_of types t)) es))
  kept_pass t [] pass = refl
  kept_pass t (e ∷ es) pass = and_from _ _ (by (find (λ d. same_text (name_of d) e.name) ds) refl) (kept_pass t es (and_parts _ _ pass).1)
    where
      ds : List D
      ds = declarations_of declared name_of types t

      by : (o : Option D) → find (λ d. same_text (name_of d) e.name) ds ≡ o → IsTrue (q (option_map_or (λ d. record { name = e.name; what = narrowed d e.what }) o e).what)
      by None is = (and_parts _ _ pass).0
      by (Some d) is = let at = find_at (λ d. same_text (name_of d) e.name) ds d is in of_narrowed d e.what (declarations_pass t at.0 d at.1)

  -- what a type makes of entries that pass passes
  extended_pass : (t : ℕ) (es : List (Named A)) → IsTrue (list_all passes es) → IsTrue (list_all passes (extended_entries declared name_of made narrowed types es t))
  extended_pass t es pass =
      let ds = declarations_of declared name_of types t in
      let is_new = λ (d : D). not (is_declared_above declared name_of types t (name_of d)) in
      let new = new_entries declared name_of made narrowed (first_id declared name_of types t) (new_declarations declared name_of types t) in
      list_all-append passes (map (kept_entry declared name_of made narrowed ds) es) new
      ∙ and_from _ _ (kept_pass t es pass) (new_pass (first_id declared name_of types t) (new_declarations declared name_of types t) (λ k d at.
      let found = filter_at is_new ds k d at in
      declarations_pass t found.0 d found.1))

  -- and so does what a line of types makes of them
  fold_pass : (ts : List ℕ) (es : List (Named A)) → IsTrue (list_all passes es) → IsTrue (list_all passes (fold (extended_entries declared name_of made narrowed types) es ts))
  fold_pass [] es pass = pass
  fold_pass (t ∷ ts) es pass = fold_pass ts (extended_entries declared name_of made narrowed types es t) (extended_pass t es pass)

  -- the entries of a type pass
  pub entries_pass : (t : ℕ) → IsTrue (list_all passes (entries_of declared name_of made narrowed types t))
  entries_pass t = fold_pass (reverse (line types t)) [] refl

-- the numbers of each declared type are within the limits
numbers_of_types : (m : Model) → IsDeclared m → IsTrue (list_all has_numbers_of m.types)
unfolding has_numbers_in_limits
numbers_of_types m is =
    (and_parts (is_between 1 Limits.most_instances m.instances && list_all (λ b. is_pair b.low b.high) m.bounds) (list_all has_numbers_of m.types) is.formed.numbers_in_limits).1

-- the ends of an attribute's range at a type are within a million
pub attribute_ends : (m : Model) → IsDeclared m → (t k : ℕ) (a : AttrAt) → IsAt (attributes_at m t) k a → IsTrue (has_ends a.domain)
unfolding attributes_of
attribute_ends m is t k a at =
    let entry = map_at (λ e. e.what) (attributes_of m.types t) k a at in
    let each : IsTrue (list_all (λ d. list_all (λ a. has_ends a.domain) d.attributes) m.types) =
    list_all_from (λ d. list_all (λ a. has_ends a.domain) d.attributes) m.types (λ k d at. (and_parts _ _ (list_all_at has_numbers_of m.types (numbers_of_types m is) k d at)).0) in
    let all = entries_pass (λ d. d.attributes) (λ d. d.name) made_attribute (λ d a. made_attribute a.id d) m.types (λ d. has_ends d.domain) (λ a. has_ends a.domain)
    (λ id d ends. ends) (λ d a ends. ends) each t in
    subst (λ a. IsTrue (has_ends a.domain)) entry.2 (list_all_at (λ e. has_ends e.what.domain) (attributes_of m.types t) all k entry.0 entry.1)

-- the pair of a port at a type is in order and within the limit
pub port_pairs : (m : Model) → IsDeclared m → (t k : ℕ) (q : PortAt) → IsAt (ports_at m t) k q → IsTrue (is_pair q.low q.high)
unfolding ports_of
port_pairs m is t k q at =
    let port = declared_at m t k q at in
    let entry = map_at (λ e. e.what) (ports_of m.types t) k port.0 port.1 in
    let each : IsTrue (list_all (λ d. list_all (λ p. is_pair p.low p.high) d.ports) m.types) =
    list_all_from (λ d. list_all (λ p. is_pair p.low p.high) d.ports) m.types (λ k d at. (and_parts _ _ (list_all_at has_numbers_of m.types (numbers_of_types m is) k d at)).1) in
    let all = entries_pass (λ d. d.ports) (λ d. d.name) made_port (λ d p. made_port p.id d) m.types (λ d. is_pair d.low d.high) (λ q. is_pair q.low q.high)
    (λ id d pair. pair) (λ d a pair. pair) each t in
    subst (λ q. IsTrue (is_pair q.low q.high)) port.2
    (subst (λ q. IsTrue (is_pair q.low q.high)) entry.2 (list_all_at (λ e. is_pair e.what.low e.what.high) (ports_of m.types t) all k entry.0 entry.1))
