-- What a type has of attributes or ports: ids with declarations.
use Rattle.std.specs.Prelude.{◌≡◌, ℕ, Bool, not, List, map}
use Rattle.std.specs.List.{list_any, flat_map}
use Rattle.prod_model.specs.declared.model.TypeDecl.{TypeDecl}
use Rattle.prod_model.specs.Forest.{line, type_numbers}
use Rattle.prod_model.specs.Names.{same_text}
use Rattle.prod_model.specs.Taxonomy.{Named, declarations_of, new_declarations, first_id, new_entries, kept_entry, entries_of}
use Rattle.type_taxonomy.specs.declared.entry.Entry.{Entry}

-- an entry under the name of its declaration
abbrev pub named : {D : Type 0} → (D → List ℕ) → Entry D → Named (ℕ × D)
named name_of e = record { name = name_of e.declared.now; what = (e.id, e.declared.now) }

module _ {D : Type 0} (declared : TypeDecl → List D) (name_of : D → List ℕ) where
  -- a new declaration, under its id
  abbrev pub placed : ℕ → D → ℕ × D
  placed id d = (id, d)

  -- a narrowing keeps the id
  abbrev pub placed_again : D → ℕ × D → ℕ × D
  placed_again d p = (p.0, d)

  -- none of these types declares the name
  abbrev pub is_new_among : List TypeDecl → List ℕ → D → Bool
  is_new_among types ancestors d =
      not (list_any (λ e. same_text (name_of d) (name_of e))
      (flat_map (declarations_of declared name_of types) ancestors))

  -- the declarations that are new, under their ids from this one on
  abbrev pub numbered : ℕ → List D → List (Named (ℕ × D))
  numbered id ds = new_entries declared name_of placed placed_again id ds

  -- what is new in a type
  abbrev pub new_of : List TypeDecl → ℕ → List (Named (ℕ × D))
  new_of types t =
      numbered (first_id declared name_of types t) (new_declarations declared name_of types t)

  -- what is inherited, narrowed where one of the declarations has the name
  abbrev pub narrowed_by : List D → List (Named (ℕ × D)) → List (Named (ℕ × D))
  narrowed_by ds inherited = map (kept_entry declared name_of placed placed_again ds) inherited

  -- what a type has: each entry is an id with the declaration that says what it is there
  unfoldable pub placed_of : List TypeDecl → ℕ → List (Named (ℕ × D))
  placed_of types t = entries_of declared name_of placed placed_again types t

  -- the rows are what is new in each type
  abbrev pub AreNew : List TypeDecl → List (List (Entry D)) → Type 0
  AreNew types rows = map (map (named name_of)) rows ≡ map (new_of types) (type_numbers types)

  -- the rows are what each type has
  abbrev pub AreRows : List TypeDecl → List (List (Entry D)) → Type 0
  AreRows types rows = map (map (named name_of)) rows ≡ map (placed_of types) (type_numbers types)

-- the lists are the lines of the types
abbrev pub AreLines : List TypeDecl → List (List ℕ) → Type 0
AreLines types lines = lines ≡ map (line types) (type_numbers types)
