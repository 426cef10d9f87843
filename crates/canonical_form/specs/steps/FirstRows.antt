-- The first declarations of what each type has.
use Rattle.std.specs.Prelude.{◌≡◌, ℕ, ◌+◌, List, [], ◌∷◌, map, length}
use Rattle.prod_model.specs.declared.model.Model.{Model}
use Rattle.prod_model.specs.Taxonomy.{attributes_of, ports_of, attributes_at, first_words, words_of}
use Rattle.canonical_form.specs.declared.names.Firsts.{Firsts}

-- the first declarations of the attributes and ports of a type have their names, in order, and the
-- words whose places are the attributes' values
pub record AreFirstsAt (m : Model) (t : ℕ) (firsts : Firsts) : Type 0 where
  pub names :
      map (λ d. d.now.name) firsts.attributes.items ≡ map (λ e. e.name) (attributes_of m.types t)
  pub words :
      map (λ d. words_of d.now.domain) firsts.attributes.items
      ≡ map (λ a. first_words m a.id) (attributes_at m t)
  pub ports : map (λ d. d.now.name) firsts.ports.items ≡ map (λ e. e.name) (ports_of m.types t)

-- a row of them for each of the types from this one on
abbrev pub AreFirstsFrom : Model → ℕ → List Firsts → Type 0
AreFirstsFrom m t [] = Unit {0}
AreFirstsFrom m t (firsts ∷ rows) = AreFirstsAt m t firsts × AreFirstsFrom m (t + 1) rows

-- a row of them for each type
pub record AreFirsts (m : Model) (rows : List Firsts) : Type 0 where
  pub each : AreFirstsFrom m 0 rows
  pub long : length rows ≡ length m.types
