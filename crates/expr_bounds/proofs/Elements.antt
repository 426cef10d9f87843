-- What the lists of paths and places contain.
use Rattle.std.proofs.Common.{◌≡◌, ℕ, sym, refl, Bool, true, false, List, [], ◌∷◌, Contains}
use Rattle.std.proofs.lemmas.Bool.{false≢true}
use Rattle.std.proofs.lemmas.List.Elements.{Contains-push}
use Rattle.base_laws.proofs.Elements.{contained_at, at_contained, none_contained, one_contained}
use Rattle.base_laws.proofs.Places.{at_map, map_at}
use Rattle.expr_bounds.specs.Faults.{place_unless}
use Rattle.expr_bounds.specs.steps.Search.{whole_if, places}

pub contains_places : (ks : List ℕ) (k : ℕ) → Contains ks k → Contains (places ks) (k ∷ [])
contains_places ks k among =
    contained_at (places ks) among.0 (k ∷ []) (at_map (λ (n : ℕ). n ∷ []) ks among.0 k (at_contained ks k among))

pub places_contained : (ks : List ℕ) (path : List ℕ) → Contains (places ks) path → (k : ℕ) × (Contains ks k) × (k ∷ [] ≡ path)
places_contained ks path among =
    let there = map_at (λ (n : ℕ). n ∷ []) ks among.0 path (at_contained (places ks) path among) in
    (there.0, contained_at ks among.0 there.0 there.1, there.2)

pub whole_contained : (b : Bool) (path : List ℕ) → Contains (whole_if b) path → (b ≡ true) × ([] ≡ path)
whole_contained true path among = (refl, one_contained [] path among)
whole_contained false path among = absurd (none_contained path among)

pub contains_whole : (b : Bool) → b ≡ true → Contains (whole_if b) []
contains_whole true holds = Contains-push [] []
contains_whole false holds = absurd (false≢true holds)

pub unless_contained : (known : Bool) (place k : ℕ) → Contains (place_unless known place) k → (known ≡ false) × (place ≡ k)
unless_contained true place k among = absurd (none_contained k among)
unless_contained false place k among = (refl, one_contained place k among)

pub contains_unless : (known : Bool) (place : ℕ) → known ≡ false → Contains (place_unless known place) place
contains_unless true place unknown = absurd (false≢true (sym unknown))
contains_unless false place unknown = Contains-push [] place
