-- What makes a configuration of a model shaped, place by place.
use Rattle.std.specs.Prelude.{◌≡◌, ◌↔◌, ℕ, suc, ◌<◌, ◌≤◌, ◌==◌, ℤ, pos, ◌≤ℤ◌, IsTrue, List, length, slice_get, Some}
use Rattle.std.specs.List.{count_by}
use Rattle.base_laws.specs.Places.{IsAt}
use Rattle.prod_model.specs.declared.model.Model.{Model}
use Rattle.prod_model.specs.declared.model.Domain.{Domain}
use Rattle.prod_model.specs.declared.model.Domain.TheVariants.{Range, Words}
use Rattle.prod_model.specs.declared.model.AttrAt.{AttrAt}
use Rattle.prod_model.specs.declared.model.PortAt.{PortAt}
use Rattle.prod_model.specs.declared.model.CountBound.{CountBound}
use Rattle.prod_model.specs.Forest.{is_leaf}
use Rattle.prod_model.specs.Taxonomy.{first_words, attributes_at, ports_at}
use Rattle.config_value.specs.declared.configuration.Instance.{Instance}
use Rattle.config_value.specs.Value.{under}
use Rattle.config_value.specs.Shaped.{is_shaped}
use Rattle.config_value.specs.Links.{LinkPlace, IsPartLink}

-- the number is the low one, the high one or between them
abbrev pub IsBetween : ℕ → ℕ → ℕ → Type 0
IsBetween low high n = (low ≤ n) × (n ≤ high)

-- there is an instance of that number, and it is under the type
pub record IsInstanceUnder (m : Model) (c : List Instance) (t i : ℕ) : Type 0 where
  pub instance : Instance
  pub there : IsAt c i instance
  pub of_type : IsTrue (under m t instance)

-- the value is the place in the attribute's first declaration of a word that is among the words
pub record IsPlaceOfWord (words first : List (List ℕ)) (v : ℤ) : Type 0 where
  pub place : ℕ
  pub value : v ≡ pos place
  pub word : List ℕ
  pub first_declared : IsAt first place word
  pub place_among : ℕ
  pub among : IsAt words place_among word

-- the value is in the range, or is the place of one of the words
abbrev pub IsValueOf : Domain → List (List ℕ) → ℤ → Type 0
IsValueOf (Range low high) first v = (low ≤ℤ v) × (v ≤ℤ high)
IsValueOf (Words words) first v = IsPlaceOfWord words first v

-- the instance is of a leaf type, and has a value for each attribute of the type and links for each
-- port
pub record IsBuilt (m : Model) (x : Instance) : Type 0 where
  pub leaf : IsTrue (is_leaf m x.kind)
  pub each_attribute : length x.values ≡ length (attributes_at m x.kind)
  pub each_port : length x.links ≡ length (ports_at m x.kind)

-- the links ascend, lead to instances under the port's target, and are as many as the port allows
pub record AreLinksOf (m : Model) (c : List Instance) (p : PortAt) (links : List ℕ) : Type 0 where
  pub ascending : (k i j : ℕ) → IsAt links k i → IsAt links (suc k) j → i < j
  pub on_target : (k i : ℕ) → IsAt links k i → IsInstanceUnder m c p.target i
  pub number : IsBetween p.low p.high (length links)

-- The port of that id stands at this place of the type. It is the first of the id there, and in a
-- valid model the only one.
pub record IsPortOfId (m : Model) (t id place : ℕ) : Type 0 where
  pub port : PortAt
  pub stands : IsAt (ports_at m t) place port
  pub of_id : port.id ≡ id
  pub none_before : (k : ℕ) (p : PortAt) → k < place → IsAt (ports_at m t) k p → ¬ (p.id ≡ id)

-- there is an instance j, which has a port of that id and links i by it
pub record IsLinkedBy (m : Model) (c : List Instance) (id i j : ℕ) : Type 0 where
  pub instance : Instance
  pub there : IsAt c j instance
  pub place : ℕ
  pub port : IsPortOfId m instance.kind id place
  pub links : List ℕ
  pub linked : IsAt instance.links place links
  pub link_place : ℕ
  pub leads : IsAt links link_place i

-- The shape of a configuration of the model. The line above a field says what it means.
pub record HasShape (m : Model) (c : List Instance) : Type 0 where
  -- there is an instance, and there are no more than the model allows
  pub size : IsBetween 1 m.instances (length c)
  -- instance 0 is of a type under the root type
  pub root : IsInstanceUnder m c m.root 0
  -- each instance is of a leaf type, with lists as long as the type asks
  pub built : (i : ℕ) (x : Instance) → IsAt c i x → IsBuilt m x
  -- each value is in its attribute's domain at the instance's type
  pub values : (i k : ℕ) (x : Instance) (a : AttrAt) (v : ℤ) → IsAt c i x
      → IsAt (attributes_at m x.kind) k a → IsAt x.values k v
      → IsValueOf a.domain (first_words m a.id) v
  -- the links of each port ascend, lead to instances under its target, and are as many as it allows
  pub links : (i k : ℕ) (x : Instance) (p : PortAt) (links : List ℕ) → IsAt c i x
      → IsAt (ports_at m x.kind) k p → IsAt x.links k links
      → AreLinksOf m c p links
  -- no two part links lead to one instance, and none leads to instance 0
  pub parts : (j : ℕ) (a b : LinkPlace) → IsPartLink m c j a → IsPartLink m c j b → a ≡ b
  pub whole : (a : LinkPlace) → ¬ IsPartLink m c 0 a
  -- where an instance links another by a port with an inverse, the other links it by the inverse
  pub links_back : (i k h j id : ℕ) (x : Instance) (p : PortAt) (links : List ℕ) → IsAt c i x
      → IsAt (ports_at m x.kind) k p → IsAt x.links k links → p.inverse ≡ Some id
      → IsAt links h j → IsLinkedBy m c id i j
  -- for each entry of `bounds`, the number of instances under its type is within its pair
  pub counts : (k : ℕ) (b : CountBound) → IsAt m.bounds k b
      → IsBetween b.low b.high (count_by (under m b.kind) c)

-- A configuration is shaped exactly where it has this shape.
abbrev pub ShapedSentences : Type 0
ShapedSentences = (m : Model) (c : List Instance) → IsTrue (is_shaped m c) ↔ HasShape m c
