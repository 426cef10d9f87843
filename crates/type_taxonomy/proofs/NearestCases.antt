-- The tests of whether a declaration narrows the nearest of its name hold exactly in the two cases.
use Rattle.std.proofs.Common.{◌≡◌, ℕ, Bool, true, false, nat_le, IsTrue, IsFalse, ◌∙◌, refl, ap, sym, inl, inr, Option, Some, None, arith}
use Rattle.std.specs.Option.{option_map_or}
use Rattle.std.specs.List.{find}
use Rattle.std.proofs.lemmas.Bool.{and_from, and_parts, leb-true, false≢true}
use Rattle.std.proofs.lemmas.Bool.Decides.{nat_tests}
use Rattle.prod_model.specs.declared.model.Model.{Model}
use Rattle.prod_model.specs.declared.model.TypeDecl.{TypeDecl}
use Rattle.prod_model.specs.declared.model.AttrDecl.{AttrDecl}
use Rattle.prod_model.specs.declared.model.PortDecl.{PortDecl}
use Rattle.prod_model.specs.declared.model.PortKind.{PortKind}
use Rattle.prod_model.specs.declared.model.PortKind.TheVariants.{Part, Shared}
use Rattle.prod_model.specs.Names.{same_text}
use Rattle.prod_model.specs.Valid.{narrows_domain, same_kind}
use Rattle.type_taxonomy.specs.Nearest.{nearest, AttributeNarrows, PortNarrows, LiesWithin}
use Rattle.type_taxonomy.specs.steps.NearestTests.{lies_within, attribute_narrows_nearest, port_narrows_nearest}

-- ---- attributes

abbrev attribute_of_name : AttrDecl → TypeDecl → Option AttrDecl
attribute_of_name a d = find (λ b. same_text b.name a.name) d.attributes

abbrev contains_domain : AttrDecl → AttrDecl → Bool
contains_domain a b = narrows_domain a.domain b.domain

attribute_found : (m : Model) (t : ℕ) (a : AttrDecl) (d : TypeDecl) (wide : Option AttrDecl) → nearest m.types t a.name ≡ Some d → attribute_of_name a d ≡ wide
    → option_map_or (contains_domain a) wide false ≡ true → AttributeNarrows m t a
attribute_found m t a d None is_nearest is_declared passes = absurd (false≢true passes)
attribute_found m t a d (Some b) is_nearest is_declared passes =
    inr (record { wide = b; inherited = record { ancestor = d; is_nearest = is_nearest; is_declared = is_declared }; within = passes })

attribute_by : (m : Model) (t : ℕ) (a : AttrDecl) (kind : Option TypeDecl) → nearest m.types t a.name ≡ kind
    → option_map_or (λ d. option_map_or (contains_domain a) (attribute_of_name a d) false) kind true ≡ true → AttributeNarrows m t a
attribute_by m t a None is passes = inl is
attribute_by m t a (Some d) is passes = attribute_found m t a d (attribute_of_name a d) is refl passes

-- an attribute that passes the test narrows
pub attribute_passed : (m : Model) (t : ℕ) (a : AttrDecl) → IsTrue (attribute_narrows_nearest m t a) → AttributeNarrows m t a
attribute_passed m t a passes = attribute_by m t a (nearest m.types t a.name) refl passes

-- one that narrows passes it
attribute_passes : (m : Model) (t : ℕ) (a : AttrDecl) → AttributeNarrows m t a → IsTrue (attribute_narrows_nearest m t a)
attribute_passes m t a (inl new) = ap (λ o. option_map_or (λ d. option_map_or (contains_domain a) (attribute_of_name a d) false) o true) new
attribute_passes m t a (inr narrows) =
    ap (λ o. option_map_or (λ d. option_map_or (contains_domain a) (attribute_of_name a d) false) o true) narrows.inherited.is_nearest
    ∙ ap (λ o. option_map_or (contains_domain a) o false) narrows.inherited.is_declared ∙ narrows.within

-- so one that fails it doesn't narrow
pub attribute_failed : (m : Model) (t : ℕ) (a : AttrDecl) → IsFalse (attribute_narrows_nearest m t a) → AttributeNarrows m t a → ⊥
attribute_failed m t a fails narrows = let passes = attribute_passes m t a narrows in cc

-- ---- ports

kind_of_same : (k l : PortKind) → same_kind k l ≡ true → k ≡ l
kind_of_same Part Part same = refl
kind_of_same Shared Shared same = refl
kind_of_same Part Shared same = absurd (false≢true same)
kind_of_same Shared Part same = absurd (false≢true same)

same_kind_refl : (k : PortKind) → same_kind k k ≡ true
same_kind_refl Part = refl
same_kind_refl Shared = refl

within_passed : (m : Model) (p q : PortDecl) → lies_within m p q ≡ true → LiesWithin m p q
within_passed m p q passes =
    let all = and_parts _ _ passes in
    let pair = and_parts _ _ all.0 in
    let first = and_parts _ _ pair.0 in
    record { kind = kind_of_same p.kind q.kind first.0; low = leb-true _ _ first.1; high = leb-true _ _ pair.1; target = all.1 }

within_passes : (m : Model) (p q : PortDecl) → LiesWithin m p q → lies_within m p q ≡ true
within_passes m p q within =
    let kind : same_kind p.kind q.kind ≡ true = ap (same_kind p.kind) (sym within.kind) ∙ same_kind_refl p.kind in
    let low : nat_le q.low p.low ≡ true = grind (arith, nat_tests, within.low) in
    let high : nat_le p.high q.high ≡ true = grind (arith, nat_tests, within.high) in
    and_from _ _ (and_from _ _ (and_from _ _ kind low) high) within.target

abbrev port_of_name : PortDecl → TypeDecl → Option PortDecl
port_of_name p d = find (λ q. same_text q.name p.name) d.ports

port_found : (m : Model) (t : ℕ) (p : PortDecl) (d : TypeDecl) (wide : Option PortDecl) → nearest m.types t p.name ≡ Some d → port_of_name p d ≡ wide
    → option_map_or (lies_within m p) wide false ≡ true → PortNarrows m t p
port_found m t p d None is_nearest is_declared passes = absurd (false≢true passes)
port_found m t p d (Some q) is_nearest is_declared passes =
    inr (record { wide = q; inherited = record { ancestor = d; is_nearest = is_nearest; is_declared = is_declared }; within = within_passed m p q passes })

port_by : (m : Model) (t : ℕ) (p : PortDecl) (kind : Option TypeDecl) → nearest m.types t p.name ≡ kind
    → option_map_or (λ d. option_map_or (lies_within m p) (port_of_name p d) false) kind true ≡ true → PortNarrows m t p
port_by m t p None is passes = inl is
port_by m t p (Some d) is passes = port_found m t p d (port_of_name p d) is refl passes

-- a port that passes the test narrows
pub port_passed : (m : Model) (t : ℕ) (p : PortDecl) → IsTrue (port_narrows_nearest m t p) → PortNarrows m t p
port_passed m t p passes = port_by m t p (nearest m.types t p.name) refl passes

-- one that narrows passes it
port_passes : (m : Model) (t : ℕ) (p : PortDecl) → PortNarrows m t p → IsTrue (port_narrows_nearest m t p)
port_passes m t p (inl new) = ap (λ o. option_map_or (λ d. option_map_or (lies_within m p) (port_of_name p d) false) o true) new
port_passes m t p (inr narrows) =
    ap (λ o. option_map_or (λ d. option_map_or (lies_within m p) (port_of_name p d) false) o true) narrows.inherited.is_nearest
    ∙ ap (λ o. option_map_or (lies_within m p) o false) narrows.inherited.is_declared ∙ within_passes m p narrows.wide narrows.within

-- so one that fails it doesn't narrow
pub port_failed : (m : Model) (t : ℕ) (p : PortDecl) → IsFalse (port_narrows_nearest m t p) → PortNarrows m t p → ⊥
port_failed m t p fails narrows = let passes = port_passes m t p narrows in cc
