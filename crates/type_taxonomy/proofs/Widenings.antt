-- Which declarations narrow the nearest of their names, one more type at a time.
use Rattle.std.proofs.Common.{◌≡◌, ℕ, ◌+◌, ◌<◌, ◌≤◌, ◌⊎◌, Bool, true, List, length, map, drop, get_or, inl, inr, sym, ap, subst, ◌∙◌, Option, Some, slice_get, arith}
use Rattle.std.specs.Option.{option_map_or}
use Rattle.std.proofs.lemmas.Bool.{cases_eq}
use Rattle.std.proofs.lemmas.Option.{slice_get_within}
use Rattle.prod_model.specs.declared.model.Model.{Model}
use Rattle.prod_model.specs.declared.model.TypeDecl.{TypeDecl}
use Rattle.prod_model.specs.declared.model.AttrDecl.{AttrDecl}
use Rattle.prod_model.specs.declared.model.PortDecl.{PortDecl}
use Rattle.prod_model.specs.Forest.{line as line_of, ancestors, type_numbers}
use Rattle.prod_model.specs.Valid.{narrows_domain}
use Rattle.type_taxonomy.specs.declared.above.Above.{Above}
use Rattle.type_taxonomy.specs.steps.ByName.{found}
use Rattle.type_taxonomy.specs.steps.Above.{found_along, passes_nearest, IsAbove, attribute_passes, port_passes}
use Rattle.type_taxonomy.specs.steps.Built.{attribute_narrows_at, port_narrows_at, NarrowsAll}
use Rattle.base_laws.specs.Places.{IsAt}
use Rattle.type_taxonomy.specs.steps.FirstFailing.{IsFirstFailing}
use Rattle.type_taxonomy.specs.steps.NearestTests.{lies_within, attribute_narrows_nearest, port_narrows_nearest}
use Rattle.type_taxonomy.proofs.AboveLaws.{nearer}
use Rattle.type_taxonomy.proofs.Items.{table_row}
use Rattle.type_taxonomy.proofs.Sorts.{either_attribute, either_port}

-- ---- by the maps of what is declared above

attribute_pass : (m : Model) (t : ℕ) (above : Above) → IsAbove m.types (ancestors m.types t) above → (a : AttrDecl) → attribute_passes above a ≡ attribute_narrows_nearest m t a
unfolding attribute_passes
attribute_pass m t above are a =
    let test = λ (b : AttrDecl). narrows_domain a.domain b.domain in
    ap (λ o. passes_nearest test o (found above.ports a.name)) (are.attributes a.name)
    ∙ ap (passes_nearest test (found_along (λ d. d.attributes) (λ b. b.name) m.types (ancestors m.types t) a.name)) (are.ports a.name)
    ∙ sym (nearer (λ d. d.attributes) (λ b. b.name) (λ d. d.ports) (λ p. p.name) either_attribute test m.types (ancestors m.types t) a.name)

port_pass : (m : Model) (t : ℕ) (above : Above) → IsAbove m.types (ancestors m.types t) above → (p : PortDecl) → port_passes m above p ≡ port_narrows_nearest m t p
unfolding port_passes
port_pass m t above are p =
    let test = lies_within m p in
    ap (λ o. passes_nearest test o (found above.attributes p.name)) (are.ports p.name)
    ∙ ap (passes_nearest test (found_along (λ d. d.ports) (λ q. q.name) m.types (ancestors m.types t) p.name)) (are.attributes p.name)
    ∙ sym (nearer (λ d. d.ports) (λ q. q.name) (λ d. d.attributes) (λ a. a.name) either_port test m.types (ancestors m.types t) p.name)

pub first_by : {X : Type 0} (p q : X → Bool) (xs ys : List X) (r : Option ℕ) → ((x : X) → p x ≡ q x) → xs ≡ ys
    → IsFirstFailing (λ k. option_map_or p (slice_get xs k) true) (length xs) r → IsFirstFailing (λ k. option_map_or q (slice_get ys k) true) (length ys) r
first_by p q xs ys r same are first =
    let there = subst (λ l. IsFirstFailing (λ k. option_map_or p (slice_get l k) true) (length l) r) are first in
    let told : p ≡ q = λ j x. same x j in
    subst (λ f. IsFirstFailing (λ k. option_map_or f (slice_get ys k) true) (length ys) r) told there

-- the first attribute that fails is the first that does not narrow the nearest
pub attributes_told : (m : Model) (t : ℕ) (d : TypeDecl) (above : Above) (attributes : List AttrDecl) (r : Option ℕ) → IsAbove m.types (ancestors m.types t) above → attributes ≡ d.attributes
    → IsFirstFailing (λ k. option_map_or (attribute_passes above) (slice_get attributes k) true) (length attributes) r → IsFirstFailing (attribute_narrows_at m t d) (length d.attributes) r
attributes_told m t d above attributes r are same first =
    first_by (attribute_passes above) (attribute_narrows_nearest m t) attributes d.attributes r (attribute_pass m t above are) same first

-- and the first port
pub ports_told : (m : Model) (t : ℕ) (d : TypeDecl) (above : Above) (ports : List PortDecl) (r : Option ℕ) → IsAbove m.types (ancestors m.types t) above → ports ≡ d.ports
    → IsFirstFailing (λ k. option_map_or (port_passes m above) (slice_get ports k) true) (length ports) r → IsFirstFailing (port_narrows_at m t d) (length d.ports) r
ports_told m t d above ports r are same first = first_by (port_passes m above) (port_narrows_nearest m t) ports d.ports r (port_pass m t above are) same first

-- what is above a type, by the line that is read
pub above_told : (types kinds : List TypeDecl) (lines : List (List ℕ)) (t : ℕ) (line members : List ℕ) (above : Above) → lines ≡ map (line_of types) (type_numbers types) → t < length types
    → line ≡ get_or lines t line → kinds ≡ types → members ≡ line → IsAbove kinds (drop 1 members) above → IsAbove types (ancestors types t) above
above_told types kinds lines t line members above are within read same same_line told =
    let is_line : members ≡ line_of types t = same_line ∙ table_row (line_of types) lines (length types) t line are within read in
    subst (λ l. IsAbove types (drop 1 l) above) is_line (subst (λ ks. IsAbove ks (drop 1 members) above) same told)

-- ---- one type more

narrows_at : (m : Model) (types : List TypeDecl) (t u : ℕ) (d e : TypeDecl) → ((v : ℕ) (f : TypeDecl) → v < t → IsAt types v f → NarrowsAll m v f) → IsAt types t d → NarrowsAll m t d
    → u < t + 1 → IsAt types u e → (u ≡ t) ⊎ (u ≡ t → ⊥) → NarrowsAll m u e
narrows_at m types t u d e before is narrows below here (inl same) =
    let there : slice_get types t ≡ Some e = ap (slice_get types) (sym same) ∙ here in
    let equal : d ≡ e = cc in
    subst (λ v. NarrowsAll m v e) (sym same) (subst (NarrowsAll m t) equal narrows)
narrows_at m types t u d e before is narrows below here (inr other) = before u e (omega arith) here

pub narrows_more : (m : Model) (types : List TypeDecl) (t : ℕ) (d : TypeDecl) → ((v : ℕ) (f : TypeDecl) → v < t → IsAt types v f → NarrowsAll m v f) → IsAt types t d
    → NarrowsAll m t d → (u : ℕ) (e : TypeDecl) → u < t + 1 → IsAt types u e → NarrowsAll m u e
narrows_more m types t d before is narrows u e below here = narrows_at m types t u d e before is narrows below here (cases_eq u t)

pub narrows_each : (m : Model) (types : List TypeDecl) (t : ℕ) → ((v : ℕ) (f : TypeDecl) → v < t → IsAt types v f → NarrowsAll m v f) → length types ≤ t
    → (u : ℕ) (e : TypeDecl) → IsAt types u e → NarrowsAll m u e
narrows_each m types t before all u e here = before u e (omega (arith, slice_get_within types u e here)) here
