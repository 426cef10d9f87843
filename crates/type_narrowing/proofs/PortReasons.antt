-- What the type of an instance says of a port, and which reasons support it.
use Rattle.std.proofs.Common.{get_or, ◌≡◌, ℕ, ◌+◌, ◌-◌, ◌<◌, ◌≤◌, true, false, not, ◌&&◌, List, [], ◌∷◌, ◌++◌, length, map, refl, ap, ap₂, sym, subst, ◌∙◌, arith, leb-true, le-leb}
use Rattle.std.specs.Prelude.{IsTrue, IsSome, None, Some, nat_le, nat_lt, slice_get, if◌then◌else◌}
use Rattle.std.specs.Option.{option_map_or, option_and_then}
use Rattle.std.specs.List.{filter, count_by, range_with_len}
use Rattle.std.proofs.lemmas.Bool.{and_parts, and_from, eq-eqb}
use Rattle.std.proofs.lemmas.Bool.Decides.{nat_tests}
use Rattle.std.proofs.lemmas.Option.{slice_get-get_or}
use Rattle.base_laws.specs.Places.{IsAt}
use Rattle.base_laws.proofs.Tests.{option_map_or_at, option_map_or_from}
use Rattle.prod_model.specs.declared.model.Model.{Model}
use Rattle.prod_model.specs.declared.model.PortAt.{PortAt}
use Rattle.prod_model.specs.Limits.{most_links}
use Rattle.prod_model.specs.Taxonomy.{ports_at}
use Rattle.prod_model.specs.Valid.{IsValid}
use Rattle.config_value.specs.declared.configuration.Instance.{Instance}
use Rattle.config_value.specs.declared.literal.Literal.TheVariants.{Kind, Linked, NotLinked, LinksAtLeast, FreshAtMost, FreshAtLeast}
use Rattle.config_value.specs.Value.{links_of}
use Rattle.config_value.specs.Shaped.{ascends}
use Rattle.config_value.specs.Literals.{has_literal, has_port}
use Rattle.state_space.specs.Made.{port_of_made}
use Rattle.state_space.specs.Ports.{PortState, parted, allows}
use Rattle.state_space.specs.Sets.{has_number}
use Rattle.state_space.specs.State.{State, IsState, IsPortOf, number_made, kinds_at, port_at}
use Rattle.state_space.specs.Entails.{entails, fits}
use Rattle.state_space.specs.Descriptions.{links_description, count_description}
use Rattle.state_space.specs.Described.{entails_all}
use Rattle.state_space.proofs.ValidLaws.{valid_has_ids}
use Rattle.state_space.proofs.DescriptionLaws.{made_at, port_is, description_is_entailed}
use Rattle.state_space.proofs.DescriptionLists.{joined_parts}
use Rattle.state_space.proofs.EntailsLaws.{at_instance_same, allowed_parts, port_parts, entailed_holds}
use Rattle.state_space.proofs.PortLaws.{ascends-filter, count_by-within, count_by-parted, count_by-le, count_by-all}
use Rattle.state_space.proofs.NarrowingLaws.{true_along}
use Rattle.branch_cut.proofs.FixedLaws.{all_have_port_at, port_there}
use Rattle.reason_trail.specs.Jobs.{Task, IsTask}
use Rattle.reason_trail.specs.Reasons.{Supports, SupportsHere}
use Rattle.reason_trail.specs.Propagators.{IsFailure}
use Rattle.type_narrowing.specs.steps.Narrowing.{IsAmong, resting_on}
use Rattle.type_narrowing.proofs.Failures.{IsFormed, formed, fails, links_up}
use Rattle.type_narrowing.proofs.OfKind.{IsOfKind, leaf, made, kind_entailed, of_kind, of_kind_alone}
use Rattle.type_narrowing.proofs.LaterLinks.{later_left, has_it, few_links}

-- what a place of a list reads is among the list
pub among_read : (xs ys : List PortAt) (k : ℕ) (d : PortAt) → xs ≡ ys → k < length xs → IsAmong ys (get_or xs k d)
among_read xs ys k d are within = (k, ap (λ l. slice_get l k) (sym are) ∙ slice_get-get_or xs k d within)

-- no more of some links are later than there are
later_at_most : (from : ℕ) (links : List ℕ) → count_by (nat_le from) links ≤ length links
later_at_most from links = let all = count_by-le (nat_le from) (λ k. true) (λ k h. refl) links in omega (arith, all, count_by-all links)

-- what an instance says of its links is a literal that holds
holds_there : (m : Model) (c : List Instance) (i p from n : ℕ) (y : Instance) → IsAt c i y → IsTrue (has_port m y.kind p) → count_by (nat_le from) (links_of m y p) ≤ n
    → IsTrue (has_literal m c (FreshAtMost i p from n))
unfolding has_literal
holds_there m c i p from n y at has few =
    option_map_or_from (λ x. has_port m x.kind p && nat_le (count_by (nat_le from) (links_of m x p)) n) (slice_get c i) y at
    (and_from (has_port m y.kind p) _ has (le-leb (count_by (nat_le from) (links_of m y p)) n few))

-- and what is said of them holds of them
links_said : (m : Model) (c : List Instance) (i t p n : ℕ) (of : IsOfKind c i t) → IsTrue (has_literal m c (LinksAtLeast i p n)) → n ≤ length (links_of m of.instance p)
unfolding has_literal
links_said m c i t p n of has =
    leb-true n (length (links_of m of.instance p))
    (and_parts (has_port m of.instance.kind p) _ (sym (at_instance_same c i of.instance (λ x. has_port m x.kind p && nat_le n (length (links_of m x p))) of.there) ∙ has)).1

-- no instance links more later ones than are left
none_left : (m : Model) (c : List Instance) → IsValid m → IsFormed m c → (i p from n : ℕ) → m.instances - from < n → ¬ IsTrue (has_literal m c (FreshAtLeast i p from n))
unfolding has_literal
none_left m c valid is i p from n more has =
    let found = option_map_or_at (λ x. has_port m x.kind p && nat_le n (count_by (nat_le from) (links_of m x p))) (slice_get c i) has in
    let y = found.0 in
    let both = and_parts (has_port m y.kind p) (nat_le n (count_by (nat_le from) (links_of m y p))) found.2 in
    let few = later_left m c (valid_has_ids m valid) is.shaped i y found.1 (links_up m c valid is i y found.1) p from both.0 in
    let some = leb-true n (count_by (nat_le from) (links_of m y p)) both.1 in
    omega (arith, more, few, some)

-- Beside the required links, which are to made instances, there are only so many later ones.
later_beside : (made : ℕ) (q : PortState) (links : List ℕ) → IsPortOf made q → IsTrue (ascends links) → IsTrue (allows q (parted made links))
    → length q.required + count_by (nat_le made) links ≤ length links
later_beside made q links port up allowed =
    let to_made = filter (λ k. nat_lt k made) links in
    let some = count_by-within (λ k. true) q.required to_made (port_parts q port.formed).required_ascends (ascends-filter (λ k. nat_lt k made) links up) (allowed_parts made q links allowed).required in
    let later = count_by-le (nat_le made) (λ k. true && not (nat_lt k made)) (λ k h. past k h) links in
    omega (arith, some, later, count_by-parted (λ k. true) (λ k. nat_lt k made) links, count_by-all links, count_by-all q.required)
  where
    past : (k : ℕ) → IsTrue (nat_le made k) → IsTrue (not (nat_lt k made))
    past k h = grind (arith, nat_tests, h)

module _ (j : Task) (s : State) (i t : ℕ) (port : PortAt) (task : IsTask j) (state : IsState j.model s) (sole : kinds_at s i ≡ t ∷ [])
    (among : IsAmong (ports_at j.model t) port) where
  pub links_there : IsSome (port_at s i port.id)
  links_there = port_there j.model s i t state sole among.0 port among.1

  -- the bounds on its later links may be changed
  pub later_fits : (n : ℕ) → IsTrue (fits j.model s (FreshAtMost i port.id (number_made s) n))
  unfolding fits
  later_fits n = and_from _ _ (all_have_port_at j.model s i t state sole among.0 port among.1) (eq-eqb (number_made s) (number_made s) refl)

  -- the type supports that it links no more later instances than are left
  pub left_supported : Supports j None (resting_on (Kind i t ∷ [])) (FreshAtMost i port.id (number_made s) (j.model.instances - number_made s))
  left_supported c subject has =
      let m = j.model in
      let is = formed m c subject.satisfied in
      let ids = valid_has_ids m task.valid in
      let of = of_kind_alone m c i t (leaf m s i t state sole) has in
      let port_has = has_it m c ids is.shaped i t port among of in
      holds_there m c i port.id (number_made s) (m.instances - number_made s) of.instance of.there port_has
      (later_left m c ids is.shaped i of.instance of.there (links_up m c task.valid is i of.instance of.there) port.id (number_made s) port_has)

  -- and no more than it allows
  pub high_supported : Supports j None (resting_on (Kind i t ∷ [])) (FreshAtMost i port.id (number_made s) port.high)
  high_supported c subject has =
      let m = j.model in
      let is = formed m c subject.satisfied in
      let ids = valid_has_ids m task.valid in
      let of = of_kind_alone m c i t (leaf m s i t state sole) has in
      let few = few_links m c ids is.shaped i t port among of in
      let later = later_at_most (number_made s) (links_of m of.instance port.id) in
      holds_there m c i port.id (number_made s) port.high of.instance of.there (has_it m c ids is.shaped i t port among of) (omega (arith, few, later))

  module _ (q : PortState) (is_q : port_at s i port.id ≡ Some q) where
    pub few_later_ones : q.fresh_high ≤ most_links
    few_later_ones = leb-true q.fresh_high most_links (port_is j.model s i port.id q state is_q).few

    abbrev count : ℕ
    count = length q.required + q.fresh_low

    -- what the state says of the links is entailed
    count_entailed : IsTrue (entails j.model s (LinksAtLeast i port.id (length q.required + q.fresh_low)))
    count_entailed =
        let all = all_have_port_at j.model s i t state sole among.0 port among.1 in
        let told = (description_is_entailed j.model s i state (made j.model s i t state sole)).counts port.id in
        let said = subst (entails_all j.model s) (ap₂ (λ b o. if b then option_map_or (count_description i port.id) o [] else []) all is_q) told in
        (and_parts (entails j.model s (LinksAtLeast i port.id (length q.required + q.fresh_low))) _ said).0

    later_entailed : IsTrue (entails j.model s (FreshAtLeast i port.id (number_made s) q.fresh_low))
    later_entailed =
        let n = number_made s in
        let all = all_have_port_at j.model s i t state sole among.0 port among.1 in
        let told = (description_is_entailed j.model s i state (made j.model s i t state sole)).port port.id in
        let said = subst (entails_all j.model s) (ap₂ (λ b o. if b then option_map_or (links_description n i port.id) o [] else []) all is_q) told in
        let front = map (λ k. Linked i port.id k) q.required ++ map (λ k. NotLinked i port.id k) (filter (λ k. not (has_number q.possible k)) (range_with_len 0 n)) in
        let back = FreshAtLeast i port.id n q.fresh_low ∷ FreshAtMost i port.id n q.fresh_high ∷ [] in
        (and_parts (entails j.model s (FreshAtLeast i port.id n q.fresh_low)) _ (joined_parts (entails j.model s) front back said).1).0

    -- where more links are required than the type allows, that is a failure
    pub many_fail : port.high < length q.required + q.fresh_low → IsFailure j s (resting_on (Kind i t ∷ LinksAtLeast i port.id (length q.required + q.fresh_low) ∷ []))
    many_fail more = fails j s (Kind i t ∷ LinksAtLeast i port.id count ∷ []) (λ c subject has.
        let m = j.model in
        let first = and_parts (has_literal m c (Kind i t)) _ has in
        let second = and_parts (has_literal m c (LinksAtLeast i port.id count)) true first.1 in
        let of = of_kind m c i t (leaf m s i t state sole) first.0 in
        let few = few_links m c (valid_has_ids m task.valid) (formed m c subject.satisfied).shaped i t port among of in
        let some = links_said m c i t port.id count of second.0 in
        omega (arith, more, few, some))
        (and_from (entails j.model s (Kind i t)) _ (kind_entailed j.model s i t state sole task.valid)
        (and_from (entails j.model s (LinksAtLeast i port.id count)) true count_entailed refl))

    -- and so it is where more later ones are required than are left
    pub later_fail : j.model.instances - number_made s < q.fresh_low → IsFailure j s (resting_on (FreshAtLeast i port.id (number_made s) q.fresh_low ∷ []))
    later_fail more = fails j s (FreshAtLeast i port.id (number_made s) q.fresh_low ∷ []) (λ c subject has.
        none_left j.model c task.valid (formed j.model c subject.satisfied) i port.id (number_made s) q.fresh_low more (and_parts (has_literal j.model c (FreshAtLeast i port.id (number_made s) q.fresh_low)) true has).0)
        (and_from (entails j.model s (FreshAtLeast i port.id (number_made s) q.fresh_low)) true later_entailed refl)

    -- what the state covers has no more later ones than the type allows beside the required ones
    pub beside_supported : SupportsHere j s 0 false (FreshAtMost i port.id (number_made s) (port.high - length q.required))
    beside_supported c subject covers =
        let m = j.model in
        let n = number_made s in
        let is = formed m c subject.satisfied in
        let ids = valid_has_ids m task.valid in
        let of = of_kind m c i t (leaf m s i t state sole) (entailed_holds m s (Kind i t) c state (kind_entailed m s i t state sole task.valid) covers) in
        let has = has_it m c ids is.shaped i t port among of in
        let links = links_of m of.instance port.id in
        let x = made_at s i (made m s i t state sole) in
        let there : port_of_made x.0 port.id ≡ Some q = sym (ap (λ o. option_and_then (λ x. port_of_made x port.id) o) x.1) ∙ is_q in
        let allowed = true_along _ _ (ap (λ o. option_map_or (λ q. allows q (parted n links)) o false) there) ((covers.each i x.0 of.instance x.1 of.there).links port.id has) in
        let later = later_beside n q links (port_is m s i port.id q state is_q) (links_up m c task.valid is i of.instance of.there port.id) allowed in
        let few = few_links m c ids is.shaped i t port among of in
        holds_there m c i port.id n (port.high - length q.required) of.instance of.there has (omega (arith, later, few))
