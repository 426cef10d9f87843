-- The ports whose links break a test are those at which the test of links and ports side by side passes.
use Rattle.std.proofs.Common.{◌≡◌, ℕ, ◌<◌, ◌≤◌, ◌∙◌, ap, sym, subst, Bool, true, false, not, ◌&&◌, ◌||◌, ◌==◌, nat_le, List, length, Option, Some, Contains, refl, leb-true, le-leb, arith}
use Rattle.std.specs.Prelude.{slice_get, position}
use Rattle.std.specs.List.{list_any, zip}
use Rattle.std.proofs.lemmas.Option.{same_Some, slice_get_within}
use Rattle.prod_model.specs.declared.model.Model.{Model}
use Rattle.prod_model.specs.declared.model.PortAt.{PortAt}
use Rattle.prod_model.specs.Taxonomy.{ports_at}
use Rattle.prod_model.specs.Valid.{IsValid}
use Rattle.config_value.specs.declared.configuration.Instance.{Instance}
use Rattle.config_value.specs.Value.{under}
use Rattle.config_value.specs.Shaped.{links_back}
use Rattle.std.proofs.lemmas.Bool.{not-true, not_from_false, true≢false}
use Rattle.base_laws.proofs.Tests.{list_any_at, list_any_from, option_map_or_at, option_map_or_from}
use Rattle.answer_check.specs.declared.links.PortTest.{PortTest}
use Rattle.answer_check.specs.declared.links.PortTest.TheVariants.{Leads, OnTarget, Number, LinksBack}
use Rattle.answer_check.specs.Breaks.{Breaks, HasPort, too_many, other_root, bad_value, no_instance, off_target, bad_number, shared_part, not_linked_back, misnumbered, bad_count, false_rule}
use Rattle.answer_check.specs.steps.Finds.{BreaksAt, FindsItem}
use Rattle.answer_check.specs.steps.PortTests.{code_of, is_off, breaks_port}
use Rattle.answer_check.proofs.Items.{Passes, finds_position, finds_same}
use Rattle.answer_check.proofs.FewItems.{few_ports}
use Rattle.base_laws.proofs.Lists.{slice_get_zip, zip_first, zip_second}
use Rattle.base_laws.proofs.Elements.{contained_at, at_contained}

module _ (m : Model) (c : List Instance) (i : ℕ) (x : Instance) (stands : slice_get c i ≡ Some x) where
  abbrev Test : PortTest → PortAt × List ℕ → Bool
  Test test pair = breaks_port m c test i pair.0 pair.1

  abbrev pairs : List (PortAt × List ℕ)
  pairs = zip (ports_at m x.kind) x.links

  port_at : (code k : ℕ) (pair : PortAt × List ℕ) → slice_get pairs k ≡ Some pair → HasPort m c (record { code = code; instance = i; item = k }) pair.0 pair.1
  port_at code k pair at = record { x = x; stands = stands; port = zip_first (ports_at m x.kind) x.links k pair at; links_there = zip_second (ports_at m x.kind) x.links k pair at }

  -- what passes a test at a place breaks the configuration there
  pub breaks_from : (test : PortTest) (k : ℕ) → Passes (Test test) pairs k → BreaksAt m c (code_of test) i k
  breaks_from Leads k passing =
      let port = port_at 4 k passing.element passing.there in
      let found = list_any_at (λ j. nat_le (length c) j) passing.element.1 passing.passes in
      no_instance refl passing.element.0 passing.element.1 found.1 port (contained_at passing.element.1 found.0 found.1 found.2) (leb-true (length c) found.1 found.3)
  breaks_from OnTarget k passing =
      let port = port_at 5 k passing.element passing.there in
      let found = list_any_at (is_off m c passing.element.0.target) passing.element.1 passing.passes in
      let other = option_map_or_at (λ y. not (under m passing.element.0.target y)) (slice_get c found.1) found.3 in
      off_target refl passing.element.0 passing.element.1 found.1 other.0 port (contained_at passing.element.1 found.0 found.1 found.2) other.1 (not-true _ other.2)
  breaks_from Number k passing =
      bad_number refl passing.element.0 passing.element.1 (port_at 6 k passing.element passing.there) (not-true _ passing.passes)
  breaks_from LinksBack k passing =
      let p = passing.element.0 in
      let links = passing.element.1 in
      let inverse = option_map_or_at (λ id. list_any (λ j. not (links_back m c id i j)) links) p.inverse passing.passes in
      let found = list_any_at (λ j. not (links_back m c inverse.0 i j)) links inverse.2 in
      not_linked_back refl p links inverse.0 found.1 (port_at 12 k passing.element passing.there) inverse.1 (contained_at links found.0 found.1 found.2) (not-true _ found.3)

  same_links : (code k : ℕ) (p : PortAt) (links : List ℕ) → HasPort m c (record { code = code; instance = i; item = k }) p links → slice_get pairs k ≡ Some (p, links)
  same_links code k p links port =
      let same : port.x ≡ x = same_Some port.x x (sym port.stands ∙ stands) in
      let IsPort : Instance → Type 0 = λ y. slice_get (ports_at m y.kind) k ≡ Some p in
      let HasLinks : Instance → Type 0 = λ y. slice_get y.links k ≡ Some links in
      slice_get_zip (ports_at m x.kind) x.links k p links (subst IsPort same port.port) (subst HasLinks same port.links_there)

  passes_from : (test : PortTest) (code k : ℕ) (p : PortAt) (links : List ℕ) → HasPort m c (record { code = code; instance = i; item = k }) p links
      → breaks_port m c test i p links ≡ true → Passes (Test test) pairs k
  passes_from test code k p links port passes = record { element = (p, links); there = same_links code k p links port; passes = passes }

  leads : (code k : ℕ) (p : PortAt) (links : List ℕ) (j : ℕ) → HasPort m c (record { code = code; instance = i; item = k }) p links → Contains links j → length c ≤ j → Passes (Test Leads) pairs k
  leads code k p links j port among outside =
      passes_from Leads code k p links port (list_any_from (λ n. nat_le (length c) n) links among.0 j (at_contained links j among) (le-leb (length c) j outside))

  on_target : (code k : ℕ) (p : PortAt) (links : List ℕ) (j : ℕ) (y : Instance) → HasPort m c (record { code = code; instance = i; item = k }) p links → Contains links j
      → slice_get c j ≡ Some y → under m p.target y ≡ false → Passes (Test OnTarget) pairs k
  on_target code k p links j y port among there off =
      passes_from OnTarget code k p links port (list_any_from (is_off m c p.target) links among.0 j (at_contained links j among)
      (option_map_or_from (λ z. not (under m p.target z)) (slice_get c j) y there (not_from_false _ off)))

  unlinked : (code k : ℕ) (p : PortAt) (links : List ℕ) (id j : ℕ) → HasPort m c (record { code = code; instance = i; item = k }) p links → p.inverse ≡ Some id
      → Contains links j → links_back m c id i j ≡ false → Passes (Test LinksBack) pairs k
  unlinked code k p links id j port inverse among off =
      passes_from LinksBack code k p links port (option_map_or_from (λ id. list_any (λ j. not (links_back m c id i j)) links) p.inverse id inverse
      (list_any_from (λ j. not (links_back m c id i j)) links among.0 j (at_contained links j among) (not_from_false _ off)))

  -- what breaks the configuration at a place passes the test there
  pub passes_broken : (test : PortTest) (k : ℕ) → BreaksAt m c (code_of test) i k → Passes (Test test) pairs k
  passes_broken Leads k (no_instance is p links j port among outside) = leads 4 k p links j port among outside
  passes_broken Leads k (too_many is _ _ _) = absurd (omega arith)
  passes_broken Leads k (other_root is _ _ _) = absurd (omega arith)
  passes_broken Leads k (bad_value is _ _ _ _ _ _ _) = absurd (omega arith)
  passes_broken Leads k (off_target is _ _ _ _ _ _ _ _) = absurd (omega arith)
  passes_broken Leads k (bad_number is _ _ _ _) = absurd (omega arith)
  passes_broken Leads k (shared_part is _ _ _) = absurd (omega arith)
  passes_broken Leads k (not_linked_back is _ _ _ _ _ _ _ _) = absurd (omega arith)
  passes_broken Leads k (misnumbered is _ _ _ _) = absurd (omega arith)
  passes_broken Leads k (bad_count is _ _ _ _) = absurd (omega arith)
  passes_broken Leads k (false_rule is _ _ _ _ _ _) = absurd (omega arith)
  passes_broken OnTarget k (off_target is p links j y port among there off) = on_target 5 k p links j y port among there off
  passes_broken OnTarget k (no_instance is _ _ _ _ _ _) = absurd (omega arith)
  passes_broken OnTarget k (too_many is _ _ _) = absurd (omega arith)
  passes_broken OnTarget k (other_root is _ _ _) = absurd (omega arith)
  passes_broken OnTarget k (bad_value is _ _ _ _ _ _ _) = absurd (omega arith)
  passes_broken OnTarget k (bad_number is _ _ _ _) = absurd (omega arith)
  passes_broken OnTarget k (shared_part is _ _ _) = absurd (omega arith)
  passes_broken OnTarget k (not_linked_back is _ _ _ _ _ _ _ _) = absurd (omega arith)
  passes_broken OnTarget k (misnumbered is _ _ _ _) = absurd (omega arith)
  passes_broken OnTarget k (bad_count is _ _ _ _) = absurd (omega arith)
  passes_broken OnTarget k (false_rule is _ _ _ _ _ _) = absurd (omega arith)
  passes_broken LinksBack k (not_linked_back is p links id j port inverse among off) = unlinked 12 k p links id j port inverse among off
  passes_broken LinksBack k (bad_number is _ _ _ _) = absurd (omega arith)
  passes_broken LinksBack k (no_instance is _ _ _ _ _ _) = absurd (omega arith)
  passes_broken LinksBack k (off_target is _ _ _ _ _ _ _ _) = absurd (omega arith)
  passes_broken LinksBack k (too_many is _ _ _) = absurd (omega arith)
  passes_broken LinksBack k (other_root is _ _ _) = absurd (omega arith)
  passes_broken LinksBack k (bad_value is _ _ _ _ _ _ _) = absurd (omega arith)
  passes_broken LinksBack k (shared_part is _ _ _) = absurd (omega arith)
  passes_broken LinksBack k (misnumbered is _ _ _ _) = absurd (omega arith)
  passes_broken LinksBack k (bad_count is _ _ _ _) = absurd (omega arith)
  passes_broken LinksBack k (false_rule is _ _ _ _ _ _) = absurd (omega arith)
  passes_broken Number k (bad_number is p links port wrong) = passes_from Number 6 k p links port (not_from_false _ wrong)
  passes_broken Number k (no_instance is _ _ _ _ _ _) = absurd (omega arith)
  passes_broken Number k (off_target is _ _ _ _ _ _ _ _) = absurd (omega arith)
  passes_broken Number k (too_many is _ _ _) = absurd (omega arith)
  passes_broken Number k (other_root is _ _ _) = absurd (omega arith)
  passes_broken Number k (bad_value is _ _ _ _ _ _ _) = absurd (omega arith)
  passes_broken Number k (shared_part is _ _ _) = absurd (omega arith)
  passes_broken Number k (not_linked_back is _ _ _ _ _ _ _ _) = absurd (omega arith)
  passes_broken Number k (misnumbered is _ _ _ _) = absurd (omega arith)
  passes_broken Number k (bad_count is _ _ _ _) = absurd (omega arith)
  passes_broken Number k (false_rule is _ _ _ _ _ _) = absurd (omega arith)

  -- the first port that breaks a test
  pub finds_port : (test : PortTest) (o : Option ℕ) → o ≡ position (Test test) pairs → FindsItem (BreaksAt m c (code_of test) i) o
  finds_port test o is = finds_same (Passes (Test test) pairs) (BreaksAt m c (code_of test) i) o (breaks_from test) (passes_broken test) (finds_position (Test test) pairs o is)

  -- a port's place is small
  pub few_places : IsValid m → (test : PortTest) (k : ℕ) → Some k ≡ position (Test test) pairs → k < 16
  few_places valid test k is =
      let passing = (finds_position (Test test) pairs (Some k) is).0 in
      let within : k < length (ports_at m x.kind) = slice_get_within (ports_at m x.kind) k passing.element.0 (zip_first (ports_at m x.kind) x.links k passing.element passing.there) in
      omega (arith, few_ports m x.kind valid)

-- the number is that of a test of ports
abbrev is_of_port : ℕ → Bool
is_of_port code = (nat_le 4 code && nat_le code 6) || (code == 12)

-- what breaks a test of ports at an instance stands at an instance
pub broken_within : (m : Model) (c : List Instance) (test : PortTest) (i k : ℕ) → BreaksAt m c (code_of test) i k → i < length c
broken_within m c test i k broken = within (code_of test) (ports_only test) broken
  where
    within : (code : ℕ) → is_of_port code ≡ true → Breaks m c (record { code = code; instance = i; item = k }) → i < length c
    within code only (no_instance is p links j port among outside) = slice_get_within c i port.x port.stands
    within code only (off_target is p links j y port among there off) = slice_get_within c i port.x port.stands
    within code only (bad_number is p links port wrong) = slice_get_within c i port.x port.stands
    within code only (not_linked_back is p links id j port inverse among off) = slice_get_within c i port.x port.stands
    within code only (too_many is _ _ _) = absurd (true≢false (sym only ∙ ap is_of_port is))
    within code only (other_root is _ _ _) = absurd (true≢false (sym only ∙ ap is_of_port is))
    within code only (bad_value is _ _ _ _ _ _ _) = absurd (true≢false (sym only ∙ ap is_of_port is))
    within code only (shared_part is _ _ _) = absurd (true≢false (sym only ∙ ap is_of_port is))
    within code only (misnumbered is _ _ _ _) = absurd (true≢false (sym only ∙ ap is_of_port is))
    within code only (bad_count is _ _ _ _) = absurd (true≢false (sym only ∙ ap is_of_port is))
    within code only (false_rule is _ _ _ _ _ _) = absurd (true≢false (sym only ∙ ap is_of_port is))

    ports_only : (t : PortTest) → is_of_port (code_of t) ≡ true
    ports_only Leads = refl
    ports_only OnTarget = refl
    ports_only Number = refl
    ports_only LinksBack = refl
