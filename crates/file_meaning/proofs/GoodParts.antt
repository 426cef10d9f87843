-- What has to hold of each part of a model by itself and by its names, part by part.
use Rattle.std.proofs.Common.{ℕ, true, List, map, ◌++◌, length, sum_by}
use Rattle.std.specs.Prelude.{IsTrue, nat_lt, nat_le}
use Rattle.std.specs.Option.{option_map_or}
use Rattle.std.specs.List.{list_all}
use Rattle.std.proofs.lemmas.Bool.{and_parts, and_from}
use Rattle.base_laws.specs.Places.{IsAt}
use Rattle.base_laws.proofs.Tests.{list_all_at, list_all_from}
use Rattle.prod_model.specs.declared.model.Model.{Model}
use Rattle.prod_model.specs.declared.model.Rule.{Rule}
use Rattle.prod_model.specs.declared.model.TypeDecl.{TypeDecl}
use Rattle.prod_model.specs.declared.model.AttrDecl.{AttrDecl}
use Rattle.prod_model.specs.declared.model.PortDecl.{PortDecl}
use Rattle.prod_model.specs.declared.model.CountBound.{CountBound}
use Rattle.prod_model.specs.declared.model.Domain.{Domain}
use Rattle.prod_model.specs.Limits
use Rattle.prod_model.specs.Limits.{is_between}
use Rattle.prod_model.specs.Names.{is_name, is_word, is_distinct, is_distinct_number}
use Rattle.prod_model.specs.Forest.{is_type}
use Rattle.prod_model.specs.Taxonomy.{words_of}
use Rattle.prod_model.specs.Valid.{has_few_words, has_few_words_of, has_short_lists, has_formed_words, has_formed_names_of, has_formed_names, has_distinct_names_of, has_distinct_names, has_ends, is_pair, has_numbers_of, has_numbers_in_limits, IsFormed, knows_types, has_known_parents_and_targets, has_known_types, has_one_bound_each}

-- the words or the ends of an attribute
pub record IsGoodDomain (d : Domain) : Type 0 where
  pub few : IsTrue (has_few_words d)
  pub formed : IsTrue (list_all is_word (words_of d))
  pub distinct : IsTrue (is_distinct (words_of d))
  pub ends : IsTrue (has_ends d)

pub record IsGoodAttribute (a : AttrDecl) : Type 0 where
  pub formed : IsTrue (is_name a.name)
  pub domain : IsGoodDomain a.domain

-- a port, where there are so many types
pub record IsGoodPort (n : ℕ) (p : PortDecl) : Type 0 where
  pub formed : IsTrue (is_name p.name)
  pub pair : IsTrue (is_pair p.low p.high)
  pub target : IsTrue (nat_lt p.target n)
  pub inverse : IsTrue (option_map_or is_name p.inverse true)

pub record IsGoodType (n : ℕ) (d : TypeDecl) : Type 0 where
  pub formed : IsTrue (is_name d.name)
  pub parent : IsTrue (option_map_or (λ p. nat_lt p n) d.parent true)
  pub attributes : (k : ℕ) (a : AttrDecl) → IsAt d.attributes k a → IsGoodAttribute a
  pub ports : (k : ℕ) (p : PortDecl) → IsAt d.ports k p → IsGoodPort n p
  pub distinct : IsTrue (is_distinct (map (λ a. a.name) d.attributes ++ map (λ p. p.name) d.ports))

pub record IsGoodBound (n : ℕ) (b : CountBound) : Type 0 where
  pub kind : IsTrue (nat_lt b.kind n)
  pub pair : IsTrue (is_pair b.low b.high)

pub record IsGoodRule (n : ℕ) (r : Rule) : Type 0 where
  pub formed : IsTrue (is_name r.name)
  pub kind : IsTrue (nat_lt r.kind n)

-- the types
pub record AreGoodTypes (types : List TypeDecl) : Type 0 where
  pub few : IsTrue (nat_le (length types) Limits.most_types)
  pub few_attributes : IsTrue (nat_le (sum_by (λ d. length d.attributes) types) Limits.most_attribute_declarations)
  pub few_ports : IsTrue (nat_le (sum_by (λ d. length d.ports) types) Limits.most_port_declarations)
  pub distinct : IsTrue (is_distinct (map (λ d. d.name) types))
  pub each : (t : ℕ) (d : TypeDecl) → IsAt types t d → IsGoodType (length types) d

-- the entries of `bounds`, where there are so many types
pub record AreGoodBounds (n : ℕ) (bounds : List CountBound) : Type 0 where
  pub few : IsTrue (nat_le (length bounds) Limits.most_bounds)
  pub distinct : IsTrue (is_distinct_number (map (λ b. b.kind) bounds))
  pub each : (k : ℕ) (b : CountBound) → IsAt bounds k b → IsGoodBound n b

pub record AreGoodRules (n : ℕ) (rules : List Rule) : Type 0 where
  pub few : IsTrue (nat_le (length rules) Limits.most_rules)
  pub distinct : IsTrue (is_distinct (map (λ r. r.name) rules))
  pub each : (k : ℕ) (r : Rule) → IsAt rules k r → IsGoodRule n r

-- all that a model has to be by itself and by the names of its types
pub record IsGood (m : Model) : Type 0 where
  pub root : IsTrue (is_type m m.root)
  pub instances : IsTrue (is_between 1 Limits.most_instances m.instances)
  pub types : AreGoodTypes m.types
  pub bounds : AreGoodBounds (length m.types) m.bounds
  pub rules : AreGoodRules (length m.types) m.rules

module _ (m : Model) (good : IsGood m) where
  short_lists : IsTrue (has_short_lists m)
  unfolding has_short_lists
  short_lists =
      and_from _ _ (and_from _ _ (and_from _ _ (and_from _ _ (and_from _ _ good.types.few good.rules.few) good.bounds.few)
      good.types.few_attributes) good.types.few_ports)
      (list_all_from has_few_words_of m.types (λ t d at. list_all_from (λ a. has_few_words a.domain) d.attributes (λ k a at_a. ((good.types.each t d at).attributes k a at_a).domain.few)))

  formed_names : IsTrue (has_formed_names m)
  unfolding has_formed_names
  formed_names =
      and_from _ _
      (list_all_from has_formed_names_of m.types (λ t d at.
      let type = good.types.each t d at in
      and_from _ _ (and_from _ _ type.formed
      (list_all_from has_formed_words d.attributes (λ k a at_a. let a_good = type.attributes k a at_a in and_from _ _ a_good.formed a_good.domain.formed)))
      (list_all_from (λ p. is_name p.name) d.ports (λ k p at_p. (type.ports k p at_p).formed))))
      (list_all_from (λ r. is_name r.name) m.rules (λ k r at. (good.rules.each k r at).formed))

  distinct_names : IsTrue (has_distinct_names m)
  unfolding has_distinct_names
  distinct_names =
      and_from _ _ (and_from _ _ good.types.distinct good.rules.distinct)
      (list_all_from has_distinct_names_of m.types (λ t d at.
      let type = good.types.each t d at in
      and_from _ _ type.distinct (list_all_from (λ a. is_distinct (words_of a.domain)) d.attributes (λ k a at_a. (type.attributes k a at_a).domain.distinct))))

  numbers_in_limits : IsTrue (has_numbers_in_limits m)
  unfolding has_numbers_in_limits
  numbers_in_limits =
      and_from _ _ (and_from _ _ good.instances (list_all_from (λ b. is_pair b.low b.high) m.bounds (λ k b at. (good.bounds.each k b at).pair)))
      (list_all_from has_numbers_of m.types (λ t d at.
      let type = good.types.each t d at in
      and_from _ _ (list_all_from (λ a. has_ends a.domain) d.attributes (λ k a at_a. (type.attributes k a at_a).domain.ends))
      (list_all_from (λ p. is_pair p.low p.high) d.ports (λ k p at_p. (type.ports k p at_p).pair))))

  pub good_is_formed : IsFormed m
  good_is_formed = record { short_lists = short_lists; formed_names = formed_names; distinct_names = distinct_names; numbers_in_limits = numbers_in_limits }

  pub good_knows_parents : IsTrue (has_known_parents_and_targets m)
  unfolding has_known_parents_and_targets
  good_knows_parents =
      list_all_from (knows_types m) m.types (λ t d at.
      let type = good.types.each t d at in
      and_from _ _ type.parent (list_all_from (λ p. is_type m p.target) d.ports (λ k p at_p. (type.ports k p at_p).target)))

  pub good_knows_types : IsTrue (has_known_types m)
  unfolding has_known_types
  good_knows_types =
      and_from _ _ (and_from _ _ good.root (list_all_from (λ b. is_type m b.kind) m.bounds (λ k b at. (good.bounds.each k b at).kind)))
      (list_all_from (λ r. is_type m r.kind) m.rules (λ k r at. (good.rules.each k r at).kind))

  pub good_has_one_bound : IsTrue (has_one_bound_each m)
  unfolding has_one_bound_each
  good_has_one_bound = good.bounds.distinct

-- ---- back, for a model whose inverses have names

-- each inverse that a port names has the form of a name
abbrev pub HasNamedInverses : Model → Type 0
HasNamedInverses m = (t : ℕ) (d : TypeDecl) → IsAt m.types t d → (k : ℕ) (p : PortDecl) → IsAt d.ports k p → IsTrue (option_map_or is_name p.inverse true)

module _ (m : Model) (formed : IsFormed m) (parents : IsTrue (has_known_parents_and_targets m)) (known : IsTrue (has_known_types m)) (one : IsTrue (has_one_bound_each m))
    (inverses : HasNamedInverses m) where
  abbrev ShortLists : Type 0
  ShortLists = IsTrue (nat_le (length m.types) Limits.most_types) × IsTrue (nat_le (length m.rules) Limits.most_rules) × IsTrue (nat_le (length m.bounds) Limits.most_bounds)
      × IsTrue (nat_le (sum_by (λ d. length d.attributes) m.types) Limits.most_attribute_declarations)
      × IsTrue (nat_le (sum_by (λ d. length d.ports) m.types) Limits.most_port_declarations)
      × IsTrue (list_all has_few_words_of m.types)

  short : ShortLists
  unfolding has_short_lists
  short =
      let a = and_parts _ _ formed.short_lists in
      let b = and_parts _ _ a.0 in
      let c = and_parts _ _ b.0 in
      let d = and_parts _ _ c.0 in
      let e = and_parts _ _ d.0 in
      (e.0, e.1, d.1, c.1, b.1, a.1)

  names : IsTrue (list_all has_formed_names_of m.types) × IsTrue (list_all (λ r. is_name r.name) m.rules)
  unfolding has_formed_names
  names = and_parts _ _ formed.formed_names

  abbrev Distinct : Type 0
  Distinct = IsTrue (is_distinct (map (λ d. d.name) m.types)) × IsTrue (is_distinct (map (λ r. r.name) m.rules)) × IsTrue (list_all has_distinct_names_of m.types)

  distinct : Distinct
  unfolding has_distinct_names
  distinct = let a = and_parts _ _ formed.distinct_names in let b = and_parts _ _ a.0 in (b.0, b.1, a.1)

  abbrev Numbers : Type 0
  Numbers = IsTrue (is_between 1 Limits.most_instances m.instances) × IsTrue (list_all (λ b. is_pair b.low b.high) m.bounds) × IsTrue (list_all has_numbers_of m.types)

  numbers : Numbers
  unfolding has_numbers_in_limits
  numbers = let a = and_parts _ _ formed.numbers_in_limits in let b = and_parts _ _ a.0 in (b.0, b.1, a.1)

  each_knows : IsTrue (list_all (knows_types m) m.types)
  unfolding has_known_parents_and_targets
  each_knows = parents

  abbrev KnownTypes : Type 0
  KnownTypes = IsTrue (is_type m m.root) × IsTrue (list_all (λ b. is_type m b.kind) m.bounds) × IsTrue (list_all (λ r. is_type m r.kind) m.rules)

  known_types : KnownTypes
  unfolding has_known_types
  known_types = let a = and_parts _ _ known in let b = and_parts _ _ a.0 in (b.0, b.1, a.1)

  one_each : IsTrue (is_distinct_number (map (λ b. b.kind) m.bounds))
  unfolding has_one_bound_each
  one_each = one

  type_is_good : (t : ℕ) (d : TypeDecl) → IsAt m.types t d → IsGoodType (length m.types) d
  type_is_good t d at =
      let few = list_all_at has_few_words_of m.types short.5 t d at in
      let own_names = list_all_at has_formed_names_of m.types names.0 t d at in
      let type_and_words = and_parts _ _ (and_parts _ _ own_names).0 in
      let own_distinct = and_parts _ _ (list_all_at has_distinct_names_of m.types distinct.2 t d at) in
      let own_numbers = and_parts _ _ (list_all_at has_numbers_of m.types numbers.2 t d at) in
      let knows = and_parts _ _ (list_all_at (knows_types m) m.types each_knows t d at) in
      record {
        formed = type_and_words.0;
        parent = knows.0;
        attributes = λ k a at_a.
            let words = and_parts _ _ (list_all_at has_formed_words d.attributes type_and_words.1 k a at_a) in
            record {
              formed = words.0;
              domain = record {
                few = list_all_at (λ a. has_few_words a.domain) d.attributes few k a at_a;
                formed = words.1;
                distinct = list_all_at (λ a. is_distinct (words_of a.domain)) d.attributes own_distinct.1 k a at_a;
                ends = list_all_at (λ a. has_ends a.domain) d.attributes own_numbers.0 k a at_a;
              };
            };
        ports = λ k p at_p. record {
          formed = list_all_at (λ p. is_name p.name) d.ports (and_parts _ _ own_names).1 k p at_p;
          pair = list_all_at (λ p. is_pair p.low p.high) d.ports own_numbers.1 k p at_p;
          target = list_all_at (λ p. is_type m p.target) d.ports knows.1 k p at_p;
          inverse = inverses t d at k p at_p;
        };
        distinct = own_distinct.0;
      }

  pub is_good : IsGood m
  is_good = record {
    root = known_types.0;
    instances = numbers.0;
    types = record { few = short.0; few_attributes = short.3; few_ports = short.4; distinct = distinct.0; each = type_is_good };
    bounds = record {
      few = short.2;
      distinct = one_each;
      each = λ k b at. record {
        kind = list_all_at (λ b. is_type m b.kind) m.bounds known_types.1 k b at;
        pair = list_all_at (λ b. is_pair b.low b.high) m.bounds numbers.1 k b at;
      };
    };
    rules = record {
      few = short.1;
      distinct = distinct.1;
      each = λ k r at. record {
        formed = list_all_at (λ r. is_name r.name) m.rules names.1 k r at;
        kind = list_all_at (λ r. is_type m r.kind) m.rules known_types.2 k r at;
      };
    };
  }
