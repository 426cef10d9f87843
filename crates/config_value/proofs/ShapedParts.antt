-- The eight tests of a shaped configuration, each by its name, and what the first says of an instance.
use Rattle.std.proofs.Common.{◌==◌, List, length, eqb-true, eq-eqb}
use Rattle.std.proofs.lemmas.Bool.{and_parts, and_from}
use Rattle.std.specs.Prelude.{Bool, ◌&&◌, IsTrue}
use Rattle.prod_model.specs.declared.model.Model.{Model}
use Rattle.prod_model.specs.Forest.{is_leaf}
use Rattle.prod_model.specs.Taxonomy.{attributes_at, ports_at}
use Rattle.config_value.specs.declared.configuration.Instance.{Instance}
use Rattle.config_value.specs.Shaped.{is_shaped, has_leaf_types, has_root, has_size, has_values, has_links, has_single_parts, has_links_back, has_counts}
use Rattle.config_value.specs.ShapedSentences.{IsBuilt}

-- it passes each test
pub record PassesEach (m : Model) (c : List Instance) : Type 0 where
  pub leaf_types : IsTrue (has_leaf_types m c)
  pub root : IsTrue (has_root m c)
  pub size : IsTrue (has_size m c)
  pub values : IsTrue (has_values m c)
  pub links : IsTrue (has_links m c)
  pub single_parts : IsTrue (has_single_parts m c)
  pub links_back : IsTrue (has_links_back m c)
  pub counts : IsTrue (has_counts m c)

-- what is shaped passes each test
pub passes_each : (m : Model) (c : List Instance) → IsTrue (is_shaped m c) → PassesEach m c
unfolding is_shaped
passes_each m c h =
    let seven = and_parts _ _ h in
    let six = and_parts _ _ seven.0 in
    let five = and_parts _ _ six.0 in
    let four = and_parts _ _ five.0 in
    let three = and_parts _ _ four.0 in
    let two = and_parts _ _ three.0 in
    let one = and_parts _ _ two.0 in
    record {
      leaf_types = one.0;
      root = one.1;
      size = two.1;
      values = three.1;
      links = four.1;
      single_parts = five.1;
      links_back = six.1;
      counts = seven.1;
    }

-- what passes each test is shaped
pub is_shaped_from : (m : Model) (c : List Instance) → PassesEach m c → IsTrue (is_shaped m c)
unfolding is_shaped
is_shaped_from m c p =
    and_from _ _ (and_from _ _ (and_from _ _ (and_from _ _ (and_from _ _ (and_from _ _ (and_from _ _ p.leaf_types p.root) p.size) p.values) p.links) p.single_parts) p.links_back) p.counts

-- the test of one instance in `has_leaf_types`
abbrev pub is_built : Model → Instance → Bool
is_built m x = is_leaf m x.kind && (length x.values == length (attributes_at m x.kind)) && (length x.links == length (ports_at m x.kind))

-- what passes it is of a leaf type, and its lists are as long as the type asks
pub is_built_at : (m : Model) (x : Instance) → IsTrue (is_built m x) → IsBuilt m x
is_built_at m x h =
    let both = and_parts _ _ h in
    let first = and_parts _ _ both.0 in
    record { leaf = first.0; each_attribute = eqb-true _ _ first.1; each_port = eqb-true _ _ both.1 }

-- what is of a leaf type, with lists as long as the type asks, passes it
pub is_built_from : (m : Model) (x : Instance) → IsBuilt m x → IsTrue (is_built m x)
is_built_from m x b = and_from _ _ (and_from _ _ b.leaf (eq-eqb _ _ b.each_attribute)) (eq-eqb _ _ b.each_port)
