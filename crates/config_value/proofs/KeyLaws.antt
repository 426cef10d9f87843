-- On shaped configurations the key determines the configuration: the type fixes how many values and ports follow it, and
-- each port's links follow their number.
use Rattle.std.proofs.Common.{◌≡◌, ℕ, ℤ, pos, List, [], ◌∷◌, ◌++◌, map, refl, ap, ◌∙◌, sym, length, append_assoc}
use Rattle.std.proofs.lemmas.Bool.{and_parts}
use Rattle.std.proofs.lemmas.List.{length-map}
use Rattle.std.specs.Prelude.{IsTrue}
use Rattle.std.specs.List.{flat_map}
use Rattle.prod_model.specs.declared.model.Model.{Model}
use Rattle.prod_model.specs.Taxonomy.{attributes_at, ports_at}
use Rattle.config_value.specs.declared.configuration.Instance.{Instance}
use Rattle.config_value.specs.Shaped.{has_leaf_types}
use Rattle.config_value.specs.Rank.{key, port_key}
use Rattle.config_value.specs.Laws.{KeyDetermines}
use Rattle.config_value.proofs.ShapedParts.{passes_each, is_built_at}
use Rattle.base_laws.proofs.Lists.{same_parts, same_counts}

-- from as many ports' parts in a row, and what follows them, the links of each port are read back
same_ports : (ls ks : List (List ℕ)) (r s : List ℤ) → length ls ≡ length ks
    → flat_map port_key ls ++ r ≡ flat_map port_key ks ++ s → (ls ≡ ks) × (r ≡ s)
same_ports [] [] r s n e = (refl, e)
same_ports [] (k ∷ ks) r s n e = absurd cc
same_ports (l ∷ ls) [] r s n e = absurd cc
same_ports (l ∷ ls) (k ∷ ks) r s n e =
    let long : length l ≡ length k = cc in
    let parted : map pos l ++ (flat_map port_key ls ++ r) ≡ map pos k ++ (flat_map port_key ks ++ s) =
    cc (append_assoc (map pos l) (flat_map port_key ls) r, append_assoc (map pos k) (flat_map port_key ks) s) in
    let counts : length (map pos l) ≡ length (map pos k) = length-map l pos ∙ long ∙ sym (length-map k pos) in
    let first = same_parts (map pos l) (map pos k) (flat_map port_key ls ++ r) (flat_map port_key ks ++ s) counts parted in
    let links = same_counts l k first.0 in
    let ports : length ls ≡ length ks = cc in
    let rest = same_ports ls ks r s ports first.1 in
    (λ i. links i ∷ rest.0 i, rest.1)

-- from an instance's part of the key, and what follows it, the instance is read back
same_instance : (x y : Instance) (r s : List ℤ) → length x.values ≡ length y.values → length x.links ≡ length y.links
    → (x.values ++ flat_map port_key x.links) ++ r ≡ (y.values ++ flat_map port_key y.links) ++ s → x.kind ≡ y.kind → (x ≡ y) × (r ≡ s)
same_instance x y r s values links e kind =
    let parted : x.values ++ (flat_map port_key x.links ++ r) ≡ y.values ++ (flat_map port_key y.links ++ s) =
    cc (append_assoc x.values (flat_map port_key x.links) r, append_assoc y.values (flat_map port_key y.links) s) in
    let first = same_parts x.values y.values (flat_map port_key x.links ++ r) (flat_map port_key y.links ++ s) values parted in
    let rest = same_ports x.links y.links r s links first.1 in
    (λ i. record { kind = kind i; values = first.0 i; links = rest.0 i }, rest.1)

-- lists of instances that are built alike are equal where their keys are
same_instances : (m : Model) (c d : List Instance) → IsTrue (has_leaf_types m c) → IsTrue (has_leaf_types m d) → key c ≡ key d → c ≡ d
unfolding has_leaf_types key
same_instances m [] [] p q e = refl
same_instances m [] (y ∷ d) p q e = absurd cc
same_instances m (x ∷ c) [] p q e = absurd cc
same_instances m (x ∷ c) (y ∷ d) p q e =
    let ps = and_parts _ _ p in
    let qs = and_parts _ _ q in
    let bx = is_built_at m x ps.0 in
    let by = is_built_at m y qs.0 in
    let kind : x.kind ≡ y.kind = cc in
    let values : length x.values ≡ length y.values = bx.each_attribute ∙ ap (λ t. length (attributes_at m t)) kind ∙ sym by.each_attribute in
    let links : length x.links ≡ length y.links = bx.each_port ∙ ap (λ t. length (ports_at m t)) kind ∙ sym by.each_port in
    let tail : (x.values ++ flat_map port_key x.links) ++ key c ≡ (y.values ++ flat_map port_key y.links) ++ key d = cc in
    let first = same_instance x y (key c) (key d) values links tail kind in
    let rest = same_instances m c d ps.1 qs.1 first.1 in
    λ i. first.0 i ∷ rest i

-- on shaped configurations of one model the key determines the configuration
pub key_determines : KeyDetermines
key_determines m c d p q = same_instances m c d (passes_each m c p).leaf_types (passes_each m d q).leaf_types
