-- The sentences of covering.
use Rattle.std.proofs.Common.{ℕ, Bool, List, length, refl, ap, sym, ◌∙◌, leb-true, le-leb}
use Rattle.std.specs.Prelude.{IsTrue, ◌==◌}
use Rattle.std.specs.List.{list_any, list_all, zip}
use Rattle.std.proofs.lemmas.Bool.{and_parts, and_from, eq-eqb, eqb-true}
use Rattle.prod_model.specs.declared.model.Model.{Model}
use Rattle.prod_model.specs.Taxonomy.{attributes_at, ports_at}
use Rattle.base_laws.proofs.Lists.{slice_get_zip}
use Rattle.config_value.specs.declared.configuration.Instance.{Instance}
use Rattle.config_value.specs.Value.{value_of, links_of}
use Rattle.base_laws.proofs.Tests.{list_all_at, list_all_from, list_any_at, list_any_from}
use Rattle.state_space.specs.Made.{MadeInstance}
use Rattle.state_space.specs.State.{State, number_made}
use Rattle.state_space.specs.Covers.{covers, covers_instance, has_value_under, allows_under, CoversInstance, Covers, CoversSentences}
use Rattle.state_space.proofs.Changed.{zip_at}

module _ {A : Type 0} (id_of : A → ℕ) (test : ℕ → Bool) where
  -- what passes for the ids of all entries passes for an id that an entry has
  pub by_id : (es : List A) → IsTrue (list_all (λ a. test (id_of a)) es) → (id : ℕ) → IsTrue (list_any (λ a. id_of a == id) es) → IsTrue (test id)
  by_id es all id there =
      let found = list_any_at (λ a. id_of a == id) es there in
      let passes : IsTrue (test (id_of found.1)) = list_all_at (λ a. test (id_of a)) es all found.0 found.1 found.2 in
      ap test (sym (eqb-true (id_of found.1) id found.3)) ∙ passes

  -- and the other way round
  pub from_ids : (es : List A) → ((id : ℕ) → IsTrue (list_any (λ a. id_of a == id) es) → IsTrue (test id)) → IsTrue (list_all (λ a. test (id_of a)) es)
  from_ids es each = list_all_from (λ a. test (id_of a)) es (λ k a at.
      each (id_of a) (list_any_from (λ b. id_of b == id_of a) es k a at (eq-eqb (id_of a) (id_of a) refl)))

pub covers_instance_at : (m : Model) (made : ℕ) (x : MadeInstance) (y : Instance) → IsTrue (covers_instance m made x y) → CoversInstance m made x y
covers_instance_at m made x y h =
    let both = and_parts _ _ h in
    let front = and_parts _ _ both.0 in
    record {
      kind = front.0;
      values = λ a. by_id (λ b. b.id) (λ b. has_value_under x b (value_of m y b)) (attributes_at m y.kind) front.1 a;
      links = λ p. by_id (λ q. q.id) (λ q. allows_under made x q (links_of m y q)) (ports_at m y.kind) both.1 p;
    }

pub covers_instance_from : (m : Model) (made : ℕ) (x : MadeInstance) (y : Instance) → CoversInstance m made x y → IsTrue (covers_instance m made x y)
covers_instance_from m made x y h =
    and_from _ _ (and_from _ _ h.kind
    (from_ids (λ b. b.id) (λ b. has_value_under x b (value_of m y b)) (attributes_at m y.kind) h.values))
    (from_ids (λ q. q.id) (λ q. allows_under made x q (links_of m y q)) (ports_at m y.kind) h.links)

covers_at : (m : Model) (s : State) (c : List Instance) → IsTrue (covers m s c) → Covers m s c
unfolding covers
covers_at m s c h =
    let both = and_parts _ _ h in
    let front = and_parts _ _ both.0 in
    let made = number_made s in
    record {
      spelled = front.0;
      enough = leb-true made (length c) front.1;
      each = λ i x y at_x at_y. covers_instance_at m made x y
          (list_all_at (λ e. covers_instance m made e.0 e.1) (zip s.made c) both.1 i (x, y) (slice_get_zip s.made c i x y at_x at_y));
    }

covers_from : (m : Model) (s : State) (c : List Instance) → Covers m s c → IsTrue (covers m s c)
unfolding covers
covers_from m s c h =
    let made = number_made s in
    and_from _ _ (and_from _ _ h.spelled (le-leb made (length c) h.enough))
    (list_all_from (λ e. covers_instance m made e.0 e.1) (zip s.made c) (λ k e at.
    let both = zip_at s.made c k e at in covers_instance_from m made e.0 e.1 (h.each k e.0 e.1 both.0 both.1)))

pub covers_sentences : CoversSentences
covers_sentences m s c = (covers_at m s c, covers_from m s c)
