-- The narrowings of a stored port, call by call.
use Rattle.std.proofs.Common.{◌≡◌, ℕ, ◌-◌, ◌<◌, ◌≤◌, ◌∙◌, sym, not, inl, inr, arith}
use Rattle.std.specs.Prelude.{◌↔◌, nat_le, IsTrue}
use Rattle.std.proofs.lemmas.Bool.{cases_lt, false_from_ne_true, true_from_ne_false, false≢true}
use Rattle.domain_store.specs.declared.change.Change.{Change}
use Rattle.domain_store.specs.declared.change.Change.TheVariants.{Same, Smaller, Empty}
use Rattle.instance_set.specs.InstanceSets.{is_member}
use Rattle.port_wildcards.specs.declared.port_domain.PortDomain.{PortDomain}
use Rattle.port_wildcards.specs.Ports as stored
use Rattle.port_wildcards.specs.Ports.{IsPort, Gains, Loses, with_required, with_possible, with_fresh}
use Rattle.state_space.specs.Sets.{has_number}
use Rattle.partial_state.specs.Views.{state_of_port}
use Rattle.partial_state.specs.steps.InForm.{NarrowsInPort}
use Rattle.partial_state.proofs.PortNarrowings.{links_narrowed, fewer_required, fewer_possible, fewer_fresh, port_formed}

module _ (old new : PortDomain) (result : Change) (formed : IsPort new) where
  not_empty : result ≡ Smaller → result ≡ Empty → ⊥
  not_empty e f = let g : Smaller ≡ Empty = sym e ∙ f in absurd cc

  not_same : result ≡ Smaller → result ≡ Same → ⊥
  not_same e f = let g : Smaller ≡ Same = sym e ∙ f in absurd cc

  pub required : (j : ℕ) → (result ≡ Empty) ↔ ¬ IsTrue (is_member old.possible j) → (result ≡ Same) ↔ IsTrue (is_member old.required j)
      → (result ≡ Smaller → Gains j old.required new.required) → new ≡ with_required new.required old
      → stored.NarrowsLinks (λ l. stored.is_linked l j) result old new
      → NarrowsInPort (λ l. has_number l.to_made j) result (state_of_port old) (state_of_port new)
  required j empty same smaller others given = record {
    narrowed = links_narrowed old new (λ l. has_number l.to_made j) result given (λ e.
        fewer_required old new j
        (true_from_ne_false (is_member old.possible j) (λ out. not_empty e (empty.1 (λ is. false≢true (sym out ∙ is)))))
        (false_from_ne_true (is_member old.required j) (λ is. not_same e (same.1 is)))
        (smaller e) others);
    formed = port_formed new formed;
  }

  pub excluded : (j : ℕ) → (result ≡ Empty) ↔ IsTrue (is_member old.required j) → (result ≡ Same) ↔ ¬ IsTrue (is_member old.possible j)
      → (result ≡ Smaller → Loses j old.possible new.possible) → new ≡ with_possible new.possible old
      → stored.NarrowsLinks (λ l. not (stored.is_linked l j)) result old new
      → NarrowsInPort (λ l. not (has_number l.to_made j)) result (state_of_port old) (state_of_port new)
  excluded j empty same smaller others given = record {
    narrowed = links_narrowed old new (λ l. not (has_number l.to_made j)) result given (λ e.
        fewer_possible old new j
        (true_from_ne_false (is_member old.possible j) (λ out. not_same e (same.1 (λ is. false≢true (sym out ∙ is)))))
        (false_from_ne_true (is_member old.required j) (λ is. not_empty e (empty.1 is)))
        (smaller e) others);
    formed = port_formed new formed;
  }

  pub bounded_above : (n : ℕ) → (result ≡ Empty) ↔ (n < old.fresh_low) → (result ≡ Same) ↔ (old.fresh_high ≤ n)
      → (result ≡ Smaller → new ≡ with_fresh old.fresh_low n old)
      → stored.NarrowsLinks (λ l. nat_le l.later n) result old new
      → NarrowsInPort (λ l. nat_le l.later n) result (state_of_port old) (state_of_port new)
  bounded_above n empty same smaller given = record {
    narrowed = links_narrowed old new (λ l. nat_le l.later n) result given (λ e.
        let low : n < old.fresh_low → ⊥ = λ h. not_empty e (empty.1 h) in
        let high : old.fresh_high ≤ n → ⊥ = λ h. not_same e (same.1 h) in
        fewer_fresh old new old.fresh_low n (smaller e) (less n old.fresh_low old.fresh_high low high));
    formed = port_formed new formed;
  }
    where
      less : (n a b : ℕ) → (n < a → ⊥) → (b ≤ n → ⊥) → n - a < b - a
      less n a b low high = elim (cases_lt n a) [
        | inl below ↦ absurd (low below)
        | inr from ↦ elim (cases_lt n b) [
          | inl under ↦ omega arith
          | inr past ↦ absurd (high past)
        ]
      ]

  pub bounded_below : (n : ℕ) → (result ≡ Empty) ↔ (old.fresh_high < n) → (result ≡ Same) ↔ (n ≤ old.fresh_low)
      → (result ≡ Smaller → new ≡ with_fresh n old.fresh_high old)
      → stored.NarrowsLinks (λ l. nat_le n l.later) result old new
      → NarrowsInPort (λ l. nat_le n l.later) result (state_of_port old) (state_of_port new)
  bounded_below n empty same smaller given = record {
    narrowed = links_narrowed old new (λ l. nat_le n l.later) result given (λ e.
        let high : old.fresh_high < n → ⊥ = λ h. not_empty e (empty.1 h) in
        let low : n ≤ old.fresh_low → ⊥ = λ h. not_same e (same.1 h) in
        fewer_fresh old new n old.fresh_high (smaller e) (less n old.fresh_low old.fresh_high low high));
    formed = port_formed new formed;
  }
    where
      less : (n a b : ℕ) → (n ≤ a → ⊥) → (b < n → ⊥) → b - n < b - a
      less n a b low high = elim (cases_lt a n) [
        | inl above ↦ elim (cases_lt b n) [
          | inl past ↦ absurd (high past)
          | inr within ↦ omega arith
        ]
        | inr under ↦ absurd (low under)
      ]
