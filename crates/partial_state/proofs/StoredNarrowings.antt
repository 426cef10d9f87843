-- Narrowings of stored values.
use Rattle.std.proofs.Common.{◌≡◌, ℕ, ◌∙◌, ap, sym, subst, Bool, List, ℤ, pos}
use Rattle.std.specs.Prelude.{IsTrue}
use Rattle.domain_store.specs.declared.change.Change.{Change}
use Rattle.domain_store.specs.declared.interval.Interval.{Interval}
use Rattle.domain_store.specs.Words.{NarrowsWords, IsLeastWord, IsGreatestWord}
use Rattle.domain_store.specs.Intervals.{are_intervals, NarrowsNumbers, IsLeastNumber, IsGreatestNumber}
use Rattle.state_space.specs.Values.{least, greatest, are_values}
use Rattle.partial_state.specs.declared.values.Domain.{Domain}
use Rattle.partial_state.specs.declared.values.Domain.TheVariants as stored
use Rattle.partial_state.specs.Masks.{IsWordMask}
use Rattle.partial_state.specs.Views.{values_of_domain, IsStored}
use Rattle.partial_state.specs.steps.Narrowed.{NarrowsStored}
use Rattle.partial_state.proofs.ValueNarrowings.{numbers_narrowed, words_narrowed, mask_narrowed, least_number, greatest_number, least_word, greatest_word, words_formed}

pub numbers_stored : (domain : Domain) (old new : List Interval) (test : ℤ → Bool) (result : Change) → domain ≡ stored.Numbers old → IsStored domain
    → IsTrue (are_intervals new) → NarrowsNumbers test result old new → NarrowsStored test result domain (stored.Numbers new)
numbers_stored domain old new test result is formed formed' given =
    let P : Domain → Type 0 = λ d. NarrowsStored test result d (stored.Numbers new) in
    subst P (sym is) (record { narrowed = numbers_narrowed old new test result (subst IsStored is formed) formed' given; stored = formed' })

pub words_stored : (domain : Domain) (old new : ℕ) (test : ℤ → Bool) (result : Change) → domain ≡ stored.Words old → IsStored domain
    → NarrowsWords (λ k. test (pos k)) result old new → NarrowsStored test result domain (stored.Words new)
words_stored domain old new test result is formed given =
    let P : Domain → Type 0 = λ d. NarrowsStored test result d (stored.Words new) in
    let mask : IsWordMask old = subst IsStored is formed in
    subst P (sym is) (record { narrowed = words_narrowed old new test result mask given; stored = mask_narrowed old new (λ k. test (pos k)) result mask given })

pub stored_mask : (domain : Domain) (mask : ℕ) → domain ≡ stored.Words mask → IsStored domain → IsWordMask mask
stored_mask domain mask is formed = subst IsStored is formed

pub stored_numbers : (domain : Domain) (rs : List Interval) → domain ≡ stored.Numbers rs → IsStored domain → IsTrue (are_intervals rs)
stored_numbers domain rs is formed = subst IsStored is formed

pub least_of_numbers : (domain : Domain) (rs : List Interval) (v : ℤ) → domain ≡ stored.Numbers rs → IsStored domain → IsLeastNumber rs v → v ≡ least (values_of_domain domain)
least_of_numbers domain rs v is formed low = sym (ap (λ d. least (values_of_domain d)) is ∙ least_number rs v (stored_numbers domain rs is formed) low)

pub greatest_of_numbers : (domain : Domain) (rs : List Interval) (v : ℤ) → domain ≡ stored.Numbers rs → IsStored domain → IsGreatestNumber rs v → v ≡ greatest (values_of_domain domain)
greatest_of_numbers domain rs v is formed high = sym (ap (λ d. greatest (values_of_domain d)) is ∙ greatest_number rs v (stored_numbers domain rs is formed) high)

pub least_of_words : (domain : Domain) (mask k : ℕ) → domain ≡ stored.Words mask → IsStored domain → IsLeastWord mask k → pos k ≡ least (values_of_domain domain)
least_of_words domain mask k is formed low = sym (ap (λ d. least (values_of_domain d)) is ∙ least_word mask k (stored_mask domain mask is formed) low)

pub greatest_of_words : (domain : Domain) (mask k : ℕ) → domain ≡ stored.Words mask → IsStored domain → IsGreatestWord mask k → pos k ≡ greatest (values_of_domain domain)
greatest_of_words domain mask k is formed high = sym (ap (λ d. greatest (values_of_domain d)) is ∙ greatest_word mask k (stored_mask domain mask is formed) high)

pub words_are_values : (domain : Domain) (mask : ℕ) → domain ≡ stored.Words mask → IsStored domain → IsTrue (are_values (values_of_domain domain))
words_are_values domain mask is formed = ap (λ d. are_values (values_of_domain d)) is ∙ words_formed mask (stored_mask domain mask is formed)
