-- When the words are an accepted form.
use Rattle.std.proofs.Common.{◌≡◌, ◌∙◌, ℕ, ◌+◌, ◌-◌, ◌<◌, List, [], ◌∷◌, refl, sym, ap, ap₂, subst, Bool, true, false, ◌&&◌, Some, None, arith}
use Rattle.std.specs.Prelude.{IsTrue, codes, if◌then◌else◌}
use Rattle.std.specs.declared.option.Option.{Option}
use Rattle.std.specs.Fmt.{decimal}
use Rattle.std.specs.List.{range_with_len}
use Rattle.std.proofs.lemmas.Bool.{and_parts}
use Rattle.std.proofs.lemmas.Option.{same_Some}
use lib.Pointwise.{bytes_decides}
use Rattle.base_laws.specs.Places.{IsAt}
use Rattle.base_laws.proofs.Ranges.{slice_get_range_with_len, range_with_len_from, range_with_len_lt}
use Rattle.base_laws.proofs.Tests.{list_any_at, list_any_from}
use Rattle.prod_model.specs.Names.{same_text}
use Rattle.prod_model.proofs.NameLaws.{same_text_refl}
use Rattle.config_cli.specs.Commands.{Command, Configure, Check, IsWorkers, Asks, configure, configure_with, check, AsksNothing, most_workers}
use Rattle.config_cli.specs.steps.Words.{command_in, is_workers}

-- ---- numbers of workers

pub workers_of : (word : List ℕ) → IsTrue (is_workers word) → IsWorkers word
workers_of word is =
    let found = list_any_at (λ n. same_text (decimal n) word) (range_with_len 1 most_workers) is in
    let n = found.1 in
    let below : n < 1 + most_workers = range_with_len_lt 1 most_workers found.0 n found.2 in
    record {
      number = n;
      positive = range_with_len_from 1 most_workers found.0 n found.2;
      few = omega (arith, below);
      spelled = sym ((bytes_decides (decimal n) word).0 found.3);
    }

pub workers_is : (word : List ℕ) → IsWorkers word → IsTrue (is_workers word)
workers_is word w =
    let n = w.number in
    let at : IsAt (range_with_len 1 most_workers) (n - 1) (1 + (n - 1)) =
    slice_get_range_with_len 1 most_workers (n - 1) (omega (arith, w.positive, w.few)) in
    let same : 1 + (n - 1) ≡ n = omega (arith, w.positive) in
    let there : IsAt (range_with_len 1 most_workers) (n - 1) n = at ∙ ap Some same in
    list_any_from (λ k. same_text (decimal k) word) (range_with_len 1 most_workers) (n - 1) n there
    (ap (same_text (decimal n)) w.spelled ∙ same_text_refl (decimal n))

-- ---- the accepted forms

abbrev when : Bool → Command → Option Command
when is command = if is then Some command else None

-- three words
configure_by : (command m o : List ℕ) (is : Bool) → same_text command (codes "configure") ≡ is
    → (c : Command) → when is (Configure m o) ≡ Some c → Asks (command ∷ m ∷ o ∷ []) c
configure_by command m o true same c e =
    let here : command ≡ codes "configure" = (bytes_decides command (codes "configure")).0 same in
    let is : Configure m o ≡ c = same_Some (Configure m o) c e in
    subst (λ (d : Command). Asks (command ∷ m ∷ o ∷ []) d) is (configure m o (ap (λ w. w ∷ m ∷ o ∷ []) here))
configure_by command m o false same c e = absurd cc

-- four words
check_by : (command m o a : List ℕ) (is : Bool) → same_text command (codes "check") ≡ is
    → (c : Command) → when is (Check m o a) ≡ Some c → Asks (command ∷ m ∷ o ∷ a ∷ []) c
check_by command m o a true same c e =
    let here : command ≡ codes "check" = (bytes_decides command (codes "check")).0 same in
    let is : Check m o a ≡ c = same_Some (Check m o a) c e in
    subst (λ (d : Command). Asks (command ∷ m ∷ o ∷ a ∷ []) d) is (check m o a (ap (λ w. w ∷ m ∷ o ∷ a ∷ []) here))
check_by command m o a false same c e = absurd cc

-- five words
with_by : (command m o option w : List ℕ) (is : Bool)
    → (same_text command (codes "configure") && same_text option (codes "--workers") && is_workers w) ≡ is
    → (c : Command) → when is (Configure m o) ≡ Some c → Asks (command ∷ m ∷ o ∷ option ∷ w ∷ []) c
with_by command m o option w true same c e =
    let parts = and_parts _ _ same in
    let words = and_parts _ _ parts.0 in
    let here : command ≡ codes "configure" = (bytes_decides command (codes "configure")).0 words.0 in
    let there : option ≡ codes "--workers" = (bytes_decides option (codes "--workers")).0 words.1 in
    let is : Configure m o ≡ c = same_Some (Configure m o) c e in
    subst (λ (d : Command). Asks (command ∷ m ∷ o ∷ option ∷ w ∷ []) d) is
    (configure_with m o w (ap₂ (λ a b. a ∷ m ∷ o ∷ b ∷ w ∷ []) here there) (workers_of w parts.1))
with_by command m o option w false same c e = absurd cc

-- the words ask for the command that is found in them
pub asks_for : (words : List (List ℕ)) (c : Command) → command_in words ≡ Some c → Asks words c
asks_for [] c e = absurd cc
asks_for (w ∷ []) c e = absurd cc
asks_for (w ∷ m ∷ []) c e = absurd cc
asks_for (w ∷ m ∷ o ∷ []) c e = configure_by w m o (same_text w (codes "configure")) refl c e
asks_for (w ∷ m ∷ o ∷ a ∷ []) c e = check_by w m o a (same_text w (codes "check")) refl c e
asks_for (w ∷ m ∷ o ∷ a ∷ b ∷ []) c e =
    with_by w m o a b (same_text w (codes "configure") && same_text a (codes "--workers") && is_workers b) refl c e
asks_for (w ∷ m ∷ o ∷ a ∷ b ∷ x ∷ xs) c e = absurd cc

-- the command that is asked for is found
found_of_asked : (words : List (List ℕ)) (c : Command) → Asks words c → command_in words ≡ Some c
found_of_asked words c (configure m o is) = ap command_in is
found_of_asked words c (configure_with m o w is workers) =
    ap command_in is ∙ ap (λ b. when b (Configure m o)) (workers_is w workers)
found_of_asked words c (check m o a is) = ap command_in is

none_found : (c : Command) → ¬ (None ≡ Some c)
none_found c e = absurd cc

pub asks_nothing : (words : List (List ℕ)) → command_in words ≡ None → AsksNothing words
asks_nothing words none c asked = none_found c (sym none ∙ found_of_asked words c asked)
