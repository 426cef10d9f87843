-- How the turn moves on, port by port and instance by instance.
use Rattle.std.proofs.Common.{◌≡◌, ℕ, ◌+◌, ◌<◌, List, [], ◌∷◌, ◌++◌, length, drop, get_or, Option, None, Some, refl, sym, ap, ◌∙◌}
use Rattle.std.proofs.lemmas.List.{drop_more}
use Rattle.std.specs.Option.{option_and_then}
use Rattle.config_value.specs.declared.configuration.Instance.{Instance}
use Rattle.config_value.specs.Numbered.{Link}
use Rattle.config_value.specs.steps.Turn.{turn_after, turn_after_link, port_links, instance_links, links_from}

-- two steps that may fail, one after another
option_and_then_assoc : {A B C : Type 0} (f : A → Option B) (g : B → Option C) (o : Option A)
    → option_and_then (λ x. option_and_then g (f x)) o ≡ option_and_then g (option_and_then f o)
option_and_then_assoc f g None = refl
option_and_then_assoc f g (Some x) = refl

-- the links of one list, and then those of another
pub turn_after_append : (count turn : ℕ) (xs ys : List Link)
    → turn_after count turn (xs ++ ys)
    ≡ option_and_then (λ t. turn_after count t ys) (turn_after count turn xs)
turn_after_append count turn [] ys = refl
turn_after_append count turn (x ∷ xs) ys =
    ap_then (λ t. turn_after_append count t xs ys) (turn_after_link count turn x)
    ∙ option_and_then_assoc (λ t. turn_after count t xs) (λ t. turn_after count t ys) (turn_after_link count turn x)
  where
    ap_then : {f g : ℕ → Option ℕ} → ((t : ℕ) → f t ≡ g t) → (o : Option ℕ)
        → option_and_then f o ≡ option_and_then g o
    ap_then same None = refl
    ap_then same (Some t) = same t

-- one more port: a link of it is out of turn, or the turn moves on
pub turn_after_port : (count turn from i : ℕ) (ports : List (List ℕ)) (links : List ℕ) (o : Option ℕ)
    → i < length ports → links ≡ get_or ports i links
    → o ≡ turn_after count turn (port_links from links)
    → turn_after count turn (instance_links from (drop i ports))
    ≡ option_and_then (λ t. turn_after count t (instance_links from (drop (i + 1) ports))) o
turn_after_port count turn from i ports links o within read after =
    ap (λ ps. turn_after count turn (instance_links from ps))
    (drop_more ports i links within ∙ ap (λ x. x ∷ drop (i + 1) ports) (sym read))
    ∙ turn_after_append count turn (port_links from links) (instance_links from (drop (i + 1) ports))
    ∙ ap (option_and_then (λ t. turn_after count t (instance_links from (drop (i + 1) ports)))) (sym after)

-- one more instance, likewise
pub turn_after_instance : (count turn n i : ℕ) (c : List Instance) (x : Instance) (o : Option ℕ)
    → i < length c → x ≡ get_or c i x
    → o ≡ turn_after count turn (instance_links n x.links)
    → turn_after count turn (links_from n (drop i c))
    ≡ option_and_then (λ t. turn_after count t (links_from (n + 1) (drop (i + 1) c))) o
turn_after_instance count turn n i c x o within read after =
    ap (λ xs. turn_after count turn (links_from n xs))
    (drop_more c i x within ∙ ap (λ y. y ∷ drop (i + 1) c) (sym read))
    ∙ turn_after_append count turn (instance_links n x.links) (links_from (n + 1) (drop (i + 1) c))
    ∙ ap (option_and_then (λ t. turn_after count t (links_from (n + 1) (drop (i + 1) c)))) (sym after)
