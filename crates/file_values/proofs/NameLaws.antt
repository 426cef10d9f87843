-- Looking up a name in a list.
use Rattle.std.proofs.Common.{◌≡◌, ℕ, List, [], ◌∷◌, map, refl, ap₂}
use Rattle.std.specs.Prelude.{◌||◌}
use Rattle.std.specs.Borrow.{Bor}
use Rattle.std.specs.List.{list_any}
use Rattle.prod_model.specs.Names.{same_text}
use Rattle.prod_model.proofs.NameLaws.{list_any_now, position_now, same_text_symm}

-- borrowed names are searched as the names are, whichever stands first
pub any_now : (name : List ℕ) (texts : List (Bor (List ℕ)))
    → list_any (λ n. same_text n name) (map (λ t. t.now) texts) ≡ list_any (λ t. same_text name t.now) texts
any_now name [] = refl
any_now name (t ∷ ts) = ap₂ (λ a b. a || b) (same_text_symm t.now name) (any_now name ts)

pub ruleset searching = (list_any_now, position_now)
