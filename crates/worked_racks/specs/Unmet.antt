-- Requests that no configuration meets.
use Rattle.std.specs.Prelude.{◌≡◌, false, IsTrue, List}
use Rattle.prod_model.specs.declared.model.Model.{Model}
use Rattle.prod_model.specs.declared.model.Order.{Order}
use Rattle.config_value.specs.declared.configuration.Instance.{Instance}
use Rattle.config_value.specs.Satisfies.{satisfies}
use Rattle.literal_book.specs.Nogoods.{meets_asked}

-- no configuration that satisfies the model meets the first request
abbrev pub FirstIsUnmet : Model → Order → Type 0
FirstIsUnmet m o = (c : List Instance) → IsTrue (satisfies m c) → meets_asked m o 1 c ≡ false
