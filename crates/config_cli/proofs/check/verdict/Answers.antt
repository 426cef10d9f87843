use Rattle.std.proofs.Common.{◌∙◌, ap, refl}
use Rattle.config_cli.specs.Checked.{broken}
use Rattle.config_cli.specs.CheckTexts.{broken_text}
use Rattle.config_cli.proofs.check.verdict.Goals as goal

-- the first broken test, under its item's name
pub returns-in_ok-broken_text-in-Broken-clause-verdict :
    goal.returns-in_ok-broken_text-in-Broken-clause-verdict
returns-in_ok-broken_text-in-Broken-clause-verdict c =
    broken (record { code = c.in-Broken.code; instance = c.in-Broken.instance; item = c.in-Broken.item })
    c.in-Broken.ensures.broken refl
    (c.in_ok-broken_text-in-Broken.ensures ∙ ap (λ n. broken_text c.in-Broken.code c.in-Broken.instance n) c.item_name.ensures)
