use Rattle.std.proofs.lemmas.Slice.Eq.{strip_prefix_is}
use Rattle.std.proofs.lemmas.Bool.Decides.{Decides-eqb}
use Rattle.canonical_form.proofs.ReadingSteps.{stripped_found, stripped_none}
use Rattle.canonical_form.proofs.reading.tokens.behind_text.Goals as goal

pub returns-clause-found : goal.returns-clause-found
returns-clause-found c = stripped_found c.args.bytes.now c.args.text.now _ (strip_prefix_is Decides-eqb c.args.bytes.now c.args.text.now _ c.strip_prefix.ensures.cases)

pub returns-clause-none : goal.returns-clause-none
returns-clause-none c = stripped_none c.args.bytes.now c.args.text.now _ (strip_prefix_is Decides-eqb c.args.bytes.now c.args.text.now _ c.strip_prefix.ensures.cases)
