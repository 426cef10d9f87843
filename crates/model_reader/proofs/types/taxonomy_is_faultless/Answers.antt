use Rattle.std.proofs.Common.{subst}
use Rattle.serde_json.specs.View.{view}
use Rattle.prod_model.specs.Valid.{IsTaxonomy}
use Rattle.model_reader.proofs.TypePasses.{types_clear}
use Rattle.model_reader.proofs.types.taxonomy_is_faultless.Goals as goal

pub returns : goal.returns
returns c = types_clear c.has_no_fault.ensures (view c.args.value.now) c.requires.faultless (subst IsTaxonomy c.requires.declared c.requires.taxonomy)
