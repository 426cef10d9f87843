use Rattle.std.proofs.Common.{refl}
use Rattle.serde_json.specs.View.{view}
use Rattle.model_reader.proofs.InversePass.{declares, none_wrong, inverse_refused}
use Rattle.model_reader.proofs.inverses.link_inverses.Goals as goal

pub inverses-requires-clause-formed : goal.inverses-requires-clause-formed
inverses-requires-clause-formed c =
    (declares (view c.args.value.now) c.requires.faultless c.faultless_is_declared.ensures c.args.model.now c.requires.declared).formed

pub inverses-requires-clause-taxonomy : goal.inverses-requires-clause-taxonomy
inverses-requires-clause-taxonomy c =
    (declares (view c.args.value.now) c.requires.faultless c.faultless_is_declared.ensures c.args.model.now c.requires.declared).taxonomy

pub returns-in-Ok-clause-faultless : goal.returns-in-Ok-clause-faultless
returns-in-Ok-clause-faultless c =
    none_wrong (view c.args.value.now) c.requires.faultless c.has_no_inverse_fault.ensures c.args.model.now c.requires.declared (c.in-Ok.ensures.right.0 refl)

pub returns-in-Err-clause-fault : goal.returns-in-Err-clause-fault
returns-in-Err-clause-fault c =
    inverse_refused (view c.args.value.now) c.requires.faultless c.args.model.now c.in-Err.fault c.refusal_of.result c.requires.declared c.in-Err.ensures.fault c.refusal_of.ensures
