use Rattle.std.proofs.Common.{length, refl}
use Rattle.std.proofs.lemmas.Option.{slice_get_read}
use Rattle.expr_bounds.proofs.form.at.Goals as goal

pub returns : goal.returns
returns c = slice_get_read c.args.args.now (length c.args.args.now) c.args.index c.index-args-index.result refl c.requires c.index-args-index.is
