use Rattle.worked_searches.proofs.ImportLaws.{unmet_is_sound}
use Rattle.worked_searches.proofs.searchers.import.Goals as goal

-- each nogood of a request that is never met is sound
pub import-requires : goal.import-requires
import-requires c =
    unmet_is_sound c.args.search.now.job.model c.args.search.now.job.order
    c.in_ok-from_slice.field-0 c.requires
