use Rattle.worked_stores.proofs.StoreLaws.{sound_in}
use Rattle.worked_stores.proofs.stores.add.Goals as goal

-- each nogood of a request that is never met is sound
pub add-requires : goal.add-requires
add-requires c =
    sound_in c.args.trail.now.job c.args.store.now c.in_ok-from_slice.field-0 c.requires
