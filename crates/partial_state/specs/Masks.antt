-- Sets of words, of types and of instances as masks.
use Rattle.std.specs.Prelude.{◌≡◌, ◌≢◌, ◌≤◌, ℕ, false, List}
use Rattle.domain_store.specs.Words.{has_word}
use Rattle.instance_set.specs.declared.set.InstanceSet.{InstanceSet}
use Rattle.instance_set.specs.InstanceSets.{members}
use Rattle.state_space.specs.Sets.{members_of_mask}

-- the words of a mask, ascending
unfoldable pub words_of : ℕ → List ℕ
words_of mask = members_of_mask 64 mask

-- the types of a mask, ascending
unfoldable pub kinds_of : ℕ → List ℕ
kinds_of mask = members_of_mask 128 mask

-- the instances of a set, ascending
unfoldable pub instances_of : InstanceSet → List ℕ
instances_of set = members set

-- the mask has a bit, and none from 64 on
pub record IsWordMask (mask : ℕ) : Type 0 where
  pub some : mask ≢ 0
  pub below : (k : ℕ) → 64 ≤ k → has_word mask k ≡ false
