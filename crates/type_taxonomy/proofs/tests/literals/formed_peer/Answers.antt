use Rattle.std.proofs.Common.{[], ◌∷◌, refl, ap, sym, subst, ◌∙◌}
use Rattle.prod_model.specs.Names.{is_name}
use Rattle.prod_model.specs.Valid.{IsFormed, has_short_lists, has_formed_names, has_distinct_names, has_numbers_in_limits}
use Rattle.type_taxonomy.specs.steps.Peer.{peer}
use Rattle.type_taxonomy.proofs.tests.literals.formed_peer.Goals as goal

peer_is_formed : IsFormed (record { root = 0; instances = 1; types = peer ∷ []; bounds = []; rules = [] })
unfolding has_short_lists has_formed_names has_distinct_names has_numbers_in_limits is_name
peer_is_formed = record { short_lists = refl; formed_names = refl; distinct_names = refl; numbers_in_limits = refl }

pub returns : goal.returns
returns c =
    let is = c.model_of.ensures ∙ ap (λ types. record { root = 0; instances = 1; types = types; bounds = []; rules = [] }) c.in_ok-types.ensures in
    subst IsFormed (sym is) peer_is_formed
