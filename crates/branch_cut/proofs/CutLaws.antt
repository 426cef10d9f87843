-- Where the least rank and key of a state come after those of a configuration, none that it covers
-- beats that one; and the states of trails have whole domains.
use Rattle.std.proofs.Common.{◌≡◌, ◌≤◌, ◌<◌, ℕ, zero, suc, Bool, true, false, not, ◌&&◌, List, [], ◌∷◌, refl, sym, ap, ◌∙◌, subst, arith}
use Rattle.std.specs.Prelude.{IsTrue, slice_get, length}
use Rattle.std.specs.declared.cmp.Ordering.{Ordering}
use Rattle.std.specs.declared.cmp.Ordering.TheVariants.{Greater}
use Rattle.std.specs.Ordering.{is_lt}
use Rattle.std.specs.Option.{option_map_or}
use Rattle.std.proofs.lemmas.Bool.{false≢true, and_parts}
use Rattle.std.proofs.lemmas.Option.{slice_get-get_or}
use Rattle.base_laws.specs.Places.{IsAt}
use Rattle.config_value.specs.declared.configuration.Instance.{Instance}
use Rattle.config_value.specs.Rank.{rank, key, rank_order}
use Rattle.config_value.specs.Numbered.{is_numbered}
use Rattle.config_value.specs.Satisfies.{satisfies, follows_rules}
use Rattle.config_value.specs.Shaped.{is_shaped}
use Rattle.prod_model.specs.declared.model.Model.{Model}
use Rattle.state_space.specs.State.{State}
use Rattle.state_values.specs.Lowest.{lowest_vector}
use Rattle.state_values.specs.KeyStart.{key_start}
use Rattle.state_values.specs.WholeDomains.{AreDomainsWhole}
use Rattle.state_values.proofs.CoveredLaws.{lowest_holds_covered}
use Rattle.state_values.proofs.KeyStartLaws.{key_start_holds}
use Rattle.state_values.proofs.WholeDomainLaws.{root_domains_are_whole, change_keeps_domains_whole}
use Rattle.reason_trail.specs.Trails.{Stage, Trace, IsTrail, length_of, state_at}
use Rattle.reason_trail.proofs.Trails.{state_at-past, state_at-stage}
use Rattle.branch_cut.specs.Cuts.{DemandedIsDead, TrailDomainsAreWhole}
use Rattle.branch_cut.proofs.CutOrder.{bounded_after}

-- what satisfies the model has its shape
pub satisfied_shaped : (m : Model) (c : List Instance) → IsTrue (satisfies m c) → IsTrue (is_shaped m c)
unfolding satisfies
satisfied_shaped m c is =
    (and_parts (is_shaped m c) (is_numbered c) (and_parts (is_shaped m c && is_numbered c) (follows_rules m c) is).0).0

pub demanded_is_dead : DemandedIsDead
unfolding rank_order
demanded_is_dead j s best task state whole demanded c is covers beats =
    let m = j.model in
    let o = j.order in
    let shaped = satisfied_shaped m c is in
    let after = bounded_after (lowest_vector m o s) (rank m o c) (rank m o best) (key_start m s) (key c) (key best) demanded
    (lowest_holds_covered m o s c task.valid task.order state whole shaped covers)
    (key_start_holds m s c task.valid state covers) in
    let before : IsTrue (is_lt (rank_order m o c best)) = (and_parts (not j.goal.any) (is_lt (rank_order m o c best)) beats).1 in
    absurd (false≢true (sym (ap is_lt after) ∙ before))

-- ---- trails

-- a list has an element at each place within it
there : {A : Type 0} (xs : List A) (n : ℕ) → n < length xs → (x : A) × IsAt xs n x
there [] n within = absurd (omega (arith, within))
there (x ∷ xs) zero within = (x, refl)
there (x ∷ xs) (suc n) within = there xs n (omega (arith, within))

-- each state that a trail came to has whole domains
each_whole : (t : Trace) → IsTrail t → (n : ℕ) → n ≤ length_of t → AreDomainsWhole t.job.model (state_at t n)
each_whole t right zero within =
    subst (AreDomainsWhole t.job.model) (sym right.begins) (root_domains_are_whole t.job.model right.task.valid)
each_whole t right (suc n) within =
    let g = there t.stages n (omega (arith, within)) in
    let stage = right.each n g.0 g.1 in
    change_keeps_domains_whole t.job.model g.0.entry.literal _ g.0.before (state_at t (suc n)) right.task.valid stage.fitting stage.changed
    (subst (AreDomainsWhole t.job.model) (state_at-stage t n g.0 g.1) (each_whole t right n (omega (arith, within))))

pub trail_domains_are_whole : TrailDomainsAreWhole
trail_domains_are_whole t right =
    subst (AreDomainsWhole t.job.model) (state_at-past t (length_of t) (omega arith)) (each_whole t right (length_of t) (omega arith))
