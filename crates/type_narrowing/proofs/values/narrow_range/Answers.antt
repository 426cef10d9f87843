-- The range is that of the type all along.
use Rattle.std.proofs.Common.{rules, ◌≡◌, sym, subst, w64, to_z, of_z}
use Rattle.std.proofs.lemmas.Int.{ints, to_z-of_z}
use Rattle.prod_model.specs.declared.model.Domain.TheVariants.{Range}
use Rattle.prod_model.specs.Taxonomy.{attributes_at}
use Rattle.type_narrowing.specs.steps.Narrowing.{IsAmong}
use Rattle.type_narrowing.proofs.Narrowings.{narrows_on}
use Rattle.type_narrowing.proofs.values.narrow_range.Goals as goal

pub raise-requires-clause-declared : goal.raise-requires-clause-declared
raise-requires-clause-declared c =
    let own : to_z w64 (of_z w64 c.args.low) ≡ c.args.low = search (rules, ints, to_z-of_z) in (
      c.args.high,
      subst (λ v. IsAmong (attributes_at c.args.trail.now.job.model c.args.kind) (record { id = c.args.attr; domain = Range v c.args.high })) (sym own) c.requires.declared,
    )

pub lower-requires-clause-declared : goal.lower-requires-clause-declared
lower-requires-clause-declared c =
    let own : to_z w64 (of_z w64 c.args.high) ≡ c.args.high = search (rules, ints, to_z-of_z) in (
      c.args.low,
      subst (λ j. IsAmong (attributes_at j.model c.args.kind) (record { id = c.args.attr; domain = Range c.args.low (to_z w64 (of_z w64 c.args.high)) }))
          (sym c.raise.ensures.filters.extends.job)
          (subst (λ v. IsAmong (attributes_at c.args.trail.now.job.model c.args.kind) (record { id = c.args.attr; domain = Range c.args.low v })) (sym own) c.requires.declared),
    )

pub returns-in_err-lower-clause-narrows : goal.returns-in_err-lower-clause-narrows
returns-in_err-lower-clause-narrows c = narrows_on c.args.trail.now c.raise.new.trail c.lower.new.trail c.raise.ensures c.lower.ensures

pub returns-clause-narrows : goal.returns-clause-narrows
returns-clause-narrows c = narrows_on c.args.trail.now c.raise.new.trail c.lower.new.trail c.raise.ensures c.lower.ensures
