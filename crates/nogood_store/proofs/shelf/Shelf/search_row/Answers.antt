use Rattle.std.proofs.Common.{◌≡◌, ◌+◌, ◌-◌, ℕ, sym, subst, arith}
use Rattle.nogood_store.specs.steps.Shelves.{FromPlace, IsSearching}
use Rattle.nogood_store.proofs.Shelves.{keeps_both, keeps_itself, place_searched, row_begins, row_ends}
use Rattle.nogood_store.proofs.shelf.Shelf.search_row.Goals as goal

-- all places are left
pub loop-at-init : goal.loop-at-init
loop-at-init c = record {
  kept = keeps_itself c.args.self.now;
  searched = λ s is.
      subst (λ (n : ℕ). IsSearching c.args.trail.now.job.model c.args.keep.now c.args.trail.now.state s c.args.self.now (FromPlace c.args.k n) c.args.least)
      (sym c.row_len-at.ensures)
      (row_begins c.args.trail.now.job.model c.args.keep.now c.args.trail.now.state s c.args.self.now c.args.k c.args.least is);
}

-- one less is left
pub loop-at-preserved : goal.loop-at-preserved
loop-at-preserved c =
    let m = c.args.trail.now.job.model in
    let st = c.args.trail.now.state in
    let e : c.loop-at.at ≡ c.loop-at.at - 1 + 1 = omega (arith, c.loop-at-test.true) in
    record {
      kept = keeps_both c.args.self.now c.loop-at.self c.look-least.new.self c.loop-at.invariant.kept c.look-least.ensures.kept;
      searched = λ s is.
          place_searched m c.args.keep.now st s c.loop-at.self c.look-least.new.self c.args.k (c.loop-at.at - 1) c.loop-at.least c.look-least.result
          (subst (λ (n : ℕ). IsSearching m c.args.keep.now st s c.loop-at.self (FromPlace c.args.k n) c.loop-at.least) e (c.loop-at.invariant.searched s is))
          c.look-least.ensures;
    }

-- none is left
pub returns-clause-searched : goal.returns-clause-searched
returns-clause-searched c = λ s is.
    let e : c.loop-at.at ≡ 0 = omega (arith, c.loop-at-test.false) in
    row_ends c.args.trail.now.job.model c.args.keep.now c.args.trail.now.state s c.loop-at.self c.args.k c.loop-at.least
    (subst (λ (n : ℕ). IsSearching c.args.trail.now.job.model c.args.keep.now c.args.trail.now.state s c.loop-at.self (FromPlace c.args.k n) c.loop-at.least)
    e (c.loop-at.invariant.searched s is))
