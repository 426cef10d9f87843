use Rattle.std.proofs.Common.{◌≡◌, ◌∙◌, ap}
use Rattle.cfg_io.specs.Counts.{with_fault}
use Rattle.cfg_io.specs.steps.Counts.{AreBounded, with_room}
use Rattle.cfg_io.specs.FaultCounts.{counts_of}
use Rattle.cfg_io.proofs.CountLaws.{kept_fits, kept_in_room, count_in_room, fault_in_room, one_fault, Settles, settled}
use Rattle.cfg_io.proofs.disk_shelf.DiskShelfShelf.read.Given as given
use Rattle.cfg_io.proofs.disk_shelf.DiskShelfShelf.read.Goals as goal

pub returns-in_err-make_room-clause-bounded : goal.returns-in_err-make_room-clause-bounded
returns-in_err-make_room-clause-bounded g c = λ n. kept_fits n c.make_room.new.self.counts.items

-- there is room for the name
pub count_if_failed-requires : goal.count_if_failed-requires
count_if_failed-requires g c =
    rw c.in_ok-make_room.ensures.ok (kept_in_room c.args.name.now (counts_of c.self.inside.faults))

fits : (g : given.Over) (c : goal.After-count_if_failed g) → AreBounded c.args.self.now
fits g c = λ n. rw (← c.self.view_is) (kept_fits n c.self.inside.faults.counts.items)

room : (g : given.Over) (c : goal.After-count_if_failed g)
    → counts_of c.make_room.new.self ≡ with_room c.args.name.now c.args.self.now
room g c = c.in_ok-make_room.ensures.ok ∙ ap (with_room c.args.name.now) c.self.view_is

settles : (g : given.Over) (c : goal.After-count_if_failed g)
    → Settles c.args.name.now c.args.self.now (counts_of c.count_if_failed.new.faults)
settles g c = settled _ _ _ _ (fits g c) (room g c) c.count_if_failed.ensures.one

-- the count that there is room for rises
pub returns-clause-failed : goal.returns-clause-failed
returns-clause-failed g c = λ e.
    let raises = c.count_if_failed.ensures.failed e
    ∙ ap (with_fault c.args.name.now) (room g c) ∙ fault_in_room c.args.name.now c.args.self.now in
    (one_fault _ _ _ (fits g c) raises).rose

-- with another answer there is at most room for one more count, which is 0
pub returns-clause-uncounted : goal.returns-clause-uncounted
returns-clause-uncounted g c = λ other n.
    rw (c.count_if_failed.ensures.uncounted other, room g c) (count_in_room n c.args.name.now c.args.self.now)

pub returns-clause-later : goal.returns-clause-later
returns-clause-later g c = (settles g c).later

pub returns-clause-others : goal.returns-clause-others
returns-clause-others g c = (settles g c).others

pub returns-clause-bounded : goal.returns-clause-bounded
returns-clause-bounded g c = λ n. kept_fits n c.count_if_failed.new.faults.counts.items
