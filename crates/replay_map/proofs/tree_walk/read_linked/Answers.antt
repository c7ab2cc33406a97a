use Rattle.image_model.specs.Maps.{Image}
use Rattle.replay_map.proofs.ReadLaws.{failed_at_once, shown_by_one}
use Rattle.replay_map.proofs.SlotLaws.{page_inside}
use Rattle.replay_map.proofs.WholeWalkLaws.{own_fault}
use Rattle.replay_map.specs.Pages.{IsReadAs}
use Rattle.replay_map.specs.Walks.{IsFirstFault, IsLinked, IsUpTo, link_to}
use Rattle.replay_map.proofs.tree_walk.read_linked.Goals as goal

pub returns-in_default-clause-fault : goal.returns-in_default-clause-fault
returns-in_default-clause-fault g c = failed_at_once _ c.args.page.now.geometry _ _ c.args.page.now.at c.requires.stands c.in_default.ensures.failed

pub returns-in-Ok-read_page-clause-read : goal.returns-in-Ok-read_page-clause-read
returns-in-Ok-read_page-clause-read g c =
    shown_by_one g.D.Disk.trust c.args.page.now.geometry c.args.changes.now _ _ c.args.page.now.at c.in-Ok.block
    (λ (image : Image). IsReadAs image c.args.page.now c.read_page.new.into) (page_inside c.args.page.now.geometry c.args.page.now.at _ c.requires.room c.requires.stands) c.requires.stands
    c.in-Ok.ensures.read (λ image has. c.in-Ok-read_page.ensures.ok image (record { geometry = has.geometry; there = has.shows.0; newest = has.newest }))

pub returns-in-Err-clause-fault : goal.returns-in-Err-clause-fault
returns-in-Err-clause-fault g c =
    shown_by_one g.D.Disk.trust c.args.page.now.geometry c.args.changes.now _ _ c.args.page.now.at c.in-Ok.block
    (λ (image : Image). IsLinked image (link_to c.args.page.now) → IsFirstFault image (IsUpTo c.args.page.now.page 0) c.args.page.now.at c.in-Err.fault)
    (page_inside c.args.page.now.geometry c.args.page.now.at _ c.requires.room c.requires.stands) c.requires.stands c.in-Ok.ensures.read
    (λ image has linked. own_fault image c.args.page.now.page c.args.page.now.at c.in-Err.fault linked
    (c.in-Err.ensures.fault image (record { geometry = has.geometry; there = has.shows.0; newest = has.newest })))
