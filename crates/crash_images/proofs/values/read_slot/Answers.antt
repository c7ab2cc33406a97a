use Rattle.std.proofs.Common.{arith}
use Rattle.blk_base.specs.Pages.{leaf_of}
use Rattle.crash_images.proofs.ValueLaws.{link_inside, slot_right, slot_undamaged}
use Rattle.crash_images.proofs.values.read_slot.Goals as goal

pub read_block-requires : goal.read_block-requires
read_block-requires g c = let inside = link_inside c.args.found.now c.requires.fits (leaf_of c.args.at.0) c.args.leaf c.requires.leaf in let room = c.requires.room in omega (arith, inside, room)

pub returns-in-Ok-read_page-clause-mapping : goal.returns-in-Ok-read_page-clause-mapping
returns-in-Ok-read_page-clause-mapping g c =
    rw (c.get.ensures.value, c.slot.ensures.value)
    (slot_right _ _ _ c.args.found.now c.requires.room c.requires.fits c.args.at.0 c.args.leaf c.requires.leaf c.in-Ok.bytes c.in-Ok.ensures.read c.read_page.new.into
    (rw c.leaf.ensures at c.in-Ok-read_page.ensures.ok))

pub returns-in-Ok-read_page-clause-data : goal.returns-in-Ok-read_page-clause-data
returns-in-Ok-read_page-clause-data g c =
    rw c.get.ensures.value (c.in-Ok-read_page.ensures.data c.requires.fits.leads c.slot.result c.slot.ensures.inside)

pub returns-in-Err-clause-undamaged : goal.returns-in-Err-clause-undamaged
returns-in-Err-clause-undamaged g c =
    slot_undamaged _ _ _ c.args.found.now c.requires.room c.requires.fits c.args.at.0 c.args.leaf c.requires.leaf c.in-Ok.bytes c.in-Ok.ensures.read c.in-Err.fault
    (rw c.leaf.ensures at c.in-Err.ensures.fault)
