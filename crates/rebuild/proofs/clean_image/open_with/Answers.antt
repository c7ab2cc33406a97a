use Rattle.std.proofs.Common.{◌∙◌, sym, subst}
use Rattle.blk_base.specs.declared.geometry.Geometry.{Geometry}
use Rattle.rebuild.proofs.OpenLaws.{check_failed, fits_with, opened_right}
use Rattle.rebuild.specs.Openings.{CheckFails, OpenWithFails}
use Rattle.slab_reading.proofs.FoundLaws.{passed_on}
use Rattle.rebuild.proofs.clean_image.open_with.Goals as goal

pub returns-in_err-check_counts-clause-fault : goal.returns-in_err-check_counts-clause-fault
returns-in_err-check_counts-clause-fault g c =
    passed_on c.from_residual-in_err-check_counts.result
    (OpenWithFails g.D.Disk.trust c.args.head.now c.args.window.now (g.D.Disk.seen c.args.device.now) (g.D.Disk.seen c.read_contents.new.device))
    c.in_err-check_counts.field-0.0 c.from_residual-in_err-check_counts.ensures.1
    (check_failed _ c.args.head.now c.args.window.now _ _ c.in_ok-contents.contents c.in_err-check_counts.field-0.0 c.in_ok-contents.ensures.contents
    (subst (λ (h : Geometry). CheckFails h c.in_ok-contents.contents c.in_err-check_counts.field-0.0) c.of.ensures c.in_err-check_counts.ensures.fault))

pub returns-clause-opened : goal.returns-clause-opened
returns-clause-opened g c =
    opened_right _ c.args.head.now c.args.window.now _ _ c.in_ok-contents.contents c.in-Ok.opened c.in_ok-contents.ensures.contents
    (λ image same has_map has_counts. c.in_ok-check_counts.ensures.all image (same ∙ sym c.of.ensures) has_map has_counts) c.in-Ok.ensures.start

pub returns-clause-fits : goal.returns-clause-fits
returns-clause-fits g c =
    fits_with _ c.args.head.now c.args.window.now _ _ c.in_ok-contents.contents c.in-Ok.opened c.requires.sizes c.in_ok-contents.ensures.contents c.in-Ok.ensures.head c.in-Ok.ensures.counters
    c.in-Ok.ensures.commits c.in-Ok.ensures.pages c.in-Ok.ensures.tree_pages
