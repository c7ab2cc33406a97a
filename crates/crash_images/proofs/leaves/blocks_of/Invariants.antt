use Rattle.std.proofs.Common.{take}
use Rattle.std.specs.BTreeMap.{get}
use Rattle.blk_base.specs.Pages.{page_order}
use Rattle.blk_base.specs.declared.place.PageId.{PageId}
use Rattle.crash_images.specs.Values.{LinkTo}
use Rattle.crash_images.proofs.leaves.blocks_of.Given as goal

abbrev pub invariant-loop-link : goal.invariant-loop-link
invariant-loop-link l = (page : PageId) → LinkTo (take l.link-index l.links) page (get page_order l.blocks page)
