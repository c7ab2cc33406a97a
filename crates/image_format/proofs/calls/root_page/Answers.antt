use Rattle.std.proofs.Common.{ℕ, replicate, ◌∙◌, ap}
use Rattle.blk_base.specs.Pages.{root_page}
use Rattle.blk_base.specs.declared.place.Mapping.TheVariants.{Unmapped}
use Rattle.blk_base.specs.declared.place.PageId.{PageId}
use Rattle.page_codec.specs.PageBytes.{page_bytes}
use Rattle.image_format.proofs.calls.root_page.Goals as goal

pub returns : goal.returns
returns c =
    let g = c.args.layout.now.geometry in
    c.encode_unmapped.ensures
    ∙ ap (λ (page : PageId). page_bytes (record { geometry = g; page = page; at = c.root.result }) (replicate 812 Unmapped)) c.root_page.ensures.page
    ∙ ap (λ (at : ℕ). page_bytes (record { geometry = g; page = root_page g c.args.tree; at = record { 0 = at } }) (replicate 812 Unmapped)) c.root.ensures.block
