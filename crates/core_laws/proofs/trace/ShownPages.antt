-- The new pages that a stop leaves: each is an empty one.
use Rattle.std.proofs.Common.{◌+◌, ◌*◌, ◌≡◌, List, [], ◌∷◌, ◌++◌, length, flat_map, replicate, length-append, arith, ap, ◌∙◌, subst}
use Rattle.core_laws.proofs.Common.{AllByRecursion, Geometry, IsFair, Logged, Makes, Mapping, NewPage, PagesStand, Remaps, RightTrace, Session, Stands, Trace, every-front, journaled, length-replicate, log, new_pages}
use Rattle.blk_base.specs.declared.place.Mapping.TheVariants.{Unmapped}
use Rattle.blk_base.specs.declared.sizes.TheConstants.{PAGE_SLOTS}
use Rattle.blk_base.specs.Regions.{IsDataBlock}
use Rattle.blk_base.proofs.RegionLaws.{data_block_inside}
use Rattle.byte_fields.specs.Mappings.{mapping_bytes}
use Rattle.byte_fields.proofs.MappingLaws.{length-mapping}
use Rattle.page_codec.specs.PageBytes.{head_bytes, page_bytes}
use Rattle.page_codec.specs.declared.forms.PageHead.{PageHead}
use Rattle.page_codec.proofs.SpellingLaws.{length-head}
use Rattle.disk_model.specs.Images.{IsImage}
use Rattle.disk_model.specs.Log.{Blocks, block_at}
use Rattle.disk_model.proofs.ImageLaws.{block_of_image}
use Rattle.core_model.specs.PageLinks.{empty_page}
use Rattle.core_laws.proofs.trace.DeskOfTrace.{HasBlock, journaled_data}

-- how long a page is
mappings_length : (ms : List Mapping) → length (flat_map mapping_bytes ms) ≡ 5 * length ms
mappings_length [] = omega arith
mappings_length (m ∷ ms) = omega (arith, length-append (mapping_bytes m) (flat_map mapping_bytes ms), length-mapping m, mappings_length ms)

spelled_length : (head : PageHead) (ms : List Mapping) → length (page_bytes head ms) ≡ 36 + 5 * length ms
unfolding page_bytes
spelled_length head ms = omega (arith, length-append (head_bytes head) (flat_map mapping_bytes ms), length-head head, mappings_length ms)

pub page_length : (g : Geometry) (p : NewPage) → length (empty_page g p) ≡ 4096
unfolding empty_page
page_length g p = spelled_length _ (replicate PAGE_SLOTS Unmapped) ∙ ap (λ n. 36 + 5 * n) (length-replicate PAGE_SLOTS Unmapped)

module _ (s : Session) (u : Trace) (image : Blocks) (fair : IsFair s u) (is : IsImage s.blocks (log s u) image) where
  -- the page of an entry has an empty one in the image
  abbrev pub IsEmptyThere : NewPage → Type 0
  IsEmptyThere p = block_at image p.at.0 ≡ empty_page s.sizes.geometry p

  pub there : (p : NewPage) → IsDataBlock s.sizes.geometry p.at.0 → Stands s u p.at.0 (empty_page s.sizes.geometry p) → IsEmptyThere p
  there p inside stands = block_of_image s.blocks (log s u) image p.at.0 (empty_page s.sizes.geometry p) (omega (arith, data_block_inside s.sizes.geometry p.at.0 inside, fair.opened.room)) (page_length s.sizes.geometry p) stands is

  all_there : (es : List Logged) → AllByRecursion (HasBlock s) es → PagesStand s u es → AllByRecursion IsEmptyThere (new_pages es)
  all_there [] inside stand = tt
  all_there (Remaps e ∷ es) inside stand = all_there es inside.1 stand
  all_there (Makes p ∷ es) inside stand = (there p inside.0 stand.0, all_there es inside.1 stand.1)

  -- So each page is among entries that were handed in, where they stand.
  pub pages_shown : RightTrace s u → (newer es : List Logged) → journaled u ≡ newer ++ es → PagesStand s u es → AllByRecursion IsEmptyThere (new_pages es)
  pages_shown right newer es parts stand = all_there es (every-front (HasBlock s) newer es (subst (AllByRecursion (HasBlock s)) parts (journaled_data s u right))).1 stand
