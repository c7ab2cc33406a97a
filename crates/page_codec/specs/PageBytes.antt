-- A page of the block map as bytes. The reader goes by the same definitions as the writer.
use Rattle.std.specs.Prelude.{ℕ, List, [], ◌∷◌, ◌++◌, flat_map}
use Rattle.blk_base.specs.declared.place.Mapping.{Mapping}
use Rattle.byte_fields.specs.Fields.{le}
use Rattle.byte_fields.specs.Mappings.{mapping_bytes}
use Rattle.page_codec.specs.declared.forms.PageHead.{PageHead}

-- a page's first 36 bytes: "VMP1", the image's nonce, the page's own block, its tree, its level, two zeros, its number
-- on that level, and eight zeros
unfoldable pub head_bytes : PageHead → List ℕ
head_bytes head =
    (86 ∷ 77 ∷ 80 ∷ 49 ∷ []) ++ le 8 head.geometry.nonce ++ le 8 head.at.0 ++ le 1 head.page.tree ++ le 1 head.page.level ++ le 2 0 ++ le 4 head.page.index ++ le 8 0

-- a page, 4096 bytes: behind its head its 812 mappings
unfoldable pub page_bytes : PageHead → List Mapping → List ℕ
page_bytes head mappings = head_bytes head ++ flat_map mapping_bytes mappings
