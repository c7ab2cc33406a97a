-- Small images for rows about maps: what a slot says, two roots with their leaves, and a window of one entry.
use Rattle.std.proofs.Common.{ℕ, ◌≡◌, ◌+◌, ◌*◌, List, [], ◌∷◌, ◌++◌, get_or, replicate, refl, ap, arith}
use Rattle.blk_base.specs.Sectors.{zero_block}
use Rattle.blk_base.specs.declared.journal_entry.CommittedEntry.{CommittedEntry}
use Rattle.blk_base.specs.declared.journal_entry.Entry.{Entry}
use Rattle.blk_base.specs.declared.journal_entry.Entry.TheVariants.{Remap, NewPage}
use Rattle.blk_base.specs.declared.place.Mapping.{Mapping}
use Rattle.blk_base.specs.declared.place.Mapping.TheVariants.{Unmapped, At}
use Rattle.blk_base.specs.Forms.{page, pbn}
use Rattle.blk_base.proofs.Example.{root}
use Rattle.byte_fields.specs.Fields.{number_at}
use Rattle.page_codec.specs.PageBytes.{head_bytes}
use Rattle.image_model.specs.Maps.{Image, mapping_of, IsGoodPage}
use Rattle.image_model.proofs.Example.{small}

-- The mapping of a slot: a state and a block.
abbrev pub said : ℕ → ℕ → ℕ → List ℕ
said slot state block = replicate (36 + 5 * slot) 0 ++ state ∷ block ∷ 0 ∷ 0 ∷ 0 ∷ []

-- An image whose roots of the trees 0 and 1, blocks 9 and 10, lead to the leaves at 85 and 87. Address 5 is mapped to 86;
-- and so is address 1500, which is past the logical size.
abbrev pub blocks : List (List ℕ)
blocks = replicate 9 [] ++ said 0 1 85 ∷ said 0 1 87 ∷ replicate 74 [] ++ said 5 1 86 ∷ (7 ∷ 7 ∷ []) ∷ said 688 1 86 ∷ []

abbrev pub image : List CommittedEntry → Image
image window = record { geometry = small; blocks = blocks; window = window }

-- Its addresses.
pub mapped : mapping_of (image []) 5 ≡ At (pbn 86)
unfolding number_at
mapped = refl

-- A window on top: its newest entry for a slot counts, whatever the page says there.
abbrev pub logged : Entry → CommittedEntry
logged entry = record { entry = entry; point = record { 0 = 512 } }

abbrev pub remap : ℕ → Mapping → CommittedEntry
remap address new = logged (Remap (record { 0 = address }) Unmapped new)

-- It links pages too; an entry of an address whose leaf nothing links is one of no slot.
abbrev pub new_leaf : CommittedEntry
new_leaf = logged (NewPage (page 2 0 0) (pbn 89))

-- A page that can be read: one without mappings can.
abbrev pub with_root : List ℕ → List CommittedEntry → Image
with_root bytes window = record { geometry = small; blocks = replicate 9 [] ++ bytes ∷ []; window = window }

-- headed: a block of zeros is no page
pub bad_head : IsGoodPage (with_root zero_block []) root (pbn 9) → ⊥
unfolding zero_block head_bytes
bad_head good = let first : 0 ≡ 86 = ap (λ (bytes : List ℕ). get_or bytes 0 0) good.headed in omega (arith, first)
