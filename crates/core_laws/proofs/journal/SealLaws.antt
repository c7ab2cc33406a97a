-- What a block has that the journal seals.
use Rattle.std.proofs.Common.{◌≡◌, ◌+◌, ◌∷◌, [], List, length, min, refl, sym, ◌∙◌, ap}
use Rattle.blk_base.specs.declared.place.ZoneId.TheVariants as id
use Rattle.blk_base.specs.declared.sizes.TheConstants.{JOURNAL_ENTRIES}
use Rattle.core_laws.proofs.Common.{JournalZone, Post, SealedBlock, Seals, Sizes, Trace, Vio, ZoneData}
use Rattle.core_model.specs.JournalRules as journal
use Rattle.core_model.specs.JournalRules.{JournalEnds, all_again, next_block}
use Rattle.core_model.specs.Steps as steps
use Rattle.core_model.specs.Steps.{Act}
use Rattle.core_model.specs.declared.zones.ZoneData.TheVariants as at
use Rattle.data_vio.specs.declared.items.Item.TheVariants as item
use Rattle.data_vio.specs.declared.items.Stage.TheVariants as stage

-- all that wait, in their order, up to as many as a block may have
abbrev HasAll : JournalZone → List Post → Type 0
HasAll old posts =
    (block : SealedBlock) × (posts ≡ (id.Device, item.Block block) ∷ all_again old.waiting) × (block.vios ≡ old.filling)
    × (length block.vios ≡ min JOURNAL_ENTRIES (length old.filling + length old.waiting))

ends_with_all : (sizes : Sizes) (old : JournalZone) (b : SealedBlock) (new : JournalZone) (made : Trace) (posts : List Post) → JournalEnds sizes old b new made posts → made ≡ Seals ∷ [] → HasAll old posts
ends_with_all sizes old b new made posts (journal.commits v vs at are next n m q) is = absurd (let both = sym m ∙ is in cc)
ends_with_all sizes old b new made posts (journal.seals v vs at are fills due n m q) is =
    let count : length (v ∷ vs) ≡ length old.filling = ap length (sym fills) in
    (next_block old stage.Cover (v ∷ vs), q, sym fills, count ∙ due.all)
ends_with_all sizes old b new made posts (journal.rests at are fills n m q) is = absurd (let both = sym m ∙ is in cc)
ends_with_all sizes old b new made posts (journal.fails at n m q) is = absurd (let both = sym m ∙ is in cc)

pub seals_all : (sizes : Sizes) (old : JournalZone) (b : SealedBlock) (new : ZoneData) (posts : List Post) → Act sizes (at.Journal old) (item.Block b ∷ []) new (Seals ∷ []) posts → HasAll old posts
seals_all sizes old b new posts (steps.ends act) = ends_with_all sizes old b _ _ posts act refl
