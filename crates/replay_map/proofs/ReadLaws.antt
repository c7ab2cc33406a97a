-- Reads that follow each other, and what they show together.
use Rattle.std.proofs.Common.{ℕ, ◌≡◌, ◌<◌, ◌++◌, Bool, List, [], ◌∷◌, refl, sym, subst}
use Rattle.blk_base.specs.declared.geometry.Geometry.{Geometry}
use Rattle.blk_base.specs.declared.place.Mapping.{Mapping}
use Rattle.blk_base.specs.declared.place.Pbn.{Pbn}
use Rattle.disk_model.proofs.SinceLaws.{were_only_read, next_only_read, untouched_on, untouched_yet}
use Rattle.disk_model.specs.Log.{Blocks}
use Rattle.disk_model.specs.Seen.{Seen}
use Rattle.disk_model.specs.Trust.{Trust}
use Rattle.disk_model.specs.Since.{IsUntouched, WereRead, NextFailed}
use Rattle.image_model.specs.Maps.{Image}
use Rattle.replay_map.specs.Reads.{Reading, BlocksRead, IsPageBlock, ReadFails, Shows, HasReads, IsShown}
use Rattle.replay_map.specs.declared.changes.SlotId.{SlotId}

pub blocks_on : (trust : Trust) (g : Geometry) (before middle now : Seen) (older newer : List Reading) → BlocksRead trust g before middle older → BlocksRead trust g middle now newer
    → BlocksRead trust g before now (newer ++ older)
blocks_on trust g before middle now older [] old new = subst (λ (seen : Seen). BlocksRead trust g before seen older) (sym new) old
blocks_on trust g before middle now older (reading ∷ newer) old new =
    (new.0, blocks_on trust g before middle new.0 older newer old new.1, new.2, new.3, new.4)

pub blocks_untouched : (trust : Trust) (g : Geometry) (before now : Seen) (reads : List Reading) → BlocksRead trust g before now reads → IsUntouched trust.tells before now
blocks_untouched trust g before now [] same = subst (λ (seen : Seen). IsUntouched trust.tells before seen) (sym same) (untouched_yet trust.tells before)
blocks_untouched trust g before now (reading ∷ older) read =
    untouched_on trust.tells before read.0 now (blocks_untouched trust g before read.0 older read.1) (were_only_read trust reading.at.0 read.0 now (reading.bytes ∷ []) read.2)

pub failed_untouched : (trust : Trust) (g : Geometry) (before now : Seen) → ReadFails trust g before now → IsUntouched trust.tells before now
failed_untouched trust g before now failed =
    untouched_on trust.tells before failed.1 now (blocks_untouched trust g before failed.1 failed.0 failed.3) (next_only_read trust failed.2.0 failed.1 now [] failed.4)

pub newer_shown : (blocks : Blocks) (newer older : List Reading) → Shows blocks (newer ++ older) → Shows blocks newer
newer_shown blocks [] older shows = tt
newer_shown blocks (reading ∷ newer) older shows = (shows.0, newer_shown blocks newer older shows.1)

pub older_shown : (blocks : Blocks) (newer older : List Reading) → Shows blocks (newer ++ older) → Shows blocks older
older_shown blocks [] older shows = shows
older_shown blocks (reading ∷ newer) older shows = older_shown blocks newer older shows.1

module _ (trust : Trust) (g : Geometry) (changes : List (SlotId × Mapping)) where
  -- nothing is read
  pub shown_by_none : (seen : Seen) (Says : Image → Type 0) → ((image : Image) → HasReads g changes [] image → Says image) → IsShown trust g changes seen seen Says
  shown_by_none seen Says holds = ([], refl, holds)

  -- what is shown says more
  pub shown_as : (before now : Seen) (Says Tells : Image → Type 0) → IsShown trust g changes before now Says → ((image : Image) → Says image → Tells image)
      → IsShown trust g changes before now Tells
  shown_as before now Says Tells shown more = (shown.0, shown.1, λ image has. more image (shown.2 image has))

  -- with the sizes of the image
  pub sized : (before now : Seen) (Says : Image → Type 0) → IsShown trust g changes before now Says → IsShown trust g changes before now (λ image. Says image × (image.geometry ≡ g))
  sized before now Says shown = (shown.0, shown.1, λ image has. (shown.2 image has, has.geometry))

  -- what is shown by two parts
  pub shown_on : (before middle now : Seen) (Old New Both : Image → Type 0) → IsShown trust g changes before middle Old → IsShown trust g changes middle now New
      → ((image : Image) → Old image → New image → Both image) → IsShown trust g changes before now Both
  shown_on before middle now Old New Both old new together = (
    new.0 ++ old.0,
    blocks_on trust g before middle now old.0 new.0 old.1 new.1,
    λ image has.
        together image
        (old.2 image (record { geometry = has.geometry; newest = has.newest; shows = older_shown image.blocks new.0 old.0 has.shows }))
        (new.2 image (record { geometry = has.geometry; newest = has.newest; shows = newer_shown image.blocks new.0 old.0 has.shows })),
  )

  pub sized_on : (before middle now : Seen) (Old New Both : Image → Type 0) → IsShown trust g changes before middle Old → IsShown trust g changes middle now New
      → ((image : Image) → image.geometry ≡ g → Old image → New image → Both image) → IsShown trust g changes before now Both
  sized_on before middle now Old New Both old new together =
      shown_on before middle now (λ image. Old image × (image.geometry ≡ g)) New Both (sized before middle Old old) new (λ image known says. together image known.1 known.0 says)

  -- one block
  pub shown_by_one : (before now : Seen) (at : Pbn) (bytes : List ℕ) (Says : Image → Type 0) → at.0 < before.size → IsPageBlock g at → WereRead trust at.0 before now (bytes ∷ [])
      → ((image : Image) → HasReads g changes (record { at = at; bytes = bytes } ∷ []) image → Says image) → IsShown trust g changes before now Says
  shown_by_one before now at bytes Says inside stands read says = (record { at = at; bytes = bytes } ∷ [], (before, refl, read, inside, stands), says)

-- a read that failed, at once or behind others
pub failed_at_once : (trust : Trust) (g : Geometry) (before now : Seen) (at : Pbn) → IsPageBlock g at → NextFailed trust at.0 before now [] → ReadFails trust g before now
failed_at_once trust g before now at stands failed = ([], before, at, refl, failed, stands)

pub failed_behind : (trust : Trust) (g : Geometry) (changes : List (SlotId × Mapping)) (before middle now : Seen) (Says : Image → Type 0)
    → IsShown trust g changes before middle Says → ReadFails trust g middle now → ReadFails trust g before now
failed_behind trust g changes before middle now Says shown failed =
    (failed.0 ++ shown.0, failed.1, failed.2, blocks_on trust g before middle failed.1 shown.0 failed.0 shown.1 failed.3, failed.4, failed.5)
