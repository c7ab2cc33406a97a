-- What a session leaves as it was stands as it was opened: its pages, with no entries, and its counts.
use Rattle.std.proofs.Common.{ℕ, ◌/◌, ◌%◌, ◌≡◌, ◌<◌, ◌≤◌, Bool, true, Some, List, [], refl, sym, ◌∙◌, subst, arith}
use Rattle.blk_base.proofs.RegionLaws.{apart, inside}
use Rattle.blk_base.specs.Regions.{DataBlock, IsDataBlock, Place, ReferenceBlock, SlabJournalSlot, IsPlace, block_of, references_of}
use Rattle.blk_base.specs.Sectors.{sector}
use Rattle.blk_base.specs.declared.geometry.Geometry.{Geometry}
use Rattle.blk_base.specs.declared.layout.DataPlace.{DataPlace}
use Rattle.byte_fields.specs.Fields.{number_at}
use Rattle.core_laws.proofs.Common.{IsAsOpened, IsSession, KeptStands, Session, Trace, log, opened_image}
use Rattle.core_laws.proofs.kept.OpenedBlocks.{page_left}
use Rattle.core_model.specs.Sessions.{IsKept}
use Rattle.count_laws.proofs.KeepLaws.{counts_begin}
use Rattle.count_laws.proofs.StoredLaws.{counters_inside}
use Rattle.count_laws.specs.Counters.{CountsStand, HasUpdate, IsCounted, IsKnown}
use Rattle.disk_model.proofs.ImageLaws.{all_weaker}
use Rattle.disk_model.specs.Log.{block_at, contents}
use Rattle.disk_model.specs.OneImages.{HasOneImageIn}
use Rattle.image_model.proofs.LookedLaws.{looked_high}
use Rattle.image_model.specs.Counts.{IsUpdate, commit_at, commit_of}
use Rattle.image_model.specs.Looked.{is_looked_at}
use Rattle.image_model.specs.Maps.{head_of, page_at}
use Rattle.image_model.specs.Sound.{IsDataPlace}
use Rattle.journal_stops.proofs.OpenedLaws.{page_with_none}
use Rattle.journal_stops.specs.Mapped.{slot_after}
use Rattle.page_codec.specs.Grammar.{HasHead, IsSlot}
use Rattle.session_stops.proofs.PageSteps.{begins}
use Rattle.session_stops.specs.Pages.{PagesStand}
use Rattle.vdo_model.specs.Journals.{Surely}

module _ (s : Session) (u : Trace) (session : IsSession s) (opened : IsAsOpened s) (left : KeptStands s u) where
  abbrev g : Geometry
  g = s.sizes.geometry

  -- the opened image by itself
  alone : (looked : ℕ → Bool) → HasOneImageIn looked s.image [] s.image
  alone looked = record {
    size = refl;
    whole = λ b below. let size = opened.one_image.size in opened.one_image.whole b (omega (arith, below, size));
    only = λ b below is. (refl, tt);
  }

  -- what its bytes have in such a block, each content of the block has
  moved : (P : List ℕ → Type 0) (b : ℕ) → IsKept s b → Surely s.image [] b P → Surely s.blocks (log s u) b P
  moved P b kept has =
      all_weaker (λ content. content ≡ block_at s.image b) P (contents s.blocks (log s u) b) (λ content same. subst P (sym same) has.0) (left b kept)

  -- The pages.

  pages_alone : PagesStand s.image [] (opened_image s) [] []
  pages_alone = begins (λ b. true) s.image [] (opened_image s) (alone (λ b. true)) opened.pages (λ page at there.
      let kept = page_left s opened session page at there in
      let room = opened.room in
      let size = opened.one_image.size in
      let low = kept.inside in
      (omega (arith, low, room, size), refl))

  pub pages_opened : PagesStand s.blocks (log s u) (opened_image s) [] []
  pages_opened page at linked =
      let there : page_at (opened_image s) page ≡ Some at = sym (page_with_none (opened_image s) page) ∙ linked in
      let kept = page_left s opened session page at there in
      let stands = pages_alone page at linked in
      record {
        headed = moved (HasHead (head_of (opened_image s) page at)) at.0 kept stands.headed;
        slots = λ slot small none.
            moved (λ content. IsSlot (head_of (opened_image s) page at) content slot (slot_after (opened_image s) [] page slot)) at.0 kept (stands.slots slot small none);
      }

  -- The counts.

  -- a block of a slab at another place is no data block
  no_data : (place : Place) → IsPlace g place → ((slab offset : ℕ) → DataBlock slab offset ≡ place → ⊥) → IsDataBlock g (block_of g place) → ⊥
  no_data place is other data_is = other data_is.slab data_is.offset (apart g (DataBlock data_is.slab data_is.offset) place data_is.inside is data_is.stands)

  reference_kept : (slab i : ℕ) → slab < g.slabs → i < references_of g → IsKept s (block_of g (ReferenceBlock slab i))
  reference_kept slab i in_slab below = record {
    inside = inside g (ReferenceBlock slab i) (in_slab, below);
    looked = looked_high g (block_of g (ReferenceBlock slab i)) (omega arith);
    behind = omega arith;
    unfreed = λ data_is. absurd (no_data (ReferenceBlock slab i) (in_slab, below) (λ of_slab offset same. cc) data_is);
  }

  slot_kept : (slab slot : ℕ) → slab < g.slabs → slot < g.slab_journal → IsKept s (block_of g (SlabJournalSlot slab slot))
  slot_kept slab slot in_slab below = record {
    inside = inside g (SlabJournalSlot slab slot) (in_slab, below);
    looked = looked_high g (block_of g (SlabJournalSlot slab slot)) (omega arith);
    behind = omega arith;
    unfreed = λ data_is. absurd (no_data (SlabJournalSlot slab slot) (in_slab, below) (λ of_slab offset same. cc) data_is);
  }

  module _ (closed : (place : DataPlace) (point : ℕ) → IsDataPlace g place → IsUpdate (opened_image s) place point → point ≤ commit_of (opened_image s) place) where
    counts_alone : CountsStand s.image [] (opened_image s) [] []
    counts_alone =
        let room = opened.room in
        let size = opened.one_image.size in
        counts_begin s.image [] (opened_image s) (omega (arith, room, size)) (alone (is_looked_at g)) closed

    pub counts_opened : CountsStand s.blocks (log s u) (opened_image s) [] []
    counts_opened = record {
      sectors = λ slab n in_slab small.
          moved (λ content. IsCounted (opened_image s) [] slab n (sector (n % 8) content)) (block_of g (ReferenceBlock slab (n / 8)))
          (reference_kept slab (n / 8) in_slab (counters_inside g n small)) (counts_alone.sectors slab n in_slab small);
      behind = λ slab n in_slab past small.
          moved (λ content. number_at 8 0 (sector (n % 8) content) ≤ commit_at g s.image slab n) (block_of g (ReferenceBlock slab (n / 8)))
          (reference_kept slab (n / 8) in_slab (omega (arith, small))) (counts_alone.behind slab n in_slab past small);
      updates = λ place point there has. absurd (omega (arith, has.1));
      only = λ slab slot number entry in_slab below few.
          moved (λ content. HasUpdate g slab number entry (sector number content) → IsKnown (opened_image s) [] slab entry) (block_of g (SlabJournalSlot slab slot))
          (slot_kept slab slot in_slab below) (counts_alone.only slab slot number entry in_slab below few);
    }
