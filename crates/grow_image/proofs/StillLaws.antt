-- Where an image was only read it is as it was; and what a stop leaves behind reads is what it leaves of the calls behind them.
use Rattle.std.proofs.Common.{ℕ, ◌≡◌, ◌⊎◌, Bool, true, List, [], ◌∷◌, ◌++◌, Ok, refl, sym, ◌∙◌, ap, ap₂, subst, inl, inr, arith, append_assoc}
use Rattle.blk_base.specs.Regions.{Superblock, JournalSlot, Root, IndexBlock, DataBlock, ReferenceBlock, SlabJournalSlot, block_of}
use Rattle.blk_base.specs.declared.geometry.Super.{Super}
use Rattle.disk_model.specs.declared.call.Call.{Call}
use Rattle.disk_model.specs.Images.{IsImage}
use Rattle.disk_model.specs.Log.{Blocks, Misses}
use Rattle.disk_model.specs.OneImages.{AreAlikeIn}
use Rattle.disk_model.specs.Since.{OnlyReads}
use Rattle.disk_model.proofs.LookedLaws.{one_in-since, one_in-unique}
use Rattle.image_format.proofs.StopLaws.{all_append}
use Rattle.image_model.proofs.LookedLaws.{looked_in_place}
use Rattle.image_model.specs.Looked.{HasOneImageButIndex, looked_in}
use Rattle.image_model.specs.Sound.{IsSound}
use Rattle.rebuild.proofs.KeptLaws.{reads_behind, reads_miss}
use Rattle.recovery_laws.proofs.AlikeLaws.{alike_super}
use Rattle.recovery_laws.proofs.SoundLaws.{room}
use Rattle.recovery_laws.specs.Kept.{image_in}
use Rattle.grow_image.proofs.GrownLaws.{is_grown}
use Rattle.grow_image.specs.Kept.{AreNewEmpty, AreStopsRight, IsGrown, MayStand}
use Rattle.grow_image.specs.Sizes.{grown_super}

pub same_super : (head : Super) → head.clean ≡ true → head ≡ grown_super head head.geometry.logical head.geometry.slabs
same_super head clean = ap (λ (c : Bool). record { geometry = head.geometry; clean = c; start = head.start }) clean

module _ (base : Blocks) (sound : IsSound base) where
  -- of the sizes that it has it has no new slab
  pub none_new : (now : Blocks) → AreNewEmpty (image_in base sound) sound.head.geometry.logical sound.head.geometry.slabs now
  none_new now (ReferenceBlock slab i) is new = let few = is.0 in absurd (omega (arith, few, new))
  none_new now (SlabJournalSlot slab s) is new = let few = is.0 in absurd (omega (arith, few, new))
  none_new now Superblock is none = absurd none
  none_new now (JournalSlot _) is none = absurd none
  none_new now (Root _) is none = absurd none
  none_new now (IndexBlock _) is none = absurd none
  none_new now (DataBlock _ _) is none = absurd none

  -- alike in all but the index
  pub alike_stands : (now : Blocks) → sound.head.clean ≡ true → AreAlikeIn (looked_in base) base now
      → IsGrown base sound sound.head.geometry.logical sound.head.geometry.slabs now
  alike_stands now clean alike =
      is_grown base now sound clean sound.head.geometry.logical sound.head.geometry.slabs (record { logical_more = omega arith; slabs_more = omega arith }) alike.size
      (λ b behind below looked.
      let wide = room base base sound in
      alike.same b (omega (arith, below, wide)) (looked_in_place base sound.head sound.opens.accepted b looked))
      (none_new now)
      (alike_super base now sound alike ∙ ap (λ (h : Super). Ok h) (same_super sound.head clean))

-- A part of two lists of calls in a row: some of the first, and all of the second; or some of the second.
split : (newer older calls reads : List Call) → calls ++ reads ≡ newer ++ older
    → ((rest : List Call) × (older ≡ rest ++ reads) × (calls ≡ newer ++ rest)) ⊎ ((rest : List Call) × (reads ≡ rest ++ older))
split [] older calls reads same = inl (calls, sym same, refl)
split (call ∷ newer) older [] reads same = inr (call ∷ newer, same)
split (call ∷ newer) older (other ∷ calls) reads same =
    let head : other ≡ call = cc same in
    let tail : calls ++ reads ≡ newer ++ older = cc same in
    elim (split newer older calls reads tail) [
      | inl (rest, is, parts) ↦ inl (rest, is, ap₂ (λ (c : Call) (cs : List Call). c ∷ cs) head parts)
      | inr behind ↦ inr behind
    ]

module _ (base : Blocks) (sound : IsSound base) (clean : sound.head.clean ≡ true) (logical slabs : ℕ) (opening : Blocks) (first : List Call)
    (one : HasOneImageButIndex opening first base) where
  -- reads alone
  read_stands : (older : List Call) (now : Blocks) → OnlyReads older → IsImage opening (older ++ first) now → MayStand base sound logical slabs now
  read_stands older now reads left =
      let still = one_in-since (looked_in base) opening first (older ++ first) base (older, refl, reads) one in
      inl (alike_stands base sound now clean (one_in-unique (looked_in base) opening (older ++ first) base now still left))

  pub reads_right : (reads : List Call) → OnlyReads reads → AreStopsRight base sound logical slabs opening first reads
  reads_right reads only = record {
    stands = λ newer older now same left. read_stands older now (reads_behind newer older (subst OnlyReads same only)) left;
    index = λ i below. reads_miss (block_of sound.head.geometry (IndexBlock i)) reads only;
  }

  -- and other calls behind them
  pub calls_right : (calls reads : List Call) → OnlyReads reads → AreStopsRight base sound logical slabs opening (reads ++ first) calls
      → AreStopsRight base sound logical slabs opening first (calls ++ reads)
  calls_right calls reads only right = record {
    stands = λ newer older now same left. elim (split newer older calls reads same) [
      | inl (rest, is, parts) ↦
          right.stands newer rest now parts
          (subst (λ (log : List Call). IsImage opening log now) (ap (λ (list : List Call). list ++ first) is ∙ append_assoc rest reads first) left)
      | inr (rest, is) ↦ read_stands older now (reads_behind rest older (subst OnlyReads is only)) left
    ];
    index = λ i below.
        let P : Call → Type 0 = λ call. Misses call (block_of sound.head.geometry (IndexBlock i)) in
        all_append P calls reads (right.index i below) (reads_miss (block_of sound.head.geometry (IndexBlock i)) reads only);
  }
