-- An empty image of the default sizes, and entries over it: a leaf, two addresses that are mapped to one block, and one of
-- them that is discarded.
use Rattle.std.proofs.Common.{ℕ, ◌≡◌, ◌+◌, ◌/◌, ◌%◌, ◌<◌, ◌≤◌, List, [], ◌∷◌, Option, Some, None, length, Ok, refl, sym, ◌∙◌, ap, subst, inl, inr, arith}
use Rattle.std.proofs.Math.Nat.{mod-lt}
use Rattle.blk_base.specs.Counters.{limit_of, sectors_per_slab}
use Rattle.blk_base.specs.Regions.{IsDataBlock, ReferenceBlock, SlabJournalSlot, needed_blocks, references_of}
use Rattle.blk_base.specs.Sectors.{sector}
use Rattle.blk_base.specs.declared.journal_entry.CommittedEntry.{CommittedEntry}
use Rattle.blk_base.specs.declared.journal_entry.Entry.{Entry}
use Rattle.blk_base.specs.declared.journal_entry.Entry.TheVariants.{Remap, NewPage}
use Rattle.blk_base.specs.declared.place.Mapping.{Mapping}
use Rattle.blk_base.specs.declared.place.Mapping.TheVariants.{Unmapped, Zero, At}
use Rattle.blk_base.specs.declared.place.Pbn.{Pbn}
use Rattle.blk_base.specs.Forms.{page, at_point, pbn}
use Rattle.blk_base.proofs.Example.{place}
use Rattle.byte_fields.specs.Fields.{number_at}
use Rattle.disk_model.specs.Images.{IsImage}
use Rattle.disk_model.specs.Log.{Blocks, block_at}
use Rattle.disk_model.proofs.OneImageLaws.{one_image-is_image, one_image-opening}
use Rattle.disk_model.proofs.LookedLaws.{one_in-all}
use Rattle.image_model.proofs.EmptyLaws.{has_nothing, no_updates, sizes_of_image}
use Rattle.image_model.proofs.ZeroLaws.{no_commit, no_slab_sector}
use Rattle.image_model.proofs.Example.{small}
use Rattle.image_model.specs.Counts.{IsKept, Stores, block_of_data, commit_at, count_after, counter_of}
use Rattle.image_model.specs.Empty.{HasNothing, IsEmpty, empty_super}
use Rattle.image_model.specs.Maps.{Image}
use Rattle.image_model.specs.Pages.{address_count}
use Rattle.image_model.specs.Sound.{IsDataPlace, image_of}
use Rattle.image_model.specs.Looked.{is_looked_at}
use Rattle.journal_stops.specs.Mapped.{AreRooted, later_image, mapping_after, page_after}
use Rattle.slab_codec.specs.Grammar.{IsSlabSector}
use Rattle.slab_codec.specs.declared.forms.SlabEntry.{SlabEntry}
use Rattle.count_laws.specs.Closed.{HasClosedCounts}
use Rattle.count_laws.specs.Counters.{CountsStand, points_at}
use Rattle.count_laws.specs.Points.{ArePointed}
use Rattle.count_laws.specs.RunningCount.{RunningCount}
use Rattle.count_laws.specs.Turns.{AreInTurn, ComesInTurn, HasMappingsAfter, IsPageAfter, IsUnusedAfter}
use Rattle.count_laws.proofs.KeepLaws.{counts_begin, counts_grow}
use Rattle.count_laws.proofs.StepLaws.{in_turn_rooted, new_mapping, new_trees_back, remap_other, remap_trees_back}
use Rattle.count_laws.proofs.ImageLaws.{closed_counter}
use Rattle.count_laws.proofs.StoredLaws.{stored}
use Rattle.count_laws.proofs.TurnLaws.{addresses_fit, one_number_after, opened_has, opened_mapping, running_count}
use Rattle.count_laws.proofs.UnusedLaws.{none_is_unused}

abbrev pub remap : ℕ → Mapping → Mapping → Entry
remap address old new = Remap (record { 0 = address }) old new

-- the entries, the newest first
abbrev pub leaf : Entry
leaf = NewPage (page 0 0 0) (pbn 85)

abbrev pub one : List CommittedEntry
one = at_point leaf 512 ∷ []

abbrev pub two : List CommittedEntry
two = at_point (remap 5 Unmapped (At (pbn 86))) 514 ∷ one

abbrev pub three : List CommittedEntry
three = at_point (remap 6 Unmapped (At (pbn 86))) 516 ∷ two

abbrev pub four : List CommittedEntry
four = at_point (remap 5 (At (pbn 86)) Zero) 518 ∷ three

pub are_pointed : ArePointed 512 four
are_pointed = (omega arith, refl, (omega arith, refl, (omega arith, refl, (omega arith, refl, tt))))

pub data_block : (offset : ℕ) → offset < 64 → IsDataBlock small (85 + offset)
data_block offset below = record { slab = 0; offset = offset; inside = (omega arith, below); stands = omega arith }

module _ (blocks : Blocks) (empty : IsEmpty small blocks) where
  abbrev pub opened : Image
  opened = image_of (empty_super small) blocks []

  nothing : HasNothing opened
  nothing = has_nothing small blocks empty

  none_kept : (slab : ℕ) (entry : SlabEntry) → slab < 1 → IsKept small blocks slab entry → ⊥
  none_kept slab entry inside is =
      no_slab_sector 1 slab 64 is.number is.sequence is.entries is.inside.1
      (subst (λ (block : List ℕ). IsSlabSector 1 slab 64 is.number (sector is.number block) is.sequence is.entries)
      (empty.made (SlabJournalSlot slab is.slot) (inside, is.inside.0) tt) is.valid)

  pub closed : HasClosedCounts opened
  closed = record {
    sizes = sizes_of_image blocks (empty_super small) empty.accepted;
    counts = λ place there. (0, nothing.stored place there, nothing.mapped (block_of_data small place));
    updates = λ place point there is. absurd (no_updates small blocks none_kept place point there is);
    unshared = λ at address is mapped. let none = nothing.unmapped address in absurd (cc (mapped, none));
  }

  pub fits : 1000 ≤ address_count small
  fits = addresses_fit small closed.sizes

  -- Before them there is nothing.

  pub first_has : (block : Pbn) → HasMappingsAfter opened [] block 0
  first_has block = opened_has opened block 0 (nothing.mapped block)

  pub first_unused : (block : Pbn) → IsUnusedAfter opened [] block
  first_unused block = none_is_unused opened [] block (first_has block)

  pub leaf_gone : page_after opened [] (page 0 0 0) ≡ None
  leaf_gone = through (page_after opened [] (page 0 0 0)) refl
    where
      through : (o : Option Pbn) → page_after opened [] (page 0 0 0) ≡ o → o ≡ None
      through (Some at) there = absurd ((first_unused at).no_page (page 0 0 0, omega arith, there))
      through None there = refl

  -- They come in turn.

  pub leaf_turn : ComesInTurn opened [] leaf
  leaf_turn = (record { address = 0; inside = omega arith; level = omega arith; there = refl }, (pbn 9, refl), leaf_gone, data_block 0 (omega arith), first_unused (pbn 85))

  pub one_turn : AreInTurn opened one
  one_turn = (leaf_turn, tt)

  pub one_maps_none : (a : ℕ) → mapping_after opened one a ≡ Unmapped
  one_maps_none a =
      new_mapping opened [] tt (record { 0 = 512 }) (page 0 0 0) (pbn 85) leaf_turn a ∙ opened_mapping opened a ∙ nothing.unmapped a

  pub one_tree : (block : Pbn) → IsPageAfter opened one block → block ≡ pbn 85
  one_tree block is = elim (new_trees_back opened [] tt (record { 0 = 512 }) (page 0 0 0) (pbn 85) leaf_turn block is) [
    | inl same ↦ same
    | inr before ↦ absurd ((first_unused block).no_page before)
  ]

  no_tree_at_86 : IsPageAfter opened one (pbn 86) → ⊥
  no_tree_at_86 is = let same = ap (λ (x : Pbn). x.0) (one_tree (pbn 86) is) in omega (arith, same)

  abbrev runs : (entries : List CommittedEntry) → AreInTurn opened entries → ArePointed 512 entries → (block : Pbn) → RunningCount opened entries block 0
  runs entries turns pointed block = running_count opened 512 entries block 0 fits turns pointed (first_has block)

  pub two_turn : AreInTurn opened two
  two_turn = ((omega arith, (pbn 85, refl), sym (one_maps_none 5), (data_block 1 (omega arith), no_tree_at_86, room)), one_turn)
    where
      room : (count : ℕ) → HasMappingsAfter opened one (pbn 86) count → count < limit_of small
      room count has =
          let running = runs one one_turn (omega arith, refl, tt) (pbn 86) in
          let same = one_number_after opened one (pbn 86) count running.now has running.has in
          let sum = running.sum in
          omega (arith, same, sum)

  two_rooted : AreRooted opened one
  two_rooted = in_turn_rooted opened one one_turn

  six_unmapped : mapping_after opened two 6 ≡ Unmapped
  six_unmapped =
      remap_other opened one two_rooted (record { 0 = 514 }) (record { 0 = 5 }) Unmapped (At (pbn 86)) two_turn.0 6 (λ (same : ◌≡◌ {A = ℕ} 6 5). omega (arith, same))
      ∙ one_maps_none 6

  pub three_turn : AreInTurn opened three
  three_turn = ((omega arith, (pbn 85, refl), sym six_unmapped, (data_block 1 (omega arith), no_tree, room)), two_turn)
    where
      no_tree : IsPageAfter opened two (pbn 86) → ⊥
      no_tree is =
          no_tree_at_86 (remap_trees_back opened one two_rooted (record { 0 = 514 }) (record { 0 = 5 }) Unmapped (At (pbn 86)) two_turn.0 (pbn 86) is)

      room : (count : ℕ) → HasMappingsAfter opened two (pbn 86) count → count < limit_of small
      room count has =
          let running = runs two two_turn (omega arith, refl, (omega arith, refl, tt)) (pbn 86) in
          let same = one_number_after opened two (pbn 86) count running.now has running.has in
          let sum = running.sum in
          omega (arith, same, sum)

  pub four_turn : AreInTurn opened four
  four_turn = ((omega arith, (pbn 85, refl), refl, tt), three_turn)

  -- The leaf's block has one mapping after them, and so has the block of both addresses, of which one was discarded.

  pub leaf_count : (runs four four_turn are_pointed (pbn 85)).now ≡ 1
  leaf_count = let sum = (runs four four_turn are_pointed (pbn 85)).sum in omega (arith, sum)

  pub block_count : (runs four four_turn are_pointed (pbn 86)).now ≡ 1
  block_count = let sum = (runs four four_turn are_pointed (pbn 86)).sum in omega (arith, sum)

  -- Their counts stand by the window alone, and the stored count of the block is 1.

  pub commits_before : (slab n : ℕ) → slab < 1 → n < sectors_per_slab small → commit_at small blocks slab n < 512
  commits_before slab n in_slab below =
      let in_block : n / 8 < references_of small = omega (arith, below) in
      let none = ap (number_at 8 0) (ap (sector (n % 8)) (empty.made (ReferenceBlock slab (n / 8)) (in_slab, in_block) tt)) ∙ no_commit (n % 8) (mod-lt n (omega arith)) in
      omega (arith, none)

  -- so it is in the sector behind the last counter
  pub commit_behind : commit_at small blocks 0 1 < 512
  commit_behind =
      let none = ap (number_at 8 0) (ap (sector 1) (empty.made (ReferenceBlock 0 0) (omega arith, omega arith) tt)) ∙ no_commit 1 (omega arith) in
      omega (arith, none)

  pub counter_none : (offset : ℕ) → offset < 64 → counter_of opened (place offset) ≡ 0
  counter_none offset below =
      let there : IsDataPlace small (place offset) = (omega arith, below) in
      (closed_counter opened closed (place offset) there 0 (nothing.stored (place offset) there)).0

  module _ (room : needed_blocks small ≤ length blocks) (whole : (b : ℕ) → b < length blocks → length (block_at blocks b) ≡ 4096) where
    pub counts_stand : CountsStand blocks [] opened four four
    counts_stand = counts_grow blocks [] opened four [] [] 512 are_pointed commits_before (counts_begin blocks [] opened room (one_in-all (is_looked_at opened.geometry) blocks [] blocks (one_image-opening blocks whole)) closed.updates)

    is_image : IsImage blocks [] blocks
    is_image = one_image-is_image blocks [] blocks (one_image-opening blocks whole)

    pub stored_count : Stores (later_image opened blocks four) (place 1) (Ok 1)
    stored_count =
        let none = counter_none 1 (omega arith) in
        let running = runs four four_turn are_pointed (pbn 86) in
        subst (λ (n : ℕ). Stores (later_image opened blocks four) (place 1) (Ok n)) block_count
        (stored blocks [] opened four four counts_stand blocks is_image room [] 512 refl are_pointed (place 1) (omega arith, omega arith) running.now
        (omega (arith, none))
        (subst (λ (n : ℕ). count_after 254 n (points_at small four (place 1)) ≡ Ok running.now) (sym none) running.counted))
