-- The one image that the log of the rows' session leaves at its end, and the one behind its close: the definitions hold
-- together, and an image shows what the session wrote.
use Rattle.std.proofs.Common.{ℕ, ◌≡◌, ◌+◌, ◌%◌, ◌<◌, ◌≤◌, List, [], ◌∷◌, true, length, set, refl, sym, ◌∙◌, ap, subst, arith}
use Rattle.std.proofs.Math.Nat.{mod-lt}
use Rattle.std.proofs.lemmas.List.{length-replicate}
use Rattle.blk_base.specs.Regions.{needed_blocks}
use Rattle.blk_base.specs.declared.geometry.Geometry.{Geometry}
use Rattle.blk_base.specs.declared.geometry.Super.{Super}
use Rattle.blk_base.specs.declared.journal_entry.CommittedEntry.{CommittedEntry}
use Rattle.blk_base.specs.declared.journal_entry.Entry.{Entry}
use Rattle.blk_base.specs.declared.place.Mapping.{Mapping}
use Rattle.blk_base.specs.declared.place.Mapping.TheVariants.{Zero, At}
use Rattle.blk_base.specs.Forms.{pbn}
use Rattle.blk_base.proofs.Example.{blank}
use Rattle.byte_fields.proofs.FieldLaws.{length-records}
use Rattle.disk_model.specs.declared.call.Call.TheVariants.{Flush}
use Rattle.disk_model.specs.Images.{HasOneImage, IsImage}
use Rattle.disk_model.specs.Log.{Blocks, block_at}
use Rattle.disk_model.proofs.OneImageLaws.{one_image-is_image, one_image-kept, one_image-write_flush}
use Rattle.disk_model.proofs.LookedLaws.{one_in-all, one_in-every}
use Rattle.image_layout.proofs.SpellingLaws.{super_size}
use Rattle.image_layout.specs.Superblock.{super_block}
use Rattle.image_model.specs.Empty.{IsEmpty, empty_super}
use Rattle.image_model.specs.Maps.{Image, mapping_of}
use Rattle.image_model.proofs.Example.{small, head_of_leaf, head_of_root}
use Rattle.journal_codec.proofs.ReadLaws.{length-sector_bytes}
use Rattle.journal_codec.specs.BlockBytes as journal
use Rattle.journal_codec.specs.BlockBytes.{block_bytes}
use Rattle.journal_stops.specs.Mapped.{later_image, mapping_after}
use Rattle.journal_stops.specs.Rings.{ring_slot_of}
use Rattle.journal_stops.specs.Sealed.{entries_of}
use Rattle.page_codec.proofs.SpellingLaws.{page_size}
use Rattle.recovery_laws.proofs.SuperLaws.{room_of_image}
use Rattle.sector_records.proofs.SectorLaws.{few_in}
use Rattle.sector_records.specs.SectorBytes.{eight_sectors, sector_numbers, sector_of}
use Rattle.count_laws.proofs.Example.{four, opened}
use Rattle.count_laws.proofs.WriteExample.{written}
use Rattle.session_stops.specs.Beginnings.{IsToServe, head_in, opened_in}
use Rattle.session_stops.specs.Closings.{IsClosedImage, closed_head, closing_calls}
use Rattle.session_stops.specs.Sessions.{ShowsSoundly}
use Rattle.session_stops.proofs.BeginRows.{log_opened, one}
use Rattle.session_stops.proofs.CloseLaws.{closed_one}
use Rattle.session_stops.proofs.CloseRows.{closed}
use Rattle.session_stops.proofs.PageRows.{empty_leaf, full_leaf, leaf_is_empty, leaf_is_full, linked_root, root_is, some_mapped, with_link}
use Rattle.session_stops.proofs.SessionRows.{all_is, block, block_is, entries, g, log_committed, log_counts, log_full, log_leaf, log_root, opened_is, sizes_are, start, to, with_counts}
use Rattle.session_stops.proofs.SoundImages.{rest_sound}

-- What is written are whole blocks.

journal_size : (nonce sequence head : ℕ) (list : List Entry) → length (block_bytes nonce sequence head list) ≡ 4096
unfolding block_bytes eight_sectors sector_numbers
journal_size nonce sequence head list =
    length-records (sector_of journal.entry_bytes (journal.head_bytes nonce sequence head) 24 list) 512 (λ n. length-sector_bytes nonce sequence head n (journal.entries_in n list) (few_in 24 n list)) (0 ∷ 1 ∷ 2 ∷ 3 ∷ 4 ∷ 5 ∷ 6 ∷ 7 ∷ [])

written_size : length written ≡ 4096
written_size = let zeros = length-replicate {A = ℕ} 4086 0 in omega (arith, zeros)

module _ (blocks : Blocks) (empty : IsEmpty small blocks) (whole : (b : ℕ) → b < length blocks → length (block_at blocks b) ≡ 4096) where
  abbrev base_to : IsToServe blocks
  base_to = to blocks empty whole

  wide : needed_blocks small ≤ length blocks
  wide = room_of_image blocks (empty_super small) empty.accepted

  journal_low : ring_slot_of (g blocks empty whole) (start blocks empty whole + 0) < 9
  journal_low =
      let slots = ap (λ (sizes : Geometry). sizes.journal) (sizes_are blocks empty whole) in
      let below : (start blocks empty whole + 0) % (g blocks empty whole).journal < (g blocks empty whole).journal = mod-lt (start blocks empty whole + 0) (omega (arith, slots)) in
      omega (arith, below, slots)

  -- Each write is flushed, so that nothing is pending.

  abbrev opened_blocks : Blocks
  opened_blocks = set blocks 0 (super_block (head_in blocks base_to))

  abbrev made_blocks : Blocks
  made_blocks = set opened_blocks 85 empty_leaf

  abbrev sealed_blocks : Blocks
  sealed_blocks = set made_blocks (ring_slot_of (g blocks empty whole) (start blocks empty whole + 0)) (block_is blocks empty whole)

  abbrev full_blocks : Blocks
  full_blocks = set sealed_blocks 85 full_leaf

  abbrev linked_blocks : Blocks
  linked_blocks = set full_blocks 9 linked_root

  abbrev last_blocks : Blocks
  last_blocks = set linked_blocks 149 written

  one_opened : HasOneImage blocks (log_opened blocks empty whole) opened_blocks
  one_opened =
      one_image-write_flush blocks [] blocks (record { 0 = 0 }) (super_block (head_in blocks base_to)) (let room = wide in omega (arith, room)) (super_size (head_in blocks base_to))
      (one blocks empty whole)

  one_made : HasOneImage blocks (log_leaf blocks empty whole) made_blocks
  one_made =
      one_image-write_flush blocks (log_opened blocks empty whole) opened_blocks (pbn 85) empty_leaf (let room = wide in omega (arith, room)) (page_size head_of_leaf blank leaf_is_empty.held.count) one_opened

  one_sealed : HasOneImage blocks (log_committed blocks empty whole) sealed_blocks
  one_sealed =
      one_image-write_flush blocks (log_leaf blocks empty whole) made_blocks (record { 0 = ring_slot_of (g blocks empty whole) (start blocks empty whole + 0) }) (block_is blocks empty whole)
      (let room = wide in let low = journal_low in omega (arith, room, low))
      (journal_size (g blocks empty whole).nonce (start blocks empty whole + 0) (start blocks empty whole) (entries blocks empty whole)) one_made

  one_full : HasOneImage blocks (log_full blocks empty whole) full_blocks
  one_full =
      one_image-write_flush blocks (log_committed blocks empty whole) sealed_blocks (pbn 85) full_leaf (let room = wide in omega (arith, room)) (page_size head_of_leaf some_mapped leaf_is_full.held.count) one_sealed

  one_linked : HasOneImage blocks (log_root blocks empty whole) linked_blocks
  one_linked =
      one_image-write_flush blocks (log_full blocks empty whole) full_blocks (pbn 9) linked_root (let room = wide in omega (arith, room)) (page_size head_of_root with_link root_is.held.count) one_full

  one_last : HasOneImage blocks (log_counts blocks empty whole) last_blocks
  one_last =
      one_image-write_flush blocks (log_root blocks empty whole) linked_blocks (pbn 149) written (let room = wide in omega (arith, room)) written_size one_linked

  last_is : IsImage blocks (log_counts blocks empty whole) last_blocks
  last_is = one_image-is_image blocks (log_counts blocks empty whole) last_blocks one_last

  -- It is sound, and shows what the session wrote: address 5 has zeros, and address 6 the data of block 86.

  shown : ShowsSoundly (opened_in blocks base_to) (head_in blocks base_to) last_blocks (entries_of (start blocks empty whole) (block blocks empty whole ∷ []))
  shown = rest_sound blocks base_to blocks (log_counts blocks empty whole) (block blocks empty whole ∷ []) (with_counts blocks empty whole) last_blocks last_is

  given : (address : ℕ) (mapping : Mapping) → mapping_after (opened blocks empty) four address ≡ mapping
      → mapping_of (later_image (opened_in blocks base_to) last_blocks shown.shows.shown.window) address ≡ mapping
  given address mapping is =
      shown.shows.mappings address
      ∙ subst (λ (o : Image). mapping_after o (entries_of (start blocks empty whole) (block blocks empty whole ∷ [])) address ≡ mapping) (sym (opened_is blocks empty whole))
      (subst (λ (list : List CommittedEntry). mapping_after (opened blocks empty) list address ≡ mapping) (all_is blocks empty whole) is)

  five_is_zero : mapping_of (later_image (opened_in blocks base_to) last_blocks shown.shows.shown.window) 5 ≡ Zero
  five_is_zero = given 5 Zero refl

  six_is_mapped : mapping_of (later_image (opened_in blocks base_to) last_blocks shown.shows.shown.window) 6 ≡ At (pbn 86)
  six_is_mapped = given 6 (At (pbn 86)) refl

  -- not with another superblock, another mapping or another window
  later_start : (now : Blocks) (list : List CommittedEntry) (s : ShowsSoundly (opened_in blocks base_to) (head_in blocks base_to) now list)
      → s.sound.head.start ≡ start blocks empty whole + 1 → ⊥
  later_start now list s late = let same = ap (λ (h : Super). h.start) s.is_head in omega (arith, same, late)

  other_mapping : (now : Blocks) (list : List CommittedEntry) (s : ShowsSoundly (opened_in blocks base_to) (head_in blocks base_to) now list) (address : ℕ)
      → (mapping_of (later_image (opened_in blocks base_to) now s.shows.shown.window) address ≡ mapping_after (opened_in blocks base_to) list address → ⊥) → ⊥
  other_mapping now list s address differs = differs (s.shows.mappings address)

  other_window : (now : Blocks) (list : List CommittedEntry) (s : ShowsSoundly (opened_in blocks base_to) (head_in blocks base_to) now list) (c : CommittedEntry)
      → s.shows.shown.window ≡ [] → s.sound.window ≡ c ∷ [] → ⊥
  other_window now list s c none some = let same = sym none ∙ s.same ∙ some in absurd (cc same)

  -- And the one behind its close, which is closed.

  closed_blocks : (now : Blocks) × HasOneImage blocks (closing_calls blocks base_to (block blocks empty whole ∷ []) (log_counts blocks empty whole)) now
  closed_blocks = (
    set last_blocks 0 (super_block (closed_head blocks base_to (block blocks empty whole ∷ []))),
    one_in-every blocks (closing_calls blocks base_to (block blocks empty whole ∷ []) (log_counts blocks empty whole))
        (set last_blocks 0 (super_block (closed_head blocks base_to (block blocks empty whole ∷ []))))
        (closed_one (λ b. true) blocks (log_counts blocks empty whole) blocks base_to (block blocks empty whole ∷ []) last_blocks (let room = wide in omega (arith, room))
        (one_in-all (λ b. true) blocks (Flush true ∷ log_counts blocks empty whole) last_blocks
        (one_image-kept blocks (log_counts blocks empty whole) last_blocks (Flush true) (λ b. tt) one_last))),
  )

  closed_there : IsClosedImage blocks (Flush true ∷ log_counts blocks empty whole) blocks base_to (block blocks empty whole ∷ []) closed_blocks.0
  closed_there =
      closed blocks empty whole closed_blocks.0
      (one_image-is_image blocks (closing_calls blocks base_to (block blocks empty whole ∷ []) (log_counts blocks empty whole)) closed_blocks.0 closed_blocks.1)
