-- The empty image with an update in its slab's journal: at the commit point it has closed counts, and one point above it hasn't.
use Rattle.std.proofs.Common.{ℕ, zero, suc, ◌≡◌, ◌+◌, ◌/◌, ◌%◌, ◌<◌, ◌≤◌, ◌^◌, List, [], ◌∷◌, Contains, length, set, Result, Ok, refl, sym, ◌∙◌, ap, subst, inl, inr, arith}
use Rattle.std.proofs.lemmas.Bool.{cases_eq}
use Rattle.std.proofs.lemmas.List.{get_or-set_other, get_or-set_same}
use Rattle.std.proofs.lemmas.List.Elements.{All-cons, All-nil}
use Rattle.blk_base.specs.Counters.{sector_of_offset}
use Rattle.blk_base.specs.Regions.{ReferenceBlock, Root, SlabJournalSlot, block_of, needed_blocks, references_of}
use Rattle.blk_base.specs.Sectors.{sector, zero_block}
use Rattle.blk_base.specs.declared.layout.DataPlace.{DataPlace}
use Rattle.blk_base.proofs.Example.{place}
use Rattle.byte_fields.specs.Fields.{number_at}
use Rattle.disk_model.specs.Log.{Blocks, block_at}
use Rattle.image_model.proofs.CountLaws.{none_in_nothing}
use Rattle.image_model.proofs.EmptyLaws.{all_counted, no_commits, not_shared, root_says, the_image}
use Rattle.image_model.proofs.Example.{small, small_is}
use Rattle.image_model.proofs.ZeroLaws.{no_slab_sector, of_eight}
use Rattle.image_model.specs.Counts.{IsKept, IsUpdate, Stores, block_of_data, commit_of, count_from, counter_of}
use Rattle.image_model.specs.Empty.{IsEmpty, empty_root, empty_super}
use Rattle.image_model.specs.Maps.{Image}
use Rattle.image_model.specs.Sound.{IsDataPlace, IsTrueOf}
use Rattle.recovery_laws.proofs.SuperLaws.{room_of_image}
use Rattle.slab_codec.proofs.ReadLaws.{one_reading, written}
use Rattle.slab_codec.specs.Grammar.{HoldsBlock, HoldsEntry, IsSlabSector}
use Rattle.slab_codec.specs.BlockBytes.{block_bytes, entries_in}
use Rattle.slab_codec.specs.declared.forms.SlabEntry.{SlabEntry}
use Rattle.count_laws.specs.Closed.{HasClosedCounts}
use Rattle.count_laws.specs.Counters.{entry_at}
use Rattle.count_laws.proofs.Example.{counter_none}

-- A block of a slab's journal with one update, of the first data block.

abbrev pub update : ℕ → SlabEntry
update n = entry_at (place 0) n

abbrev pub journal_with : ℕ → List ℕ
journal_with n = block_bytes 1 7 0 (update n ∷ [])

holds : (n : ℕ) → n < 2 ^ 64 → HoldsBlock 64 7 (update n ∷ [])
holds n below = record { named = omega arith; few = omega arith; each = All-cons (HoldsEntry 64) (update n) [] (below, omega arith, omega arith) (All-nil (HoldsEntry 64)) }

-- each entry of one of its sectors is this update
pub only_entry : (n number s : ℕ) (entries : List SlabEntry) (entry : SlabEntry) → n < 2 ^ 64 → number < 8
    → IsSlabSector 1 0 64 number (sector number (journal_with n)) s entries → Contains entries entry → entry ≡ update n
only_entry n number s entries entry within below is listed =
    let same = (one_reading 1 0 64 number (sector number (journal_with n)) s 7 entries (entries_in number (update n ∷ [])) is (written 1 0 64 7 (update n ∷ []) number (holds n within) below)).1 in
    of_eight (λ k. Contains (entries_in k (update n ∷ [])) entry → entry ≡ update n)
    alone none none none none none none none number below (subst (λ (list : List SlabEntry). Contains list entry) same listed)
  where
    alone : Contains (update n ∷ []) entry → entry ≡ update n
    alone (zero, inside, is) = sym is
    alone (suc k, inside, is) = absurd (omega (arith, inside))

    none : Contains [] entry → entry ≡ update n
    none has = absurd (none_in_nothing entry has)

-- The image with such a block in slot 0 of its slab's journal.

module _ (blocks : Blocks) (empty : IsEmpty small blocks) (n : ℕ) (within : n < 2 ^ 64) where
  abbrev after : Blocks
  after = set blocks 150 (journal_with n)

  abbrev image : Image
  image = the_image small after

  wide : needed_blocks small ≤ length blocks
  wide = room_of_image blocks (empty_super small) empty.accepted

  there : block_at after 150 ≡ journal_with n
  there = get_or-set_same blocks 150 (journal_with n) zero_block (let room = wide in omega (arith, room))

  as_before : (b : ℕ) → (b ≡ 150 → ⊥) → block_at after b ≡ block_at blocks b
  as_before b other = get_or-set_other blocks 150 b (journal_with n) zero_block other

  roots : (tree : ℕ) → tree < 60 → block_at after (block_of small (Root tree)) ≡ empty_root small tree
  roots tree below = as_before (block_of small (Root tree)) (λ same. omega (arith, same, below)) ∙ empty.made (Root tree) below tt

  counters : (slab i : ℕ) → slab < 1 → i < references_of small → block_at after (block_of small (ReferenceBlock slab i)) ≡ zero_block
  counters slab i one below =
      as_before (block_of small (ReferenceBlock slab i)) (λ same. omega (arith, same, one, below)) ∙ empty.made (ReferenceBlock slab i) (one, below) tt

  only : (slab : ℕ) (entry : SlabEntry) → slab < 1 → IsKept small after slab entry → entry ≡ update n
  only (suc slab) entry one is = absurd (omega (arith, one))
  only zero entry one is = elim (cases_eq is.slot 0) [
    | inl first ↦
        let at : block_of small (SlabJournalSlot 0 is.slot) ≡ 150 = omega (arith, first) in
        only_entry n is.number is.sequence is.entries entry within is.inside.1
        (subst (λ (block : List ℕ). IsSlabSector 1 0 64 is.number (sector is.number block) is.sequence is.entries) (ap (block_at after) at ∙ there) is.valid) is.listed
    | inr other ↦
        let zeros = as_before (block_of small (SlabJournalSlot 0 is.slot)) (λ same. other (omega (arith, same))) ∙ empty.made (SlabJournalSlot 0 is.slot) (one, is.inside.0) tt in
        absurd (no_slab_sector 1 0 64 is.number is.sequence is.entries is.inside.1
        (subst (λ (block : List ℕ). IsSlabSector 1 0 64 is.number (sector is.number block) is.sequence is.entries) zeros is.valid))
  ]

  only_point : (x : DataPlace) (point : ℕ) → IsDataPlace small x → IsUpdate image x point → point ≡ n
  only_point x point inside (inl kept) = ap (λ (entry : SlabEntry). entry.point.0) (only x.slab _ inside.0 kept)
  only_point x point inside (inr (committed, has, updates)) = absurd (none_in_nothing committed has)

  kept : IsKept small after 0 (update n)
  kept = record {
    slot = 0;
    number = 0;
    inside = (omega arith, omega arith);
    sequence = 7;
    entries = update n ∷ [];
    valid = subst (λ (block : List ℕ). IsSlabSector 1 0 64 0 (sector 0 block) 7 (update n ∷ [])) (sym there) (written 1 0 64 7 (update n ∷ []) 0 (holds n within) (omega arith));
    listed = (0, omega arith, refl);
  }

  counter_zero : (offset : ℕ) → offset < 64 → counter_of image (place offset) ≡ 0
  counter_zero offset below =
      ap (λ (block : List ℕ). number_at 1 (8 + offset % 504) (sector (sector_of_offset small offset % 8) block))
      (as_before (block_of small (ReferenceBlock 0 (sector_of_offset small offset / 8))) (λ same. omega (arith, same, below)))
      ∙ counter_none blocks empty offset below

  -- an update at 0 is counted by the commit points, which are 0
  module _ (first : n ≡ 0) where
    stored : (offset : ℕ) → offset < 64 → Stores image (place offset) (Ok 0)
    stored offset below = record {
      points = [];
      updates = record {
        rising = tt;
        each = λ point. (λ has. absurd (none_in_nothing point has), λ is. absurd (let same = only_point (place offset) point (omega arith, below) is.1 in let above = is.0 in omega (arith, same, first, above)));
      };
      counted = ap (λ (c : ℕ). let it : Result ℕ ℕ = count_from 254 (commit_of image (place offset)) c [] in it) (counter_zero offset below);
    }

    true_at : (slab offset : ℕ) → IsDataPlace small (record { slab = slab; offset = offset }) → IsTrueOf image (record { slab = slab; offset = offset })
    true_at (suc slab) offset inside = let one = inside.0 in absurd (omega (arith, one))
    true_at zero offset inside = (0, stored offset inside.1, all_counted small after small_is (root_says small after roots) (block_of_data small (place offset)))

    closed_so : HasClosedCounts image
    closed_so = record {
      sizes = small_is;
      counts = λ x inside. true_at x.slab x.offset inside;
      updates = λ x point inside is. let same = only_point x point inside is in omega (arith, same, first);
      unshared = not_shared small after small_is (root_says small after roots);
    }

  -- one at 1 isn't
  above : n ≡ 1 → HasClosedCounts image → ⊥
  above second counts =
      let most = counts.updates (place 0) n (omega arith, omega arith) (inl kept) in
      let none = no_commits small after counters 0 0 (omega arith) (omega arith) in
      omega (arith, most, none, second)

-- HasClosedCounts: an update may be at the commit point, and not above it
at_the_commit_point : (blocks : Blocks) (empty : IsEmpty small blocks) → HasClosedCounts (the_image small (set blocks 150 (journal_with 0)))
at_the_commit_point blocks empty = closed_so blocks empty 0 (omega arith) refl

above_the_commit_point : (blocks : Blocks) (empty : IsEmpty small blocks) → HasClosedCounts (the_image small (set blocks 150 (journal_with 1))) → ⊥
above_the_commit_point blocks empty = above blocks empty 1 (omega arith) refl
