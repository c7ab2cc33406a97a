-- What leaves the counts standing: newer entries, a window that has more, and calls that write elsewhere.
use Rattle.std.proofs.Common.{ℕ, ◌≡◌, ◌⊎◌, ◌/◌, ◌%◌, ◌<◌, ◌≤◌, nat_le, Bool, List, [], ◌∷◌, ◌++◌, length, Contains, Result, Ok, refl, sym, ◌∙◌, ap, subst, inl, inr, arith, append_assoc}
use Rattle.std.specs.List.{AllByRecursion}
use Rattle.std.proofs.lemmas.Bool.{cases_Bool}
use Rattle.std.proofs.lemmas.Bool.Decides.{eqb_tells}
use Rattle.std.proofs.lemmas.List.{append-nil}
use Rattle.std.proofs.lemmas.List.Elements.{All-contains}
use Rattle.blk_base.specs.Counters.{limit_of, sector_of_offset, sectors_per_slab}
use Rattle.blk_base.specs.Regions.{ReferenceBlock, SlabJournalSlot, block_of, needed_blocks, references_of}
use Rattle.blk_base.specs.Sectors.{sector}
use Rattle.blk_base.specs.declared.geometry.Geometry.{Geometry}
use Rattle.blk_base.specs.declared.journal_entry.CommittedEntry.{CommittedEntry}
use Rattle.blk_base.specs.declared.layout.DataPlace.{DataPlace}
use Rattle.blk_base.specs.declared.place.Pbn.{Pbn}
use Rattle.blk_base.proofs.RegionLaws.{inside}
use Rattle.byte_fields.specs.Fields.{number_at}
use Rattle.disk_model.specs.declared.call.Call.{Call}
use Rattle.disk_model.specs.declared.call.Call.TheVariants.{Write}
use Rattle.disk_model.specs.Log.{Blocks, Misses, block_at, contents}
use Rattle.disk_model.proofs.ImageLaws.{all_weaker, kept}
use Rattle.disk_model.specs.OneImages.{HasOneImageIn}
use Rattle.image_model.specs.Counts.{IsUpdate, block_of_data, commit_at, commit_of, count_after, counter_of, reference_sector_at}
use Rattle.image_model.proofs.CountLaws.{none_in_nothing}
use Rattle.image_model.specs.Maps.{Image}
use Rattle.image_model.specs.Sound.{IsDataPlace}
use Rattle.image_model.specs.Looked.{is_looked_at}
use Rattle.image_model.proofs.LookedLaws.{looked_place}
use Rattle.slab_codec.specs.Grammar.{HoldsEntry}
use Rattle.slab_codec.specs.declared.forms.SlabEntry.{SlabEntry}
use Rattle.recovery_laws.proofs.CountsKept.{sector_inside}
use Rattle.count_laws.specs.Counters.{CountsStand, HasUpdate, IsCounted, IsOfSector, IsKnown, MayWrite, SurelyCounters, SurelyJournal, UpdateStands, counter_in, entry_at, points_at}
use Rattle.count_laws.specs.Points.{ArePointed, next_point, points_by, points_for, up_to}
use Rattle.disk_model.proofs.ContentLaws.{after_write}
use Rattle.count_laws.proofs.PointLaws.{all_below_next, all_more, in_either, in_first, in_second, none_up_to, of_all, points_above, points_below}
use Rattle.count_laws.proofs.StoredLaws.{counters_inside}

-- Points of entries before others.

pub points_for_append : (newer older : List CommittedEntry) (block : Pbn) → points_for (newer ++ older) block ≡ points_for older block ++ points_for newer block
points_for_append [] older block = sym (append-nil (points_for older block))
points_for_append (c ∷ newer) older block =
    ap (λ (ns : List ℕ). ns ++ points_by c.entry c.point.0 block) (points_for_append newer older block)
    ∙ append_assoc (points_for older block) (points_for newer block) (points_by c.entry c.point.0 block)

pub next_append : (from : ℕ) (newer older : List CommittedEntry) → next_point from (newer ++ older) ≡ next_point (next_point from older) newer
next_append from [] older = refl
next_append from (c ∷ newer) older = refl

pub pointed_parts : (from : ℕ) (newer older : List CommittedEntry) → ArePointed from (newer ++ older) → ArePointed (next_point from older) newer × ArePointed from older
pointed_parts from [] older pointed = (tt, pointed)
pointed_parts from (c ∷ newer) older pointed =
    let rest = pointed_parts from newer older pointed.2 in
    let here : next_point (next_point from older) newer ≤ c.point.0 = (let first = pointed.0 in let same = next_append from newer older in omega (arith, first, same)) in
    ((here, pointed.1, rest.0), rest.1)

pub up_to_append : (commit : ℕ) (xs ys : List ℕ) → up_to commit (xs ++ ys) ≡ up_to commit xs ++ up_to commit ys
up_to_append commit [] ys = refl
up_to_append commit (x ∷ xs) ys = elim (cases_Bool (nat_le x commit)) [
  | inl within ↦ rw within (ap (λ (ns : List ℕ). x ∷ ns) (up_to_append commit xs ys))
  | inr past ↦ rw past (up_to_append commit xs ys)
]

-- Newer entries, which the window has.

module _ (opening : Blocks) (log : List Call) (opened : Image) (newer entries window : List CommittedEntry) (from : ℕ)
    (pointed : ArePointed from (newer ++ entries))
    (before : (slab n : ℕ) → slab < opened.geometry.slabs → n < sectors_per_slab opened.geometry → commit_at opened.geometry opened.blocks slab n < from) where
  abbrev g : Geometry
  g = opened.geometry

  grown : (place : DataPlace) → points_at g (newer ++ entries) place ≡ points_at g entries place ++ points_at g newer place
  grown place = points_for_append newer entries (block_of_data g place)

  has_old : (place : DataPlace) (point : ℕ) → Contains (points_at g entries place) point → Contains (points_at g (newer ++ entries) place) point
  has_old place point has =
      subst (λ (ns : List ℕ). Contains ns point) (sym (grown place)) (in_first (points_at g entries place) (points_at g newer place) point has)

  newer_past : (place : DataPlace) (commit : ℕ) → commit < next_point from entries → AllByRecursion (λ m. commit < m) (points_at g newer place)
  newer_past place commit below =
      let parts = pointed_parts from newer entries pointed in
      all_more (λ m. next_point from entries ≤ m) (λ m. commit < m) (points_at g newer place) (λ n above. omega (arith, below, above))
      (points_above (next_point from entries) newer (block_of_data g place) parts.0)

  commit_below : (slab n : ℕ) (bytes : List ℕ) → slab < g.slabs → n < sectors_per_slab g → IsCounted opened entries slab n bytes → number_at 8 0 bytes < next_point from entries
  commit_below slab n bytes in_slab below it =
      let parts = pointed_parts from newer entries pointed in
      elim it.reached [
        | inl same ↦ let was = before slab n in_slab below in let next = all_below_next from entries parts.1 in omega (arith, same, was, next)
        | inr (place, there, has) ↦
            of_all (λ m. m < next_point from entries) (points_at g entries place) (number_at 8 0 bytes) (points_below from entries (block_of_data g place) parts.1) has
      ]

  counted_grows : (slab n : ℕ) (bytes : List ℕ) → slab < g.slabs → n < sectors_per_slab g → IsCounted opened entries slab n bytes → IsCounted opened (newer ++ entries) slab n bytes
  counted_grows slab n bytes in_slab below it = record {
    commit = it.commit;
    reached = elim it.reached [
      | inl same ↦ inl same
      | inr (place, there, has) ↦ inr (place, there, has_old place (number_at 8 0 bytes) has)
    ];
    counters = λ place there.
        let commit = number_at 8 0 bytes in
        let none = none_up_to commit (points_at g newer place) (newer_past place commit (commit_below slab n bytes in_slab below it)) in
        let same : up_to commit (points_at g (newer ++ entries) place) ≡ up_to commit (points_at g entries place) =
        ap (up_to commit) (grown place) ∙ up_to_append commit (points_at g entries place) (points_at g newer place)
        ∙ ap (λ (ns : List ℕ). up_to commit (points_at g entries place) ++ ns) none.0 ∙ append-nil (up_to commit (points_at g entries place)) in
        ap (λ (ns : List ℕ). count_after (limit_of g) (counter_of opened place) ns) same ∙ it.counters place there;
  }

  known_grows : (slab : ℕ) (entry : SlabEntry) → IsKnown opened entries slab entry → IsKnown opened (newer ++ entries) slab entry
  known_grows slab entry (inl old) = inl old
  known_grows slab entry (inr has) = inr (has_old (record { slab = slab; offset = entry.offset }) entry.point.0 has)

  in_window : (place : DataPlace) (point : ℕ) → Contains (points_at g newer place) point ⊎ Contains (points_at g window place) point → Contains (points_at g (newer ++ window) place) point
  in_window place point (inl has) =
      subst (λ (ns : List ℕ). Contains ns point) (sym (points_for_append newer window (block_of_data g place))) (in_second (points_at g window place) (points_at g newer place) point has)
  in_window place point (inr has) =
      subst (λ (ns : List ℕ). Contains ns point) (sym (points_for_append newer window (block_of_data g place))) (in_first (points_at g window place) (points_at g newer place) point has)

  stands_still : (place : DataPlace) (point : ℕ) → UpdateStands opening log g window place point → UpdateStands opening log g (newer ++ window) place point
  stands_still place point (inl has) = inl (in_window place point (inr has))
  stands_still place point (inr others) = inr others

  pub counts_grow : CountsStand opening log opened entries window → CountsStand opening log opened (newer ++ entries) (newer ++ window)
  counts_grow stand = record {
    sectors = λ slab n in_slab below.
        all_weaker (λ content. IsCounted opened entries slab n (sector (n % 8) content)) (λ content. IsCounted opened (newer ++ entries) slab n (sector (n % 8) content))
        (contents opening log (block_of g (ReferenceBlock slab (n / 8)))) (λ content it. counted_grows slab n (sector (n % 8) content) in_slab below it) (stand.sectors slab n in_slab below);
    behind = stand.behind;
    updates = λ place point there has.
        elim (in_either (points_at g entries place) (points_at g newer place) point (subst (λ (ns : List ℕ). Contains ns point) (grown place) has)) [
          | inl old ↦ stands_still place point (stand.updates place point there old)
          | inr new ↦ inl (in_window place point (inl new))
        ];
    only = λ slab slot number entry in_slab in_journal small.
        all_weaker (λ content. HasUpdate g slab number entry (sector number content) → IsKnown opened entries slab entry)
        (λ content. HasUpdate g slab number entry (sector number content) → IsKnown opened (newer ++ entries) slab entry)
        (contents opening log (block_of g (SlabJournalSlot slab slot))) (λ content known it. known_grows slab entry (known it))
        (stand.only slab slot number entry in_slab in_journal small);
  }

-- Another window, where each update that the first one has stands with it.

pub counts_with_window : (opening : Blocks) (log : List Call) (opened : Image) (entries window other : List CommittedEntry)
    → CountsStand opening log opened entries window
    → ((place : DataPlace) (point : ℕ) → IsDataPlace opened.geometry place → Contains (points_at opened.geometry window place) point
    → UpdateStands opening log opened.geometry other place point)
    → CountsStand opening log opened entries other
counts_with_window opening log opened entries window other stand each = record {
  sectors = stand.sectors;
  behind = stand.behind;
  updates = λ place point there has. elim (stand.updates place point there has) [ inl in_window ↦ each place point there in_window | inr others ↦ inr others ];
  only = stand.only;
}

-- so a window that has more entries behind
pub counts_with_more : (opening : Blocks) (log : List Call) (opened : Image) (entries window more : List CommittedEntry)
    → CountsStand opening log opened entries window → CountsStand opening log opened entries (window ++ more)
counts_with_more opening log opened entries window more stand =
    counts_with_window opening log opened entries window (window ++ more) stand
    (λ place point there has.
    let block = block_of_data opened.geometry place in
    inl (subst (λ (ns : List ℕ). Contains ns point) (sym (points_for_append window more block)) (in_second (points_for more block) (points_for window block) point has)))

-- A call that writes no block of counters and none of a slab's journal.

pub counts_kept : (opening : Blocks) (log : List Call) (opened : Image) (entries window : List CommittedEntry) (call : Call)
    → ((slab i : ℕ) → slab < opened.geometry.slabs → i < references_of opened.geometry → Misses call (block_of opened.geometry (ReferenceBlock slab i)))
    → ((slab slot : ℕ) → slab < opened.geometry.slabs → slot < opened.geometry.slab_journal → Misses call (block_of opened.geometry (SlabJournalSlot slab slot)))
    → CountsStand opening log opened entries window → CountsStand opening (call ∷ log) opened entries window
counts_kept opening log opened entries window call counters journals stand = record {
  sectors = λ slab n in_slab below.
      kept (λ content. IsCounted opened entries slab n (sector (n % 8) content)) opening log call (block_of opened.geometry (ReferenceBlock slab (n / 8)))
      (counters slab (n / 8) in_slab (counters_inside opened.geometry n below)) (stand.sectors slab n in_slab below);
  behind = λ slab n in_slab past below.
      kept (λ content. number_at 8 0 (sector (n % 8) content) ≤ commit_at opened.geometry opened.blocks slab n) opening log call (block_of opened.geometry (ReferenceBlock slab (n / 8)))
      (counters slab (n / 8) in_slab (omega (arith, below))) (stand.behind slab n in_slab past below);
  updates = λ place point there has. elim (stand.updates place point there has) [
    | inl in_window ↦ inl in_window
    | inr others ↦ elim others [
      | inl is_counted ↦
          let n = sector_of_offset opened.geometry place.offset in
          inr (inl (kept (λ content. point ≤ number_at 8 0 (sector (n % 8) content)) opening log call (block_of opened.geometry (ReferenceBlock place.slab (n / 8)))
          (counters place.slab (n / 8) there.0 (counters_inside opened.geometry n (sector_inside opened.geometry place there))) is_counted))
      | inr (slot, number, in_journal, small, is_kept) ↦
          inr (inr (
            slot,
            number,
            in_journal,
            small,
            kept (λ content. HasUpdate opened.geometry place.slab number (entry_at place point) (sector number content)) opening log call
                (block_of opened.geometry (SlabJournalSlot place.slab slot)) (journals place.slab slot there.0 in_journal) is_kept,
          ))
    ]
  ];
  only = λ slab slot number entry in_slab in_journal small.
      kept (λ content. HasUpdate opened.geometry slab number entry (sector number content) → IsKnown opened entries slab entry) opening log call
      (block_of opened.geometry (SlabJournalSlot slab slot)) (journals slab slot in_slab in_journal) (stand.only slab slot number entry in_slab in_journal small);
}

-- On a device that has the blocks of an opened image, and nothing pending but in the index, its counts stand with no entries, if the counters have
-- all updates of the slabs' journals.
pub counts_begin : (opening : Blocks) (log : List Call) (opened : Image) → needed_blocks opened.geometry ≤ length opening → HasOneImageIn (is_looked_at opened.geometry) opening log opened.blocks
    → ((place : DataPlace) (point : ℕ) → IsDataPlace opened.geometry place → IsUpdate opened place point → point ≤ commit_of opened place)
    → CountsStand opening log opened [] []
counts_begin opening log opened room one closed = record {
  sectors = λ slab n in_slab below.
      all_weaker (λ content. content ≡ block_at opened.blocks (block_of opened.geometry (ReferenceBlock slab (n / 8)))) (λ content. IsCounted opened [] slab n (sector (n % 8) content))
      (contents opening log (block_of opened.geometry (ReferenceBlock slab (n / 8))))
      (λ content is. subst (λ (bytes : List ℕ). IsCounted opened [] slab n (sector (n % 8) bytes)) (sym is)
      (record { commit = omega arith; reached = inl refl; counters = λ place there. begin_counter slab n place there }))
      (only_counters slab (n / 8) in_slab (counters_inside opened.geometry n below));
  behind = λ slab n in_slab past below.
      all_weaker (λ content. content ≡ block_at opened.blocks (block_of opened.geometry (ReferenceBlock slab (n / 8))))
      (λ content. number_at 8 0 (sector (n % 8) content) ≤ commit_at opened.geometry opened.blocks slab n)
      (contents opening log (block_of opened.geometry (ReferenceBlock slab (n / 8))))
      (λ content is. (let same = ap (λ (bytes : List ℕ). number_at 8 0 (sector (n % 8) bytes)) is in omega (arith, same)))
      (only_counters slab (n / 8) in_slab (omega (arith, below)));
  updates = λ place point there has. absurd (none_in_nothing point has);
  only = λ slab slot number entry in_slab in_journal small.
      all_weaker (λ content. content ≡ block_at opened.blocks (block_of opened.geometry (SlabJournalSlot slab slot)))
      (λ content. HasUpdate opened.geometry slab number entry (sector number content) → IsKnown opened [] slab entry)
      (contents opening log (block_of opened.geometry (SlabJournalSlot slab slot)))
      (λ content is it. inl (old slab slot number entry in_slab in_journal small
      (subst (λ (bytes : List ℕ). HasUpdate opened.geometry slab number entry (sector number bytes)) is it)))
      (one.only (block_of opened.geometry (SlabJournalSlot slab slot))
      (let low = inside opened.geometry (SlabJournalSlot slab slot) (in_slab, in_journal) in omega (arith, low, room))
      (looked_place opened.geometry (SlabJournalSlot slab slot) (in_slab, in_journal) tt));
}
  where
    only_counters : (slab i : ℕ) → slab < opened.geometry.slabs → i < references_of opened.geometry
        → AllByRecursion (λ content. content ≡ block_at opened.blocks (block_of opened.geometry (ReferenceBlock slab i))) (contents opening log (block_of opened.geometry (ReferenceBlock slab i)))
    only_counters slab i in_slab within =
        one.only (block_of opened.geometry (ReferenceBlock slab i)) (let low = inside opened.geometry (ReferenceBlock slab i) (in_slab, within) in omega (arith, low, room))
        (looked_place opened.geometry (ReferenceBlock slab i) (in_slab, within) tt)

    begin_counter : (slab n : ℕ) (place : DataPlace) → IsOfSector opened.geometry slab n place
        → ◌≡◌ {A = Result ℕ ℕ} (Ok (counter_of opened place)) (Ok (counter_in opened.geometry (reference_sector_at opened.geometry opened.blocks slab n) place))
    begin_counter slab n place there =
        ap (λ (k : ℕ). let it : Result ℕ ℕ = Ok (counter_in opened.geometry (reference_sector_at opened.geometry opened.blocks k (sector_of_offset opened.geometry place.offset)) place) in it) there.1
        ∙ ap (λ (k : ℕ). let it : Result ℕ ℕ = Ok (counter_in opened.geometry (reference_sector_at opened.geometry opened.blocks slab k) place) in it) there.2

    old : (slab slot number : ℕ) (entry : SlabEntry) → slab < opened.geometry.slabs → slot < opened.geometry.slab_journal → number < 8
        → HasUpdate opened.geometry slab number entry (sector number (block_at opened.blocks (block_of opened.geometry (SlabJournalSlot slab slot))))
        → entry.point.0 ≤ commit_at opened.geometry opened.blocks slab (sector_of_offset opened.geometry entry.offset)
    old slab slot number entry in_slab in_journal small it =
        let holds : HoldsEntry opened.geometry.slab_blocks entry = All-contains (HoldsEntry opened.geometry.slab_blocks) it.entries entry it.valid.each it.listed in
        closed (record { slab = slab; offset = entry.offset }) entry.point.0 (in_slab, holds.2)
        (inl (record { slot = slot; number = number; inside = (in_journal, small); sequence = it.sequence; entries = it.entries; valid = it.valid; listed = it.listed }))

-- A write.

module _ (opening : Blocks) (log : List Call) (opened : Image) (entries window : List CommittedEntry) (at : Pbn) (bytes : List ℕ) (ok : Bool)
    (may : MayWrite opening log opened entries window at.0 bytes) where
  abbrev after : List Call
  after = Write at bytes ok ∷ log

  still_counted : (place : DataPlace) (point : ℕ) → IsDataPlace opened.geometry place → Contains (points_at opened.geometry entries place) point
      → SurelyCounters opening log opened.geometry place.slab (sector_of_offset opened.geometry place.offset) (λ old. point ≤ number_at 8 0 old)
      → SurelyCounters opening after opened.geometry place.slab (sector_of_offset opened.geometry place.offset) (λ old. point ≤ number_at 8 0 old)
  still_counted place point there has surely =
      let n = sector_of_offset opened.geometry place.offset in
      after_write (λ content. point ≤ number_at 8 0 (sector (n % 8) content)) opening log at bytes ok (block_of opened.geometry (ReferenceBlock place.slab (n / 8)))
      (λ here. may.no_lower place n point (there, refl, refl) here has surely) surely

  still_kept : (place : DataPlace) (point slot number : ℕ) → IsDataPlace opened.geometry place → Contains (points_at opened.geometry entries place) point
      → slot < opened.geometry.slab_journal → number < 8
      → SurelyJournal opening log opened.geometry place.slab slot number (HasUpdate opened.geometry place.slab number (entry_at place point))
      → UpdateStands opening after opened.geometry window place point
  still_kept place point slot number there has in_journal small surely =
      let b = block_of opened.geometry (SlabJournalSlot place.slab slot) in
      elim (eqb_tells at.0 b) [
        | inl same ↦ elim (may.overwritten place slot number point there in_journal small same.1 has surely) [
          | inl again ↦ inr (inr (
            slot,
            number,
            in_journal,
            small,
            after_write (λ content. HasUpdate opened.geometry place.slab number (entry_at place point) (sector number content)) opening log at bytes ok b (λ here. again) surely,
          ))
          | inr others ↦ elim others [
            | inl in_window ↦ inl in_window
            | inr is_counted ↦ inr (inl (still_counted place point there has is_counted))
          ]
        ]
        | inr other ↦ inr (inr (
          slot,
          number,
          in_journal,
          small,
          after_write (λ content. HasUpdate opened.geometry place.slab number (entry_at place point) (sector number content)) opening log at bytes ok b
              (λ here. absurd (other.1 here)) surely,
        ))
      ]

  pub counts_after_write : CountsStand opening log opened entries window → CountsStand opening after opened entries window
  counts_after_write stand = record {
    sectors = λ slab n in_slab below.
        after_write (λ content. IsCounted opened entries slab n (sector (n % 8) content)) opening log at bytes ok (block_of opened.geometry (ReferenceBlock slab (n / 8)))
        (λ here. may.sectors slab n in_slab below here) (stand.sectors slab n in_slab below);
    behind = λ slab n in_slab past below.
        after_write (λ content. number_at 8 0 (sector (n % 8) content) ≤ commit_at opened.geometry opened.blocks slab n) opening log at bytes ok (block_of opened.geometry (ReferenceBlock slab (n / 8)))
        (λ here. may.behind slab n in_slab past below here) (stand.behind slab n in_slab past below);
    updates = λ place point there has. elim (stand.updates place point there has) [
      | inl in_window ↦ inl in_window
      | inr others ↦ elim others [
        | inl is_counted ↦ inr (inl (still_counted place point there has is_counted))
        | inr (slot, number, in_journal, small, is_kept) ↦ still_kept place point slot number there has in_journal small is_kept
      ]
    ];
    only = λ slab slot number entry in_slab in_journal small.
        after_write (λ content. HasUpdate opened.geometry slab number entry (sector number content) → IsKnown opened entries slab entry) opening log at bytes ok
        (block_of opened.geometry (SlabJournalSlot slab slot))
        (λ here. may.only slab slot number entry in_slab in_journal small here) (stand.only slab slot number entry in_slab in_journal small);
  }
