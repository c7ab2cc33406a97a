-- The end of the session of the rows: all of it is on the device, and it may be closed. For each clause there is a case that is
-- refused.
use Rattle.std.proofs.Common.{ℕ, ◌≡◌, ◌+◌, ◌<◌, ◌≤◌, Bool, true, false, List, [], ◌∷◌, length, Contains, refl, sym, ◌∙◌, ap, subst, inl, inr, arith}
use Rattle.blk_base.specs.Counters.{sector_of_offset}
use Rattle.blk_base.specs.declared.geometry.Super.{Super}
use Rattle.blk_base.specs.declared.layout.DataPlace.{DataPlace}
use Rattle.byte_fields.specs.Fields.{number_at}
use Rattle.disk_model.specs.declared.call.Call.{Call}
use Rattle.disk_model.specs.declared.call.Call.TheVariants.{Flush, Write}
use Rattle.disk_model.specs.Images.{IsImage}
use Rattle.disk_model.specs.Log.{Blocks, block_at}
use Rattle.image_layout.specs.Superblock.{super_block}
use Rattle.image_model.specs.Empty.{IsEmpty}
use Rattle.image_model.specs.Maps.{mapping_of, value_of}
use Rattle.image_model.specs.Sound.{IsDataPlace}
use Rattle.image_model.proofs.Example.{small}
use Rattle.journal_stops.specs.Mapped.{later_image, mapping_after}
use Rattle.journal_stops.specs.Sealed.{Sealed, entries_of, window_of}
use Rattle.recovery_laws.specs.Kept.{image_in}
use Rattle.recovery_laws.specs.Written.{AreFull}
use Rattle.count_laws.specs.Counters.{SurelyCounters, points_at}
use Rattle.session_stops.specs.Beginnings.{IsToServe, head_in, opened_in}
use Rattle.session_stops.specs.Closings.{AreCounted, IsClosedImage, IsClosing, IsWrittenOut, closed_head, closing_calls, closing_write, last_in}
use Rattle.session_stops.specs.Pages.{PagesStand}
use Rattle.session_stops.specs.Sessions.{StandsAtRest}
use Rattle.session_stops.proofs.CallSteps.{rest_quiet}
use Rattle.session_stops.proofs.CloseLaws.{session_closed, session_closing}
use Rattle.session_stops.proofs.FullLaws.{image_is_full}
use Rattle.session_stops.proofs.PageSteps.{pages_missed}
use Rattle.session_stops.proofs.SessionRows.{block, each_counted, log_counts, rest_is, risen, start, to, with_counts}

module _ (blocks : Blocks) (empty : IsEmpty small blocks) (whole : (b : ℕ) → b < length blocks → length (block_at blocks b) ≡ 4096) where
  abbrev pub base_to : IsToServe blocks
  base_to = to blocks empty whole

  abbrev pub first : ℕ
  first = start blocks empty whole

  abbrev pub list : List Sealed
  list = block blocks empty whole ∷ []

  abbrev pub log : List Call
  log = log_counts blocks empty whole

  all_counted : AreCounted blocks log (opened_in blocks base_to) (entries_of first list)
  all_counted = each_counted blocks empty whole

  written_out : IsWrittenOut blocks log blocks base_to list
  written_out = record {
    stands = with_counts blocks empty whole;
    pages = subst (PagesStand blocks log (opened_in blocks base_to) (entries_of first list)) (sym (rest_is blocks empty whole)) (risen blocks empty whole).pages;
    counts = all_counted;
  }

  -- and so it is behind one more flush
  flushed_out : IsWrittenOut blocks (Flush true ∷ log) blocks base_to list
  flushed_out = record {
    stands = rest_quiet blocks base_to blocks log list (Flush true) (λ b. tt) (with_counts blocks empty whole);
    pages = pages_missed blocks log (opened_in blocks base_to) (entries_of first list) [] written_out.pages (Flush true) (λ page at linked. tt);
    counts = λ x point there has. all_counted x point there has;
  }

  -- Its images say all by themselves; and while it is closed they say the same.
  full : (now : Blocks) → IsImage blocks log now → AreFull (later_image (opened_in blocks base_to) now (window_of first list)) now
  full now is = image_is_full blocks base_to blocks log list written_out now is

  closing : (ok : Bool) (now : Blocks) → IsImage blocks (closing_write blocks base_to list ok ∷ log) now → IsClosing blocks log blocks base_to list now
  closing ok now is = session_closing blocks log blocks base_to list written_out ok now is

  pub closed : (now : Blocks) → IsImage blocks (closing_calls blocks base_to list log) now → IsClosedImage blocks (Flush true ∷ log) blocks base_to list now
  closed now is = session_closed blocks log blocks base_to list flushed_out now is

  -- the calls that close, and the superblock that they write: one sequence behind the last one is left out
  calls_are : closing_calls blocks base_to list log ≡ Flush true ∷ Write (record { 0 = 0 }) (super_block (closed_head blocks base_to list)) true ∷ Flush true ∷ log
  calls_are = refl

  head_is : closed_head blocks base_to list ≡ record { geometry = base_to.sound.head.geometry; clean = true; start = first + 2 }
  head_is = ap (λ (n : ℕ). record { geometry = base_to.sound.head.geometry; clean = true; start = n }) (let it : last_in blocks base_to list + 2 ≡ first + 2 = omega arith in it)

  last_is : last_in blocks base_to list ≡ first
  last_is = omega arith

  -- Not written out: where it doesn't stand, where a page needs the window, and where an update isn't counted.

  not_standing : (calls : List Call) → (StandsAtRest blocks calls blocks base_to list → ⊥) → IsWrittenOut blocks calls blocks base_to list → ⊥
  not_standing calls never all = never all.stands

  page_left : (calls : List Call) → (PagesStand blocks calls (opened_in blocks base_to) (entries_of first list) [] → ⊥) → IsWrittenOut blocks calls blocks base_to list → ⊥
  page_left calls never all = never all.pages

  update_left : (calls : List Call) (x : DataPlace) (point : ℕ) → IsDataPlace (opened_in blocks base_to).geometry x → Contains (points_at (opened_in blocks base_to).geometry (entries_of first list) x) point
      → (SurelyCounters blocks calls (opened_in blocks base_to).geometry x.slab (sector_of_offset (opened_in blocks base_to).geometry x.offset) (λ bytes. point ≤ number_at 8 0 bytes) → ⊥)
      → IsWrittenOut blocks calls blocks base_to list → ⊥
  update_left calls x point there has never all = never (all.counts x point there has)

  -- While it is closed: not another superblock, not the session's with another last sequence, no other value of an address, and
  -- no other block, also none of the index.

  later_start : (now : Blocks) (is : IsClosing blocks log blocks base_to list now) → is.kept.sound.head.start ≡ last_in blocks base_to list + 3 → first ≡ 1 → ⊥
  later_start now is late one = elim is.head [
    | inl yet ↦ (let same = ap (λ (h : Super). h.start) yet.0 in let last = last_is in omega (arith, same, late, last))
    | inr closed ↦ (let same = ap (λ (h : Super). h.start) closed in omega (arith, same, late))
  ]

  later_last : (now : Blocks) (is : IsClosing blocks log blocks base_to list now) → is.kept.sound.head ≡ head_in blocks base_to → is.kept.sound.last ≡ last_in blocks base_to list + 1 → ⊥
  later_last now is same late = elim is.head [
    | inl yet ↦ (let last = yet.1 in omega (arith, last, late))
    | inr closed ↦ (let clean : false ≡ true = sym (ap (λ (h : Super). h.clean) same) ∙ ap (λ (h : Super). h.clean) closed in absurd (cc clean))
  ]

  other_value : (now : Blocks) (is : IsClosing blocks log blocks base_to list now) (address : ℕ)
      → (value_of (image_in now is.kept.sound) address ≡ value_of (image_in is.old is.shows.sound) address → ⊥) → ⊥
  other_value now is address differs = differs (is.kept.same.values address)

  other_entries : (now : Blocks) (is : IsClosing blocks log blocks base_to list now) (address : ℕ)
      → (mapping_of (later_image (opened_in blocks base_to) is.old is.shows.shows.shown.window) address ≡ mapping_after (opened_in blocks base_to) (entries_of first list) address → ⊥) → ⊥
  other_entries now is address differs = differs (is.shows.shows.mappings address)

  no_image : (now : Blocks) (is : IsClosing blocks log blocks base_to list now) → (IsImage blocks log is.old → ⊥) → ⊥
  no_image now is never = never is.is_image

  other_block : (now : Blocks) (is : IsClosing blocks log blocks base_to list now) → (block_at now 69 ≡ block_at is.old 69 → ⊥) → ⊥
  other_block now is differs = differs (is.others 69 (omega arith))

  -- Once it is closed: not the session's superblock, and no other value.

  unclosed : (now : Blocks) (is : IsClosedImage blocks (Flush true ∷ log) blocks base_to list now) → is.recovered.kept.sound.head.clean ≡ false → ⊥
  unclosed now is open_yet = let clean : true ≡ false = sym (ap (λ (h : Super). h.clean) is.recovered.closed) ∙ open_yet in absurd (cc clean)

  other_value_then : (now : Blocks) (is : IsClosedImage blocks (Flush true ∷ log) blocks base_to list now) (address : ℕ)
      → (value_of (image_in now is.recovered.kept.sound) address ≡ value_of (image_in is.old is.shows.sound) address → ⊥) → ⊥
  other_value_then now is address differs = differs (is.recovered.kept.same.values address)

  other_entries_then : (now : Blocks) (is : IsClosedImage blocks (Flush true ∷ log) blocks base_to list now) (address : ℕ)
      → (mapping_of (later_image (opened_in blocks base_to) is.old is.shows.shows.shown.window) address ≡ mapping_after (opened_in blocks base_to) (entries_of first list) address → ⊥) → ⊥
  other_entries_then now is address differs = differs (is.shows.shows.mappings address)

  other_block_then : (now : Blocks) (is : IsClosedImage blocks (Flush true ∷ log) blocks base_to list now) → (block_at now 69 ≡ block_at is.old 69 → ⊥) → ⊥
  other_block_then now is differs = differs (is.others 69 (omega arith))

  no_image_then : (now : Blocks) (is : IsClosedImage blocks (Flush true ∷ log) blocks base_to list now) → (IsImage blocks (Flush true ∷ log) is.old → ⊥) → ⊥
  no_image_then now is never = never is.is_image
