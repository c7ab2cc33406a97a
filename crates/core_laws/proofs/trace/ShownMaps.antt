-- What a stopped image maps an address to: what the newest of the entries of its window gives it, or what the opened image has.
use Rattle.std.proofs.Common.{◌≡◌, ◌⊎◌, ℕ, ◌+◌, ◌*◌, ◌<◌, ◌≤◌, Option, None, Some, List, [], ◌++◌, Contains, map, refl, sym, ◌∙◌, ap, subst, inl, inr, arith, length, replicate}
use Rattle.std.proofs.lemmas.List.{append-nil, drop_all, get_or-replicate}
use Rattle.blk_base.specs.Regions.{IsDataBlock}
use Rattle.byte_fields.specs.Fields.{number_at}
use Rattle.core_laws.proofs.device.LeafReads.{each_of, page_of_all}
use Rattle.core_laws.proofs.kept.OpenedBlocks.{page_left}
use Rattle.core_laws.proofs.trace.DeskOfTrace.{HasBlock, journaled_data}
use Rattle.core_laws.proofs.trace.ShownPages.{page_length, there}
use Rattle.core_model.specs.Sessions.{IsKept}
use Rattle.disk_model.proofs.ImageLaws.{block_of_image}
use Rattle.disk_model.specs.Images.{IsImage}
use Rattle.disk_model.specs.Log.{Blocks, block_at}
use Rattle.image_layout.specs.Values.{journal_of}
use Rattle.image_model.proofs.MapLaws.{slot_says_its_mapping}
use Rattle.image_model.proofs.WindowLaws.{one_window}
use Rattle.image_model.specs.Maps.{image_with, mapping_in, mapping_of, page_at}
use Rattle.image_model.specs.Windows.{IsWindow}
use Rattle.journal_stops.proofs.MapLaws.{pages_show}
use Rattle.core_laws.proofs.trace.EntryMaps.{AreTurned, made_block, made_in, made_turn, mapping_is, older_turned, turned}
use Rattle.journal_stops.proofs.OpenedLaws.{page_with_none, pages_go_on, slot_of_page}
use Rattle.page_codec.proofs.HeldLaws.{held_unmapped}
use Rattle.page_codec.proofs.ReadLaws.{slots}
use Rattle.page_codec.specs.Grammar.{IsPage, IsSlot}
use Rattle.page_codec.specs.declared.forms.PageHead.{PageHead}
use Rattle.core_laws.proofs.Common.{AllByRecursion, IsFair, IsSession, Logged, Makes, NewPage, PagesStand, Pbn, RightTrace, Session, Trace, Writer, cases_lt, entry_of, every-front, journaled, log, mapping_by, opened_image}
use Rattle.blk_base.specs.declared.geometry.Geometry.{Geometry}
use Rattle.blk_base.specs.declared.journal_entry.CommittedEntry.{CommittedEntry}
use Rattle.blk_base.specs.declared.place.Mapping.TheVariants.{Unmapped}
use Rattle.blk_base.specs.declared.place.PageId.{PageId}
use Rattle.core_model.specs.PageLinks.{empty_page}
use Rattle.core_model.specs.Sessions.{KeptStands, said_by}
use Rattle.journal_stops.specs.Mapped.{ArePagesMade, ArePagesShown, ShowsEntries}
use Rattle.core_laws.proofs.trace.PagesOfTrace.{linked_stands}

-- The bytes of a new page say nothing in any slot.
abbrev page_head : Geometry → NewPage → PageHead
page_head g p = record { geometry = g; page = p.page; at = p.at }

pub is_empty : (g : Geometry) (p : NewPage) → IsPage (page_head g p) (empty_page g p) (replicate 812 Unmapped)
unfolding empty_page
is_empty g p = record { spelled = refl; held = held_unmapped g p.page.level }

past_page : (bytes : List ℕ) (slot : ℕ) → length bytes ≡ 4096 → 812 ≤ slot → mapping_in bytes slot ≡ Unmapped
unfolding number_at
past_page bytes slot size past = rw (drop_all (36 + 5 * slot) bytes (omega (arith, size, past))) refl

empty_says : (g : Geometry) (p : NewPage) (slot : ℕ) → mapping_in (empty_page g p) slot ≡ Unmapped
empty_says g p slot = elim (cases_lt slot 812) [
  | inl inside ↦ slot_says_its_mapping (page_head g p) (empty_page g p) slot Unmapped (subst (IsSlot (page_head g p) (empty_page g p) slot) (get_or-replicate 812 slot Unmapped Unmapped inside) (slots (page_head g p) (empty_page g p) (replicate 812 Unmapped) slot (is_empty g p) inside))
  | inr past ↦ past_page (empty_page g p) slot (page_length g p) past
]

-- Of an image whose window has these entries, where what they map to stands.
module _ (s : Session) (u : Trace) (image : Blocks) (session : IsSession s) (fair : IsFair s u) (is : IsImage s.blocks (log s u) image) (right : RightTrace s u) (left : KeptStands s u)
    (newer es : List Logged) (parts : journaled u ≡ newer ++ es) (stand : PagesStand s u es) (last : ℕ) (window : List CommittedEntry)
    (is_window : IsWindow s.sizes.geometry s.sizes.start (journal_of s.sizes.geometry image) last window) (said : map entry_of es ≡ said_by window) where
  abbrev turns : AreTurned s es
  turns = older_turned s newer es (subst (AreTurned s) parts (turned s u right))

  -- what the session leaves as it was is as it was opened
  left_same : (x : ℕ) → IsKept s x → block_at image x ≡ block_at s.image x
  left_same x kept =
      let room : x < length s.blocks = let inside = kept.inside in let all = fair.opened.room in omega (arith, inside, all) in
      block_of_image s.blocks (log s u) image x (block_at s.image x) room (fair.opened.one_image.whole x room) (left x kept) is

  opened_shown : ArePagesShown (opened_image s) [] image []
  opened_shown page at slot linked small none =
      let there : page_at (opened_image s) page ≡ Some at = sym (page_with_none (opened_image s) page) ∙ linked in
      ap (λ (block : List ℕ). mapping_in block slot) (left_same at.0 (page_left s fair.opened session page at there)) ∙ sym (slot_of_page (opened_image s) page at slot there)

  made_says : (page : PageId) (at : Pbn) (slot : ℕ) → made_in es page ≡ Some at → mapping_in (block_at image at.0) slot ≡ Unmapped
  made_says page at slot made = by (linked_stands (λ q. None) es page at made)
    where
      by : (◌≡◌ {A = Option Pbn} None (Some at)) ⊎ ((w : Writer) × Contains es (Makes (record { request = w; page = page; at = at }))) → mapping_in (block_at image at.0) slot ≡ Unmapped
      by (inl none) = absurd cc
      by (inr (w, has)) =
          let p : NewPage = record { request = w; page = page; at = at } in
          let inside : IsDataBlock s.sizes.geometry at.0 = each_of (HasBlock s) es (Makes p) (every-front (HasBlock s) newer es (subst (AllByRecursion (HasBlock s)) parts (journaled_data s u right))).1 has in
          ap (λ (block : List ℕ). mapping_in block slot) (there s u image fair is p inside (page_of_all s u es p has stand)) ∙ empty_says s.sizes.geometry p slot

  pages_made : ArePagesMade (opened_image s) [] window image
  pages_made page at newest =
      let made = made_block es window said page at newest in
      let turn = made_turn s es page at turns made in
      (turn.1, page_with_none (opened_image s) page ∙ sym (fair.opened.links page turn.1) ∙ turn.2, λ slot. made_says page at slot made)

  -- So it shows them.
  pub shows : ShowsEntries (opened_image s) s.sizes.start image window
  shows =
      let all = pages_go_on (opened_image s) window [] image [] tt pages_made opened_shown in
      let own : ArePagesShown (opened_image s) window image window = subst (λ (w : List CommittedEntry). ArePagesShown (opened_image s) w image w) (append-nil window) all in
      pages_show (opened_image s) s.sizes.start image window (record { last = last; window = window; is_window = is_window; reaped = []; all = sym (append-nil window) }) own

  -- and each address is mapped as they say, on top of the opened image
  pub shown_mapping : (a : ℕ) → mapping_of (image_with s.sizes.geometry image window) a ≡ mapping_by s es a
  shown_mapping a =
      let one = one_window s.sizes.geometry s.sizes.start (journal_of s.sizes.geometry image) shows.shown.last last shows.shown.window window shows.shown.is_window is_window in
      let mapped = shows.mappings a ∙ mapping_is s session fair.opened es window said turns a in
      subst (λ (w : List CommittedEntry). mapping_of (image_with s.sizes.geometry image w) a ≡ mapping_by s es a) one.1 mapped
