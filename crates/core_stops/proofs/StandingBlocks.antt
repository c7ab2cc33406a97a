-- What stands of a session of the core is what session_stops asks of one: at rest, and while a block of the journal is under way.
use Rattle.std.proofs.Common.{ℕ, ◌+◌, ◌≡◌, ◌<◌, ◌≤◌, ◌^◌, List, [], ◌∷◌, ◌++◌, length, map, false, ◌*◌, refl, sym, ◌∙◌, ap, ap₂, subst, arith, append_assoc, replicate, subst₂}
use Rattle.std.proofs.lemmas.List.{append-nil}
use Rattle.blk_base.specs.Counters.{sectors_per_slab}
use Rattle.blk_base.specs.Points.{point_of}
use Rattle.blk_base.specs.Regions.{references_of}
use Rattle.blk_base.specs.declared.geometry.Geometry.{Geometry}
use Rattle.blk_base.specs.declared.journal_entry.CommittedEntry.{CommittedEntry}
use Rattle.blk_base.specs.declared.journal_entry.Entry.TheVariants as entry
use Rattle.blk_base.specs.declared.layout.DataPlace.{DataPlace}
use Rattle.blk_base.specs.declared.place.Mapping.TheVariants.{Unmapped}
use Rattle.blk_base.specs.declared.point.Half.TheVariants.{Increment}
use Rattle.blk_base.specs.declared.sizes.TheConstants.{PAGE_SLOTS}
use Rattle.core_laws.proofs.Common.{AtRest, IsFair, IsSession, Logged, Makes, NewPage, NewStands, OnItsWay, PagesStand as EmptyPagesStand, Remaps, RightTrace, Session, Stands, Trace, all_of, entry_of, journaled, log, opened_image, superblock_bytes}
use Rattle.core_laws.proofs.journal.SealedBlocks.{heads_start, said_by_blocks}
use Rattle.core_laws.proofs.trace.EntryMaps.{AreTurned, older_turned, turned}
use Rattle.core_laws.proofs.trace.ShownMaps.{is_empty}
use Rattle.core_model.specs.PageLinks.{empty_page}
use Rattle.core_model.specs.Sessions.{KeptStands, blocks_of, said_by, sealed_with}
use Rattle.count_laws.proofs.ImageLaws.{closed_counts}
use Rattle.count_laws.proofs.KeepLaws.{counts_grow}
use Rattle.count_laws.proofs.StoredLaws.{counters_inside}
use Rattle.count_laws.specs.Counters.{CountsStand}
use Rattle.count_laws.specs.Points.{ArePointed}
use Rattle.count_laws.specs.Turns.{AreInTurn}
use Rattle.disk_model.proofs.ImageLaws.{all_weaker}
use Rattle.disk_model.specs.Log.{Blocks, contents}
use Rattle.disk_model.specs.declared.call.Call.{Call}
use Rattle.image_layout.specs.Superblock.{super_block}
use Rattle.image_model.specs.Counts.{IsUpdate, commit_at, commit_of}
use Rattle.image_model.specs.Maps as maps
use Rattle.image_model.specs.Maps.{Image, image_with}
use Rattle.image_model.specs.Sound.{IsDataPlace}
use Rattle.journal_stops.proofs.EntryLaws.{window_of_all}
use Rattle.journal_stops.specs.Rings.{IsAtRest, IsRing, IsUnderWay, StandWhole}
use Rattle.journal_stops.specs.Sealed.{Sealed, entries_of, head_of, next_of}
use Rattle.page_codec.specs.Grammar.{IsPage}
use Rattle.session_stops.proofs.NewPages.{turns_made}
use Rattle.session_stops.proofs.PageSteps as pages
use Rattle.session_stops.proofs.PointedBlocks.{blocks_pointed}
use Rattle.session_stops.specs.Beginnings.{HeadStands, IsToServe, opened_in}
use Rattle.session_stops.specs.Pages.{EmptyPageStands, NewPagesStand, PagesStand}
use Rattle.session_stops.specs.Sessions.{AreFew, IsBehind, StandsAtRest, StandsUnderWay, entries_next, window_from}
use Rattle.vdo_model.specs.Journals.{Surely}
use Rattle.core_stops.proofs.OpenedStands.{counts_opened, pages_opened}
use Rattle.core_laws.proofs.trace.EntriesInTurn.{AreOrdered, in_turn, older_ordered, ordered}

-- Lists.

few_of : (opening : Blocks) (calls : List Call) (g : Geometry) (start from : ℕ) (blocks : List Sealed) → from ≤ start → StandWhole opening calls g start from blocks → AreFew blocks
few_of opening calls g start from [] low whole = tt
few_of opening calls g start from (block ∷ older) low whole = ((whole.0 (omega (arith, low))).0, few_of opening calls g start from older low whole.1)

-- the entries of one block are those that were handed in for it, whatever its sequence
said_next : (s : Session) (first : ℕ) (es : List Logged) → map entry_of es ≡ said_by (entries_of first (sealed_with s es ∷ []))
said_next s first es =
    let other : Session = record s { sizes = record s.sizes { start = first } } in
    ap (map entry_of) (sym (append-nil es)) ∙ said_by_blocks other (es ∷ [])

-- New pages that stand as empty ones are such of the opened image.

empty_stands : (s : Session) (u : Trace) (p : NewPage) → Stands s u p.at.0 (empty_page s.sizes.geometry p)
    → Surely s.blocks (log s u) p.at.0 (λ content. IsPage (maps.head_of (opened_image s) p.page p.at) content (replicate PAGE_SLOTS Unmapped))
empty_stands s u p stands =
    all_weaker (λ content. content ≡ empty_page s.sizes.geometry p) (λ content. IsPage (maps.head_of (opened_image s) p.page p.at) content (replicate PAGE_SLOTS Unmapped)) (contents s.blocks (log s u) p.at.0)
    (λ content same. subst (λ (bytes : List ℕ). IsPage (maps.head_of (opened_image s) p.page p.at) bytes (replicate PAGE_SLOTS Unmapped)) (sym same) (is_empty s.sizes.geometry p)) stands

new_stand : (s : Session) (u : Trace) (es : List Logged) (entries : List CommittedEntry) → map entry_of es ≡ said_by entries → EmptyPagesStand s u es → NewPagesStand s.blocks (log s u) (opened_image s) entries
new_stand s u [] [] said stand = tt
new_stand s u [] (c ∷ entries) said stand = absurd cc
new_stand s u (e ∷ es) [] said stand = absurd cc
new_stand s u (Remaps e ∷ es) (c ∷ entries) said stand =
    let here : c.entry ≡ entry.Remap e.at e.old e.new = cc in
    let behind : map entry_of es ≡ said_by entries = cc in
    (subst (EmptyPageStands s.blocks (log s u) (opened_image s)) (sym here) tt, new_stand s u es entries behind stand)
new_stand s u (Makes p ∷ es) (c ∷ entries) said stand =
    let here : c.entry ≡ entry.NewPage p.page p.at = cc in
    let behind : map entry_of es ≡ said_by entries = cc in
    (subst (EmptyPageStands s.blocks (log s u) (opened_image s)) (sym here) (empty_stands s u p stand.0), new_stand s u es entries behind stand.1)

-- those of entries whose blocks stand
pages_among : (s : Session) (u : Trace) (es : List Logged) → NewStands s u es → EmptyPagesStand s u es
pages_among s u [] stand = tt
pages_among s u (Remaps e ∷ es) stand = pages_among s u es stand.1
pages_among s u (Makes p ∷ es) stand = (stand.0, pages_among s u es stand.1)

heads_first : (s : Session) (first : ℕ) (older : List (List Logged)) → first ≡ s.sizes.start → head_of first (blocks_of s older) ≡ first
heads_first s first [] start = refl
heads_first s first (es ∷ older) start = sym start

module _ (s : Session) (u : Trace) (session : IsSession s) (fair : IsFair s u) (right : RightTrace s u) (left : KeptStands s u) (to : IsToServe s.image)
    (sizes : to.sound.head.geometry ≡ s.sizes.geometry) (start : to.sound.head.start ≡ s.sizes.start) (super : Stands s u 0 (superblock_bytes s.sizes)) where
  abbrev first : ℕ
  first = to.sound.head.start

  -- the image that was opened, by the session and by itself
  alike : opened_image s ≡ opened_in s.image to
  alike = ap₂ (λ (h : Geometry) (w : List CommittedEntry). image_with h s.image w) (sym sizes) (sym (to.sound.closed to.clean).window)

  head_stands : HeadStands s.blocks (log s u) s.image to
  head_stands =
      subst (λ (bytes : List ℕ). Surely s.blocks (log s u) 0 (λ content. content ≡ bytes))
      (ap₂ (λ (h : Geometry) (n : ℕ). super_block (record { geometry = h; clean = false; start = n })) (sym sizes) (sym start)) super

  abbrev HasClosed : Image → Type 0
  HasClosed image = (place : DataPlace) (point : ℕ) → IsDataPlace image.geometry place → IsUpdate image place point → point ≤ commit_of image place

  closed : HasClosed (opened_image s)
  closed = subst HasClosed (sym alike) (closed_counts s.image to.sound to.clean).updates

  -- no commit point is as late as the session
  abbrev IsEarly : Geometry → Type 0
  IsEarly h = (slab n : ℕ) → slab < h.slabs → n < 8 * references_of h → commit_at h s.image slab n < point_of (to.sound.last + 1) 0 Increment

  early : (slab n : ℕ) → slab < s.sizes.geometry.slabs → n < sectors_per_slab s.sizes.geometry → commit_at s.sizes.geometry s.image slab n < point_of s.sizes.start 0 Increment
  early slab n in_slab small =
      let inside = counters_inside s.sizes.geometry n small in
      let was = subst IsEarly sizes to.sound.timely.commits slab n in_slab (omega (arith, inside)) in
      let next = (to.sound.closed to.clean).next in
      omega (arith, was, next, start)

  -- Blocks whose entries are the older ones of those that were handed in.
  module _ (newer : List Logged) (older : List (List Logged)) (parts : journaled u ≡ newer ++ all_of older) where
    abbrev blocks : List Sealed
    blocks = blocks_of s older

    abbrev entries : List CommittedEntry
    entries = entries_of s.sizes.start blocks

    turns_here : AreInTurn (opened_image s) entries
    turns_here =
        in_turn s session fair.opened (all_of older) entries (said_by_blocks s older)
        (older_turned s newer (all_of older) (subst (AreTurned s) parts (turned s u right)))
        (older_ordered s newer (all_of older) (subst (AreOrdered s) parts (ordered s u right fair)))

    pages_here : EmptyPagesStand s u (all_of older) → PagesStand s.blocks (log s u) (opened_image s) entries entries
    pages_here stand =
        subst (λ (list : List CommittedEntry). PagesStand s.blocks (log s u) (opened_image s) list list) (append-nil entries)
        (pages.grows s.blocks (log s u) (opened_image s) entries [] [] tt (turns_made (opened_image s) entries turns_here)
        (new_stand s u (all_of older) entries (said_by_blocks s older) stand) (pages_opened s u session fair.opened left))

    counts_here : AreFew blocks → CountsStand s.blocks (log s u) (opened_image s) entries entries
    counts_here few =
        let from = point_of s.sizes.start 0 Increment in
        let pointed = subst (ArePointed from) (sym (append-nil entries)) (blocks_pointed s.sizes.start blocks few).0 in
        subst (λ (list : List CommittedEntry). CountsStand s.blocks (log s u) (opened_image s) list list) (append-nil entries)
        (counts_grow s.blocks (log s u) (opened_image s) entries [] [] from pointed early (counts_opened s u session fair.opened left closed))

    -- with the sequences as the superblock says them
    same_entries : entries ≡ entries_of first blocks
    same_entries = ap (λ (n : ℕ). entries_of n blocks) (sym start)

    pub turns_first : AreInTurn (opened_in s.image to) (entries_of first blocks)
    turns_first = subst₂ AreInTurn alike same_entries turns_here

    window_is : window_from first (head_of first blocks) blocks ≡ entries_of first blocks
    window_is = window_of_all first blocks (heads_first s first older start)

    behind : (head : ℕ) → window_from first head blocks ≡ entries_of first blocks → length blocks + 1 < 2 ^ 18 → AreFew blocks → EmptyPagesStand s u (all_of older)
        → IsBehind s.blocks (log s u) s.image to blocks head
    behind head window reach few stand = record {
      size = sym fair.opened.one_image.size;
      super = head_stands;
      reach = reach;
      few = few;
      turns = turns_first;
      pages = subst (PagesStand s.blocks (log s u) (opened_in s.image to) (entries_of first blocks)) (sym window)
          (subst₂ (λ (image : Image) (list : List CommittedEntry). PagesStand s.blocks (log s u) image list list) alike same_entries (pages_here stand));
      counts = subst (CountsStand s.blocks (log s u) (opened_in s.image to) (entries_of first blocks)) (sym window)
          (subst₂ (λ (image : Image) (list : List CommittedEntry). CountsStand s.blocks (log s u) image list list) alike same_entries (counts_here few));
    }

    -- a ring has fewer blocks than the journal
    in_reach : IsRing s.sizes.geometry s.sizes.start blocks → length blocks + 1 < 2 ^ 18
    in_reach ring =
        let slots = session.sizes.journal.1 in
        let before = ring.ring in
        omega (arith, before, heads_start s older, slots)

    pub rest_stands : AtRest s u older → StandsAtRest s.blocks (log s u) s.image to blocks
    rest_stands rest = record {
      journal = subst₂ (λ (h : Geometry) (n : ℕ). IsAtRest s.blocks (log s u) h n blocks) (sym sizes) (sym start) rest.0;
      behind = behind (head_of first blocks) window_is (in_reach rest.0.ring)
          (few_of s.blocks (log s u) s.sizes.geometry s.sizes.start (head_of s.sizes.start blocks) blocks (omega (arith, heads_start s older)) rest.0.whole) rest.2;
    }

  -- And where one more block is under way.
  pub way_stands : (newer : List Logged) (older : List (List Logged)) (block : List Logged) → journaled u ≡ newer ++ (block ++ all_of older) → OnItsWay s u older block
      → StandsUnderWay s.blocks (log s u) s.image to (blocks_of s older) (sealed_with s block)
  way_stands newer older block parts way =
      let parts_older = parts ∙ sym (append_assoc newer block (all_of older)) in
      let window = subst (λ (h : ℕ). window_from first h (blocks_of s older) ≡ entries_of first (blocks_of s older)) (heads_first s first older start ∙ start) (window_is (newer ++ block) older parts_older) in
      let few = few_of s.blocks (log s u) s.sizes.geometry s.sizes.start (head_of s.sizes.start (blocks_of s older)) (blocks_of s older) (omega (arith, heads_start s older)) way.0.whole in
      record {
        journal = subst₂ (λ (h : Geometry) (n : ℕ). IsUnderWay s.blocks (log s u) h n (blocks_of s older) (sealed_with s block)) (sym sizes) (sym start) way.0;
        behind = behind (newer ++ block) older parts_older s.sizes.start window (in_reach (newer ++ block) older parts_older way.0.ring) few way.2;
        turns = turns_first newer (block ∷ older) parts;
        made = subst (λ (image : Image). NewPagesStand s.blocks (log s u) image (entries_next first (blocks_of s older) (sealed_with s block))) alike
            (new_stand s u block (entries_next first (blocks_of s older) (sealed_with s block)) (said_next s (next_of first (blocks_of s older)) block) (pages_among s u block way.3));
      }
