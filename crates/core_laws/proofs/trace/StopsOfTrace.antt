-- A stop before or after any call of a right trace is right.
use Rattle.std.proofs.Common.{ℕ, ◌+◌, ◌-◌, ◌≡◌, ◌⊎◌, ◌≢◌, ◌<◌, IsTrue, false, List, [], ◌∷◌, ◌++◌, length, refl, ◌∙◌, ap, map, inl, inr, arith, ◌≤◌, Bool, true, sym, subst, append_assoc, IsSome}
use Rattle.std.proofs.lemmas.Bool.{false_from_ne_true}
use Rattle.core_laws.proofs.Common.{all_of, AllByRecursion, answer_of, append-nil, AreAllThere, AtRest, begun, Call, calls, Calls, ComesLast, committed, DeskLine, done, each_both, entered, every-append, every-front, every-map, fair_part, filled, FlushMark, HistoryEntry, IsFair, IsSession, IsWrite, lines, log, Logged, Remapping, Mapping, MapStands, Mark, marks, newest, NewStands, of_address, OnBlock, OnItsWay, PagesStand, places, request_at, RightTrace, RunReport, same_self, sealed, Session, Shown, Stands, Trace, value_from, value_written, Writer, content_of, new_of, journaled, durable, remappings, passed, superblock_bytes, superblock_stage, SuperblockStage, mapping_by, entry_of}
use Rattle.core_laws.proofs.trace.PassesOfTrace.{entered_at_both, entered_once, has_either, value_past}
use Rattle.blk_base.specs.declared.place.Mapping.TheVariants.{Unmapped, Zero, At}
use Rattle.disk_model.specs.Images.{IsImage}
use Rattle.disk_model.specs.Log.{Blocks, block_at, contents}
use Rattle.disk_model.proofs.ImageLaws.{all_weaker, block_of_image, sector_of_mix}
use Rattle.image_layout.specs.Values.{journal_of}
use Rattle.blk_base.proofs.RegionLaws.{data_block_inside}
use Rattle.core_laws.proofs.device.DeviceCalls.{mapped_is_data, value_whole}
use Rattle.core_laws.proofs.journal.SealedBlocks.{front_part, heads_start, said_by_blocks}
use Rattle.vdo_model.specs.LastParts.{is_lasting}
use Rattle.vdo_model.specs.Stops.{is_covered, covered, MayLast, last_value, IsBegunBefore, before_answer, length_at, MayShow, RightAfterStops}
use Rattle.vdo_model.specs.declared.report.Mark.TheVariants.{Settled, Unsettled, Refused}
use Rattle.vdo_model.proofs.HistoryLaws.{covered_within}
use Rattle.core_model.specs.Reports.{opening_values, SaysSuperblock, ShowsValues, report_of, drawn_histories}
use Rattle.core_model.specs.declared.zones.SuperblockStage.TheVariants.{AsOpened, Written, Durable}
use Rattle.core_laws.proofs.trace.CoveredEntries.{IsBegunBy, entered_begun, not_covered}
use Rattle.core_laws.proofs.lists.CoreLists.{Has, has_older, not_in_both, each_older, each_newer, begun_later, before_answer_part}
use Rattle.core_laws.proofs.trace.SuperblockOfTrace.{others_stand, writes_no_other}
use Rattle.core_laws.proofs.trace.Walks.{Walks, walks_front, walks_split}
use Rattle.disk_model.specs.declared.call.Call.TheVariants.{Flush}
use Rattle.vdo_model.specs.Histories.{history_of, is_settled}
use Rattle.core_laws.proofs.trace.Cuts.{Cut, cut, cut_before_call, lines_append, right_part}
use Rattle.core_laws.proofs.trace.DeskOfTrace.{AreApart, both_parts, entered_apart, of_address_append, shown_of, each_of_address, entered_writes, HasData, AreData, entered_data}
use Rattle.core_laws.proofs.trace.HistoriesOfTrace.{entered_walks, settled_walks}
use Rattle.core_laws.proofs.trace.MarksOfTrace.{HasMark, all_marks}
use Rattle.core_laws.proofs.kept.StandsOn.{entered_parts, map_more, pages_more}
use Rattle.core_laws.proofs.trace.ZeroWrites.{zeros_by}
use Rattle.image_model.specs.Looked.{is_looked_at}
use Rattle.image_model.specs.Windows.{IsWindow}
use Rattle.journal_stops.specs.Sealed.{Sealed, next_of, window_of}
use Rattle.journal_stops.proofs.ShownLaws.{window_at_rest, window_under_way}
use Rattle.vdo_model.specs.Journals.{Surely}
use Rattle.blk_base.specs.Sectors.{sector}
use Rattle.journal_stops.proofs.EntryLaws.{window_of_all}
use Rattle.core_model.specs.Sessions.{HasSuperblock, IsSuperblock, SuperblockStands, blocks_of, said_by, sealed_with}
use Rattle.core_laws.proofs.trace.ShownMaps.{shown_mapping}
use Rattle.image_model.specs.Maps.{Image, image_with, value_of, value_with}
use Rattle.blk_base.specs.declared.journal_entry.CommittedEntry.{CommittedEntry}
use Rattle.journal_stops.specs.Sealed as blocks

-- What an image shows of a trace: the entries of its window, and the value of each address.

-- an image has a window with the entries of these writes
pub record HasWindow (s : Session) (image : Blocks) (es : List Logged) : Type 0 where
  pub last : ℕ
  pub shown : List CommittedEntry
  pub is_window : IsWindow s.sizes.geometry s.sizes.start (journal_of s.sizes.geometry image) last shown
  pub said : map entry_of es ≡ said_by shown

-- the entries of a window that a stop may leave: the committed ones, or those that were handed in
pub record ImageEntries (s : Session) (u : Trace) (image : Blocks) : Type 0 where
  pub es : List Logged
  pub more : List Logged
  pub fewer : List Logged
  pub of_entered : journaled u ≡ more ++ es
  pub has_committed : es ≡ fewer ++ durable u
  pub window : HasWindow s image es
  pub stand : MapStands s u es
  pub pages : PagesStand s u es

-- the newer and the older of some entries
pub record FrontOf (es : List Logged) : Type 0 where
  pub newer : List Logged
  pub older : List Logged
  pub parts : es ≡ newer ++ older

module _ (s : Session) (u : Trace) (image : Blocks) (session : IsSession s) (fair : IsFair s u) (is : IsImage s.blocks (log s u) image) where
  -- a window whose blocks all name the first sequence has the entries of all
  all_in_window : (older : List (List Logged)) (last : ℕ) → IsWindow s.sizes.geometry s.sizes.start (journal_of s.sizes.geometry image) last (window_of s.sizes.start (blocks_of s older)) → HasWindow s image (all_of older)
  all_in_window older last k = record {
    last = last;
    shown = blocks.entries_of s.sizes.start (blocks_of s older);
    is_window = subst (IsWindow s.sizes.geometry s.sizes.start (journal_of s.sizes.geometry image) last) (window_of_all s.sizes.start (blocks_of s older) (heads_start s older)) k;
    said = said_by_blocks s older;
  }

  abbrev last_of : List (List Logged) → ℕ
  last_of older = next_of s.sizes.start (blocks_of s older) - 1

  last_is : (older : List (List Logged)) → last_of older + 1 ≡ next_of s.sizes.start (blocks_of s older)
  last_is older = let some = session.start.0 in omega (arith, some)

  rest_window : (older : List (List Logged)) → AtRest s u older → HasWindow s image (all_of older)
  rest_window older rest =
      all_in_window older (last_of older) (window_at_rest s.blocks (log s u) s.sizes.geometry s.sizes.start (blocks_of s older) image (last_of older) (omega (arith, fair.opened.room)) rest.0 is (last_is older))

  -- where the last block comes, the image has the others, or its first sectors too
  coming_window : (older : List (List Logged)) (es : List Logged) → OnItsWay s u older es → HasWindow s image (all_of older) ⊎ ((part : FrontOf es) × HasWindow s image (part.older ++ all_of older))
  coming_window older es way =
      elim (window_under_way s.blocks (log s u) s.sizes.geometry s.sizes.start (blocks_of s older) (sealed_with s es) image (last_of older) (omega (arith, fair.opened.room)) way.0 is (last_is older)) [
        | inl old ↦ inl (all_in_window older (last_of older) old)
        | inr (n, some, few, new) ↦
            let front = front_part s n es in
            inr (
              record { newer = front.newer; older = front.older; parts = front.parts },
              all_in_window (front.older ∷ older) (last_of older + 1)
                  (subst (λ (block : Sealed). IsWindow s.sizes.geometry s.sizes.start (journal_of s.sizes.geometry image) (last_of older + 1) (window_of s.sizes.start (block ∷ blocks_of s older))) front.front new),
            )
      ]

  -- the blocks that were sealed, and those that were handed in
  all_there : AreAllThere s u → ImageEntries s u image
  all_there k = record {
    es = all_of (sealed u);
    more = filled u;
    fewer = k.rest;
    of_entered = entered_parts u;
    has_committed = k.all;
    window = rest_window (sealed u) k.stands;
    stand = k.stands.1;
    pages = k.stands.2;
  }

  comes_last : (k : ComesLast s u) → AtRest s u k.older ⊎ OnItsWay s u k.older k.block → ImageEntries s u image
  comes_last k stands = by stands
    where
      parts : journaled u ≡ filled u ++ (k.block ++ all_of k.older)
      parts = entered_parts u ∙ ap (λ (all : List (List Logged)). filled u ++ all_of all) k.sealed_is

      old_entries : HasWindow s image (all_of k.older) → MapStands s u (all_of k.older) → PagesStand s u (all_of k.older) → ImageEntries s u image
      old_entries window stand pages = record {
        es = all_of k.older;
        more = filled u ++ k.block;
        fewer = [];
        of_entered = parts ∙ sym (append_assoc (filled u) k.block (all_of k.older));
        has_committed = sym k.committed_is;
        window = window;
        stand = stand;
        pages = pages;
      }

      -- what the entries of the first sectors map their addresses to
      new_stands : OnItsWay s u k.older k.block → (part : FrontOf k.block) → NewStands s u part.older
      new_stands way part = (every-front (λ (e : Logged). OnBlock (λ x. Stands s u x.0 (content_of s e)) (new_of e)) part.newer part.older (subst (NewStands s u) part.parts way.3)).1

      by : AtRest s u k.older ⊎ OnItsWay s u k.older k.block → ImageEntries s u image
      by (inl rest) = old_entries (rest_window k.older rest) rest.1 rest.2
      by (inr way) = elim (coming_window k.older k.block way) [
        | inl old ↦ old_entries old way.1 way.2
        | inr (part, window) ↦
            let stands = new_stands way part in record {
              es = part.older ++ all_of k.older;
              more = filled u ++ part.newer;
              fewer = part.older;
              of_entered = parts ∙ ap (λ (es : List Logged). filled u ++ (es ++ all_of k.older)) part.parts ∙ ap (λ (es : List Logged). filled u ++ es) (append_assoc part.newer part.older (all_of k.older))
                  ∙ sym (append_assoc (filled u) part.newer (part.older ++ all_of k.older));
              has_committed = ap (λ (es : List Logged). part.older ++ es) (sym k.committed_is);
              window = window;
              stand = map_more s u part.older (all_of k.older) way.1 stands;
              pages = pages_more s u part.older (all_of k.older) way.2 stands;
            }
      ]

  journal_entries : AreAllThere s u ⊎ ComesLast s u → ImageEntries s u image
  journal_entries (inl k) = all_there k
  journal_entries (inr k) = comes_last k k.stands

  -- The window of an image has the entries that are committed, or those that were handed in.
  pub image_entries : Shown s u → ImageEntries s u image
  image_entries shown = journal_entries shown.journal

  -- The superblock is the session's in its first sector; or it is the one that was opened, and nothing else was written.
  some_block : 0 < length s.blocks
  some_block = omega (arith, fair.opened.room)

  first_sector : (P : List ℕ → Type 0) → Surely s.blocks (log s u) 0 (λ content. P (sector 0 content)) → P (sector 0 (block_at image 0))
  first_sector P all = sector_of_mix P (contents s.blocks (log s u) 0) (block_at image 0) 0 (omega arith) (is.sectors 0 some_block) all

  abbrev SaysEither : List ℕ → Type 0
  SaysEither first = (first ≡ sector 0 (block_at s.image 0)) ⊎ (first ≡ sector 0 (superblock_bytes s.sizes))

  either : (content : List ℕ) → IsSuperblock s content → SaysEither (sector 0 content)
  either content (inl opened) = inl (ap (sector 0) opened)
  either content (inr session) = inr (ap (sector 0) session)

  says_either : HasSuperblock s u → SaysEither (sector 0 (block_at image 0))
  says_either has = first_sector SaysEither (all_weaker (IsSuperblock s) (λ content. SaysEither (sector 0 content)) (contents s.blocks (log s u) 0) either has)

  says_session : Stands s u 0 (superblock_bytes s.sizes) → sector 0 (block_at image 0) ≡ sector 0 (superblock_bytes s.sizes)
  says_session stands =
      first_sector (λ first. first ≡ sector 0 (superblock_bytes s.sizes))
      (all_weaker (λ content. content ≡ superblock_bytes s.sizes) (λ content. sector 0 content ≡ sector 0 (superblock_bytes s.sizes)) (contents s.blocks (log s u) 0) (λ content same. ap (sector 0) same) stands)

  others_opened : RightTrace s u → superblock_stage u ≢ Durable → (x : ℕ) → x < length s.blocks → x ≢ 0 → IsTrue (is_looked_at s.sizes.geometry x) → block_at image x ≡ block_at s.image x
  others_opened right not_yet x below other looked =
      let stands = others_stand (λ content. content ≡ block_at s.image x) s.blocks s.before s.sizes x other (calls u) (writes_no_other s u right not_yet) (fair.opened.one_image.only x below looked) in
      block_of_image s.blocks (log s u) image x (block_at s.image x) below (fair.opened.one_image.whole x below) stands is

  not_durable : RightTrace s u → HasSuperblock s u → superblock_stage u ≢ Durable → SaysSuperblock s image
  not_durable right has not_yet = elim (says_either has) [ inl opened ↦ inl (record { says = opened; others = others_opened right not_yet }) | inr session ↦ inr session ]

  pub says_superblock : RightTrace s u → Shown s u → SaysSuperblock s image
  says_superblock right shown = by (superblock_stage u) refl shown.superblock
    where
      by : (now : SuperblockStage) → superblock_stage u ≡ now → SuperblockStands s u now → SaysSuperblock s image
      by AsOpened is k = not_durable right k (λ durable. absurd cc)
      by Written is k = not_durable right k.0 (λ durable. absurd cc)
      by Durable is k = inr (says_session k)

  -- An address has the value of its newest entry, or that which it had.
  module _ (right : RightTrace s u) (es : List Logged) (a : ℕ) (stand : MapStands s u es) (writes : AllByRecursion (IsWrite s u) (remappings es)) (to_data : AreData s (remappings es)) where
    abbrev here : List Remapping
    here = of_address a (remappings es)

    by_mapping : (m : Mapping) → mapping_by s es a ≡ m → value_with image m ≡ value_from s a (newest here)
    by_mapping (At x) maps =
        let inside = data_block_inside s.sizes.geometry x.0 (mapped_is_data s es a x fair.opened to_data maps) in
        let whole = value_whole s u session right fair (remappings es) a x (newest here) writes refl maps in
        let stands : Stands s u x.0 (value_from s a (newest here)) = subst (OnBlock (λ y. Stands s u y.0 (value_from s a (newest here)))) maps (stand a) in
        block_of_image s.blocks (log s u) image x.0 _ (omega (arith, inside, fair.opened.room)) whole stands is
    by_mapping Unmapped maps = sym (zeros_by s u (remappings es) a (newest here) Unmapped (λ x off. cc) refl refl writes maps)
    by_mapping Zero maps = sym (zeros_by s u (remappings es) a (newest here) Zero (λ x off. cc) refl refl writes maps)

    pub shown_value : value_with image (mapping_by s es a) ≡ value_from s a (newest here)
    shown_value = by_mapping (mapping_by s es a) refl

-- The part of a history that a stop shows: from the entry that stands for the newest of the shown ones back.

-- The first entry of a history stands for the first of these; where there is none, nothing is shown.
abbrev pub StandsFor : List HistoryEntry → List Remapping → Type 0
StandsFor [] [] = Unit {0}
StandsFor [] (e ∷ es) = ⊥
StandsFor (h ∷ hs) [] = ⊥
StandsFor (h ∷ hs) (e ∷ es) = (is_lasting true h.mark ≡ true) × (h.request ≡ e.request)

-- a history in two parts: what is newer doesn't last, or is of newer entries
pub record ShownPart (history : List HistoryEntry) (newer_es es : List Remapping) : Type 0 where
  pub newer : List HistoryEntry
  pub shown : List HistoryEntry
  pub part : history ≡ newer ++ shown
  pub of_newer : AllByRecursion (λ (h : HistoryEntry). (is_lasting true h.mark ≡ false) ⊎ Has newer_es h.request) newer
  pub stands : StandsFor shown es

none_passes : (test : Mark → Bool) (hs : List HistoryEntry) → Walks test hs [] → AllByRecursion (λ (h : HistoryEntry). test h.mark ≡ false) hs
none_passes test [] walks = tt
none_passes test (h ∷ hs) (inl (passed, rest)) = (passed, none_passes test hs rest)
none_passes test (h ∷ hs) (inr (e, older, is, request_is, passes, rest)) = absurd cc

oldest_part : (hs : List HistoryEntry) (newer_es es : List Remapping) → Walks (is_lasting true) hs es → ShownPart hs newer_es es
oldest_part hs newer_es [] walks = record {
  newer = hs;
  shown = [];
  part = sym (append-nil hs);
  of_newer = every-map {P = _} {Q = _} (λ h none. inl none) hs (none_passes (is_lasting true) hs walks);
  stands = tt;
}
oldest_part hs newer_es (e ∷ es) walks =
    let found = walks_front (is_lasting true) hs e es walks in record {
      newer = found.newer;
      shown = found.entry ∷ found.older;
      part = found.part;
      of_newer = every-map {P = _} {Q = _} (λ h none. inl none) found.newer found.of_none;
      stands = (found.passes, found.request_is);
    }

-- A history that walks newer entries and these has such parts.
pub shown_part : (hs : List HistoryEntry) (newer_es es : List Remapping) → Walks (is_lasting true) hs (newer_es ++ es) → ShownPart hs newer_es es
shown_part hs newer_es es walks =
    let split = walks_split (is_lasting true) hs newer_es es walks in
    let oldest = oldest_part split.older newer_es es split.walks in record {
      newer = split.newer ++ oldest.newer;
      shown = oldest.shown;
      part = split.part ∙ ap (λ (older : List HistoryEntry). split.newer ++ older) oldest.part ∙ sym (append_assoc split.newer oldest.newer oldest.shown);
      of_newer = every-append _ split.newer oldest.newer split.of_newer oldest.of_newer;
      stands = oldest.stands;
    }

-- Each entry that passes the test has one of the entries that are walked.
pub each_there : (test : Mark → Bool) (hs : List HistoryEntry) (es : List Remapping) → Walks test hs es → AllByRecursion (λ (h : HistoryEntry). test h.mark ≡ true → Has es h.request) hs
each_there test [] es walks = tt
each_there test (h ∷ hs) es (inl (passed, rest)) = (λ passes. absurd cc, each_there test hs es rest)
each_there test (h ∷ hs) es (inr (e, older, is, request_is, passes, rest)) =
    let back : (w : Writer) → Has (e ∷ older) w → Has es w = λ w has. subst (λ (xs : List Remapping). Has xs w) (sym is) has in
    let here : Has (e ∷ older) e.request = rw (same_self e.request) refl in (
      λ passes_too. back h.request (subst (Has (e ∷ older)) (sym request_is) here),
      every-map {P = λ (g : HistoryEntry). test g.mark ≡ true → Has older g.request} {Q = λ (g : HistoryEntry). test g.mark ≡ true → Has es g.request} (λ g has passes_too. back g.request (has_older (e ∷ []) older g.request (has passes_too))) hs (each_there test hs older rest),
    )

mark_lasts : (h : HistoryEntry) (hs : List HistoryEntry) (mark : Mark) → h.mark ≡ mark → is_lasting true mark ≡ true → MayLast (h ∷ hs)
mark_lasts h hs Settled is lasts = rw is tt
mark_lasts h hs Unsettled is lasts = rw is tt
mark_lasts h hs Refused is lasts = absurd cc

-- The last entry of what is shown lasts.
pub stands_last : (shown : List HistoryEntry) (es : List Remapping) → StandsFor shown es → MayLast shown
stands_last [] es stands = tt
stands_last (h ∷ hs) [] stands = absurd stands
stands_last (h ∷ hs) (e ∷ es) stands = mark_lasts h hs h.mark refl stands.0

-- It has the value of the newest entry that is shown.
pub stands_value : (s : Session) (a : ℕ) (shown : List HistoryEntry) (es : List Remapping) → StandsFor shown es → value_from s a (newest es) ≡ last_value s.script (opening_values s a) shown
stands_value s a [] [] stands = refl
stands_value s a [] (e ∷ es) stands = absurd stands
stands_value s a (h ∷ hs) [] stands = absurd stands
stands_value s a (h ∷ hs) (e ∷ es) stands = ap (λ (w : Writer). value_written (request_at s.script w)) (sym stands.1)

-- It was begun where that was.
pub stands_begun : (desk : List DeskLine) (f : FlushMark) (shown : List HistoryEntry) (es : List Remapping) → StandsFor shown es
    → AllByRecursion (IsBegunBy (before_answer desk f.request)) es → IsBegunBefore desk f shown
stands_begun desk f [] es stands all = tt
stands_begun desk f (h ∷ hs) [] stands all = absurd stands
stands_begun desk f (h ∷ hs) (e ∷ es) stands all = subst (λ (w : Writer). w.number < begun w.stream (before_answer desk f.request)) (sym stands.1) all.0

-- Where no newer entry is covered, what is covered is no later than what is shown.
pub none_covered : (desk : List DeskLine) (f : FlushMark) (newer shown : List HistoryEntry) → AllByRecursion (λ (x : HistoryEntry). is_covered desk f x ≡ false) newer
    → length (covered desk f (newer ++ shown)) ≤ length shown
none_covered desk f [] shown all = covered_within desk f shown
none_covered desk f (entry ∷ newer) shown all = rw all.0 (none_covered desk f newer shown all.1)

-- A stop before or after any call of a right trace is right.

module _ (s : Session) (t : Trace) (session : IsSession s) (right : RightTrace s t) (prefix : List Call) (c : Cut t prefix)
    (es more fewer : List Remapping) (of_entered : entered c.older ≡ more ++ es) (has_committed : es ≡ fewer ++ committed c.older) where
  -- what was handed in later than what is shown
  abbrev newer_es : List Remapping
  newer_es = remappings (journaled c.newer) ++ (passed c.newer ++ more)

  right_all : RightTrace s (c.newer ++ c.older)
  right_all = subst (RightTrace s) c.parts right

  all_entered : (a : ℕ) → of_address a (entered t) ≡ of_address a newer_es ++ of_address a es
  all_entered a =
      let here = of_address a (remappings (journaled c.newer)) in
      let past = of_address a (passed c.newer) in
      ap (λ (u : Trace). of_address a (entered u)) c.parts ∙ entered_at_both s c.newer c.older a right_all
      ∙ ap (λ (xs : List Remapping). here ++ (past ++ of_address a xs)) of_entered
      ∙ ap (λ (xs : List Remapping). here ++ (past ++ xs)) (of_address_append a more es)
      ∙ ap (λ (xs : List Remapping). here ++ xs) (sym (append_assoc past (of_address a more) (of_address a es)))
      ∙ sym (append_assoc here (past ++ of_address a more) (of_address a es))
      ∙ ap (λ (xs : List Remapping). (here ++ xs) ++ of_address a es) (sym (of_address_append a (passed c.newer) more))
      ∙ ap (λ (xs : List Remapping). xs ++ of_address a es) (sym (of_address_append a (remappings (journaled c.newer)) (passed c.newer ++ more)))

  -- no request has one of both
  in_one : (w : Writer) → Has newer_es w → Has es w → ⊥
  in_one w newer shown =
      let right_cut = right_part s c.newer c.older right_all in
      let old : Has (entered c.older) w = subst (λ (xs : List Remapping). Has xs w) (sym of_entered) (has_older more es w shown) in
      elim (has_either (remappings (journaled c.newer)) (passed c.newer ++ more) w newer) [
        | inl now ↦ entered_once s c.newer c.older w right_all (inl now) old
        | inr rest ↦ elim (has_either (passed c.newer) more w rest) [
          | inl past ↦ entered_once s c.newer c.older w right_all (inr past) old
          | inr before ↦ not_in_both more es w (subst AreApart of_entered (entered_apart s c.older right_cut)) before shown
        ]
      ]

  -- what is shown was begun before the answers of the later flushes
  begun_before : (f : FlushMark) → HasMark t f → length prefix ≤ length_at (calls t) f.calls → AllByRecursion (IsBegunBy (before_answer (lines t) f.request)) es
  begun_before f has since =
      let right_cut = right_part s c.newer c.older (subst (RightTrace s) c.parts right) in
      let by_cut = each_older (IsBegunBy (lines c.older)) more es (subst (AllByRecursion (IsBegunBy (lines c.older))) of_entered (entered_begun s c.older right_cut)) in
      let lines_are : lines t ≡ lines has.later ++ lines has.older = ap lines has.parts ∙ lines_append has.later (Calls (Flush true) ∷ has.older) in
      let part = before_answer_part (lines has.later) (lines has.older) f.request has.not_answered (subst (λ (ls : List DeskLine). IsSome (answer_of ls f.request)) lines_are has.answers) in
      let answer_is : before_answer (lines t) f.request ≡ part.0 ++ lines has.older = ap (λ (ls : List DeskLine). before_answer ls f.request) lines_are ∙ part.1 in
      every-map {P = IsBegunBy (lines c.older)} {Q = IsBegunBy (before_answer (lines t) f.request)} (λ e is. elim (cut_before_call t prefix f c has since) [
        | inl none ↦ let nothing : e.request.number < 0 = subst (λ (u : Trace). IsBegunBy (lines u) e) none is in absurd (omega (arith, nothing))
        | inr inside ↦
            let by_call = begun_later (lines inside.0) (lines c.older) e.request.stream in
            let same_call = ap (begun e.request.stream) (ap lines inside.1 ∙ lines_append inside.0 c.older) in
            let by_answer = begun_later part.0 (lines has.older) e.request.stream in
            let same_answer = ap (begun e.request.stream) answer_is in
            omega (arith, is, by_call, same_call, by_answer, same_answer)
      ]) es by_cut

  -- An address may show the value of its newest entry.
  pub may_show : (a : ℕ) → a < s.sizes.geometry.logical → (value : List ℕ) → value ≡ value_from s a (newest (of_address a es))
      → MayShow s.script (lines t) (marks t) (calls t) (length prefix) (history_of (drawn_histories s t) a) (opening_values s a) value
  may_show a below value value_is =
      let history = history_of (drawn_histories s t) a in
      let walks : Walks (is_lasting true) history (of_address a newer_es ++ of_address a es) =
      subst (Walks (is_lasting true) history) (all_entered a) (entered_walks s t a right) in
      let parts = shown_part history (of_address a newer_es) (of_address a es) walks in
      let there = each_newer (λ (x : HistoryEntry). is_settled x.mark ≡ true → Has (of_address a (done t)) x.request) parts.newer parts.shown
      (subst (AllByRecursion (λ (x : HistoryEntry). is_settled x.mark ≡ true → Has (of_address a (done t)) x.request)) parts.part
      (each_there is_settled history (of_address a (done t)) (settled_walks s t a right))) in
      let facts = each_both _ _ parts.newer parts.of_newer there in
      record {
        newer = parts.newer;
        shown = parts.shown;
        part = parts.part;
        lasts = stands_last parts.shown (of_address a es) parts.stands;
        value_is = value_is ∙ stands_value s a parts.shown (of_address a es) parts.stands;
        flushed = every-map {P = HasMark t} (λ f has by_then.
            subst (λ (h : List HistoryEntry). length (covered (lines t) f h) ≤ length parts.shown) (sym parts.part)
            (none_covered (lines t) f parts.newer parts.shown
            (every-map {Q = λ x. is_covered (lines t) f x ≡ false} (λ x fact.
            false_from_ne_true (is_covered (lines t) f x) (not_covered s t right prefix c newer_es es fewer in_one has_committed f has by_then a below x fact.0 fact.1)) parts.newer facts))) (marks t) (all_marks s t session right);
        begun = every-map {P = HasMark t} (λ f has since.
            stands_begun (lines t) f parts.shown (of_address a es) parts.stands
            (each_of_address (IsBegunBy (before_answer (lines t) f.request)) a es (begun_before f has since))) (marks t) (all_marks s t session right);
      }

-- the report, with the places as they were drawn
abbrev pub drawn_report : Session → Trace → RunReport
drawn_report s t = record (report_of s t) { places = places t; histories = drawn_histories s t }

-- A stop before or after any call of a right trace is right.
pub stops_right : (s : Session) (t : Trace) → IsSession s → RightTrace s t → IsFair s t
    → RightAfterStops (ShowsValues s) s.blocks s.before s.sizes.geometry.logical (opening_values s) (drawn_report s t) (calls t)
stops_right s t session right fair later prefix calls_are image is =
    let c = cut t later prefix calls_are in
    let u = c.older in
    let right_cut = right_part s c.newer u (subst (RightTrace s) c.parts right) in
    let fair_cut = fair_part s c.newer u (subst (IsFair s) c.parts fair) in
    let stands = shown_of s u right_cut fair_cut in
    let is_cut : IsImage s.blocks (log s u) image = subst (λ (cs : List Call). IsImage s.blocks (cs ++ s.before) image) (sym c.calls_are) is in
    let entries = image_entries s u image session fair_cut is_cut stands in
    let shown : Image = image_with s.sizes.geometry image entries.window.shown in
    let maps = shown_mapping s u image session fair_cut is_cut right_cut stands.kept entries.more entries.es entries.of_entered entries.pages entries.window.last entries.window.shown entries.window.is_window entries.window.said in
    let es : List Remapping = remappings entries.es ++ passed u in
    let of_entered : entered u ≡ remappings entries.more ++ (remappings entries.es ++ passed u) = ap (λ (xs : List Logged). remappings xs ++ passed u) entries.of_entered ∙ both_parts entries.more entries.es (passed u) in
    let has_committed : remappings entries.es ++ passed u ≡ remappings entries.fewer ++ committed u = ap (λ (xs : List Logged). remappings xs ++ passed u) entries.has_committed ∙ both_parts entries.fewer (durable u) (passed u) in
    let writes = (every-front (IsWrite s u) (remappings entries.es) (passed u) (each_older (IsWrite s u) (remappings entries.more) es (subst (AllByRecursion (IsWrite s u)) of_entered (entered_writes s u right_cut)))).0 in
    let to_data = (every-front (HasData s) (remappings entries.es) (passed u) (each_older (HasData s) (remappings entries.more) es (subst (AreData s) of_entered (entered_data s u right_cut)))).0 in (
      (λ a. value_of shown a),
      (says_superblock s u image session fair_cut is_cut right_cut stands, record { last = entries.window.last; window = entries.window.shown; is_window = entries.window.is_window; values_are = λ a. refl }),
      λ a below. may_show s t session right prefix c es (remappings entries.more) (remappings entries.fewer) of_entered has_committed a below (value_of shown a)
          (ap (value_with image) (maps a) ∙ shown_value s u image session fair_cut is_cut right_cut entries.es a entries.stand writes to_data ∙ sym (value_past s u a right_cut fair_cut.opened (remappings entries.es))),
    )
