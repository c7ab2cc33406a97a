-- A flush that was served alone, in a core in which nothing was under way: each block that was used then is mapped in each image that a
-- stop leaves right behind the flush of the device.
use Rattle.std.proofs.Common.{ℕ, suc, ◌+◌, ◌-◌, ◌≡◌, ◌⊎◌, ◌<◌, ◌++◌, false, true, not, Some, IsNone, List, [], ◌∷◌, length, length-append, append_assoc, map, Contains, refl, ap, ap₂, sym, ◌∙◌, subst, inl, inr, arith}
use Rattle.std.proofs.lemmas.List.{append_cancel_right, nil_from_length}
use Rattle.blk_base.specs.Regions.{IsDataBlock}
use Rattle.blk_base.specs.declared.journal_entry.CommittedEntry.{CommittedEntry}
use Rattle.blk_base.specs.declared.place.PageId.{PageId}
use Rattle.blk_base.specs.declared.request.Answer.TheVariants as reply
use Rattle.blk_base.specs.declared.request.Request.TheVariants as request
use Rattle.core_laws.proofs.Common.{Answer as Reply, Asks, Call, Calls, Commits, DeskLine, Enters, Fails, FlushMark, Flushes, Happening, Harms, Hears, IsDeskLog, IsFair, IsOpen, IsSession, Lba, Logged, Makes, Mapping, MapsTo, Pbn, Remaps, Request, RightTrace, Says, Script, Seals, Session, Shown, Trace, Writer, all_of, answer_of, asked, begun, calls, cases_Bool, cases_lt, durable, entry_of, eqb_tells, fair_part, filled, has_stopped, is_read, journaled, lines, log, marks, not_both, opened_image, request_at, same_Some, same_tells, same_writer, sealed, some_of}
use Rattle.core_laws.proofs.device.LeafReads.{each_of}
use Rattle.core_laws.proofs.kept.FreeBlocks.{has_same}
use Rattle.core_laws.proofs.kept.MapCounts.{durable_running}
use Rattle.core_laws.proofs.kept.StandsOn.{entered_parts}
use Rattle.core_laws.proofs.lists.CoreLists.{begun_later, or_none}
use Rattle.core_model.specs.Reports.{IsMappedIn}
use Rattle.core_model.specs.Uses.{IsUsedAt}
use Rattle.vdo_model.specs.QuietWrites.{AllBegunAreAnswered}
use Rattle.core_laws.proofs.quiet.StillCore.{all_sealed, none_filled, used_mapped}
use Rattle.core_laws.proofs.trace.Cuts.{Cut, call_in_cut, cut, cut_before_call, lines_append, one_is_part, right_part}
use Rattle.core_laws.proofs.trace.DeskOfTrace.{desk_log_right, shown_of}
use Rattle.core_laws.proofs.trace.EntriesInTurn.{pointed, pointed_said}
use Rattle.core_laws.proofs.trace.MarksOfTrace.{HasMark, IsOfFlush, all_marks, only_flushes}
use Rattle.core_laws.proofs.trace.ShownMaps.{shows}
use Rattle.core_laws.proofs.trace.StopsOfTrace.{ImageEntries, image_entries}
use Rattle.core_model.specs.Legal.{Legal}
use Rattle.core_model.specs.PageLinks.{MayLack}
use Rattle.core_model.specs.Sessions.{said_by}
use Rattle.core_model.specs.Steps.{Core}
use Rattle.count_laws.proofs.BelowLaws.{same_up_to}
use Rattle.count_laws.proofs.StepLaws.{number_of_pages}
use Rattle.count_laws.specs.Turns.{HasMappingsAfter, IsPageAfter}
use Rattle.data_vio.specs.declared.items.Asks.TheVariants as asks
use Rattle.disk_model.specs.Images.{IsImage}
use Rattle.disk_model.specs.Log.{Blocks}
use Rattle.disk_model.specs.declared.call.Call.TheVariants.{Flush}
use Rattle.image_layout.specs.Values.{journal_of}
use Rattle.image_model.proofs.WindowLaws.{one_window}
use Rattle.image_model.specs.Counts.{HasMappings}
use Rattle.image_model.specs.Maps.{Image, IsTreePage, image_with, mapping_of, page_at}
use Rattle.image_model.specs.Pages.{address_count}
use Rattle.journal_stops.specs.Mapped.{ShowsEntries, mapping_after, page_after}
use Rattle.vdo_model.specs.Stops.{length_at}
use Rattle.vdo_model.specs.declared.report.DeskLine.TheVariants.{Begin, Answer}

-- An image at a moment at which all that was handed in is committed: it maps what the committed entries map.
module _ (s : Session) (u : Trace) (image : Blocks) (session : IsSession s) (fair : IsFair s u) (is : IsImage s.blocks (log s u) image) (right : RightTrace s u) (all : journaled u ≡ durable u) where
  -- what stands on the device then
  stands : Shown s u
  stands = shown_of s u right fair

  -- the entries of its window
  entries : ImageEntries s u image
  entries = image_entries s u image session fair is stands

  -- are the committed ones
  entries_are : entries.es ≡ durable u
  entries_are =
      let newer = ap length (sym all ∙ entries.of_entered) ∙ length-append entries.more entries.es in
      let older = ap length entries.has_committed ∙ length-append entries.fewer (durable u) in
      let none : entries.fewer ≡ [] = nil_from_length entries.fewer (omega (arith, newer, older)) in
      entries.has_committed ∙ ap (λ (es : List Logged). es ++ durable u) none

  -- its window
  abbrev window : List CommittedEntry
  window = entries.window.shown

  -- the image with it
  abbrev with_window : Image
  with_window = image_with s.sizes.geometry image window

  -- it shows the window's entries
  shown : ShowsEntries (opened_image s) s.sizes.start image window
  shown = shows s u image session fair is right stands.kept entries.more entries.es entries.of_entered entries.pages entries.window.last window entries.window.is_window entries.window.said

  -- by this window
  window_is : shown.shown.window ≡ window
  window_is = (one_window s.sizes.geometry s.sizes.start (journal_of s.sizes.geometry image) shown.shown.last entries.window.last shown.shown.window window shown.shown.is_window entries.window.is_window).1

  -- so its pages are those after them
  pages_are : (page : PageId) → page_at with_window page ≡ page_after (opened_image s) window page
  pages_are page = subst (λ (w : List CommittedEntry). page_at (image_with s.sizes.geometry image w) page ≡ page_after (opened_image s) window page) window_is (shown.pages page)

  -- and its addresses are mapped as after them
  mappings_are : (a : ℕ) → mapping_of with_window a ≡ mapping_after (opened_image s) window a
  mappings_are a = subst (λ (w : List CommittedEntry). mapping_of (image_with s.sizes.geometry image w) a ≡ mapping_after (opened_image s) window a) window_is (shown.mappings a)

  -- its window says what the committed entries say
  said : said_by (pointed (durable u)) ≡ said_by window
  said = sym (pointed_said (durable u)) ∙ ap (λ (es : List Logged). map entry_of es) (sym entries_are) ∙ entries.window.said

  -- so a block has as many mappings in it as after those
  has_mappings : (x : Pbn) (count : ℕ) → HasMappingsAfter (opened_image s) (pointed (durable u)) x count → HasMappings with_window x count
  has_mappings x count after =
      let has = has_same (opened_image s) (pointed (durable u)) window said x count after in
      record {
        pages = has.pages;
        one_page = number_of_pages (IsPageAfter (opened_image s) window x) (IsTreePage with_window x) has.pages
            (λ (page, below, there). (page, below, pages_are page ∙ there))
            (λ (page, below, there). (page, below, sym (pages_are page) ∙ there)) has.one_page;
        sum = has.sum ∙ ap (λ (n : ℕ). n + has.pages) (same_up_to (mapping_of with_window) (mapping_after (opened_image s) window) x (address_count s.sizes.geometry) (λ a below. sym (mappings_are a)));
      }

  -- and one that has some after those is mapped in it
  pub image_maps : (x : Pbn) (more : ℕ) → HasMappingsAfter (opened_image s) (pointed (durable u)) x (suc more) → IsMappedIn s.sizes.geometry s.sizes.start image x
  image_maps x more after = record {
    last = entries.window.last;
    window = window;
    is_window = entries.window.is_window;
    more = more;
    mapped = has_mappings x (suc more) after;
  }

-- A flush that is begun where all that was begun is answered, and what happens until its answer.

-- a flush asks for nothing to be written or discarded
no_change : (asks : Asks) (at : Lba) (bytes : List ℕ) (new : Mapping) → asked asks at bytes ≡ request.Flush → MapsTo asks bytes new → ⊥
no_change asks.Read at bytes new is maps = absurd cc
no_change asks.Write at bytes new is maps = absurd cc
no_change asks.Discard at bytes new is maps = absurd cc
no_change asks.Flush at bytes new is maps = absurd maps

-- requests with the same stream and number are one
one_writer : (v w : Writer) → v.stream ≡ w.stream → v.number ≡ w.number → v ≡ w
one_writer v w stream number = ap₂ (λ (m n : ℕ). record { stream = m; number = n }) stream number

module _ (s : Session) (t : Trace) (f : Writer) (all : AllBegunAreAnswered (lines t)) (flush : request_at s.script f ≡ Some request.Flush) (next : f.number ≡ begun f.stream (lines t)) where
  -- no line came since, or that of its beginning
  abbrev IsAlone : List DeskLine → Type 0
  IsAlone desk = (desk ≡ []) ⊎ (desk ≡ Begin f ∷ [])

  -- and so it was before
  alone_before : (h : Happening) (m : Trace) → IsAlone (lines (h ∷ m)) → IsAlone (lines m)
  alone_before (Says line) m (inl none) = absurd cc
  alone_before (Says line) m (inr one) = inl cc
  alone_before (Flushes mark) m (inl none) = absurd cc
  alone_before (Flushes mark) m (inr one) = inl cc
  alone_before (Fails w c true) m alone = alone
  alone_before other m alone = alone

  -- nothing that was begun before is open
  none_open : (w : Writer) → w.number < begun w.stream (lines t) → IsNone (answer_of (lines t) w) → ⊥
  none_open w is_begun unanswered = let (answer, is) = some_of (answer_of (lines t) w) (all w is_begun) in not_both (answer_of (lines t) w) answer unanswered is

  -- so it alone is
  open_alone : (w : Writer) (desk : List DeskLine) → IsAlone desk → w.number < begun w.stream (desk ++ lines t) → IsNone (answer_of (desk ++ lines t) w) → w ≡ f
  open_alone w desk (inl none) is_begun unanswered =
      absurd (none_open w (subst (λ (ls : List DeskLine). w.number < begun w.stream (ls ++ lines t)) none is_begun) (subst (λ (ls : List DeskLine). IsNone (answer_of (ls ++ lines t) w)) none unanswered))
  open_alone w desk (inr one) is_begun unanswered =
      let now : w.number < begun w.stream (Begin f ∷ lines t) = subst (λ (ls : List DeskLine). w.number < begun w.stream (ls ++ lines t)) one is_begun in
      let none : IsNone (answer_of (lines t) w) = subst (λ (ls : List DeskLine). IsNone (answer_of (ls ++ lines t) w)) one unanswered in
      elim (eqb_tells f.stream w.stream) [
        | inr other ↦ absurd (none_open w (rw other.0 at now) none)
        | inl same ↦
            let counts : begun f.stream (lines t) ≡ begun w.stream (lines t) = ap (λ (n : ℕ). begun n (lines t)) same.1 in
            let below : w.number < begun w.stream (lines t) + 1 = rw same.0 at now in
            elim (cases_lt w.number (begun w.stream (lines t))) [
              | inl before ↦ absurd (none_open w before none)
              | inr late ↦ one_writer w f (sym same.1) (omega (arith, next, counts, below, late))
            ]
      ]

  -- whatever is open is a flush
  is_flush : (m : Trace) (w : Writer) → IsAlone (lines m) → IsOpen (m ++ t) w → request_at s.script w ≡ Some request.Flush
  is_flush m w alone is_open =
      let same = open_alone w (lines m) alone (subst (λ (ls : List DeskLine). w.number < begun w.stream ls) (lines_append m t) is_open.is_begun) (subst (λ (ls : List DeskLine). IsNone (answer_of ls w)) (lines_append m t) is_open.unanswered) in
      ap (request_at s.script) same ∙ flush

  -- all that was handed in was committed before
  pub record IsSettled (u : Trace) : Type 0 where
    pub none_filled : filled u ≡ []
    pub all_sealed : all_of (sealed u) ≡ durable u
    pub same : durable u ≡ durable t

  -- which stays so
  pub stays_settled : IsSettled t → (m : Trace) → IsAlone (lines m) → RightTrace s (m ++ t) → IsSettled (m ++ t)
  stays_settled first [] alone right = first
  stays_settled first (Enters (Remaps e) ∷ m) alone right =
      let write = right.0.is_write in
      let asks_flush = is_flush m e.request alone right.0.is_open in
      absurd (no_change write.asks e.at write.bytes e.new (same_Some _ _ (sym write.asked ∙ asks_flush)) write.maps)
  stays_settled first (Enters (Makes p) ∷ m) alone right =
      let (r, asked_is, lacks) = right.0.lacked in
      let asks_flush = is_flush m p.request alone right.0.is_open in
      absurd (subst (λ (q : Request). MayLack s.sizes.geometry.height q p.page) (same_Some r request.Flush (sym asked_is ∙ asks_flush)) lacks)
  stays_settled first (Seals ∷ m) alone right =
      let before = stays_settled first m alone right.2 in
      let size = ap length before.none_filled in
      absurd (let some = right.0.some in omega (arith, size, some))
  stays_settled first (Commits e ∷ m) alone right =
      let before = stays_settled first m alone right.2 in
      let u = m ++ t in
      let size = ap length (sym before.all_sealed ∙ right.0.next) ∙ length-append right.0.rest (e ∷ durable u) in
      absurd (omega (arith, size))
  stays_settled first (h ∷ m) alone right =
      let before = stays_settled first m (alone_before h m alone) right.2 in
      record { none_filled = before.none_filled; all_sealed = before.all_sealed; same = before.same }

-- What is known of lists of lines.

-- a well-formed log was so before
log_before : (depth : ℕ) (script : Script) (newer older : List DeskLine) → IsDeskLog depth script (newer ++ older) → IsDeskLog depth script older
log_before depth script [] older well = well
log_before depth script (line ∷ newer) older well = log_before depth script newer older well.1

-- an answer is there
answer_there : (newer older : List DeskLine) (w : Writer) (a : Reply) → IsNone (answer_of (newer ++ Answer w a ∷ older) w) → ⊥
answer_there [] older w a none = elim (same_tells w w) [ inl same ↦ not_both (Some a) a (rw same.0 at none) refl | inr other ↦ other.1 refl ]
answer_there (Begin v ∷ newer) older w a none = answer_there newer older w a none
answer_there (Answer v b ∷ newer) older w a none = elim (cases_Bool (same_writer v w)) [
  | inl same ↦ not_both (Some b) b (rw same at none) refl
  | inr other ↦ answer_there newer older w a (rw other at none)
]

-- the end of a list that ends in two: it has none of these, the last one, or both
ends_of : {X : Type 0} (p ls q : List X) (x y : X) → p ++ ls ≡ q ++ (x ∷ y ∷ []) → ((ls ≡ []) ⊎ (ls ≡ y ∷ [])) ⊎ ((r : List X) × (ls ≡ r ++ (x ∷ y ∷ [])))
ends_of {X} p ls q x y same = elim (one_is_part p q ls (x ∷ y ∷ []) same) [
  | inl both ↦ inr both
  | inr (h, m, less) ↦ inl (by m cc)
]
  where
    by : (m : List X) → y ∷ [] ≡ m ++ ls → (ls ≡ []) ⊎ (ls ≡ y ∷ [])
    by [] is = inr (sym is)
    by (z ∷ m) is = inl (none m cc)
      where
        none : (n : List X) → [] ≡ n ++ ls → ls ≡ []
        none [] is = sym is
        none (w ∷ n) is = absurd cc

-- a session that goes on went on before
went_on : (newer older : Trace) → has_stopped (newer ++ older) ≡ false → has_stopped older ≡ false
went_on [] older going = going
went_on (Fails w call kept ∷ newer) older going = went_on newer older (or_none (not (is_read call)) (has_stopped (newer ++ older)) going).1
went_on (Harms w at bytes fault ∷ newer) older going = absurd cc
went_on (Hears damage ∷ newer) older going = absurd cc
went_on (h ∷ newer) older going = went_on newer older going

-- a part of a list that is no shorter than the list is the list
whole_part : {X : Type 0} (xs ys m n : List X) → xs ≡ m ++ ys → ys ≡ n ++ xs → xs ≡ ys
whole_part xs ys m n is back =
    let size = ap length is ∙ length-append m ys in
    let size_back = ap length back ∙ length-append n xs in
    let none : m ≡ [] = nil_from_length m (omega (arith, size, size_back)) in
    is ∙ ap (λ (zs : List _). zs ++ ys) none

-- The images behind the flush of the device that was made for a flush which was served alone.
module _ (s : Session) (core : Core) (session : IsSession s) (legal : Legal s core) (all : AllBegunAreAnswered (lines core.trace)) (t newer : Trace) (right : RightTrace s t) (fair : IsFair s t) (parts : t ≡ newer ++ core.trace)
    (later : List DeskLine) (f : FlushMark) (said : lines t ≡ later ++ (Answer f.request reply.Ok ∷ Begin f.request ∷ lines core.trace)) (has : Contains (marks t) f) where
  -- it was begun next
  begun_next : f.request.number ≡ begun f.request.stream (lines core.trace)
  begun_next =
      let well = subst (IsDeskLog s.sizes.depth s.script) said (desk_log_right s t right) in
      (log_before s.sizes.depth s.script later (Answer f.request reply.Ok ∷ Begin f.request ∷ lines core.trace) well).1.0.0

  -- it is a flush
  flush : request_at s.script f.request ≡ Some request.Flush
  flush = (each_of (IsOfFlush s t) (marks t) f (only_flushes s t right) has).0

  -- the call that was made for it
  mark : HasMark t f
  mark = each_of (HasMark t) (marks t) f (all_marks s t session right) has

  -- the moment behind that call
  abbrev behind : Trace
  behind = Calls (Flush true) ∷ mark.older

  -- which was right until then
  right_behind : RightTrace s behind
  right_behind = right_part s mark.later behind (subst (RightTrace s) mark.parts right)

  -- it came later than the core
  record ComesLater : Type 0 where
    between : Trace
    is : behind ≡ between ++ core.trace

  -- since nothing of the flush was begun before
  comes_later : ComesLater
  comes_later = elim (one_is_part newer mark.later core.trace behind (sym parts ∙ mark.parts)) [
    | inl (m, earlier) ↦
        let lines_are : lines core.trace ≡ lines m ++ lines mark.older = ap lines earlier ∙ lines_append m behind in
        let more = begun_later (lines m) (lines mark.older) f.request.stream in
        let same = ap (begun f.request.stream) lines_are in
        let then = mark.begun_by_then in
        absurd (omega (arith, more, same, then, begun_next))
    | inr (h, m, is) ↦ record { between = h ∷ m; is = is }
  ]

  -- what happened between
  abbrev between : Trace
  between = comes_later.between

  -- its lines
  lines_behind : lines mark.older ≡ lines between ++ lines core.trace
  lines_behind = ap lines comes_later.is ∙ lines_append between core.trace

  -- before its answer
  alone : (lines between ≡ []) ⊎ (lines between ≡ Begin f.request ∷ [])
  alone =
      let whole : lines t ≡ lines mark.later ++ (lines between ++ lines core.trace) = ap lines mark.parts ∙ lines_append mark.later behind ∙ ap (λ (ls : List DeskLine). lines mark.later ++ ls) lines_behind in
      let two : List DeskLine = Answer f.request reply.Ok ∷ Begin f.request ∷ [] in
      let front : lines mark.later ++ lines between ≡ later ++ two = append_cancel_right (lines mark.later ++ lines between) (later ++ two) (lines core.trace)
      (append_assoc (lines mark.later) (lines between) (lines core.trace) ∙ sym whole ∙ said ∙ sym (append_assoc later two (lines core.trace))) in
      elim (ends_of (lines mark.later) (lines between) later (Answer f.request reply.Ok) (Begin f.request) front) [
        | inl few ↦ few
        | inr (r, both) ↦
            let answered_then : lines mark.older ≡ r ++ (Answer f.request reply.Ok ∷ Begin f.request ∷ lines core.trace) = lines_behind ∙ ap (λ (ls : List DeskLine). ls ++ lines core.trace) both ∙ append_assoc r two (lines core.trace) in
            absurd (answer_there r (Begin f.request ∷ lines core.trace) f.request reply.Ok (subst (λ (ls : List DeskLine). IsNone (answer_of ls f.request)) answered_then mark.not_answered))
      ]

  -- nothing had stopped the session
  going : has_stopped core.trace ≡ false
  going = went_on between core.trace (subst (λ (u : Trace). has_stopped u ≡ false) comes_later.is (right_behind.0.goes_on refl))

  -- the trace until then, by these two parts, is right
  right_there : RightTrace s (between ++ core.trace)
  right_there = subst (RightTrace s) comes_later.is right_behind

  -- and fair
  fair_there : IsFair s (between ++ core.trace)
  fair_there = subst (IsFair s) comes_later.is (fair_part s mark.later behind (subst (IsFair s) mark.parts fair))

  -- nothing was handed in since
  settled : IsSettled s core.trace f.request all flush begun_next (between ++ core.trace)
  settled = stays_settled s core.trace f.request all flush begun_next (record { none_filled = none_filled s core legal all going; all_sealed = all_sealed s core legal all going; same = refl }) between alone right_there

  -- and all that was handed in is committed
  committed_there : journaled (between ++ core.trace) ≡ durable (between ++ core.trace)
  committed_there = entered_parts (between ++ core.trace) ∙ ap (λ (es : List Logged). es ++ all_of (sealed (between ++ core.trace))) settled.none_filled ∙ settled.all_sealed

  -- the calls by then
  calls_there : (after prefix : List Call) → calls t ≡ after ++ prefix → length prefix ≡ length_at (calls t) f.calls → calls (between ++ core.trace) ≡ prefix
  calls_there after prefix calls_are size =
      let c : Cut t prefix = cut t after prefix calls_are in
      let (m, inside) = call_in_cut t prefix f c mark (omega (arith, size)) in
      let same : c.older ≡ behind = elim (cut_before_call t prefix f c mark (omega (arith, size))) [
        | inl none ↦ absurd (let length_none = ap length (sym inside ∙ none) in let both = length-append m behind in omega (arith, length_none, both))
        | inr (n, back) ↦ whole_part c.older behind m n inside back
      ] in
      ap calls (sym comes_later.is) ∙ ap calls (sym same) ∙ c.calls_are

  -- So each block that was used is mapped.
  pub used_is_mapped : (after prefix : List Call) → calls t ≡ after ++ prefix → length prefix ≡ length_at (calls t) f.calls → (image : Blocks) → IsImage s.blocks (prefix ++ s.before) image
      → (x : Pbn) → IsDataBlock s.sizes.geometry x.0 → IsUsedAt s core.trace x → IsMappedIn s.sizes.geometry s.sizes.start image x
  used_is_mapped after prefix calls_are size image is x is_data used =
      let is_there : IsImage s.blocks (log s (between ++ core.trace)) image = subst (λ (cs : List Call). IsImage s.blocks (cs ++ s.before) image) (sym (calls_there after prefix calls_are size)) is in
      let (more, mapped) = used_mapped s core legal all going session (fair_part s between core.trace fair_there) x is_data used in
      image_maps s (between ++ core.trace) image session fair_there is_there right_there committed_there x more
      (subst (λ (es : List Logged). HasMappingsAfter (opened_image s) (pointed es) x (suc more)) (sym settled.same) mapped)

-- Of the image that was opened each block that has a counter above 0 is mapped.
pub opened_is_mapped : (s : Session) (image : Blocks) → IsSession s → RightTrace s [] → IsFair s [] → IsImage s.blocks s.before image → (x : Pbn) → IsUsedAt s [] x → IsMappedIn s.sizes.geometry s.sizes.start image x
opened_is_mapped s image session right fair is x used =
    let running = durable_running s [] x session right fair in
    let sum = running.sum in
    let some : running.now ≡ suc (running.now - 1) = omega (arith, sum, used) in
    image_maps s [] image session fair is right refl x (running.now - 1) (subst (HasMappingsAfter (opened_image s) (pointed (durable [])) x) some running.has)
