-- What the acts of the journal owe: entries are handed in, wait, or are refused; a block is sealed, and its entries are
-- committed, or it failed.
use Rattle.std.proofs.Common.{◌≡◌, Contains, ◌≢◌, ◌++◌, ◌≤◌, suc, Option, None, append_assoc, length-append, ℕ, ◌<◌, true, Some, IsNone, IsSome, List, [], ◌∷◌, refl, ap, arith, ◌+◌, Bool, false, length, sym, ◌∙◌, inl, inr, subst}
use Rattle.core_laws.proofs.Common.{all_logged, all_of, AllBelow, AllByRecursion, Answer, asked, Asks, AtRest, bit, BlockOk, Carries, Commits, committed, DataOk, done, each_at, ended, entered, Enters, entry_of, every-append, fair_before, filled, Happening, has_stopped, HasCause, HasFullJournal, HasPendingEntry, HasPlace, holder_weight, IsChange, IsFair, IsOpen, IsPlaced, IsSession, JournalLists, JournalZone, KeptEach, KeptOk, Lba, logged, logged_of, ltb-false, ltb-true, Mapping, MapsTo, MayReply, NewReads, OnBlock, or_parts, Pbn, place_of, places, Post, ReadsAs, Request, RestsAt, RightTrace, same_self, same_tells, same_writer, sealed, SealedBlock, Seals, Session, Shown, some_is, Stage, StandsAt, total, Trace, turned, value_written, Vio, VioOk, Writer, zone_count, zone_number, zone_of, zone_of_stage, applied, durable, remapping, Logged, Remaps, Makes, passed, remappings, IsCommitted, has_taken}
use Rattle.core_laws.proofs.trace.PassesOfTrace.{cut_passed}
use Rattle.std.proofs.Math.Nat.{mod-lt}
use Rattle.data_vio.specs.declared.items.Asks.TheVariants.{Read, Write, Discard, Flush}
use Rattle.core_model.specs.JournalRules.{JournalEnds, JournalServes, all_again, all_dropped, all_refused, entered_by, hands_out, has_block, has_room, is_closed, next_block, refused}
use Rattle.core_laws.proofs.kept.ActKept.{carries_page, claim_at, claim_in, claim_unused, PostOk, carries_at, unentered_slot, Known, Mine, weighed, ActKept, act_none, act_one, own_request, own_address, own_page, carries_own, line_kept, vio_over, vio_ok, in_phase}
use Rattle.core_laws.proofs.lists.Changes.{maps_change}
use Rattle.core_laws.proofs.trace.DeskOfTrace.{shown_of}
use Rattle.core_laws.proofs.trace.AbortsOfTrace.{unentered_abort}
use Rattle.core_laws.proofs.kept.Keys.{Clears, IfAny, Key, OfAddress, OfJournal, OfPage, OfRequest, any, holder_one, idle_none, own_name, token_of}
use Rattle.core_laws.proofs.journal.LogLaws.{filling_length, log_committed, log_entered, log_sealed}
use Rattle.core_laws.proofs.journal.SealedBlocks.{logged_length}
use Rattle.core_laws.proofs.kept.Spared.{OffNumber, below_kept, leafy_kept, mapping_same, of_same, quiet_kept, spent_kept}
use Rattle.core_laws.proofs.kept.StandsOn.{journal_kept, left_kept, mapped_all, new_reads_kept, on_each, reads_kept, rests_kept, spares_all, superblock_kept}
use Rattle.core_laws.proofs.kept.Carried.{logged_request, pending_over}
use Rattle.blk_base.specs.declared.place.Mapping.TheVariants.{At, Unmapped, Zero}
use Rattle.blk_base.specs.declared.place.PageId.{PageId}
use Rattle.core_model.specs.DeskFacts.{HasReceipt}
use Rattle.core_model.specs.Facts.{CarriesFor, CarriesOwn, CarriesPage}
use Rattle.core_model.specs.JournalFacts.{IsEntered}
use Rattle.core_model.specs.LogicalFacts.{MakesPage}
use Rattle.core_model.specs.RequestFacts.{HasClaim}
use Rattle.core_laws.proofs.journal.LoggedEntries.{block_at, logged_makes, logged_own, on_address, on_page}
use Rattle.core_laws.proofs.journal.PageEntries.{page_pending, page_right}
use Rattle.blk_base.specs.declared.request.Answer.TheVariants as reply
use Rattle.data_vio.specs.declared.items.Phase.TheVariants as phase
use Rattle.blk_base.specs.declared.place.ZoneId.TheVariants as id
use Rattle.data_vio.specs.declared.items.Item.TheVariants as item
use Rattle.data_vio.specs.declared.items.Stage.TheVariants as stage
use Rattle.core_model.specs.declared.zones.ZoneData.TheVariants as at
use Rattle.core_model.specs.JournalRules as journal
use Rattle.blk_base.specs.Regions.{IsDataBlock}
use Rattle.core_model.specs.RightTraces.{HadNoFree, IsLeafy, IsUnused}
use Rattle.core_model.specs.PageLinks.{block_in}
use Rattle.core_model.specs.JournalRules.{decrement_for, hands_to}
use Rattle.recovery_journal.specs.Log.{head_of}
use Rattle.core_laws.proofs.lists.CountedIn.{block_within, counts_within}

-- once the session is stopped, a write or a discard whose slot isn't set may be answered so; where no block is left for it, one
-- that has its place and isn't handed in is answered `Full`
cause_stopped : (s : Session) (t : Trace) (w : Writer) (q : Asks) (at : Lba) (bytes : List ℕ) → IsChange q → has_stopped t ≡ true → IsSome (place_of (places t) w) → IsNone (logged_of (done t) w)
    → HasCause s t w (asked q at bytes) reply.Stopped
cause_stopped s t w Write at bytes is stopped placed none = (stopped, placed, none)
cause_stopped s t w Discard at bytes is stopped placed none = (stopped, placed, none)
cause_stopped s t w Read at bytes is stopped placed none = absurd is
cause_stopped s t w Flush at bytes is stopped placed none = absurd is

cause_full : (s : Session) (t : Trace) (w : Writer) (q : Asks) (at : Lba) (bytes : List ℕ) → IsChange q → IsNone (logged_of (entered t) w) → IsSome (place_of (places t) w) → HasFullJournal s t
    → HasCause s t w (asked q at bytes) reply.Full
cause_full s t w Write at bytes is none some full = (some, none, full)
cause_full s t w Discard at bytes is none some full = (some, none, full)
cause_full s t w Read at bytes is none some full = absurd is
cause_full s t w Flush at bytes is none some full = absurd is

-- a write that claimed none for its data, where no data block was free at a moment since it had its place
cause_no_space : (s : Session) (t : Trace) (w : Writer) (q : Asks) (at : Lba) (bytes : List ℕ) → q ≡ Write → IsNone (logged_of (entered t) w) → IsSome (place_of (places t) w) → has_taken t w None ≡ false
    → HadNoFree s t w → HasCause s t w (asked q at bytes) reply.NoSpace
cause_no_space s t w q at bytes is none some none_taken no_free = rw is (some, none, none_taken, no_free)

pub may_stop : (s : Session) (t : Trace) (v : Vio) → IsChange v.asks → has_stopped t ≡ true → HasPlace s t v.request v.at.0 v.place → IsNone (logged_of (done t) v.request) → MayReply s t v (Some reply.Stopped)
may_stop s t v is stopped placed none = cause_stopped s t v.request v.asks v.at v.bytes is stopped (some_is _ _ placed) none

pub write_no_space : (s : Session) (t : Trace) (v : Vio) → v.asks ≡ Write → IsPlaced s t v → has_taken t v.request None ≡ false → HadNoFree s t v.request → HasReceipt t v.request v.receipt
    → MayReply s t v (Some reply.NoSpace)
write_no_space s t v is k none_taken no_free receipt = (cause_no_space s t v.request v.asks v.at v.bytes is k.not_entered (some_is _ _ k.placed) none_taken no_free, receipt)

pub may_fill : (s : Session) (t : Trace) (v : Vio) → IsChange v.asks → IsPlaced s t v → HasFullJournal s t → MayReply s t v (Some reply.Full)
may_fill s t v is k full = cause_full s t v.request v.asks v.at v.bytes is k.not_entered (some_is _ _ k.placed) full

-- the home of a request is a zone
pub home_within : (s : Session) (t : Trace) (v : Vio) → IsSession s → VioOk s t v → zone_number s.sizes v.home < zone_count s.sizes
home_within s t v session ok =
    let below : zone_of s.sizes.zones v.at.0 < s.sizes.zones = mod-lt _ (let some = session.zones.0 in omega (arith, some)) in
    let home = ap (zone_number s.sizes) ok.home in
    omega (arith, below, home)

pub writes_change : (q : Asks) → q ≡ Write → IsChange q
writes_change q is = rw is tt

module _ (s : Session) (t : Trace) (session : IsSession s) where
  -- a write or a discard that holds its lock is aborted, where it may be answered so
  refused_carries : (v : Vio) (a : Answer) → Carries s t v phase.Enter → (IsPlaced s t v → IsChange v.asks → MayReply s t v (Some a)) → Carries s t (ended phase.AbortClaim a v) phase.AbortClaim
  refused_carries v a carries may = by v.page carries
    where
      by : (o : Option PageId) → CarriesFor s t v phase.Enter o → CarriesFor s t (ended phase.AbortClaim a v) phase.AbortClaim o
      by None k = (k.0.turn, may k.0.turn.is_placed (maps_change v.asks v.bytes v.new k.1))
      by (Some page) k = (k.0, k.1, may k.0.turn.is_placed (writes_change v.asks k.0.is_write))

  pub stopped_post : (v : Vio) → RightTrace s t → has_stopped t ≡ true → VioOk s t v → Carries s t v phase.Enter → HasClaim s true false v.claim v.new v.tickets → PostOk s t (refused s.sizes reply.Stopped v)
  stopped_post v right stopped ok carries claim =
      (counts_within s.sizes v session.zones.1, (ok, refused_carries v reply.Stopped carries (λ placed is. may_stop s t v is stopped placed.placed (unentered_slot s t v.request right placed.not_entered)), refl, claim))

  pub full_post : (v : Vio) → HasFullJournal s t → VioOk s t v → Carries s t v phase.Enter → HasClaim s true false v.claim v.new v.tickets → PostOk s t (refused s.sizes reply.Full v)
  full_post v full ok carries claim = (counts_within s.sizes v session.zones.1, (ok, refused_carries v reply.Full carries (λ placed is. may_fill s t v is placed full), refl, claim))

  -- all that wait do
  pub stopped_posts : (vs : List Vio) → RightTrace s t → has_stopped t ≡ true → AllByRecursion (KeptOk s t phase.Enter) vs → AllByRecursion (PostOk s t) (all_refused s.sizes reply.Stopped vs)
  stopped_posts [] right stopped all = tt
  stopped_posts (v ∷ vs) right stopped all = (stopped_post v right stopped all.0.0 (carries_at s t v phase.Enter all.0.2 all.0.1) (claim_at s v phase.Enter all.0.2 all.0.3), stopped_posts vs right stopped all.1)

-- The block being filled.

-- where it has entries, a block of the journal is left for it, and it has no more than it may
pub filled_left : (s : Session) (t : Trace) → RightTrace s t → 0 < length (filled t) → length (sealed t) + 1 < s.sizes.geometry.journal
filled_left s [] right some = absurd (omega (arith, some))
filled_left s (Enters (Remaps e) ∷ t) right some = right.0.left
filled_left s (Enters (Makes p) ∷ t) right some = right.0.left
filled_left s (Seals ∷ t) right some = absurd (omega (arith, some))
filled_left s (other ∷ t) right some = filled_left s t right.2 some

pub filled_few : (s : Session) (t : Trace) → RightTrace s t → length (filled t) ≤ 192
filled_few s [] right = omega arith
filled_few s (Enters (Remaps e) ∷ t) right = let room = right.0.room in omega (arith, room)
filled_few s (Enters (Makes p) ∷ t) right = let room = right.0.room in omega (arith, room)
filled_few s (Seals ∷ t) right = omega arith
filled_few s (other ∷ t) right = filled_few s t right.2

-- one that has no room left has as many as it may
crowded : (s : Session) (t : Trace) (j : JournalZone) → JournalLists s t j → j.broken ≡ false → has_room j ≡ false → 192 ≤ length j.filling
crowded s t j lists sound full =
    let most = ltb-false (length j.log.filling) 192 full in
    let same = ap length (lists.filled_is sound) in
    omega (arith, most, filling_length s t j.log lists.log_is, same, logged_length j.filling)

-- one more request, whose entry is the newest
logged_last : (vs : List Vio) (v : Vio) → all_logged (vs ++ v ∷ []) ≡ logged v ∷ all_logged vs
logged_last [] v = refl
logged_last (u ∷ vs) v = ap (λ (es : List Logged). es ++ logged u ∷ []) (logged_last vs v)

-- what a request writes is read, by the script
reads_now : (s : Session) (t : Trace) (q : Asks) (place : Lba) (bytes : List ℕ) (m : Mapping) → MapsTo q bytes m → OnBlock (λ x. ReadsAs s t x.0 bytes) m
    → OnBlock (λ x. ReadsAs s t x.0 (value_written (Some (asked q place bytes)))) m
reads_now s t Write place bytes m maps reads = reads
reads_now s t Discard place bytes Unmapped maps reads = tt
reads_now s t Discard place bytes Zero maps reads = absurd maps
reads_now s t Discard place bytes (At x) maps reads = absurd maps
reads_now s t Read place bytes m maps reads = absurd maps
reads_now s t Flush place bytes m maps reads = absurd maps

-- The entry of a write or a discard is handed in, of its own address.
module _ (s : Session) (t : Trace) (v : Vio) (right : RightTrace s t) (ok : VioOk s t v) (bare : v.page ≡ None) (carries : CarriesOwn s t v phase.Enter) (claim : HasClaim s true false v.claim v.new v.tickets) (unused : IsFair s t → OnBlock (IsUnused s t) v.new)
    (left : length (sealed t) + 1 < s.sizes.geometry.journal) (room : length (filled t) < 192) where
  abbrev enters : Happening
  enters = Enters (Remaps (remapping v))

  shown_on : IsFair s (enters ∷ t) → Shown s (enters ∷ t)
  shown_on fair =
      let before = fair_before s enters t fair in
      let stood = shown_of s t right before in
      record {
        superblock = superblock_kept s enters t tt stood.superblock;
        kept = left_kept s enters t (λ x left. tt) stood.kept;
        journal = journal_kept s enters t (record { sealed_same = refl; committed_same = refl }) tt (λ newer parts. mapped_all s enters (λ x. tt) newer (durable t)) stood.journal;
        filling = (
          on_each v.new (λ x to reads. reads_kept s enters t x.0 _ tt reads)
              (subst (λ (r : Option Request). OnBlock (λ x. ReadsAs s t x.0 (value_written r)) v.new) (sym ok.asked) (reads_now s t v.asks v.at v.bytes v.new carries.1 (carries.2 before))),
          new_reads_kept s enters t (filled t) (spares_all enters (λ x. tt) (filled t)) stood.filling,
        );
      }

  own_right : RightTrace s (enters ∷ t)
  own_right = (
    record {
      is_open = ok.is_open;
      is_write = record { asks = v.asks; bytes = v.bytes; asked = ok.asked; maps = carries.1; placed = carries.0.turn.is_placed.placed };
      once = carries.0.turn.is_placed.not_entered;
      quiet = carries.0.turn.quiet;
      below = carries.0.turn.below;
      left = left;
      room = room;
      new_data = claim.on_data refl;
      unused = unused;
      leaf = carries.3;
      old_data = carries.0.old_data;
      old_is = λ fair. carries.0.old_is fair ∙ mapping_same s (applied t) (durable t) v.at.0 (sym (cut_passed v.at.0 (remappings (durable t)) (remappings (applied t)) (passed t) carries.0.turn.quiet.all_done));
    },
    shown_on,
    right,
  )

  own_pending : KeptOk s (enters ∷ t) phase.Pending (turned phase.Pending v)
  own_pending = (
    vio_over s enters t v refl ok,
    carries_own s (enters ∷ t) (turned phase.Pending v) phase.Pending bare (record {
      is_entered = record {
        is_change = maps_change v.asks v.bytes v.new carries.1;
        placed = carries.0.turn.is_placed.placed;
        entry = rw (same_self v.request) refl;
        unset = unentered_slot s t v.request right carries.0.turn.is_placed.not_entered;
        unaborted = unentered_abort s t v.request right carries.0.turn.is_placed.not_entered;
      };
      pending = record { last = of_same (remapping v) (entered t) ∙ ap (λ es. remapping v ∷ es) carries.0.turn.quiet.all_committed; others = carries.0.turn.quiet.all_done };
      below = record { writes = carries.0.turn.below.writes; reads = carries.0.turn.below.reads };
      maps = carries.1;
      leaf = carries.3;
      old_data = carries.0.old_data;
      old_is = λ fair. carries.0.old_is (fair_before s enters t fair);
    }),
    refl,
    claim,
  )

-- or of the page that it makes
module _ (s : Session) (t : Trace) (v : Vio) (right : RightTrace s t) (ok : VioOk s t v) (carries : Carries s t v phase.Enter) (claim : HasClaim s true false v.claim v.new v.tickets) (unused : IsFair s t → OnBlock (IsUnused s t) v.new)
    (left : length (sealed t) + 1 < s.sizes.geometry.journal) (room : length (filled t) < 192) where
  abbrev Handed : Logged → Type 0
  Handed e = RightTrace s (Enters e ∷ t) × KeptOk s (Enters e ∷ t) phase.Pending (turned phase.Pending v)

  handed_in : Handed (logged v)
  handed_in = by v.page refl carries
    where
      by : (o : Option PageId) → v.page ≡ o → CarriesFor s t v phase.Enter o → Handed (logged v)
      by None bare k = subst Handed (sym (logged_own v bare)) (own_right s t v right ok bare k claim unused left room, own_pending s t v right ok bare k claim unused left room)
      by (Some page) some k =
          let block = block_at v.new k.2 in
          let free = λ (fair : IsFair s t). subst (OnBlock (IsUnused s t)) block.1 (unused fair) in
          subst Handed (sym (logged_makes v page block.0 some block.1)) (page_right s t v page block.0 right ok some block.1 k claim free left room, page_pending s t v page block.0 right ok some block.1 k claim free left room)

  pub enter_right : RightTrace s (Enters (logged v) ∷ t)
  enter_right = handed_in.0

  pub enter_pending : KeptOk s (Enters (logged v) ∷ t) phase.Pending (turned phase.Pending v)
  enter_pending = handed_in.1

rests_idle : (s : Session) (t : Trace) (busy broken : Bool) → busy ≡ false → broken ≡ false → RestsAt s t busy broken → (all_of (sealed t) ≡ durable t) × (IsFair s t → AtRest s t (sealed t))
rests_idle s t busy broken p q k = let here : RestsAt s t false false = rw (p, q) at k in here

-- a journal that is busy goes on so, and didn't fail
busy_on : (s : Session) (t u : Trace) (busy broken : Bool) → busy ≡ true → RestsAt s t busy broken → RestsAt s u busy broken
busy_on s t u true broken is k = k
busy_on s t u false broken is k = absurd cc

busy_sound : (s : Session) (t : Trace) (busy broken : Bool) → busy ≡ true → RestsAt s t busy broken → broken ≡ false
busy_sound s t true broken is k = k
busy_sound s t false broken is k = absurd cc

-- where there is no block for one more entry, the journal is full
pub full_now : (s : Session) (t : Trace) (j : JournalZone) → JournalLists s t j → has_block j ≡ false → HasFullJournal s t
full_now s t j lists none =
    let less = ltb-false (j.log.sequence + 1) (head_of j.log + j.log.size) none in
    let sequence = lists.log_is.sequence_is in
    let head = lists.log_is.head_is in
    let size = lists.log_is.size_is in
    omega (arith, less, sequence, head, size)

-- The journal serves a request.
module _ {s : Session} {t : Trace} {n : ℕ} {old : JournalZone} {v : Vio} (known : Known s t n (at.Journal old) (item.Request v ∷ [])) where
  -- its entry is handed in
  module _ (is : v.phase ≡ phase.Enter) (closed : is_closed old ≡ false) (block : has_block old ≡ true) (room : has_room old ≡ true) where
    sound : old.broken ≡ false
    sound = (or_parts old.notified old.broken closed).1

    block_left : length (sealed t) + 1 < s.sizes.geometry.journal
    block_left =
        let less = ltb-true (old.log.sequence + 1) (head_of old.log + old.log.size) block in
        let sequence = known.own.lists.log_is.sequence_is in
        let head = known.own.lists.log_is.head_is in
        let size = known.own.lists.log_is.size_is in
        omega (arith, less, sequence, head, size)

    room_left : length (filled t) < 192
    room_left = let less = ltb-true (length old.log.filling) 192 room in omega (arith, less, filling_length s t old.log known.own.lists.log_is)

    -- nobody maps its block
    its_block : IsFair s t → OnBlock (IsUnused s t) v.new
    its_block fair = by v.new refl
      where
        by : (m : Mapping) → v.new ≡ m → OnBlock (IsUnused s t) m
        by (At x) to = claim_unused known phase.Enter x is refl to refl fair
        by other to = tt

    entry_clears : Clears s n (Mine s t (at.Journal old) (item.Request v ∷ [])) (Enters (logged v)) t
    entry_clears = record {
      zone = known.own.number_is;
      request = subst (λ (w : Writer). Mine s t (at.Journal old) (item.Request v ∷ []) (OfRequest w)) (sym (logged_request v)) (own_request known);
      address = on_address (IfAny (λ a. Mine s t (at.Journal old) (item.Request v ∷ []) (OfAddress a))) v (own_address known phase.Enter is refl) tt;
      page = on_page (IfAny (λ p. Mine s t (at.Journal old) (item.Request v ∷ []) (OfPage p))) v (own_page known) tt;
      block = λ x. inr (λ inside. tt);
      journal = inr (record { sealed_same = refl; committed_same = refl }, tt, λ fair newer parts. mapped_all s (Enters (logged v)) (λ x. tt) newer (durable t));
    }

    entry_right : RightTrace s (Enters (logged v) ∷ t)
    entry_right = enter_right s t v known.right (vio_ok known) (in_phase known phase.Enter is) (claim_in known phase.Enter is) its_block block_left room_left

    -- what the zone keeps then
    entry_data : (busy : Bool) → busy ≡ true → RestsAt s (Enters (logged v) ∷ t) busy old.broken → DataOk s (Enters (logged v) ∷ t) n (at.Journal (record (entered_by v old) { busy = busy }))
    entry_data busy works answers =
        let k = known.own in
        let kept = line_kept known (Enters (logged v)) t entry_clears k.kept in
        record {
          number_is = k.number_is;
          lists = record {
            entered_is = ap (λ es. logged v ∷ es) k.lists.entered_is;
            committed_is = k.lists.committed_is;
            filled_is = λ whole. logged_last old.filling (turned phase.Pending v) ∙ ap (λ es. logged v ∷ es) (k.lists.filled_is whole);
            filling_few =
                let few = k.lists.filling_few in
                omega (arith, few, length-append old.filling (turned phase.Pending v ∷ []), length-append old.log.filling (entry_of (logged v) ∷ []));
            log_is = log_entered s t old.log (logged v) k.lists.log_is;
          };
          sound = (
            let less = ltb-true (length old.log.filling) 192 room in let few = k.lists.filling_few in omega (arith, less, few, length-append old.filling (turned phase.Pending v ∷ [])),
            λ idle. absurd (let both : true ≡ false = sym works ∙ idle in cc),
            λ some. absurd (let less = ltb-true (length old.log.filling) 192 room in let few = k.lists.filling_few in let full = k.sound.2 some in omega (arith, less, few, full)),
          );
          kept = (
            every-append (KeptOk s (Enters (logged v) ∷ t) phase.Pending) old.filling (turned phase.Pending v ∷ []) kept.0
                (enter_pending s t v known.right (vio_ok known) (in_phase known phase.Enter is) (claim_in known phase.Enter is) its_block block_left room_left, tt),
            kept.1,
          );
          answers = answers;
          told = k.told;
        }

  pub journal_serves : (new : JournalZone) (made : Trace) (posts : List Post) → JournalServes s.sizes old v new made posts → ActKept s t n (at.Journal old) (item.Request v ∷ []) (at.Journal new) made posts
  journal_serves new made posts (journal.is_stopped is closed e m p) =
      rw (e, m, p) (act_none known known.own (stopped_post s t known.session v known.right (known.own.told closed) (vio_ok known) (in_phase known phase.Enter is) (claim_in known phase.Enter is), tt))
  journal_serves new made posts (journal.is_full is closed full e m p) =
      rw (e, m, p) (act_none known known.own (full_post s t known.session v (full_now s t old known.own.lists full) (vio_ok known) (in_phase known phase.Enter is) (claim_in known phase.Enter is), tt))
  journal_serves new made posts (journal.waits is closed block full e m p) =
      let k = known.own in
      rw (e, m, p) (act_none known (record {
        number_is = k.number_is;
        lists = record {
          entered_is = k.lists.entered_is;
          committed_is = k.lists.committed_is;
          filled_is = k.lists.filled_is;
          filling_few = k.lists.filling_few;
          log_is = k.lists.log_is;
        };
        sound =
            let most = crowded s t old k.lists (or_parts old.notified old.broken closed).1 full in
            let few = k.sound.0 in
            (few, λ idle. absurd (let none = ap length (k.sound.1 idle).unfilled in omega (arith, most, none)), λ some. omega (arith, most, few));
        kept = (k.kept.0, every-append (KeptOk s t phase.Enter) old.waiting (v ∷ []) k.kept.1 ((vio_ok known, known.front_ok.0.1, is, known.front_ok.0.3), tt));
        answers = k.answers;
        told = k.told;
      }) tt)
  journal_serves new made posts (journal.enters is closed block room busy e m p) =
      let same : record (entered_by v old) { busy = old.busy } ≡ entered_by v old = refl in
      rw (e, m, p) (act_one known (Enters (logged v)) (entry_clears is closed block room) (λ g fair. g (fair_before s (Enters (logged v)) t fair)) (entry_right is closed block room)
      (entry_data is closed block room old.busy busy (busy_on s t (Enters (logged v) ∷ t) old.busy old.broken busy known.own.answers)) tt)
  journal_serves new made posts (journal.enters_first is closed block room idle e m p) =
      let h = Enters (logged v) in
      let rest = rests_idle s t old.busy old.broken idle (sound is closed block room) known.own.answers in
      rw (e, m, p) (act_one known h (entry_clears is closed block room) (λ g fair. g (fair_before s (Enters (logged v)) t fair)) (entry_right is closed block room)
      (entry_data is closed block room true refl (sound is closed block room))
      ((omega arith, ((tt, (rest.0, λ fair. rests_kept s h t (sealed t) tt (mapped_all s h (λ x. tt) [] (all_of (sealed t))) (rest.1 (fair_before s h t fair))), known.own.lists.log_is.head_is), refl)), tt))

-- The journal hears that the session is stopped.
pub journal_notified : {s : Session} {t : Trace} {n : ℕ} {old : JournalZone} → Known s t n (at.Journal old) (item.StopNotice ∷ [])
    → ActKept s t n (at.Journal old) (item.StopNotice ∷ []) (at.Journal (record old { notified = true; waiting = [] })) [] ((id.Desk, item.StopNotice) ∷ all_refused s.sizes reply.Stopped old.waiting)
journal_notified {s} {t} {n} {old} known =
    let k = known.own in
    let stopped = known.front_ok.0.0 in
    act_none known (record {
      number_is = k.number_is;
      lists = record {
        entered_is = k.lists.entered_is;
        committed_is = k.lists.committed_is;
        filled_is = k.lists.filled_is;
        filling_few = k.lists.filling_few;
        log_is = k.lists.log_is;
      };
      sound = (k.sound.0, λ idle. record { unfilled = (k.sound.1 idle).unfilled; unawaited = refl }, λ some. absurd (omega (arith, some)));
      kept = (k.kept.0, tt);
      answers = k.answers;
      told = λ closed. stopped;
    })
    ((omega arith, (stopped, omega arith)), stopped_posts s t known.session old.waiting known.right stopped k.kept.1)

-- A block comes back to the journal.

-- the requests of it that stay, over the commit of another's entry
others_kept : (s : Session) (t : Trace) (v : Vio) (vs : List Vio) → total (λ w. (token_of s.sizes (OfRequest v.request)).item (item.Request w)) vs ≡ 0 → total (λ w. (token_of s.sizes (OfAddress v.at.0)).item (item.Request w)) vs ≡ 0
    → AllByRecursion (KeptOk s t phase.Pending) vs → AllByRecursion (KeptOk s (Commits (logged v) ∷ t) phase.Pending) vs
others_kept s t v [] names addresses all = tt
others_kept s t v (w ∷ vs) names addresses all = (
  pending_over s (Commits (logged v)) t w (subst (λ (x : Writer). same_writer x w.request ≡ false) (sym (logged_request v)) apart) (on_address (λ o. OffNumber o w.at.0) v elsewhere tt) (λ page is. tt) all.0,
  others_kept s t v vs (omega (arith, names)) (omega (arith, addresses)) all.1,
)
  where
    apart : same_writer v.request w.request ≡ false
    apart = elim (same_tells v.request w.request) [
      | inl same ↦ absurd (let one : bit (same_writer w.request v.request) ≡ 1 = subst (λ (x : Writer). bit (same_writer x v.request) ≡ 1) same.1 (ap bit (same_self v.request)) in omega (arith, names, one))
      | inr other ↦ other.0
    ]

    elsewhere : v.at.0 ≢ w.at.0
    elsewhere same = let one = holder_one w (rw all.0.2 refl) in let here : holder_weight v.at.0 any w ≡ 1 = subst (λ (a : ℕ). holder_weight a any w ≡ 1) (sym same) one in omega (arith, addresses, here)

-- one whose entry was handed in is aborted
dropped_carries : (s : Session) (t : Trace) (v : Vio) → RightTrace s t → has_stopped t ≡ true → Carries s t v phase.Pending → Carries s t (ended phase.AbortEnteredClaim reply.Stopped v) phase.AbortEnteredClaim
dropped_carries s t v right stopped carries = by v.page carries
  where
    by : (o : Option PageId) → CarriesFor s t v phase.Pending o → CarriesFor s t (ended phase.AbortEnteredClaim reply.Stopped v) phase.AbortEnteredClaim o
    by None k = (k.is_entered, may_stop s t v k.is_entered.is_change stopped k.is_entered.placed k.is_entered.unset, stopped)
    by (Some page) k =
        let placed = k.0.turn.is_placed in
        (k.0, k.1, k.2, may_stop s t v (writes_change v.asks k.0.is_write) stopped placed.placed (unentered_slot s t v.request right placed.not_entered), stopped)

dropped_posts : (s : Session) (t : Trace) → IsSession s → (vs : List Vio) → RightTrace s t → has_stopped t ≡ true → AllByRecursion (KeptOk s t phase.Pending) vs → AllByRecursion (PostOk s t) (all_dropped s.sizes vs)
dropped_posts s t session [] right stopped all = tt
dropped_posts s t session (v ∷ vs) right stopped all =
    ((counts_within s.sizes v session.zones.1, (all.0.0, dropped_carries s t v right stopped (carries_at s t v phase.Pending all.0.2 all.0.1), refl, claim_at s v phase.Pending all.0.2 all.0.3)), dropped_posts s t session vs right stopped all.1)

-- those that waited come again
again_posts : (s : Session) (t : Trace) (vs : List Vio) → AllByRecursion (KeptOk s t phase.Enter) vs → AllByRecursion (PostOk s t) (all_again vs)
again_posts s t [] all = tt
again_posts s t (v ∷ vs) all = ((omega arith, (all.0.0, all.0.1, rw all.0.2 refl, all.0.3)), again_posts s t vs all.1)

module _ {s : Session} {t : Trace} {n : ℕ} {old : JournalZone} {b : SealedBlock} (known : Known s t n (at.Journal old) (item.Block b ∷ [])) where
  abbrev After : JournalZone → Trace → List Post → Type 0
  After new made posts = ActKept s t n (at.Journal old) (item.Block b ∷ []) (at.Journal new) made posts

  vios_ok : AllByRecursion (KeptOk s t phase.Pending) b.vios
  vios_ok = known.front_ok.0.0.0

  stands_as : (q : Stage) → b.stage ≡ q → StandsAt s t b.vios b.sequence q
  stands_as q is = subst (StandsAt s t b.vios b.sequence) is known.front_ok.0.0.1

  head_is : b.head ≡ s.sizes.start
  head_is = known.front_ok.0.0.2

  -- the journal is busy, and didn't fail
  busy : old.busy ≡ true
  busy = let most = known.most OfJournal in idle_none old.busy (omega (arith, most))

  whole : old.broken ≡ false
  whole = busy_sound s t old.busy old.broken busy known.own.answers

  -- the oldest entry of it is committed
  module _ (v : Vio) (vs : List Vio) (is : b.stage ≡ stage.Commit) (vios : b.vios ≡ v ∷ vs) where
    abbrev commits : Happening
    commits = Commits (logged v)

    mine : KeptOk s t phase.Pending v × AllByRecursion (KeptOk s t phase.Pending) vs
    mine = each_at (KeptOk s t phase.Pending) v vs b.vios vios vios_ok

    has : Carries s t v phase.Pending
    has = carries_at s t v phase.Pending mine.0.2 mine.0.1

    stands : (all_of (sealed t) ≡ all_logged b.vios ++ durable t) × (IsFair s t → AtRest s t (sealed t))
    stands = stands_as stage.Commit is

    next : all_of (sealed t) ≡ all_logged vs ++ (logged v ∷ durable t)
    next = stands.0 ∙ ap (λ (us : List Vio). all_logged us ++ durable t) vios ∙ append_assoc (all_logged vs) (logged v ∷ []) (durable t)

    rest_on : IsFair s (commits ∷ t) → AtRest s (commits ∷ t) (sealed t)
    rest_on fair = rests_kept s commits t (sealed t) tt (mapped_all s commits (λ x. tt) [] (all_of (sealed t))) (stands.1 (fair_before s commits t fair))

    commit_shown : IsFair s (commits ∷ t) → Shown s (commits ∷ t)
    commit_shown fair =
        let stood = shown_of s t known.right (fair_before s commits t fair) in
        record {
          superblock = superblock_kept s commits t tt stood.superblock;
          kept = left_kept s commits t (λ x left. tt) stood.kept;
          journal = inl (record { rest = all_logged vs; all = next; stands = rest_on fair });
          filling = new_reads_kept s commits t (filled t) (spares_all commits (λ x. tt) (filled t)) stood.filling;
        }

    commit_right : RightTrace s (commits ∷ t)
    commit_right = (record { is_open = subst (IsOpen t) (sym (logged_request v)) mine.0.0.is_open; rest = all_logged vs; next = next }, commit_shown, known.right)

    weighs : (k : Key) → total (λ w. (token_of s.sizes k).item (item.Request w)) b.vios ≡ (token_of s.sizes k).item (item.Request v) + total (λ w. (token_of s.sizes k).item (item.Request w)) vs
    weighs k = ap (total (λ w. (token_of s.sizes k).item (item.Request w))) vios

    clears : Clears s n (Mine s t (at.Journal old) (item.Block b ∷ [])) commits t
    clears = record {
      zone = known.own.number_is;
      request = subst (λ (w : Writer). Mine s t (at.Journal old) (item.Block b ∷ []) (OfRequest w)) (sym (logged_request v)) (weighed (omega (arith, own_name v, weighs (OfRequest v.request))));
      address = on_address (IfAny (λ a. Mine s t (at.Journal old) (item.Block b ∷ []) (OfAddress a))) v (weighed (omega (arith, holder_one v (rw mine.0.2 refl), weighs (OfAddress v.at.0)))) tt;
      page = tt;
      block = λ x. inr (λ inside. tt);
      journal = inl (weighed (omega arith));
    }

    claim : HasClaim s true false v.claim v.new v.tickets
    claim = claim_at s v phase.Pending mine.0.2 mine.0.3

    -- it is to be counted, or where it has no block its slot is to be set
    own_committed : v.page ≡ None → HasPendingEntry s t v.asks v.bytes (remapping v)
        → IsEntered s (commits ∷ t) v × IsCommitted (commits ∷ t) (remapping v) × AllBelow (commits ∷ t) v.at.0 v.place × IsLeafy s (commits ∷ t) v.at.0
    own_committed bare k = subst (λ (e : Logged). IsEntered s (Commits e ∷ t) v × IsCommitted (Commits e ∷ t) (remapping v) × AllBelow (Commits e ∷ t) v.at.0 v.place × IsLeafy s (Commits e ∷ t) v.at.0) (sym (logged_own v bare)) (
      record { is_change = k.is_entered.is_change; placed = k.is_entered.placed; entry = k.is_entered.entry; unset = k.is_entered.unset; unaborted = k.is_entered.unaborted },
      record { all_committed = k.pending.last ∙ sym (of_same (remapping v) (committed t)); last = of_same (remapping v) (committed t) ∙ ap (λ es. remapping v ∷ es) k.pending.others },
      record { writes = k.below.writes; reads = k.below.reads },
      leafy_kept s (Commits (Remaps (remapping v))) t v.at.0 k.leaf,
    )

    -- one without a block has no claim
    no_claim : (m : Mapping) → v.new ≡ m → block_in m ≡ None → HasClaim s false false v.claim v.new v.tickets
    no_claim m to none = record { claim_is = claim.claim_is ∙ ap block_in to ∙ none; on_data = λ holds. absurd cc; no_ticket = claim.no_ticket }

    own_hands : v.page ≡ None → HasPendingEntry s t v.asks v.bytes (remapping v) → (m : Mapping) → v.new ≡ m → PostOk s (commits ∷ t) (hands_to s.sizes v m)
    own_hands bare k (At x) to = let c = own_committed bare k in
        (counts_within s.sizes v known.session.zones.1, (vio_over s commits t v refl mine.0.0, carries_own s (commits ∷ t) (turned phase.Count v) phase.Count bare (c.0, c.1, c.2, rw to tt, c.3), refl, claim))
    own_hands bare k Unmapped to = let c = own_committed bare k in
        (home_within s t v known.session mine.0.0, (vio_over s commits t v refl mine.0.0, carries_own s (commits ∷ t) (turned phase.Settle v) phase.Settle bare (c.0, c.1, c.2, rw to tt, c.3), refl, no_claim Unmapped to refl))
    own_hands bare k Zero to = let c = own_committed bare k in
        (home_within s t v known.session mine.0.0, (vio_over s commits t v refl mine.0.0, carries_own s (commits ∷ t) (turned phase.Settle v) phase.Settle bare (c.0, c.1, c.2, rw to tt, c.3), refl, no_claim Zero to refl))

    -- or its page is to be counted
    page_counts : (page : PageId) (x : Pbn) → v.page ≡ Some page → v.new ≡ At x → CarriesPage s t v page phase.Pending → CarriesPage s (commits ∷ t) (turned phase.Count v) page phase.Count
    page_counts page x some to k =
        let turn = k.0.turn in
        let entry = logged_makes v page x some to in
        let making : MakesPage s (Commits (Makes (record { request = v.request; page = page; at = x })) ∷ t) v page = record {
          turn = record {
            is_placed = record { for_block = turn.is_placed.for_block; placed = turn.is_placed.placed; not_entered = turn.is_placed.not_entered };
            quiet = quiet_kept (Commits (Makes (record { request = v.request; page = page; at = x }))) t v.at.0 tt turn.quiet;
            below = below_kept (Commits (Makes (record { request = v.request; page = page; at = x }))) t v.at.0 v.place tt turn.below;
          };
          is_write = k.0.is_write;
          spent = spent_kept s (Commits (Makes (record { request = v.request; page = page; at = x }))) t v.request (Some page) (λ p. refl) k.0.spent;
          lacked = k.0.lacked;
          up = k.0.up;
        } in (
          subst (λ (e : Logged). MakesPage s (Commits e ∷ t) v page) (sym entry) making,
          k.1,
          record { handed_in = k.2.handed_in; unlinked = k.2.unlinked; undropped = k.2.undropped },
          (0, omega arith, refl),
        )

    page_hands : (page : PageId) → v.page ≡ Some page → CarriesPage s t v page phase.Pending → PostOk s (commits ∷ t) (hands_to s.sizes v v.new)
    page_hands page some k =
        let (x, to) = block_at v.new k.1 in
        subst (λ (m : Mapping). PostOk s (commits ∷ t) (hands_to s.sizes v m)) (sym to)
        (counts_within s.sizes v known.session.zones.1, (vio_over s commits t v refl mine.0.0, carries_page s (commits ∷ t) (turned phase.Count v) page phase.Count some (page_counts page x some to k), refl, claim))

    hands_for : (o : Option PageId) → v.page ≡ o → CarriesFor s t v phase.Pending o → PostOk s (commits ∷ t) (hands_to s.sizes v v.new)
    hands_for None bare k = own_hands bare k v.new refl
    hands_for (Some page) some k = page_hands page some k

    -- the decrement of what it replaces
    decrements_for : (o : Option PageId) (m : Mapping) → v.page ≡ o → v.old ≡ m → CarriesFor s t v phase.Pending o → AllByRecursion (PostOk s (commits ∷ t)) (decrement_for s.sizes o (remapping v) m)
    decrements_for None (At x) bare from k = (
      (
        block_within s.sizes x known.session.zones.1,
        (
          record {
            committed = subst (λ (e : Logged). Contains (e ∷ durable t) (Remaps (remapping v))) (sym (logged_own v bare)) (0, omega arith, refl);
            block = x;
            old_is = from;
            is_data = subst (OnBlock (λ y. IsDataBlock s.sizes.geometry y.0)) from k.old_data;
          },
          refl,
        ),
      ),
      tt,
    )
    decrements_for None Unmapped bare from k = tt
    decrements_for None Zero bare from k = tt
    decrements_for (Some page) m some from k = tt

    hands_posts : AllByRecursion (PostOk s (commits ∷ t)) (hands_out s.sizes v)
    hands_posts = (hands_for v.page refl has, decrements_for v.page v.old refl refl has)

    others : AllByRecursion (KeptOk s (commits ∷ t) phase.Pending) vs
    others =
        let names = known.most (OfRequest v.request) in
        let addresses = known.most (OfAddress v.at.0) in
        others_kept s t v vs (omega (arith, names, own_name v, weighs (OfRequest v.request))) (omega (arith, addresses, holder_one v (rw mine.0.2 refl), weighs (OfAddress v.at.0))) mine.1

  -- The next block is sealed.
  module _ (v : Vio) (vs : List Vio) (is : b.stage ≡ stage.Commit) (done_with : b.vios ≡ []) (filling : old.filling ≡ v ∷ vs) where
    all_there : (all_of (sealed t) ≡ durable t) × (IsFair s t → AtRest s t (sealed t))
    all_there = let k = stands_as stage.Commit is in (k.0 ∙ ap (λ (us : List Vio). all_logged us ++ durable t) done_with, k.1)

    filled_is : filled t ≡ all_logged (v ∷ vs)
    filled_is = sym (known.own.lists.filled_is whole) ∙ ap all_logged filling

    count : length (filled t) ≡ suc (length vs)
    count = ap length filled_is ∙ logged_length (v ∷ vs)

    left : length (sealed t) + 1 < s.sizes.geometry.journal
    left = filled_left s t known.right (omega (arith, count))

    rest_sealed : IsFair s (Seals ∷ t) → AtRest s (Seals ∷ t) (sealed t)
    rest_sealed fair = rests_kept s Seals t (sealed t) tt (mapped_all s Seals (λ x. tt) [] (all_of (sealed t))) (all_there.1 (fair_before s Seals t fair))

    seal_shown : IsFair s (Seals ∷ t) → Shown s (Seals ∷ t)
    seal_shown fair = record {
      superblock = superblock_kept s Seals t tt (shown_of s t known.right (fair_before s Seals t fair)).superblock;
      kept = left_kept s Seals t (λ x left. tt) (shown_of s t known.right (fair_before s Seals t fair)).kept;
      journal = inr (record { block = filled t; older = sealed t; sealed_is = refl; committed_is = sym all_there.0; stands = inl (rest_sealed fair) });
      filling = tt;
    }

    seal_right : RightTrace s (Seals ∷ t)
    seal_right = (record { some = omega (arith, count); all_committed = all_there.0; left = left }, seal_shown, known.right)

    seal_clears : Clears s n (Mine s t (at.Journal old) (item.Block b ∷ [])) Seals t
    seal_clears = record { zone = known.own.number_is; request = tt; address = tt; page = tt; block = λ x. inr (λ inside. tt); journal = inl (weighed (omega arith)) }

    kept_sealed : KeptEach (KeptOk s (Seals ∷ t)) (at.Journal old)
    kept_sealed = line_kept known Seals t seal_clears known.own.kept

    block_sealed : BlockOk s (Seals ∷ t) (next_block old stage.Cover (v ∷ vs))
    block_sealed =
        let sequence = known.own.lists.log_is.sequence_is in
        let few = filled_few s t known.right in (
          subst (AllByRecursion (KeptOk s (Seals ∷ t) phase.Pending)) filling kept_sealed.0,
          (
            record {
              older = sealed t;
              sealed_is = ap (λ (es : List Logged). es ∷ sealed t) filled_is;
              committed_is = sym all_there.0;
              some = omega arith;
              few = omega (arith, few, count);
              sequence = omega (arith, sequence);
              left = left;
            },
            λ fair. (
              rest_sealed fair,
              subst (NewReads s (Seals ∷ t)) filled_is (new_reads_kept s Seals t (filled t) (spares_all Seals (λ x. tt) (filled t)) (shown_of s t known.right (fair_before s Seals t fair)).filling),
            ),
          ),
          known.own.lists.log_is.head_is,
        )

  pub journal_ends : (new : JournalZone) (made : Trace) (posts : List Post) → JournalEnds s.sizes old b new made posts → After new made posts
  journal_ends new made posts (journal.commits v vs is vios next_there e m p) =
      let k = known.own in
      let h = Commits (logged v) in
      rw (e, m, p) (act_one known h (clears v vs is vios) (λ g fair. g (fair_before s h t fair)) (commit_right v vs is vios)
      (record {
        number_is = k.number_is;
        lists = record {
          entered_is = k.lists.entered_is;
          committed_is = ap (λ es. logged v ∷ es) k.lists.committed_is;
          filled_is = k.lists.filled_is;
          filling_few = k.lists.filling_few;
          log_is = log_committed s t old.log (logged v) k.lists.log_is;
        };
        sound = k.sound;
        kept = line_kept known h t (clears v vs is vios) k.kept;
        answers = busy_on s t (h ∷ t) old.busy old.broken busy k.answers;
        told = k.told;
      })
      (every-append (PostOk s (h ∷ t)) (hands_out s.sizes v) ((id.Journal, item.Block (record b { vios = vs })) ∷ []) (hands_posts v vs is vios) ((omega arith, ((others v vs is vios, subst (StandsAt s (h ∷ t) vs b.sequence) (sym is) (next v vs is vios, rest_on v vs is vios), head_is), ap (zone_of_stage s.sizes) (sym is))), tt)))
  journal_ends new made posts (journal.seals v vs is done_with filling due e m p) =
      let k = known.own in
      let kept = kept_sealed v vs is done_with filling in
      rw (e, m, p) (act_one known Seals (seal_clears v vs is done_with filling) (λ g fair. g (fair_before s Seals t fair)) (seal_right v vs is done_with filling)
      (record {
        number_is = k.number_is;
        lists = record {
          entered_is = k.lists.entered_is;
          committed_is = k.lists.committed_is;
          filled_is = λ sound. refl;
          filling_few = omega arith;
          log_is = log_sealed s t old.log k.lists.log_is (omega (arith, count v vs is done_with filling)) (all_there v vs is done_with filling).0;
        };
        sound = (omega arith, λ idle. record { unfilled = refl; unawaited = refl }, λ some. absurd (omega (arith, some)));
        kept = (tt, tt);
        answers = busy_on s t (Seals ∷ t) old.busy old.broken busy k.answers;
        told = k.told;
      })
      ((omega arith, (block_sealed v vs is done_with filling, refl)), again_posts s (Seals ∷ t) old.waiting kept.1))
  journal_ends new made posts (journal.rests is done_with filling e m p) =
      let k = known.own in
      let stands = stands_as stage.Commit is in
      let there = stands.0 ∙ ap (λ (us : List Vio). all_logged us ++ durable t) done_with in
      rw (e, m, p) (act_none known (record {
        number_is = k.number_is;
        lists = record {
          entered_is = k.lists.entered_is;
          committed_is = k.lists.committed_is;
          filled_is = k.lists.filled_is;
          filling_few = k.lists.filling_few;
          log_is = k.lists.log_is;
        };
        sound = (k.sound.0, λ idle. record { unfilled = filling; unawaited = refl }, λ some. absurd (omega (arith, some)));
        kept = (k.kept.0, tt);
        answers = subst (RestsAt s t false) (sym whole) (there, stands.1);
        told = k.told;
      })
      (again_posts s t old.waiting k.kept.1))
  journal_ends new made posts (journal.fails is e m p) =
      let k = known.own in
      let fails = stands_as stage.Fail is in
      let stopped = fails.2 in
      rw (e, m, p) (act_none known (record {
        number_is = k.number_is;
        lists = record {
          entered_is = k.lists.entered_is;
          committed_is = k.lists.committed_is;
          filled_is = λ sound. absurd cc;
          filling_few = omega arith;
          log_is = k.lists.log_is;
        };
        sound = (omega arith, λ idle. record { unfilled = refl; unawaited = refl }, λ some. absurd (omega (arith, some)));
        kept = (tt, tt);
        answers = tt;
        told = λ closed. stopped;
      })
      (every-append (PostOk s t) (all_dropped s.sizes b.vios) (all_dropped s.sizes old.filling ++ all_refused s.sizes reply.Stopped old.waiting) (dropped_posts s t known.session b.vios known.right stopped vios_ok)
      (every-append (PostOk s t) (all_dropped s.sizes old.filling) (all_refused s.sizes reply.Stopped old.waiting) (dropped_posts s t known.session old.filling known.right stopped k.kept.0) (stopped_posts s t known.session old.waiting known.right stopped k.kept.1))))
