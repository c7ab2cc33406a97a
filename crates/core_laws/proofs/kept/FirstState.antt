-- A core at its start is legal, with an empty trace.
use Rattle.std.proofs.Common.{◌≡◌, if◌then◌else◌, nat_eq, true, ℕ, suc, ◌≤◌, Bool, false, not, List, [], ◌∷◌, ◌++◌, length, refl, sym, ◌∙◌, ap, subst, inl, arith, ◌%◌, All}
use Rattle.core_laws.proofs.journal.LogLaws.{log_at_start}
use Rattle.core_laws.proofs.Common.{PhysicalZone, all_logged, AllByRecursion, answers_of, arrival, as_items, AtMost, AtRest, Balanced, begins_of, bit, DataOk, desk_number, DeskLine, Each, entry_token, every-get, given, holder_token, in_log, is_answer, is_begin, is_entry, IsAsOpened, IsSession, Item, ItemOk, journal_token, KeptEach, KeptOk, Lba, lease_token, Lock, lock_weight, LocksOk, Remapping, logical_number, made_by, MapOk, Mapping, notice_token, notified_by, of_address, OnBlock, Pbn, queued, request_token, RestsAt, room_token, Session, Shown, Stands, Token, total, Trace, Vio, weight, Zone, zone_count, ZoneData, ZoneOk, Logged, remappings, opened_at, KeptStands, Writer, physical_number, journal_number, total_alone, Geometry}
use Rattle.blk_base.specs.Regions.{IsDataBlock}
use Rattle.core_laws.proofs.kept.ZoneKinds.{Sits, journal_sits, physical_sits}
use Rattle.core_model.specs.PhysicalRules.{next_step}
use Rattle.core_model.specs.Tokens.{ticket_token}
use Rattle.slab_tickets.specs.Numbers.{AreNumbered, ticket_of}
use Rattle.slab_tickets.specs.Tickets.{Desk as TicketDesk}
use Rattle.slab_tickets.specs.declared.forms.Waiting.{Waiting}
use Rattle.zone_counts.specs.ByBlock.{out_with}
use Rattle.core_model.specs.Sessions.{opened_uses}
use Rattle.core_model.specs.Start.{IsFirstJournal, IsFirstPhysical}
use Rattle.core_laws.proofs.lists.CountedIn.{zone_inside}
use Rattle.data_vio.specs.Zones.{physical_zone_of}
use Rattle.zone_counts.proofs.BlockLaws.{foreign_is}
use Rattle.zone_counts.proofs.OpenedCounts.{is_data, is_none, opened_none, tells_data}
use Rattle.zone_counts.specs.ByBlock.{counter_in}
use Rattle.zone_counts.specs.Zone.{IsOf, IsOfZone, slab_number}
use Rattle.core_model.specs.Tokens.{block_token, claim_token, damage_token, has_old, is_entry, is_old, report_token, waiter_token}
use Rattle.core_model.specs.LogicalFacts.{ReportOk, PagesOk}
use Rattle.core_model.specs.PhysicalFacts.{WasIssued}
use Rattle.blk_base.specs.declared.place.Mapping.TheVariants.{Unmapped, Zero, At}
use Rattle.journal_stops.proofs.StepLaws.{opened}
use Rattle.core_model.specs.declared.zones.ZoneData.TheVariants as at
use Rattle.blk_base.specs.declared.place.PageId.{PageId}
use Rattle.block_map_tree.specs.Tree.{Tree}
use Rattle.core_model.specs.UpdateStream.{updates_at}
use Rattle.core_model.specs.Arrivals.{arrivals_at}
use Rattle.core_model.specs.Tokens.{making_at, making_token, page_entry_token}
use Rattle.core_model.specs.Legal.{Legal}
use Rattle.core_model.specs.Sessions.{IsSuperblock}
use Rattle.disk_model.specs.Log.{block_at, contents}
use Rattle.disk_model.proofs.ImageLaws.{all_weaker}
use Rattle.core_model.specs.Streams.{Flows, counted}
use Rattle.core_model.specs.Start.{IsFirstData, IsFirstZone, IsFirst}
use Rattle.core_model.specs.Steps.{Core}
use Rattle.core_model.specs.JournalRules.{is_closed}
use Rattle.core_model.specs.LogicalRules.{is_among}
use Rattle.core_laws.proofs.kept.OpenedBlocks.{opened_data}
use Rattle.blk_base.proofs.RegionLaws.{data_block_high, data_block_inside}
use Rattle.image_model.proofs.LookedLaws.{looked_high, looked_low}
use Rattle.image_model.specs.Maps.{value_with}
use Rattle.std.proofs.lemmas.List.Elements.{All-nil}

-- sums of what each thing has, as the one is at most the other
pub total_at_most : {X : Type 0} (f g : X → ℕ) (xs : List X) → Each (λ i x. f x ≤ g x) xs → total f xs ≤ total g xs
total_at_most f g [] h = omega arith
total_at_most f g (x ∷ xs) h = omega (arith, h 0 x refl, total_at_most f g xs (λ i. h (suc i)))

total_both : {X : Type 0} (f g : X → ℕ) (xs : List X) → Each (λ i x. f x ≡ g x) xs → total f xs ≡ total g xs
total_both f g [] h = refl
total_both f g (x ∷ xs) h = omega (arith, h 0 x refl, total_both f g xs (λ i. h (suc i)))

no_lanes : (w : Item → ℕ) (lanes : List (List Item)) → AllByRecursion (λ lane. lane ≡ []) lanes → total (total w) lanes ≡ 0
no_lanes w [] h = refl
no_lanes w (l ∷ ls) h = omega (arith, ap (total w) h.0, no_lanes w ls h.1)

none_made : (s : Session) (n : ℕ) (d : ZoneData) → IsFirstData s n d → made_by d ≡ 0
none_made s n (at.Logical l) h = h.next
none_made s n (at.Physical p) h = ap (λ (d : TicketDesk). next_step d.step) h.desk
none_made s n (at.Device d) h = h.calls
none_made s n other h = refl

none_queued : (w : Item → ℕ) (s : Session) (n : ℕ) (d : ZoneData) → IsFirstData s n d → queued w d ≡ 0
none_queued w s n (at.Desk d) h = ap (λ vs. total w (as_items vs)) h.parked
none_queued w s n (at.Logical l) h = ap (λ vs. total w (as_items (vs ++ (l.lacking ++ l.settling)))) h.waiting ∙ ap (λ vs. total w (as_items (vs ++ l.settling))) h.lacking ∙ ap (λ vs. total w (as_items vs)) h.settling
none_queued w s n (at.Journal j) h = ap (λ vs. total w (as_items (vs ++ j.waiting))) h.filling ∙ ap (λ vs. total w (as_items vs)) h.waiting
none_queued w s n other h = refl

-- at the start a zone weighs what its data weighs
bare_weight : (t : Token) (s : Session) (n : ℕ) (z : Zone) → IsFirstZone s n z → weight t z ≡ t.own z.keeps
bare_weight t s n z f = omega (arith, ap (total t.item) f.inbox, no_lanes t.item z.ports.outboxes f.outboxes, none_queued t.item s n z.keeps f.own)

module _ (s : Session) (zones : List Zone) (first : Each (IsFirstZone s) zones) where
  balanced_at_start : (t : Token) → ((n : ℕ) (d : ZoneData) → IsFirstData s n d → t.own d ≡ t.gave d) → Balanced t zones
  balanced_at_start t same = total_both (weight t) (given t) zones (λ n z e. bare_weight t s n z (first n z e) ∙ same n z.keeps (first n z e).own)

  at_most_at_start : (t : Token) → ((n : ℕ) (d : ZoneData) → IsFirstData s n d → t.own d ≤ t.gave d) → AtMost t zones
  at_most_at_start t less = total_at_most (weight t) (given t) zones (λ n z e. omega (arith, bare_weight t s n z (first n z e), less n z.keeps (first n z e).own))

-- each kind of token

no_lines : (f g : DeskLine → ℕ) (s : Session) (n : ℕ) (d : ZoneData) → IsFirstData s n d → in_log f d ≡ in_log g d
no_lines f g s n (at.Desk d) h = ap (total f) h.log ∙ sym (ap (total g) h.log)
no_lines f g s n other h = refl

no_locks : (a : ℕ) (test : ℕ → Bool) (s : Session) (n : ℕ) (d : ZoneData) → IsFirstData s n d → (lease_token a test).own d ≡ (lease_token a test).gave d
no_locks a test s n (at.Logical l) h = sym (ap (total (lock_weight a test)) h.held)
no_locks a test s n other h = refl

no_holders : (s : Session) (n : ℕ) (d : ZoneData) → IsFirstData s n d → holder_token.own d ≡ holder_token.gave d
no_holders s n (at.Logical l) h = sym (ap (λ (locks : List Lock). length locks) h.held)
no_holders s n other h = refl

no_entries : (s : Session) (n : ℕ) (d : ZoneData) → IsFirstData s n d → entry_token.own d ≡ entry_token.gave d
no_entries s n (at.Logical l) h = omega (arith, ap (λ (slots : List Remapping). length slots) h.slots, ap (λ (retired : List Lba). length retired) h.retired)
no_entries s n (at.Journal j) h = sym (ap (λ (es : List Logged). length (remappings es)) h.entered)
no_entries s n other h = refl

none_making : (page : PageId) (s : Session) (n : ℕ) (d : ZoneData) → IsFirstData s n d → (making_token page).own d ≡ (making_token page).gave d
none_making page s n (at.Logical l) h = sym (ap (λ pages. making_at page (at.Logical (record l { making = pages }))) h.making)
none_making page s n other h = refl

none_dropped : (s : Session) (n : ℕ) (d : ZoneData) → IsFirstData s n d → page_entry_token.own d ≤ page_entry_token.gave d
none_dropped s n (at.Logical l) h = omega (arith, ap (λ (pages : List PageId). length pages) h.unlinkable)
none_dropped s n other h = omega arith

-- claims, reports and who waits for them, damage: there is none yet
no_claims : (x : Pbn) (s : Session) (n : ℕ) (d : ZoneData) → IsFirstData s n d → (claim_token x).own d ≤ (claim_token x).gave d
no_claims x s n (at.Physical p) h = let none = ap (out_with x) h.desk in omega (arith, none)
no_claims x s n other h = omega arith

no_tickets : (zone : ℕ) (test : ℕ → Bool) (s : Session) (n : ℕ) (d : ZoneData) → IsFirstData s n d → (ticket_token zone test).own d ≡ (ticket_token zone test).gave d
no_tickets zone test s n (at.Physical p) h = sym (ap (λ (d : TicketDesk). if nat_eq p.counts.zone zone then total (λ (waiting : Waiting). bit (test waiting.number)) d.out else 0) h.desk ∙ neither (nat_eq p.counts.zone zone))
  where
    neither : (b : Bool) → ◌≡◌ {A = ℕ} (if b then 0 else 0) 0
    neither true = refl
    neither false = refl
no_tickets zone test s n other h = refl

no_reports : (w : Writer) (s : Session) (n : ℕ) (d : ZoneData) → IsFirstData s n d → (report_token w).own d ≡ (report_token w).gave d
no_reports w s n (at.Logical l) h = omega (arith, ap (total (has_old w)) h.slots, ap (total (has_old w)) h.reported)
no_reports w s n (at.Journal j) h = sym (ap (λ es. total (has_old w) (remappings es)) h.committed)
no_reports w s n other h = refl

no_waiters : (w : Writer) (s : Session) (n : ℕ) (d : ZoneData) → IsFirstData s n d → (waiter_token w).own d ≡ (waiter_token w).gave d
no_waiters w s n (at.Logical l) h = ap (total (has_old w)) h.slots
no_waiters w s n (at.Journal j) h = sym (ap (λ es. total (has_old w) (remappings es)) h.committed)
no_waiters w s n other h = refl

no_damage : (s : Session) (n : ℕ) (d : ZoneData) → IsFirstData s n d → damage_token.own d ≤ damage_token.gave d
no_damage s n d h = omega arith

journal_idle : (s : Session) (n : ℕ) (d : ZoneData) → IsFirstData s n d → journal_token.own d ≡ journal_token.gave d
journal_idle s n (at.Journal j) h = ap (λ (b : Bool). bit (not b)) h.busy
journal_idle s n other h = refl

no_words : (s : Session) (n : ℕ) (d : ZoneData) → IsFirstData s n d → (notice_token s.sizes).own d ≡ (notice_token s.sizes).gave d
no_words s n (at.Desk d) h = h.notices
no_words s n (at.Device d) h = sym (ap (λ (b : Bool). notified_by s.sizes (at.Device (record d { stopped = b }))) h.stopped)
no_words s n other h = refl

-- what the device has, where the image is as it was opened

module _ (s : Session) (session : IsSession s) (as_opened : IsAsOpened s) where
  -- what the session leaves as it was, and the block that an address is mapped to
  kept_at_start : KeptStands s []
  kept_at_start x is = as_opened.one_image.only x (let inside = is.inside in let room = as_opened.room in omega (arith, inside, room)) is.looked

  first_stands : (a : ℕ) (m : Mapping) → opened_at s a ≡ m → OnBlock (λ x. Stands s [] x.0 (value_with s.image m)) m
  first_stands a Unmapped e = tt
  first_stands a Zero e = tt
  first_stands a (At y) e =
      let is_data = opened_data s as_opened a y e in
      let inside = data_block_inside s.sizes.geometry y.0 is_data in
      as_opened.one_image.only y.0 (omega (arith, inside, as_opened.room)) (looked_high s.sizes.geometry y.0 (data_block_high s.sizes.geometry y.0 is_data))

  at_rest : AtRest s [] []
  at_rest = (opened s.blocks s.before s.sizes.geometry s.sizes.start s.image [] (let room = as_opened.room in omega (arith, room)) as_opened.one_image as_opened.journal, (λ a. first_stands a (opened_at s a) refl), tt)

  pub shown_at_start : Shown s []
  shown_at_start = record {
    superblock = all_weaker (λ content. content ≡ block_at s.image 0) (IsSuperblock s) (contents s.blocks s.before 0) (λ content is. inl is)
        (as_opened.one_image.only 0 (omega (arith, as_opened.room)) (looked_low s.sizes.geometry 0 (omega arith)));
    kept = kept_at_start;
    journal = inl (record { rest = []; all = refl; stands = at_rest });
    filling = tt;
  }

-- what each zone has

module _ (s : Session) (session : IsSession s) where
  map_at_start : (slots : List Remapping) → slots ≡ [] → MapOk s slots
  map_at_start slots none = subst (MapOk s) (sym none) tt

  locks_at_start : (zone next : ℕ) (held : List Lock) (waiting : List Vio) → held ≡ [] → waiting ≡ [] → LocksOk s zone next held waiting
  locks_at_start zone next held waiting none nobody = rw (none, nobody) (record { locks_are = tt; once = λ a. omega arith; waits = tt; in_line = tt; in_order = tt })

  pages_at_start : (zone : ℕ) (tree : Tree) (making : List PageId) (lacking : List Vio) → making ≡ [] → lacking ≡ [] → PagesOk zone tree making lacking
  pages_at_start zone tree making lacking none nobody = rw (none, nobody) (record { linkable = tt; once = λ page. omega arith; waits = tt; at_home = tt })

  nobody : (P : Vio → Type 0) (vs : List Vio) → vs ≡ [] → AllByRecursion P vs
  nobody P vs none = subst (λ (us : List Vio). AllByRecursion P us) (sym none) tt

  nobody_at_start : (n : ℕ) (d : ZoneData) → IsFirstData s n d → KeptEach (KeptOk s []) d
  nobody_at_start n (at.Desk d) h = nobody _ d.parked h.parked
  nobody_at_start n (at.Logical l) h = (nobody _ l.waiting h.waiting, nobody _ l.lacking h.lacking, nobody _ l.settling h.settling)
  nobody_at_start n (at.Journal j) h = (nobody _ j.filling h.filling, nobody _ j.waiting h.waiting)
  nobody_at_start n (at.Physical p) h = tt
  nobody_at_start n (at.Device d) h = tt

  data_at_start : (n : ℕ) (d : ZoneData) → IsFirstData s n d → DataOk s [] n d
  data_at_start n (at.Desk d) h = record {
    number_is = h.number_is;
    lists = record { log_is = h.log; marks_is = h.marks; receipts_is = h.receipts };
    sound = record {
      requests = h.requests;
      stops_notified = λ w is. absurd (let none = rw h.log at is in cc);
      parked_early = λ some. let none = ap length h.parked in absurd (omega (arith, some, none));
    };
    kept = nobody_at_start n (at.Desk d) h;
    answers = tt;
    told = λ heard. let none = h.notices in let nobody = ap length h.parked in absurd (omega (arith, heard, none, nobody));
  }
  data_at_start n (at.Logical l) h = record {
    number_is = h.number_is;
    lists = record { places_is = h.places; next_is = h.next; slots_are = λ a e. ap (of_address a) h.slots; below = λ a e. record { writes = tt; reads = tt }; tree_is = h.tree; reports_are = subst (AllByRecursion (ReportOk s [] l.zone)) (sym h.reported) tt };
    sound = record { among = h.among; map = map_at_start l.slots h.slots; locks = locks_at_start l.zone l.next l.held l.waiting h.held h.waiting; pages = pages_at_start l.zone l.tree l.making l.lacking h.making h.lacking; reports = nobody _ l.settling h.settling };
    kept = nobody_at_start n (at.Logical l) h;
    answers = ((λ a e free living. record { all_committed = refl; all_done = refl }), λ page linkable unlinked unmade yet. sym (h.tree.linked page linkable) ∙ unlinked);
    told = ((λ a retired. absurd (let none = ap (is_among a) h.retired in cc)), λ some. let none = ap (λ (pages : List PageId). length pages) h.unlinkable in absurd (omega (arith, some, none)));
  }
  data_at_start n (at.Physical p) h = record {
    number_is = h.number_is;
    lists = record {
      counters = λ x of_zone. let same = h.counters x of_zone in omega (arith, same);
      uses = λ x of_zone. let same = h.counters x of_zone in let none = h.claims x in omega (arith, same, none);
      strays_are = h.strays;
      tickets_are = λ number. ap (λ (d : TicketDesk). ticket_of d.out number) h.desk;
      issued_is = ap (λ (d : TicketDesk). d.issued) h.desk;
      out_are = subst (λ (d : TicketDesk). All (WasIssued [] p.counts.zone) d.out) (sym h.desk) (All-nil (WasIssued [] p.counts.zone));
    };
    sound = record {
      is_zone = h.is_zone;
      geometry = h.geometry;
      zones = h.zones;
      numbered = subst AreNumbered (sym h.desk) (omega arith);
      few = let none = ap (λ (d : TicketDesk). d.issued) h.desk in omega (arith, none);
      room = h.room;
      passed = λ x some. let none = ap (out_with x) h.desk in absurd (omega (arith, some, none));
      first_claims = λ x some. let none = h.claims x in absurd (omega (arith, some, none));
    };
    kept = tt;
    answers = tt;
    told = tt;
  }
  data_at_start n (at.Journal j) h = record {
    number_is = h.number_is;
    lists = record {
      entered_is = h.entered;
      committed_is = h.committed;
      filled_is = λ sound. ap all_logged h.filling;
      filling_few = let none = ap length h.filling in omega (arith, none);
      log_is = log_at_start s j.log h.log;
    };
    sound = ((let none = ap length h.filling in omega (arith, none)), λ idle. record { unfilled = h.filling; unawaited = h.waiting }, λ some. absurd (let none = ap length h.waiting in omega (arith, some, none)));
    kept = nobody_at_start n (at.Journal j) h;
    answers = subst (λ (b : Bool). RestsAt s [] b j.broken) (sym h.busy) (subst (λ (b : Bool). RestsAt s [] false b) (sym h.broken) (refl, λ fair. at_rest s session fair.opened));
    told = λ closed. absurd (let notified = h.notified in let broken = h.broken in let opened : is_closed j ≡ false = rw (notified, broken) refl in cc);
  }
  data_at_start n (at.Device d) h = record { number_is = h.number_is; lists = record { calls_is = h.calls; stopped_is = h.stopped; superblock_is = h.superblock; damage_is = h.damage }; sound = tt; kept = tt; answers = tt; told = tt }

  zone_at_start : (n : ℕ) (z : Zone) → IsFirstZone s n z → ZoneOk s [] n z
  zone_at_start n z f = record {
    number_is = f.number_is;
    lanes = f.lanes;
    inbox = subst (λ (items : List Item). AllByRecursion (ItemOk s [] n) items) (sym f.inbox) tt;
    outboxes = λ to lane e. subst (λ (items : List Item). AllByRecursion (ItemOk s [] to) items) (sym (every-get (λ lane. lane ≡ []) z.ports.outboxes to lane f.outboxes e)) tt;
    to_itself = λ lane e. every-get (λ lane. lane ≡ []) z.ports.outboxes n lane f.outboxes e;
    own = data_at_start n z.keeps f.own;
    counted = omega (arith, none_made s n z.keeps f.own);
  }

  flows_at_start : (zones : List Zone) (zone : ℕ) → Each (IsFirstZone s) zones → Flows (arrivals_at s zone) [] zones
  flows_at_start zones zone first = record {
    in_order = λ receiver sender lane hr hs hl.
        let inbox = (first (logical_number zone) receiver hr).inbox in
        let empty = every-get (λ lane. lane ≡ []) sender.ports.outboxes (logical_number zone) lane (first desk_number sender hs).outboxes hl in
        sym (ap (λ (items : List Item). counted arrival items ++ counted arrival lane) inbox ∙ ap (counted arrival) empty);
    alone = λ n z had ne lane hl. ap (counted arrival) (every-get (λ lane. lane ≡ []) z.ports.outboxes (logical_number zone) lane (first n z had).outboxes hl);
  }

  updates_at_start : (zones : List Zone) (zone : ℕ) → Each (IsFirstZone s) zones → Flows (updates_at s zone) [] zones
  updates_at_start zones zone first = record {
    in_order = λ receiver sender lane hr hs hl.
        let inbox = (first (physical_number s.sizes zone) receiver hr).inbox in
        let empty = every-get (λ lane. lane ≡ []) sender.ports.outboxes (physical_number s.sizes zone) lane (first (journal_number s.sizes) sender hs).outboxes hl in
        sym (ap (λ (items : List Item). counted (updates_at s zone).counts items ++ counted (updates_at s zone).counts lane) inbox ∙ ap (counted (updates_at s zone).counts) empty);
    alone = λ n z had ne lane hl. ap (counted (updates_at s zone).counts) (every-get (λ lane. lane ≡ []) z.ports.outboxes (physical_number s.sizes zone) lane (first n z had).outboxes hl);
  }

  -- The journal weighs the opened count of a block, and its counter is that: of the zone that counts it.
  module _ (zones : List Zone) (count : length zones ≡ zone_count s.sizes) (first : Each (IsFirstZone s) zones) (x : Pbn) where
    each_ok : Each (ZoneOk s []) zones
    each_ok n z e = zone_at_start n z (first n z e)

    abbrev home : ℕ
    home = physical_number s.sizes (physical_zone_of s.sizes x)

    physical : Sits s [] zones each_ok at.Physical home
    physical = physical_sits s [] zones each_ok count (physical_zone_of s.sizes x) (zone_inside s.sizes x session.zones.1)

    journal : Sits s [] zones each_ok at.Journal (journal_number s.sizes)
    journal = journal_sits s [] zones each_ok count

    first_physical : IsFirstPhysical s home physical.it
    first_physical = subst (IsFirstData s home) physical.keeps (first home physical.zone physical.had).own

    -- any other has no counter of it
    is_home : (n : ℕ) (p : PhysicalZone) → IsFirstPhysical s n p → IsOfZone p.counts x → n ≡ home
    is_home n p h own =
        let zone : physical_zone_of s.sizes x ≡ p.counts.zone = rw (← h.geometry, ← h.zones) own.own in
        h.number_is ∙ ap (physical_number s.sizes) (sym zone)

    first_journal : IsFirstJournal s (journal_number s.sizes) journal.it
    first_journal = subst (IsFirstData s (journal_number s.sizes)) journal.keeps (first (journal_number s.sizes) journal.zone journal.had).own

    abbrev token : Token
    token = block_token (opened_uses s) x

    counter_is : counter_in x physical.it.counts.slabs ≡ opened_uses s x
    counter_is = elim (tells_data s.sizes.geometry x) [
      | is_data is data_block ↦
          first_physical.counters x (subst (λ (g : Geometry). IsOf g physical.it.counts.zone physical.it.counts.zones x) (sym first_physical.geometry) (record { data_block = data_block; own = home_of }))
      | is_none is none ↦
          (foreign_is physical.it.counts x first_physical.is_zone (λ own. none (subst (λ (g : Geometry). IsDataBlock g x.0) first_physical.geometry own.data_block))).0
          ∙ sym (opened_none s.sizes.geometry s.counters x none)
    ]
      where
        home_of : slab_number s.sizes.geometry x % physical.it.counts.zones ≡ physical.it.counts.zone
        home_of =
            let number = first_physical.number_is in
            let zone : physical_zone_of s.sizes x ≡ physical.it.counts.zone = omega (arith, number) in
            ap (λ (n : ℕ). slab_number s.sizes.geometry x % n) first_physical.zones ∙ zone

    own_total : total (weight token) zones ≡ opened_uses s x
    own_total =
        total_both (weight token) (λ z. token.own z.keeps) zones (λ n z e. bare_weight token s n z (first n z e))
        ∙ total_alone (λ z. token.own z.keeps) zones (journal_number s.sizes) journal.zone journal.had (λ n z had ne. elsewhere n z.keeps (first n z had).own ne)
        ∙ ap token.own journal.keeps ∙ here
      where
        elsewhere : (n : ℕ) (d : ZoneData) → IsFirstData s n d → (n ≡ journal_number s.sizes → ⊥) → token.own d ≡ 0
        elsewhere n (at.Journal j) h ne = absurd (ne h.number_is)
        elsewhere n (at.Physical p) h ne = let none = ap (out_with x) h.desk in let no_stray = ap (total (is_old x)) h.strays in omega (arith, none, no_stray)
        elsewhere n other h ne = refl

        here : token.own (at.Journal journal.it) ≡ opened_uses s x
        here = let none = ap (total (is_entry x)) first_journal.entered in omega (arith, none)

    given_total : total (given token) zones ≡ opened_uses s x
    given_total =
        total_alone (given token) zones home physical.zone physical.had (λ n z had ne. elsewhere n z.keeps (first n z had).own ne) ∙ ap token.gave physical.keeps ∙ here
      where
        elsewhere : (n : ℕ) (d : ZoneData) → IsFirstData s n d → (n ≡ home → ⊥) → token.gave d ≡ 0
        elsewhere n (at.Physical p) h ne =
            let counter = (foreign_is p.counts x h.is_zone (λ own. ne (is_home n p h own))).0 in
            let none = h.claims x in
            omega (arith, counter, none)
        elsewhere n (at.Journal j) h ne = ap (λ es. total (is_old x) (remappings es)) h.committed
        elsewhere n other h ne = refl

        here : token.gave (at.Physical physical.it) ≡ opened_uses s x
        here = let none = first_physical.claims x in let same = counter_is in omega (arith, none, same)

    blocks_at_start : Balanced token zones
    blocks_at_start = own_total ∙ sym given_total

  legal_zones : (zones : List Zone) → length zones ≡ zone_count s.sizes → Each (IsFirstZone s) zones → Legal s (record { zones = zones; trace = [] })
  legal_zones zones count first = record {
    count = count;
    each = λ n z e. zone_at_start n z (first n z e);
    requests = λ w. balanced_at_start s zones first (request_token w) (no_lines (answers_of w) (begins_of w) s);
    leases = λ a test. balanced_at_start s zones first (lease_token a test) (no_locks a test s);
    holders = balanced_at_start s zones first holder_token (no_holders s);
    entries = balanced_at_start s zones first entry_token (no_entries s);
    making = λ page. balanced_at_start s zones first (making_token page) (none_making page s);
    dropped = at_most_at_start s zones first page_entry_token (none_dropped s);
    blocks = λ x. blocks_at_start zones count first x;
    claims = λ x. at_most_at_start s zones first (claim_token x) (no_claims x s);
    tickets = λ zone test. balanced_at_start s zones first (ticket_token zone test) (no_tickets zone test s);
    reports = λ w. balanced_at_start s zones first (report_token w) (no_reports w s);
    waiters = λ w. balanced_at_start s zones first (waiter_token w) (no_waiters w s);
    damage = at_most_at_start s zones first damage_token (no_damage s);
    journal = balanced_at_start s zones first journal_token (journal_idle s);
    room = balanced_at_start s zones first room_token (no_lines is_answer is_begin s);
    stop_notices = balanced_at_start s zones first (notice_token s.sizes) (no_words s);
    in_order = λ zone below. flows_at_start zones zone first;
    updates = λ zone below. updates_at_start zones zone first;
    right = λ fair. shown_at_start s session fair.opened;
    gives_right = λ fair. tt;
  }

-- A core at its start is legal.
pub legal_first : (s : Session) (core : Core) → IsFirst s core → IsSession s → Legal s core
legal_first s core first session = subst (λ (t : Trace). Legal s (record { zones = core.zones; trace = t })) (sym first.trace_is) (legal_zones s session core.zones first.count first.each)
