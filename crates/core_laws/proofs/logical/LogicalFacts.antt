-- What the acts of a logical zone owe: a request draws its place, and is done with its lock.
use Rattle.std.proofs.Common.{◌≡◌, Contains, ℕ, ◌+◌, ◌==◌, ◌⊎◌, ◌&&◌, Bool, true, false, not, if◌then◌else◌, Option, None, Some, is_some, length, length-append, IsNone, List, [], ◌∷◌, ◌++◌, refl, ap, sym, ◌∙◌, inl, inr, arith, ◌<◌, IsSome, subst}
use Rattle.std.proofs.lemmas.Bool.{and_parts, cases_Bool}
use Rattle.core_laws.proofs.Common.{Aborts, IsInTurn, Mapping, Passes, applied, durable, journaled, newest, of_address, option_cases, passed, remappings, AllBelow, AllByRecursion, Asks, DataOk, DeskLine, Draws, FlushMark, Follows, Gives, GivesRight, Happening, HasAddress, HasEarned, IsChange, IsCommitted, IsEntered, IsFair, IsForBlock, IsOfZone, IsPlaced, IsUndrawn, KeptEach, KeptOk, Lba, Lock, LocksOk, Remapping, LogicalZone, Looks, MayReply, OnBlock, Pbn, Phase, Placed, PlaceMayFollow, Post, Quiet, RightTrace, Session, Sets, Trace, Vio, VioOk, Writer, aborted, answer_of, asked, before_begin, done, ended, eq-eqb, eqb_tells, every-append, every-map, fair_before, gift, gift_of, gifts, has_stopped, holds, lines, logged_of, logical_number, places, request_at, same_self, same_writer, some_is, turned, value_at, zone_number, zone_of, Remaps, remapping, mapped_or, mapping_by, opened_at, IsToData, zone_count, same_Some, Holds}
use Rattle.data_vio.specs.declared.items.Asks.TheVariants.{Read, Write, Discard, Flush}
use Rattle.core_model.specs.Legal.{ComesAfter}
use Rattle.core_model.specs.LogicalRules.{is_among, is_held, lock_of, placed, place_of_vio, drawn_by, goes_on, is_discard, known_at, known_by, lacks, latest_at, looked, pass_of, passes_by, looks_up, released, granted, retire, all_stopped, all_for, with_slot}
use Rattle.core_laws.proofs.trace.DeskOfTrace.{each_of_address, of_address_append, shown_of}
use Rattle.core_laws.proofs.kept.ActKept.{Known, Mine, ActKept, act_one, claim_in, own_request, plain_clears, line_kept, shown_plain, vio_over, IsPlain, act_none, own_address, vio_ok, in_bare, in_own, carries_own}
use Rattle.core_laws.proofs.kept.Keys.{Clears, OfRequest, OfAddress, OfPage, IfAny, happens_in}
use Rattle.core_laws.proofs.kept.Spared.{quiet_kept, below_kept, about, none_spent, of_same}
use Rattle.core_laws.proofs.logical.LockLaws.{more_drawn, one_waits, one_takes}
use Rattle.core_laws.proofs.tokens.Owners.{at_home}
use Rattle.data_vio.specs.Phases.{phase_rule}
use Rattle.core_laws.proofs.lists.CoreLists.{newest_has, or_none}
use Rattle.core_laws.proofs.logical.Releases.{below_more, has_below_more, goes_ok, looks_ok, stopped_ok, release_ok, retire_ok, drawn_before}
use Rattle.core_model.specs.PageTrees.{HasPath, leaf_at, missing_at}
use Rattle.core_model.specs.DeviceFacts.{NeedsLeaf}
use Rattle.core_model.specs.LogicalFacts.{HasSpent, AwaitsReport}
use Rattle.core_model.specs.RequestFacts.{IsToBlock}
use Rattle.data_vio.specs.Vios.{reads_leaf}
use Rattle.core_laws.proofs.device.LeafReads.{stands_at_data}
use Rattle.core_laws.proofs.journal.JournalFacts.{home_within}
use Rattle.core_laws.proofs.kept.OpenedBlocks.{lacks_unmapped}
use Rattle.core_laws.proofs.kept.StandsOn.{on_each}
use Rattle.blk_base.proofs.RegionLaws.{data_block_inside}
use Rattle.core_laws.proofs.lists.Between.{every_between}
use Rattle.core_laws.proofs.logical.PageFacts.{has_leaf, lacks_some, leaf_lacks, leaf_linked, same_tree}
use Rattle.core_laws.proofs.trace.PagesOfTrace.{applied_leafy, linked_stands, newest_leafy}
use Rattle.blk_base.specs.Pages.{leaf_of}
use Rattle.blk_base.specs.declared.place.PageId.{PageId}
use Rattle.blk_base.specs.Regions.{IsDataBlock}
use Rattle.core_model.specs.RightTraces.{IsLeafy}
use Rattle.core_model.specs.Trace.{added}
use Rattle.core_laws.proofs.kept.Frame.{reports_on}
use Rattle.core_laws.proofs.logical.ReportFacts.{came, left_ok, waits_still}
use Rattle.core_model.specs.LogicalRules.{awaits_report, is_reported, reports_left, settled, settled_posts}
use Rattle.core_model.specs.PageLinks.{block_in}
use Rattle.blk_base.specs.declared.place.Mapping.TheVariants.{Zero}
use Rattle.blk_base.specs.declared.place.Mapping.TheVariants.{Unmapped, Zero, At}
use Rattle.core_model.specs.DeskRules.{mark_of_vio}
use Rattle.core_laws.proofs.kept.Frame.{told_kept}
use Rattle.core_laws.proofs.kept.Carried.{reply_said}
use Rattle.core_laws.proofs.tokens.Known.{Leased}
use Rattle.blk_base.specs.declared.place.ZoneId.TheVariants as id
use Rattle.blk_base.specs.declared.request.Answer.TheVariants as reply
use Rattle.blk_base.specs.declared.request.Request.TheVariants as request
use Rattle.vdo_model.specs.declared.report.DeskLine.TheVariants as line
use Rattle.data_vio.specs.declared.items.Item.TheVariants as item
use Rattle.data_vio.specs.declared.items.Phase.TheVariants as phase
use Rattle.core_model.specs.declared.zones.ZoneData.TheVariants as at

-- an answer that isn't there stands in no older part either
unanswered_before : (desk : List DeskLine) (q w : Writer) → IsNone (answer_of desk w) → IsNone (answer_of (before_begin desk q) w)
unanswered_before [] q w none = none
unanswered_before (line.Begin v ∷ older) q w none = by (same_writer v q) (unanswered_before older q w none)
  where
    by : (b : Bool) → IsNone (answer_of (before_begin older q) w) → IsNone (answer_of (if b then older else before_begin older q) w)
    by true rest = none
    by false rest = rest
unanswered_before (line.Answer v a ∷ older) q w none = unanswered_before older q w (by (same_writer v w) none)
  where
    by : (b : Bool) → IsNone (if b then Some a else answer_of older w) → IsNone (answer_of older w)
    by true none = absurd cc
    by false none = none

-- a request that a logical zone serves is at its home
module _ {s : Session} {t : Trace} {n : ℕ} {l : LogicalZone} {v : Vio} (known : Known s t n (at.Logical l) (item.Request v ∷ [])) where
  pub front_ok : VioOk s t v
  front_ok = known.front_ok.0.0

  pub zone_is : zone_of s.sizes.zones v.at.0 ≡ l.zone
  zone_is =
      let number = known.own.number_is in
      let here = at_home s.sizes n l.zone v.home (length v.tickets + v.place) v.claim v.tickets (phase_rule v.phase).zone number known.own.sound.among known.front_ok.0.2 in
      let name = ap (zone_number s.sizes) front_ok.home in
      omega (arith, here, name, number)

  pub home_is : v.home ≡ id.Logical l.zone
  home_is = front_ok.home ∙ ap (λ zone. id.Logical zone) zone_is

  -- Over an arrival.
  module _ (arrives : v.phase ≡ phase.Arrive) where
    abbrev p : Placed
    p = place_of_vio l v

    abbrev t' : Trace
    t' = Draws p ∷ t

    abbrev v' : Vio
    v' = placed l v

    arriving_now : (v.page ≡ None) × IsUndrawn t v.request v.asks
    arriving_now = in_bare known phase.Arrive arrives (λ page no. no)

    bare : v.page ≡ None
    bare = arriving_now.0

    unplaced : IsUndrawn t v.request v.asks
    unplaced = arriving_now.1

    of_zone : (asks : Asks) → IsForBlock asks → HasAddress s.sizes v.at asks → request_at s.script v.request ≡ Some (asked asks v.at v.bytes) → IsOfZone s.sizes.zones s.sizes.geometry.logical s.script p
    of_zone Read block low is = (request.Read v.at, v.at.0, is, refl, low, sym zone_is)
    of_zone Write block low is = (request.Write v.at v.bytes false, v.at.0, is, refl, low, sym zone_is)
    of_zone Discard block low is = (request.Discard v.at, v.at.0, is, refl, low, sym zone_is)
    of_zone Flush block low is = absurd block

    may_draw : PlaceMayFollow s p t
    may_draw = record {
      is_open = front_ok.is_open;
      next = record {
        number = known.own.lists.next_is;
        once = unplaced.unplaced;
        zone = of_zone v.asks unplaced.for_block front_ok.address front_ok.asked;
        order = every-map {P = ComesAfter l.zone v.request} {Q = λ (q : Placed). q.zone ≡ p.zone → Follows (lines t) p q}
            (λ q f same. record { stream = f same; answered = unanswered_before (lines t) q.request v.request front_ok.is_open.unanswered }) (places t) (known.in_turn l v refl refl arrives);
      };
      not_entered = unplaced.not_entered;
    }

    right' : RightTrace s t'
    right' = (may_draw, shown_plain s t (Draws p) tt (shown_of s t known.right), known.right)

    is_placed : IsPlaced s t' v'
    is_placed = record { for_block = unplaced.for_block; placed = rw (same_self v.request) (rw zone_is refl); not_entered = unplaced.not_entered }

    placed_ok : VioOk s t' v'
    placed_ok = vio_over s (Draws p) t v refl front_ok

    clears : Clears s n (Mine s t (at.Logical l) (item.Request v ∷ [])) (Draws p) t
    clears = plain_clears known (Draws p) t tt known.own.number_is (own_request known) tt tt

    quiet' : (a : ℕ) → zone_of s.sizes.zones a ≡ l.zone → is_held a l.held ≡ false → is_among a l.retired ≡ false → Quiet t' a
    quiet' a zone free alive = quiet_kept (Draws p) t a tt (known.own.answers.0 a zone free alive)

    others_kept : KeptEach (KeptOk s t') (at.Logical l)
    others_kept = line_kept known (Draws p) t clears known.own.kept

    -- The zone with one more place drawn: the request waits with it, or has a lock, or neither.
    drawn_ok : (held : List Lock) (waiting : List Vio) → LocksOk s l.zone (l.next + 1) held waiting → AllByRecursion (KeptOk s t' phase.Wait) waiting → ((a : ℕ) → is_held a held ≡ false → is_held a l.held ≡ false)
        → DataOk s t' n (at.Logical (record (drawn_by l v) { held = held; waiting = waiting }))
    drawn_ok held waiting locks kept free_before =
        let k = known.own in
        record {
          number_is = k.number_is;
          lists = record {
            places_is = rw (eq-eqb l.zone l.zone refl) (ap (λ ps. p ∷ ps) k.lists.places_is);
            next_is = rw (eq-eqb l.zone l.zone refl) (ap (λ (m : ℕ). m + 1) k.lists.next_is);
            slots_are = k.lists.slots_are;
            below = λ a zone. below_more t' a l.next (l.next + 1) (omega arith) (below_kept (Draws p) t a l.next tt (k.lists.below a zone));
            tree_is = k.lists.tree_is;
            reports_are = reports_on s (Draws p) t l.zone l.reported k.lists.reports_are;
          };
          sound = record { among = k.sound.among; map = k.sound.map; locks = locks; pages = k.sound.pages; reports = k.sound.reports };
          kept = (kept, others_kept.1, others_kept.2);
          answers = ((λ a zone free alive. quiet' a zone (free_before a free) alive), k.answers.1);
          told = ((λ a retired. ((k.told.0 a retired).0, has_below_more a l.next (l.next + 1) (aborted t) (omega arith) (k.told.0 a retired).1)), k.told.1);
        }

    others_wait : AllByRecursion (KeptOk s t' phase.Wait) l.waiting
    others_wait = others_kept.0

    gives_same : (IsFair s t → GivesRight s t) → IsFair s t' → GivesRight s t'
    gives_same f fair = f (fair_before s (Draws p) t fair)

    pub retired_kept : is_among v.at.0 l.retired ≡ true → ActKept s t n (at.Logical l) (item.Request v ∷ []) (at.Logical (drawn_by l v)) (Draws p ∷ []) ((id.Desk, item.Request (ended phase.Reply reply.Stopped v')) ∷ [])
    retired_kept retired =
        let stopped = known.own.told.0 v.at.0 retired in
        act_one known (Draws p) clears gives_same right' (drawn_ok l.held l.waiting (more_drawn s l.zone l.next l.held l.waiting known.own.sound.locks) others_wait (λ a free. free)) (stopped_ok s t' v' right' stopped.0 stopped.1 placed_ok bare is_placed (claim_in known phase.Arrive arrives), tt)

    pub held_kept : is_held v.at.0 l.held ≡ true → ActKept s t n (at.Logical l) (item.Request v ∷ []) (at.Logical (record (drawn_by l v) { waiting = l.waiting ++ turned phase.Wait v' ∷ [] })) (Draws p ∷ []) []
    held_kept held =
        let w : Vio = turned phase.Wait v' in
        act_one known (Draws p) clears gives_same right'
        (drawn_ok l.held (l.waiting ++ w ∷ []) (one_waits s l.zone l.next l.held l.waiting known.own.sound.locks w home_is refl held) (every-append (KeptOk s t' phase.Wait) l.waiting (w ∷ []) others_wait ((placed_ok, carries_own s t' w phase.Wait bare (is_placed, unplaced.took_none), refl, claim_in known phase.Arrive arrives), tt)) (λ a free. free)) tt

    pub free_kept : is_among v.at.0 l.retired ≡ false → is_held v.at.0 l.held ≡ false
        → ActKept s t n (at.Logical l) (item.Request v ∷ []) (at.Logical (record (drawn_by l v) { held = lock_of v' ∷ l.held })) (Draws p ∷ []) (looks_up v' ∷ [])
    free_kept alive free =
        act_one known (Draws p) clears gives_same right'
        (drawn_ok (lock_of v' ∷ l.held) l.waiting (one_takes s l.zone l.next l.held l.waiting known.own.sound.locks v' zone_is refl free) others_wait (λ a none. (or_none (v.at.0 == a) (is_held a l.held) none).1)) (
          looks_ok s t' l.zone known.own.sound.among v' placed_ok home_is bare
              (record { is_placed = is_placed; quiet = quiet' v.at.0 zone_is free alive; below = below_kept (Draws p) t v.at.0 l.next tt (known.own.lists.below v.at.0 zone_is) }) (none_spent s t' v'.request unplaced.took_none) (claim_in known phase.Arrive arrives),
          tt,
        )

-- a write or a discard that is done, and a read that was given its bytes, may be answered so
pub done_earned : (s : Session) (t : Trace) (m : FlushMark) (asks : Asks) (at : Lba) (bytes : List ℕ) → IsChange asks → IsSome (logged_of (done t) m.request) → HasEarned s t m asks (asked asks at bytes) (Some reply.Ok)
done_earned s t m Write at bytes is some = some
done_earned s t m Discard at bytes is some = some
done_earned s t m Read at bytes is some = absurd is
done_earned s t m Flush at bytes is some = absurd is

given_earned : (s : Session) (t : Trace) (m : FlushMark) (asks : Asks) (at : Lba) (bytes : List ℕ) (place : ℕ) → asks ≡ Read → gift_of (gifts t) m.request ≡ Some (record { request = m.request; at = at; place = place; bytes = bytes })
    → HasEarned s t m asks (asked asks at bytes) (Some (reply.Bytes bytes))
given_earned s t m asks at bytes place is given = rw is (place, given)

-- what a discard that passes knows, by its tests
none_known : (o : Option Remapping) → not (is_some o) ≡ true → o ≡ None
none_known None is = refl
none_known (Some e) is = absurd cc

newest_none : (es : List Remapping) → newest es ≡ None → es ≡ []
newest_none [] is = refl
newest_none (e ∷ es) is = absurd cc

nothing_before : (es fs : List Remapping) → es ++ fs ≡ fs → es ≡ []
nothing_before [] fs same = refl
nothing_before (e ∷ es) fs same = let all = ap length same in let parts = length-append es fs in absurd (omega (arith, all, parts))

discards_it : (asks : Asks) → is_discard asks ≡ true → asks ≡ Discard
discards_it Discard is = refl
discards_it Read is = absurd cc
discards_it Write is = absurd cc
discards_it Flush is = absurd cc

changes_it : (asks : Asks) → is_discard asks ≡ true → IsChange asks
changes_it asks is = rw (discards_it asks is) tt

there_between : (es fs : List Remapping) (e : Remapping) → IsSome (logged_of (es ++ e ∷ fs) e.request)
there_between [] fs e = rw (same_self e.request) refl
there_between (f ∷ es) fs e = elim (cases_Bool (same_writer f.request e.request)) [ inl same ↦ rw same refl | inr other ↦ rw other (there_between es fs e) ]

module _ {s : Session} {t : Trace} {n : ℕ} {l : LogicalZone} {v : Vio} (known : Known s t n (at.Logical l) (item.Request v ∷ [])) where
  abbrev pub After : LogicalZone → Trace → List Post → Type 0
  After new made posts = ActKept s t n (at.Logical l) (item.Request v ∷ []) (at.Logical new) made posts

  pub home : zone_of s.sizes.zones v.at.0 ≡ l.zone
  home = zone_is known

  pub leased : (q : Phase) → v.phase ≡ q → holds q ≡ true → Leased l v
  leased q is held = known.leased l v refl refl (rw is held)

  -- what happens is its own, at its address
  pub own_clears : (h : Happening) → IsPlain h → happens_in s.sizes h ≡ logical_number (zone_of s.sizes.zones v.at.0) → IfAny (λ w. Mine s t (at.Logical l) (item.Request v ∷ []) (OfRequest w)) (about h).request
      → IfAny (λ a. Mine s t (at.Logical l) (item.Request v ∷ []) (OfAddress a)) (about h).address → IfAny (λ p. Mine s t (at.Logical l) (item.Request v ∷ []) (OfPage p)) (about h).page
      → Clears s n (Mine s t (at.Logical l) (item.Request v ∷ [])) h t
  own_clears h plain here request address page = plain_clears known h t plain (known.own.number_is ∙ ap logical_number (sym home) ∙ sym here) request address page

  -- whoever did what is done or given at its address had a place that was drawn
  drawn_here : (q : Phase) → v.phase ≡ q → holds q ≡ true → v.place < l.next
  drawn_here q is held = drawn_before s t n l known.session known.right known.own v (leased q is held) home

  -- whoever changes its address and goes on has its leaf
  known_leafy : (q : Asks) → v.asks ≡ q → IsChange q → HasPath l.tree v.at.0 → passes_by l v ≡ false → lacks l v ≡ None → IsLeafy s t v.at.0
  known_leafy Write is change path stays leaf =
      let none : missing_at l.tree v.at.0 ≡ None = rw is at leaf in
      has_leaf s.sizes.geometry l.zone s.sizes.zones s.links (applied t) l.tree v.at.0 known.own.lists.tree_is path none
  known_leafy Discard is change path stays leaf = by_slot (option_cases (latest_at l v.at.0))
    where
      no_page : (o : Option PageId) → is_some o ≡ false → o ≡ None
      no_page None none = refl
      no_page (Some page) none = absurd cc

      by_slot : (latest_at l v.at.0 ≡ None) ⊎ ((e : Remapping) × (latest_at l v.at.0 ≡ Some e)) → IsLeafy s t v.at.0
      by_slot (inr slot) = newest_leafy s t v.at.0 (remappings (applied t)) slot.0 (applied_leafy s t known.right) (ap newest (sym (known.own.lists.slots_are v.at.0 home)) ∙ slot.1)
      by_slot (inl none) =
          let lacking : is_some (missing_at l.tree v.at.0) ≡ false = rw (is, none) at stays in
          has_leaf s.sizes.geometry l.zone s.sizes.zones s.links (applied t) l.tree v.at.0 known.own.lists.tree_is path (no_page (missing_at l.tree v.at.0) lacking)
  known_leafy Read is change path stays leaf = absurd change
  known_leafy Flush is change path stays leaf = absurd change

  within : zone_number s.sizes v.home < zone_count s.sizes
  within = home_within s t v known.session (vio_ok known)

  -- The last write of its address, by the zone's slots and by the trace.
  latest_is : latest_at l v.at.0 ≡ newest (of_address v.at.0 (remappings (applied t)))
  latest_is = ap newest (known.own.lists.slots_are v.at.0 home)

  -- What is known of its mapping is right.
  known_data : (o : Option Remapping) (leaf : Option Pbn) (m : Mapping) → latest_at l v.at.0 ≡ o → known_by o leaf ≡ Some m → IsToData s m
  known_data (Some e) leaf m is knows = subst (IsToData s) (same_Some _ _ knows) (newest_has (λ (f : Remapping). IsToData s f.new) (of_address v.at.0 l.slots) e is (each_of_address (λ (f : Remapping). IsToData s f.new) v.at.0 l.slots known.own.sound.map))
  known_data None None m is knows = subst (IsToData s) (same_Some _ _ knows) tt
  known_data None (Some x) m is knows = absurd cc

  known_right : (o : Option Remapping) (leaf : Option Pbn) (m : Mapping) → HasPath l.tree v.at.0 → latest_at l v.at.0 ≡ o → leaf_at l.tree v.at.0 ≡ leaf → known_by o leaf ≡ Some m → IsFair s t → m ≡ mapping_by s (applied t) v.at.0
  known_right (Some e) leaf m path is there knows fair = sym (same_Some _ _ knows) ∙ sym (ap (λ o. mapped_or o (opened_at s v.at.0)) (sym latest_is ∙ is))
  known_right None None m path is there knows fair =
      sym (same_Some _ _ knows) ∙ sym (lacks_unmapped s fair.opened (applied t) v.at.0 (leaf_lacks s.sizes.geometry l.zone s.sizes.zones s.links (applied t) l.tree v.at.0 known.own.lists.tree_is path there))
      ∙ sym (ap (λ o. mapped_or o (opened_at s v.at.0)) (sym latest_is ∙ is))
  known_right None (Some x) m path is there knows fair = absurd cc

  -- It goes where the map says.
  pub looks_kept : v.phase ≡ phase.Look → (mapping : Mapping) (post : Post) → HasPath l.tree v.at.0 → passes_by l v ≡ false → lacks l v ≡ None → known_at l v.at.0 ≡ Some mapping → goes_on s.sizes (looked l mapping v) ≡ Some post → After l [] (post ∷ [])
  looks_kept is mapping post path stays leaf knows goes =
      let carries = in_bare known phase.Look is (λ page no. no) in
      let held : Holds s t (looked l mapping v) = record {
        turn = carries.1.0;
        old_data = known_data (latest_at l v.at.0) (leaf_at l.tree v.at.0) mapping refl knows;
        old_is = known_right (latest_at l v.at.0) (leaf_at l.tree v.at.0) mapping path refl refl knows;
      } in
      act_none known known.own (goes_ok s t known.session known.right (looked l mapping v) (vio_ok known) carries.0 carries.1.1.none_taken held latest_is (λ change. known_leafy v.asks refl change path stays leaf) within (claim_in known phase.Look is) post goes, tt)

  -- Or its leaf is read first.
  unknown_unset : (o : Option Remapping) (leaf : Option Pbn) → known_by o leaf ≡ None → o ≡ None
  unknown_unset (Some e) leaf none = absurd cc
  unknown_unset None leaf none = refl

  pub needs_kept : v.phase ≡ phase.Look → (x : Pbn) → HasPath l.tree v.at.0 → known_at l v.at.0 ≡ None → leaf_at l.tree v.at.0 ≡ Some x → After l [] ((id.Device, item.Request (reads_leaf x v)) ∷ [])
  needs_kept is x path unknown there =
      let carries = in_bare known phase.Look is (λ page no. no) in
      let linked = leaf_linked s.sizes.geometry l.zone s.sizes.zones s.links (applied t) l.tree v.at.0 known.own.lists.tree_is path x there in
      let stands = linked_stands s.links (applied t) (leaf_of v.at.0) x linked in
      let needs : NeedsLeaf s t v.at.0 (Some x) None = record {
        at = x;
        block_is = refl;
        stands = stands;
        leaf = inr (rw linked refl);
        inside = data_block_inside s.sizes.geometry x.0 (stands_at_data s t (leaf_of v.at.0) x known.session known.right stands);
        unset = newest_none _ (sym latest_is ∙ unknown_unset (latest_at l v.at.0) (leaf_at l.tree v.at.0) unknown);
        latest = refl;
      } in
      act_none known known.own ((omega arith, (vio_ok known, carries_own s t (reads_leaf x v) phase.LoadLeaf carries.0 (carries.1.0, carries.1.1.none_taken, needs), refl, claim_in known phase.Look is)), tt)

  -- Its leaf said it.
  pub leafed_kept : v.phase ≡ phase.LoadedLeaf → (post : Post) → goes_on s.sizes v ≡ Some post → After l [] (post ∷ [])
  leafed_kept is post goes =
      let carries = in_bare known phase.LoadedLeaf is (λ page no. no) in
      let has = carries.1.0 in
      act_none known known.own (goes_ok s t known.session known.right v (vio_ok known) carries.0 carries.1.1 has.held (has.latest ∙ sym (ap newest has.unset)) (λ change. has.leaf) within (claim_in known phase.LoadedLeaf is) post goes, tt)

  -- Or it passes, a discard of an address of which no slot was set.
  module _ (is : v.phase ≡ phase.Look) (path : HasPath l.tree v.at.0) (passes_it : passes_by l v ≡ true) where
    abbrev gap : Remapping
    gap = pass_of v

    abbrev past_t : Trace
    past_t = Passes gap ∷ t

    looking : (v.page ≡ None) × (IsInTurn s t v × HasSpent s t v.request None)
    looking = in_bare known phase.Look is (λ page no. no)

    turn : IsInTurn s t v × HasSpent s t v.request None
    turn = looking.1

    parts : (is_discard v.asks ≡ true) × (not (is_some (latest_at l v.at.0)) ≡ true) × (is_some (missing_at l.tree v.at.0) ≡ true)
    parts = let first = and_parts (is_discard v.asks) _ passes_it in let rest = and_parts (not (is_some (latest_at l v.at.0))) _ first.1 in (first.0, rest.0, rest.1)

    unknown : latest_at l v.at.0 ≡ None
    unknown = none_known (latest_at l v.at.0) parts.1

    -- no entry of its address was handed in
    none_set : of_address v.at.0 (remappings (applied t)) ≡ []
    none_set = newest_none _ (ap newest (sym (known.own.lists.slots_are v.at.0 home)) ∙ unknown)

    first_there : of_address v.at.0 (remappings (journaled t)) ≡ []
    first_there = nothing_before _ (of_address v.at.0 (passed t)) (
        sym (of_address_append v.at.0 (remappings (journaled t)) (passed t)) ∙ turn.0.quiet.all_committed ∙ turn.0.quiet.all_done
        ∙ of_address_append v.at.0 (remappings (applied t)) (passed t) ∙ ap (λ (es : List Remapping). es ++ of_address v.at.0 (passed t)) none_set)

    clears_pass : Clears s n (Mine s t (at.Logical l) (item.Request v ∷ [])) (Passes gap) t
    clears_pass = own_clears (Passes gap) tt refl (own_request known) (own_address known phase.Look is refl) tt

    right_pass : RightTrace s past_t
    right_pass = (
      record {
        is_open = (vio_ok known).is_open;
        asked = (vio_ok known).asked ∙ ap (λ (asks : Asks). Some (asked asks v.at v.bytes)) (discards_it v.asks parts.0);
        placed = turn.0.is_placed.placed;
        maps = (refl, refl);
        once = turn.0.is_placed.not_entered;
        below = turn.0.below;
        lacking = lacks_some s.sizes.geometry l.zone s.sizes.zones s.links (applied t) l.tree v.at.0 known.own.lists.tree_is path parts.2;
        first = first_there;
      },
      shown_plain s t (Passes gap) tt (shown_of s t known.right),
      known.right,
    )

    passed_of : (es : List Remapping) → of_address v.at.0 es ≡ [] → of_address v.at.0 (es ++ gap ∷ passed t) ≡ gap ∷ of_address v.at.0 (passed t)
    passed_of es none = of_address_append v.at.0 es (gap ∷ passed t) ∙ ap (λ (fs : List Remapping). fs ++ of_address v.at.0 (gap ∷ passed t)) none ∙ of_same gap (passed t)

    durable_none : of_address v.at.0 (remappings (durable t)) ≡ []
    durable_none = nothing_before _ (of_address v.at.0 (passed t)) (
        sym (of_address_append v.at.0 (remappings (durable t)) (passed t)) ∙ turn.0.quiet.all_done
        ∙ of_address_append v.at.0 (remappings (applied t)) (passed t) ∙ ap (λ (es : List Remapping). es ++ of_address v.at.0 (passed t)) none_set)

    quiet_pass : Quiet past_t v.at.0
    quiet_pass = record {
      all_committed = passed_of (remappings (journaled t)) first_there ∙ sym (passed_of (remappings (durable t)) durable_none);
      all_done = passed_of (remappings (durable t)) durable_none ∙ sym (passed_of (remappings (applied t)) none_set);
    }

    abbrev IsUnder : ℕ → ℕ → Remapping → Type 0
    IsUnder a place e = e.at.0 ≡ a → e.place < place

    under_pass : (a place : ℕ) → v.place < place → AllBelow t a place → AllBelow past_t a place
    under_pass a place less old = record { writes = every_between (IsUnder a place) (remappings (applied t)) (passed t) gap (λ same. less) old.writes; reads = old.reads }

    passed_ok : DataOk s past_t n (at.Logical l)
    passed_ok =
        let k = known.own in
        record {
          number_is = k.number_is;
          lists = record {
            places_is = k.lists.places_is;
            next_is = k.lists.next_is;
            slots_are = k.lists.slots_are;
            below = λ a zone. under_pass a l.next (drawn_here phase.Look is refl) (k.lists.below a zone);
            tree_is = k.lists.tree_is;
            reports_are = reports_on s (Passes gap) t l.zone l.reported k.lists.reports_are;
          };
          sound = k.sound;
          kept = line_kept known (Passes gap) t clears_pass k.kept;
          answers = (
            λ a zone free alive. elim (eqb_tells v.at.0 a) [
              | inl same ↦ subst (λ (b : ℕ). Quiet past_t b) same.1 quiet_pass
              | inr other ↦ quiet_kept (Passes gap) t a other.1 (k.answers.0 a zone free alive)
            ],
            k.answers.1,
          );
          told = k.told;
        }

    done_pass : IsSome (logged_of (done past_t) v.request)
    done_pass = there_between (remappings (applied t)) (passed t) gap

    pub passes_kept : After (released v.at.0 l) (Passes gap ∷ []) ((id.Desk, item.Request (ended phase.Reply reply.Ok v)) ∷ granted v.at.0 l)
    passes_kept =
        let bare = looking.0 in
        let let_go = release_ok s past_t n l known.session right_pass passed_ok v (leased phase.Look is refl) home quiet_pass
        (under_pass v.at.0 (v.place + 1) (omega arith) (below_more t v.at.0 v.place (v.place + 1) (omega arith) turn.0.below)) in
        act_one known (Passes gap) clears_pass (λ f fair. f (fair_before s (Passes gap) t fair)) right_pass let_go.0
        ((omega arith, (vio_over s (Passes gap) t v refl (vio_ok known), carries_own s past_t (ended phase.Reply reply.Ok v) phase.Reply bare (done_earned s past_t (mark_of_vio v) v.asks v.at v.bytes (changes_it v.asks parts.0) done_pass), refl, claim_in known phase.Look is)), let_go.1)

  -- Its slot is set.
  module _ (is : v.phase ≡ phase.Settle) (bare : v.page ≡ None) (none : awaits_report l v ≡ false) where
    abbrev between : LogicalZone
    between = record l { reported = reports_left v l.reported }

    abbrev e : Remapping
    e = remapping v

    abbrev set_t : Trace
    set_t = Sets (Remaps e) ∷ t

    facts : IsEntered s t v × IsCommitted t (remapping v) × AllBelow t v.at.0 v.place × OnBlock (λ x. IsDataBlock s.sizes.geometry x.0 × Contains (added t) (Remaps (remapping v))) v.new × IsLeafy s t v.at.0
    facts = in_own known phase.Settle is bare

    clears_set : Clears s n (Mine s t (at.Logical l) (item.Request v ∷ [])) (Sets (Remaps e)) t
    clears_set = own_clears (Sets (Remaps e)) tt refl (own_request known) (own_address known phase.Settle is refl) tt

    right_set : RightTrace s set_t
    right_set = (record { is_open = (vio_ok known).is_open; is_committed = facts.1; below = facts.2; unaborted = facts.0.unaborted; leaf = facts.4; counted = on_each v.new (λ x to both. both.1) facts.3; reported = came s t l.zone l.reported v known.right facts.0 known.own.lists.reports_are v.old none }, shown_plain s t (Sets (Remaps e)) tt (shown_of s t known.right), known.right)

    quiet_set : Quiet set_t v.at.0
    quiet_set = record { all_committed = facts.1.all_committed; all_done = facts.1.last ∙ sym (of_same e (done t)) }

    below_set : AllBelow set_t v.at.0 (v.place + 1)
    below_set =
        let more = below_more t v.at.0 v.place (v.place + 1) (omega arith) facts.2 in
        record { writes = ((λ same. omega arith), more.writes); reads = more.reads }

    data_set : IsToData s v.new
    data_set = on_each v.new (λ x to both. both.0) facts.3

    -- the zone with the slot set, and its lock still held
    slot_ok : DataOk s set_t n (at.Logical (with_slot between v))
    slot_ok =
        let k = known.own in
        record {
          number_is = k.number_is;
          lists = record {
            places_is = k.lists.places_is;
            next_is = k.lists.next_is;
            slots_are = λ a zone. rw (k.lists.slots_are a zone) refl;
            below = λ a zone. let old = k.lists.below a zone in record { writes = ((λ same. drawn_here phase.Settle is refl), old.writes); reads = old.reads };
            tree_is = same_tree s l.zone l.tree t set_t (λ page. refl) k.lists.tree_is;
            reports_are = reports_on s (Sets (Remaps e)) t l.zone (reports_left v l.reported) (left_ok s t l.zone l.reported v k.lists.reports_are);
          };
          sound = record { among = k.sound.among; map = (data_set, k.sound.map); locks = k.sound.locks; pages = k.sound.pages; reports = waits_still l.zone l.reported v l.settling k.sound.reports };
          kept = line_kept known (Sets (Remaps e)) t clears_set k.kept;
          answers = (
            λ a zone free alive. elim (eqb_tells v.at.0 a) [
              | inl same ↦ subst (λ (b : ℕ). Quiet set_t b) same.1 quiet_set
              | inr other ↦ quiet_kept (Sets (Remaps e)) t a other.1 (k.answers.0 a zone free alive)
            ],
            k.answers.1,
          );
          told = k.told;
        }

    pub settles_kept : After (settled between v) (Sets (Remaps e) ∷ []) (settled_posts l v)
    settles_kept =
        let both = release_ok s set_t n (with_slot between v) known.session right_set slot_ok v (leased phase.Settle is refl) home quiet_set below_set in
        act_one known (Sets (Remaps e)) clears_set (λ f fair. f (fair_before s (Sets (Remaps e)) t fair)) right_set both.0
        ((omega arith, (vio_over s (Sets (Remaps e)) t v refl (vio_ok known), carries_own s set_t (ended phase.Reply reply.Ok v) phase.Reply bare (done_earned s set_t (mark_of_vio v) v.asks v.at v.bytes facts.0.is_change (rw (same_self v.request) (some_is (Some e) e refl))), refl, claim_in known phase.Settle is)), both.1)

  -- Or it waits for the report of its decrement.
  pub awaits_kept : v.phase ≡ phase.Settle → v.page ≡ None → awaits_report l v ≡ true → After (record l { settling = l.settling ++ v ∷ [] }) [] []
  awaits_kept is bare waits =
      let k = known.own in
      let both = awaits_by v.old (is_reported v.request l.reported) waits in
      act_none known (record {
        number_is = k.number_is;
        lists = k.lists;
        sound = record {
          among = k.sound.among;
          map = k.sound.map;
          locks = k.sound.locks;
          pages = k.sound.pages;
          reports = every-append (AwaitsReport l.zone l.reported) l.settling (v ∷ []) k.sound.reports (record { at_home = home_is known; own = bare; replaces = both.0; none = both.1 }, tt);
        };
        kept = (k.kept.0, k.kept.1, every-append (KeptOk s t phase.Settle) l.settling (v ∷ []) k.kept.2 ((vio_ok known, known.front_ok.0.1, is, known.front_ok.0.3), tt));
        answers = k.answers;
        told = k.told;
      }) tt
    where
      awaits_by : (m : Mapping) (b : Bool) → (is_some (block_in m) && not b) ≡ true → IsToBlock m × (b ≡ false)
      awaits_by (At x) false waits = (tt, refl)
      awaits_by (At x) true waits = absurd cc
      awaits_by Unmapped b waits = absurd cc
      awaits_by Zero b waits = absurd cc

  -- It is given its bytes.
  module _ (is : v.phase ≡ phase.Loaded) where
    abbrev u : Trace
    u = Gives (gift v) ∷ t

    given_it : Looks s t v × (IsFair s t → v.bytes ≡ value_at s t v.at.0)
    given_it = (in_bare known phase.Loaded is (λ page no. no)).1

    clears_give : Clears s n (Mine s t (at.Logical l) (item.Request v ∷ [])) (Gives (gift v)) t
    clears_give = own_clears (Gives (gift v)) tt refl (own_request known) (own_address known phase.Loaded is refl) tt

    right_give : RightTrace s u
    right_give =
        let held = given_it.0.held.turn in (
          record { is_open = (vio_ok known).is_open; asked = (vio_ok known).asked ∙ ap (λ (asks : Asks). Some (asked asks v.at v.bytes)) given_it.0.is_read; placed = held.is_placed.placed; quiet = held.quiet; below = held.below },
          shown_plain s t (Gives (gift v)) tt (shown_of s t known.right),
          known.right,
        )

    quiet_same : (a : ℕ) → Quiet t a → Quiet u a
    quiet_same a q = record { all_committed = q.all_committed; all_done = q.all_done }

    below_give : AllBelow u v.at.0 (v.place + 1)
    below_give =
        let more = below_more t v.at.0 v.place (v.place + 1) (omega arith) given_it.0.held.turn.below in
        record { writes = more.writes; reads = ((λ same. omega arith), more.reads) }

    given_ok : DataOk s u n (at.Logical l)
    given_ok =
        let k = known.own in
        record {
          number_is = k.number_is;
          lists = record {
            places_is = k.lists.places_is;
            next_is = k.lists.next_is;
            slots_are = k.lists.slots_are;
            below = λ a zone. let old = k.lists.below a zone in record { writes = old.writes; reads = ((λ same. drawn_here phase.Loaded is refl), old.reads) };
            tree_is = k.lists.tree_is;
            reports_are = reports_on s (Gives (gift v)) t l.zone l.reported k.lists.reports_are;
          };
          sound = k.sound;
          kept = line_kept known (Gives (gift v)) t clears_give k.kept;
          answers = ((λ a zone free alive. quiet_same a (k.answers.0 a zone free alive)), k.answers.1);
          told = k.told;
        }

    pub gives_kept : After (released v.at.0 l) (Gives (gift v) ∷ []) ((id.Desk, item.Request (ended phase.Reply (reply.Bytes v.bytes) v)) ∷ granted v.at.0 l)
    gives_kept =
        let bare = (in_bare known phase.Loaded is (λ page no. no)).0 in
        let both = release_ok s u n l known.session right_give given_ok v (leased phase.Loaded is refl) home (quiet_same v.at.0 given_it.0.held.turn.quiet) below_give in
        act_one known (Gives (gift v)) clears_give (λ f fair. let before = fair_before s (Gives (gift v)) t fair in (given_it.1 before, f before)) right_give both.0
        ((omega arith, (vio_over s (Gives (gift v)) t v refl (vio_ok known), carries_own s u (ended phase.Reply (reply.Bytes v.bytes) v) phase.Reply bare (given_earned s u (mark_of_vio v) v.asks v.at v.bytes v.place given_it.0.is_read (rw (same_self v.request) refl)), refl, claim_in known phase.Loaded is)), both.1)

  -- It is aborted, before its entry was handed in ..
  pub aborts_kept : v.phase ≡ phase.Abort → v.page ≡ None → After (released v.at.0 l) [] ((id.Desk, item.Request (turned phase.Reply v)) ∷ granted v.at.0 l)
  aborts_kept is bare =
      let facts = in_own known phase.Abort is bare in
      let both = release_ok s t n l known.session known.right known.own v (leased phase.Abort is refl) home facts.0.quiet (below_more t v.at.0 v.place (v.place + 1) (omega arith) facts.0.below) in
      act_none known both.0 ((omega arith, ((vio_ok known), carries_own s t (turned phase.Reply v) phase.Reply bare facts.1, refl, claim_in known phase.Abort is)), both.1)

  -- .. or after.
  module _ (is : v.phase ≡ phase.AbortEntered) (bare : v.page ≡ None) where
    abbrev gone : Happening
    gone = Aborts (Remaps (remapping v))

    carries_it : IsEntered s t v × MayReply s t v v.answer × (has_stopped t ≡ true)
    carries_it = in_own known phase.AbortEntered is bare

    right_abort : RightTrace s (gone ∷ t)
    right_abort = (
      record { is_open = (vio_ok known).is_open; handed_in = carries_it.0.entry; unset = carries_it.0.unset; stopped = carries_it.2 },
      shown_plain s t gone tt (shown_of s t known.right),
      known.right,
    )

    clears_abort : Clears s n (Mine s t (at.Logical l) (item.Request v ∷ [])) gone t
    clears_abort = own_clears gone tt refl (own_request known) tt tt

    gone_ok : DataOk s (gone ∷ t) n (at.Logical l)
    gone_ok =
        let k = known.own in
        record {
          number_is = k.number_is;
          lists = record { places_is = k.lists.places_is; next_is = k.lists.next_is; slots_are = k.lists.slots_are; below = λ a zone. below_kept gone t a l.next tt (k.lists.below a zone); tree_is = k.lists.tree_is; reports_are = reports_on s gone t l.zone l.reported k.lists.reports_are };
          sound = k.sound;
          kept = line_kept known gone t clears_abort k.kept;
          answers = ((λ a zone free alive. quiet_kept gone t a tt (k.answers.0 a zone free alive)), k.answers.1);
          told = told_kept s gone t (at.Logical l) k.told;
        }

    pub aborts_entered_kept : After (retire v.at.0 l) (gone ∷ []) ((id.Desk, item.Request (turned phase.Reply v)) ∷ all_stopped (all_for v.at.0 l.waiting))
    aborts_entered_kept =
        let both = retire_ok s (gone ∷ t) n l known.session right_abort gone_ok v (leased phase.AbortEntered is refl) home carries_it.2 (λ place less. inl (refl, less)) in
        act_one known gone clears_abort (λ f fair. f (fair_before s gone t fair)) right_abort both.0
        ((omega arith, (vio_over s gone t v refl (vio_ok known), carries_own s (gone ∷ t) (turned phase.Reply v) phase.Reply bare (reply_said s gone t v v.answer (record { of_place = refl; of_entry = refl; of_slot = refl; of_gift = refl; of_take = refl; of_ask = refl }) carries_it.1), refl, claim_in known phase.AbortEntered is)), both.1)
