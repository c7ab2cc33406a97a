-- What requests and sealed blocks carry stays where the next happening is about something else.
use Rattle.std.proofs.Common.{◌≡◌, ℕ, ◌≤◌, Bool, true, false, Option, None, Some, List, [], ◌∷◌, ◌++◌, refl, ap, sym, ◌∙◌, subst, arith}
use Rattle.core_laws.proofs.Common.{AllByRecursion, Answer, BlockOk, Carries, Happening, HasCause, Holds, IsEarned, IsEntered, IsInTurn, IsFair, IsPlaced, IsSealed, IsUndrawn, Item, ItemOk, KeptOk, Looks, MayReply, Pbn, Phase, Remapping, Request, SealedBlock, Session, Stage, StandsAt, Trace, Vio, VioOk, Writer, all_logged, all_of, done, entered, fair_before, gift_of, gifts, has_taken, holds, logged_of, newest, place_of, places, request_of, sealed, total, applied, remapping, request_in, Mapping, OnBlock, logged}
use Rattle.blk_base.specs.declared.place.Mapping.TheVariants.{At}
use Rattle.blk_base.specs.declared.request.Answer.TheVariants as reply
use Rattle.blk_base.specs.declared.request.Request.TheVariants as request
use Rattle.data_vio.specs.declared.items.Item.TheVariants as item
use Rattle.data_vio.specs.declared.items.Phase.TheVariants as phase
use Rattle.data_vio.specs.declared.items.Stage.TheVariants as stage
use Rattle.blk_base.specs.Pages.{above, leaf_of}
use Rattle.blk_base.specs.declared.place.PageId.{PageId}
use Rattle.data_vio.specs.Vios.{logged_for}
use Rattle.core_model.specs.DeskRules.{is_marked, mark_of_vio}
use Rattle.core_model.specs.DeviceRules.{page_at}
use Rattle.core_model.specs.Trace.{last_asked}
use Rattle.blk_base.specs.Regions.{IsDataBlock}
use Rattle.data_vio.specs.Phases.{phase_rule}
use Rattle.data_vio.specs.declared.logged.Logged.TheVariants.{Remaps}
use Rattle.core_model.specs.DeviceFacts.{NeedsLeaf}
use Rattle.core_model.specs.Facts.{CarriesFor, CarriesOwn, CarriesPage}
use Rattle.core_model.specs.JournalFacts.{HasPageEntry}
use Rattle.core_model.specs.LogicalFacts.{ReportOk, HasLeaf, IsUnmade, MakesPage, turn_of}
use Rattle.core_model.specs.PhysicalFacts.{IsDecrement}
use Rattle.core_model.specs.RequestFacts.{ClaimOk, claim_of}
use Rattle.core_laws.proofs.kept.Keys.{Key, OfRequest, OfAddress, OfBlock, OfJournal, OfPage, token_of, Spares, own_name, holder_one, claim_one, maker_one}
use Rattle.core_laws.proofs.kept.Spared.{applied_at, SparesRequest, SparesAddress, SparesPage, open_kept, durable_has, leafy_kept, journaled_has, link_same, put_same, there_kept, undropped_kept, place_same, entry_same, slot_same, abort_same, gift_same, take_same, stop_kept, fault_kept, harm_kept, linked_at_kept, abort_kept, needs_kept, journal_full_kept, mapping_same, quiet_kept, committed_kept, below_kept, pending_kept, mark_kept, value_same, added_has, hearing_kept, no_free_kept, asking_kept, withdrawing_kept, reported_kept, spent_kept, ask_same, receipt_kept}
use Rattle.core_laws.proofs.kept.StandsOn.{SparesBlock, SparesJournal, SparesJournaled, SparesMap, SparesSealed, block_reads_kept, comes_stands, last_spared, new_kept, new_reads_kept, on_each, reads_kept, rest_spared, rests_kept, way_kept}

none_weigh : (vs : List Vio) → total (λ v. 0) vs ≡ 0
none_weigh [] = refl
none_weigh (v ∷ vs) = omega (arith, none_weigh vs)

-- the entry that a request hands in is its own
pub logged_request : (v : Vio) → request_in (logged v) ≡ v.request
logged_request v = by v.page v.new
  where
    by : (o : Option PageId) (new : Mapping) → request_in (logged_for v o new) ≡ v.request
    by None new = refl
    by (Some page) (At x) = refl
    by (Some page) other = refl

-- while a write makes a page it holds the lock of its address
pub page_locks : (s : Session) (t : Trace) (v : Vio) (page : PageId) (q : Phase) → CarriesPage s t v page q → holds q ≡ true
page_locks s t v page phase.Claim k = refl
page_locks s t v page phase.Withdraw k = refl
page_locks s t v page phase.Store k = refl
page_locks s t v page phase.Enter k = refl
page_locks s t v page phase.Pending k = refl
page_locks s t v page phase.Count k = refl
page_locks s t v page phase.Settle k = refl
page_locks s t v page phase.AbortClaim k = refl
page_locks s t v page phase.Abort k = refl
page_locks s t v page phase.AbortEnteredClaim k = refl
page_locks s t v page phase.AbortEntered k = refl
page_locks s t v page other k = absurd k

-- the parts of the trace say the same of a request
pub record SaysSame (h : Happening) (t : Trace) (w : Writer) : Type 0 where
  pub of_place : place_of (places (h ∷ t)) w ≡ place_of (places t) w
  pub of_entry : logged_of (entered (h ∷ t)) w ≡ logged_of (entered t) w
  pub of_slot : logged_of (done (h ∷ t)) w ≡ logged_of (done t) w
  pub of_gift : gift_of (gifts (h ∷ t)) w ≡ gift_of (gifts t) w
  pub of_take : has_taken (h ∷ t) w None ≡ has_taken t w None
  pub of_ask : last_asked (h ∷ t) w ≡ last_asked t w

says_same : (h : Happening) (t : Trace) (w : Writer) → SparesRequest h w → SaysSame h t w
says_same h t w apart = record {
  of_place = place_same h t w apart;
  of_entry = entry_same h t w apart;
  of_slot = slot_same h t w apart;
  of_gift = gift_same h t w apart;
  of_take = take_same h t w None apart;
  of_ask = ask_same h t w apart;
}

-- an answer that it may have is earned
pub earned_by : (s : Session) (t : Trace) (v : Vio) (a : Answer) → MayReply s t v (Some a) → IsEarned s t (mark_of_vio v) (request_of v) a (is_marked v.asks a)
earned_by s t v reply.NoSpace may = may.0
earned_by s t v other may = may

module _ (s : Session) (h : Happening) (t : Trace) where
  pub cause_kept : (w : Writer) (r : Request) (a : Answer) → SaysSame h t w → HasCause s t w r a → HasCause s (h ∷ t) w r a
  cause_kept w (request.Read at) (reply.Bytes bytes) same k = (k.0, same.of_gift ∙ k.1)
  cause_kept w (request.Read at) reply.Range same k = k
  cause_kept w (request.Read at) reply.Stopped same k =
      (stop_kept h t k.0, record { place = k.1.place; placed = same.of_place ∙ k.1.placed; behind = abort_kept h t at.0 k.1.place k.1.behind })
  cause_kept w (request.Read at) reply.ReadFault same k = (rw (same.of_place) k.0, fault_kept h t w k.1)
  cause_kept w (request.Read at) reply.Damaged same k = (rw (same.of_place) k.0, harm_kept h t w k.1)
  cause_kept w (request.Read at) other same k = absurd k
  cause_kept w (request.Write at bytes fua) reply.Ok same k = rw (same.of_slot) k
  cause_kept w (request.Write at bytes fua) reply.Range same k = k
  cause_kept w (request.Write at bytes fua) reply.Stopped same k = (stop_kept h t k.0, rw (same.of_place) k.1, rw (same.of_slot) k.2)
  cause_kept w (request.Write at bytes fua) reply.NoSpace same k = (rw (same.of_place) k.0, rw (same.of_entry) k.1, same.of_take ∙ k.2, no_free_kept s h t w k.3)
  cause_kept w (request.Write at bytes fua) reply.Full same k = (rw (same.of_place) k.0, rw (same.of_entry) k.1, journal_full_kept s h t k.2)
  cause_kept w (request.Write at bytes fua) reply.ReadFault same k = (rw (same.of_place) k.0, rw (same.of_entry) k.1, fault_kept h t w k.2)
  cause_kept w (request.Write at bytes fua) reply.Damaged same k = (rw (same.of_place) k.0, rw (same.of_entry) k.1, harm_kept h t w k.2)
  cause_kept w (request.Write at bytes fua) other same k = absurd k
  cause_kept w (request.Discard at) reply.Ok same k = rw (same.of_slot) k
  cause_kept w (request.Discard at) reply.Range same k = k
  cause_kept w (request.Discard at) reply.Stopped same k = (stop_kept h t k.0, rw (same.of_place) k.1, rw (same.of_slot) k.2)
  cause_kept w (request.Discard at) reply.Full same k = (rw (same.of_place) k.0, rw (same.of_entry) k.1, journal_full_kept s h t k.2)
  cause_kept w (request.Discard at) reply.ReadFault same k = (rw (same.of_place) k.0, rw (same.of_entry) k.1, fault_kept h t w k.2)
  cause_kept w (request.Discard at) reply.Damaged same k = (rw (same.of_place) k.0, rw (same.of_entry) k.1, harm_kept h t w k.2)
  cause_kept w (request.Discard at) other same k = absurd k
  cause_kept w request.Flush reply.Stopped same k = stop_kept h t k
  cause_kept w request.Flush other same k = absurd k

  earned_said : (v : Vio) (a : Answer) (marked : Bool) → SaysSame h t v.request → IsEarned s t (mark_of_vio v) (request_of v) a marked → IsEarned s (h ∷ t) (mark_of_vio v) (request_of v) a marked
  earned_said v a true same k = mark_kept h t (mark_of_vio v) k
  earned_said v a false same k = cause_kept v.request (request_of v) a same k

  pub reply_said : (v : Vio) (answer : Option Answer) → SaysSame h t v.request → MayReply s t v answer → MayReply s (h ∷ t) v answer
  reply_said v None same k = k
  reply_said v (Some reply.NoSpace) same k = (earned_said v reply.NoSpace false same k.0, receipt_kept h t v.request v.receipt same.of_ask k.1)
  reply_said v (Some a) same k = earned_said v a (is_marked v.asks a) same k

  pub reply_kept : (v : Vio) (answer : Option Answer) → SparesRequest h v.request → MayReply s t v answer → MayReply s (h ∷ t) v answer
  reply_kept v answer apart k = reply_said v answer (says_same h t v.request apart) k

  pub vio_kept : (v : Vio) → SparesRequest h v.request → VioOk s t v → VioOk s (h ∷ t) v
  vio_kept v apart ok = record { asked = ok.asked; is_open = open_kept h t v.request apart ok.is_open; address = ok.address; home = ok.home }

  unplaced_kept : (v : Vio) → SparesRequest h v.request → IsUndrawn t v.request v.asks → IsUndrawn (h ∷ t) v.request v.asks
  unplaced_kept v apart k = record {
    for_block = k.for_block;
    unplaced = rw (place_same h t v.request apart) k.unplaced;
    not_entered = rw (entry_same h t v.request apart) k.not_entered;
    took_none = λ page. take_same h t v.request page apart ∙ k.took_none page;
  }

  placed_kept : (v : Vio) → SparesRequest h v.request → IsPlaced s t v → IsPlaced s (h ∷ t) v
  placed_kept v apart k = record {
    for_block = k.for_block;
    placed = place_same h t v.request apart ∙ k.placed;
    not_entered = rw (entry_same h t v.request apart) k.not_entered;
  }

  pub turn_kept : (v : Vio) → SparesRequest h v.request → SparesAddress h v.at.0 → IsInTurn s t v → IsInTurn s (h ∷ t) v
  turn_kept v apart off k = record {
    is_placed = placed_kept v apart k.is_placed;
    quiet = quiet_kept h t v.at.0 off k.quiet;
    below = below_kept h t v.at.0 v.place off k.below;
  }

  pub holds_kept : (v : Vio) → SparesRequest h v.request → SparesAddress h v.at.0 → Holds s t v → Holds s (h ∷ t) v
  holds_kept v apart off k = record {
    turn = turn_kept v apart off k.turn;
    old_data = k.old_data;
    old_is = λ fair. k.old_is (fair_before s h t fair) ∙ sym (mapping_same s (applied (h ∷ t)) (applied t) v.at.0 (applied_at h t v.at.0 off));
  }

  pub looks_kept : (v : Vio) → SparesRequest h v.request → SparesAddress h v.at.0 → Looks s t v → Looks s (h ∷ t) v
  looks_kept v apart off k = record {
    held = holds_kept v apart off k.held;
    is_read = k.is_read;
    latest = k.latest ∙ ap newest (sym (applied_at h t v.at.0 off));
  }

  needs_leaf_kept : (v : Vio) → SparesAddress h v.at.0 → NeedsLeaf s t v.at.0 v.leaf v.latest → NeedsLeaf s (h ∷ t) v.at.0 v.leaf v.latest
  needs_leaf_kept v off k = record {
    at = k.at;
    block_is = k.block_is;
    stands = linked_at_kept s h t (leaf_of v.at.0) k.at k.stands;
    leaf = leafy_kept s h t v.at.0 k.leaf;
    inside = k.inside;
    unset = applied_at h t v.at.0 off ∙ k.unset;
    latest = k.latest;
  }

  has_leaf_kept : (v : Vio) → SparesRequest h v.request → SparesAddress h v.at.0 → HasLeaf s t (turn_of v) v.old v.latest → HasLeaf s (h ∷ t) (turn_of v) v.old v.latest
  has_leaf_kept v apart off k = record { held = holds_kept v apart off k.held; leaf = leafy_kept s h t v.at.0 k.leaf; unset = applied_at h t v.at.0 off ∙ k.unset; latest = k.latest }

  pub entered_kept : (v : Vio) → SparesRequest h v.request → IsEntered s t v → IsEntered s (h ∷ t) v
  entered_kept v apart k = record {
    is_change = k.is_change;
    placed = place_same h t v.request apart ∙ k.placed;
    entry = entry_same h t v.request apart ∙ k.entry;
    unset = rw (slot_same h t v.request apart) k.unset;
    unaborted = rw (abort_same h t v.request apart) k.unaborted;
  }

  -- by the phase, while it is about its own address
  by_phase : (v : Vio) (q : Phase) → SparesRequest h v.request → (holds q ≡ true → SparesAddress h v.at.0) → (q ≡ phase.Enter → (x : Pbn) → v.new ≡ At x → SparesBlock h x.0)
      → CarriesOwn s t v q → CarriesOwn s (h ∷ t) v q
  by_phase v phase.Arrive r a b k = unplaced_kept v r k
  by_phase v phase.Wait r a b k = (placed_kept v r k.0, λ page. take_same h t v.request page r ∙ k.1 page)
  by_phase v phase.Look r a b k = (turn_kept v r (a refl) k.0, spent_kept s h t v.request None (λ page. take_same h t v.request page r) k.1)
  by_phase v phase.LoadLeaf r a b k = (turn_kept v r (a refl) k.0, take_same h t v.request None r ∙ k.1, needs_leaf_kept v (a refl) k.2)
  by_phase v phase.LoadedLeaf r a b k = (has_leaf_kept v r (a refl) k.0, take_same h t v.request None r ∙ k.1)
  by_phase v phase.Claim r a b k = (holds_kept v r (a refl) k.0, k.1, needs_kept h t v.request v.bytes (take_same h t v.request None r) k.2, leafy_kept s h t v.at.0 k.3, asking_kept s h t v.request v.place v.tickets k.4)
  by_phase v phase.Withdraw r a b k = (holds_kept v r (a refl) k.0, k.1, leafy_kept s h t v.at.0 k.2, withdrawing_kept s h t v.request v.claim v.tickets r k.3)
  by_phase v phase.Store r a b k = (holds_kept v r (a refl) k.0, k.1, k.2, leafy_kept s h t v.at.0 k.3)
  by_phase v phase.Enter r a b k = (
    holds_kept v r (a refl) k.0,
    k.1,
    (λ fair. on_each v.new (λ x to reads. reads_kept s h t x.0 v.bytes (b refl x to) reads) (k.2 (fair_before s h t fair))),
    leafy_kept s h t v.at.0 k.3,
  )
  by_phase v phase.Pending r a b k = record {
    is_entered = entered_kept v r k.is_entered;
    pending = pending_kept h t (remapping v) (a refl) k.pending;
    below = below_kept h t v.at.0 v.place (a refl) k.below;
    maps = k.maps;
    leaf = leafy_kept s h t v.at.0 k.leaf;
    old_data = k.old_data;
    old_is = λ fair. k.old_is (fair_before s h t fair) ∙ sym (mapping_same s (applied (h ∷ t)) (applied t) v.at.0 (applied_at h t v.at.0 (a refl)));
  }
  by_phase v phase.Count r a b k = (entered_kept v r k.0, committed_kept h t (remapping v) (a refl) k.1, below_kept h t v.at.0 v.place (a refl) k.2, k.3, leafy_kept s h t v.at.0 k.4)
  by_phase v phase.Settle r a b k = (
    entered_kept v r k.0,
    committed_kept h t (remapping v) (a refl) k.1,
    below_kept h t v.at.0 v.place (a refl) k.2,
    on_each v.new (λ x to both. (both.0, added_has h t (Remaps (remapping v)) both.1)) k.3,
    leafy_kept s h t v.at.0 k.4,
  )
  by_phase v phase.Load r a b k = (looks_kept v r (a refl) k.0, k.1)
  by_phase v phase.Loaded r a b k = (looks_kept v r (a refl) k.0, λ fair. k.1 (fair_before s h t fair) ∙ sym (value_same s h t v.at.0 (a refl)))
  by_phase v phase.AbortClaim r a b k = (turn_kept v r (a refl) k.0, reply_kept v v.answer r k.1)
  by_phase v phase.Abort r a b k = (turn_kept v r (a refl) k.0, reply_kept v v.answer r k.1)
  by_phase v phase.AbortEnteredClaim r a b k = (entered_kept v r k.0, reply_kept v v.answer r k.1, stop_kept h t k.2)
  by_phase v phase.AbortEntered r a b k = (entered_kept v r k.0, reply_kept v v.answer r k.1, stop_kept h t k.2)
  by_phase v phase.Flush r a b k = k
  by_phase v phase.Reply r a b k = reply_kept v v.answer r k

  -- and while it makes a page
  module _ (v : Vio) (page : PageId) (r : SparesRequest h v.request) (a : SparesAddress h v.at.0) (p : SparesPage h page) where
    making_kept : MakesPage s t v page → MakesPage s (h ∷ t) v page
    making_kept k = record {
      turn = turn_kept v r a k.turn;
      is_write = k.is_write;
      spent = spent_kept s h t v.request (Some page) (λ p. take_same h t v.request p r) k.spent;
      lacked = k.lacked;
      up = there_kept s.sizes.geometry.height s.links h t (above page) k.up;
    }

    unmade_kept : IsUnmade s t page → IsUnmade s (h ∷ t) page
    unmade_kept k = put_same s.sizes.geometry.height s.links h t page p ∙ k

    page_entry_kept : HasPageEntry s t (logged v) page → HasPageEntry s (h ∷ t) (logged v) page
    page_entry_kept k = record {
      handed_in = journaled_has h t (logged v) k.handed_in;
      unlinked = link_same s.sizes.geometry.height s.links h t page p ∙ k.unlinked;
      undropped = undropped_kept h t (logged v) (subst (SparesRequest h) (sym (logged_request v)) r) k.undropped;
    }

    by_page : (q : Phase) → (q ≡ phase.Enter → (x : Pbn) → v.new ≡ At x → SparesBlock h x.0) → CarriesPage s t v page q → CarriesPage s (h ∷ t) v page q
    by_page phase.Claim b k = (making_kept k.0, unmade_kept k.1, asking_kept s h t v.request v.place v.tickets k.2, take_same h t v.request (Some page) r ∙ k.3)
    by_page phase.Withdraw b k = (making_kept k.0, unmade_kept k.1, withdrawing_kept s h t v.request v.claim v.tickets r k.2)
    by_page phase.Store b k = (making_kept k.0, unmade_kept k.1, k.2)
    by_page phase.Enter b k = (
      making_kept k.0,
      unmade_kept k.1,
      k.2,
      λ fair. on_each v.new (λ x to reads. reads_kept s h t x.0 (page_at s.sizes page x) (b refl x to) reads) (k.3 (fair_before s h t fair)),
    )
    by_page phase.Pending b k = (making_kept k.0, k.1, page_entry_kept k.2)
    by_page phase.Count b k = (making_kept k.0, k.1, page_entry_kept k.2, durable_has h t (logged v) k.3)
    by_page phase.Settle b k = (making_kept k.0, k.1, page_entry_kept k.2, durable_has h t (logged v) k.3, added_has h t (logged v) k.4)
    by_page phase.AbortClaim b k = (making_kept k.0, unmade_kept k.1, reply_kept v v.answer r k.2)
    by_page phase.Abort b k = (making_kept k.0, unmade_kept k.1, reply_kept v v.answer r k.2)
    by_page phase.AbortEnteredClaim b k = (making_kept k.0, k.1, page_entry_kept k.2, reply_kept v v.answer r k.3, stop_kept h t k.4)
    by_page phase.AbortEntered b k = (making_kept k.0, k.1, page_entry_kept k.2, reply_kept v v.answer r k.3, stop_kept h t k.4)
    by_page other b k = absurd k

  pub by_all : (v : Vio) (q : Phase) (o : Option PageId) → SparesRequest h v.request → (holds q ≡ true → SparesAddress h v.at.0) → ((page : PageId) → o ≡ Some page → SparesPage h page)
      → (q ≡ phase.Enter → (x : Pbn) → v.new ≡ At x → SparesBlock h x.0) → CarriesFor s t v q o → CarriesFor s (h ∷ t) v q o
  by_all v q None r a p b k = by_phase v q r a b k
  by_all v q (Some page) r a p b k = by_page v page r (a (page_locks s t v page q k)) (p page refl) q b k

  -- A happening that spares what a request, a block, an item weighs for.
  abbrev pub SparesItem : Item → Type 0
  SparesItem it = (k : Key) → 1 ≤ (token_of s.sizes k).item it → Spares s t h k

  own_spared : (v : Vio) → SparesItem (item.Request v) → SparesRequest h v.request
  own_spared v spares = spares (OfRequest v.request) (omega (arith, own_name v))

  -- who has yet to hand in its entry has the claim on the block that this names
  claim_spared : (v : Vio) → SparesItem (item.Request v) → ClaimOk s v → v.phase ≡ phase.Enter → (x : Pbn) → v.new ≡ At x → SparesBlock h x.0
  claim_spared v spares claim is x to =
      let claims : (phase_rule v.phase).claims ≡ true = ap (λ (q : Phase). (phase_rule q).claims) is in
      let has : v.claim ≡ Some x = claim.claim_is ∙ ap (λ (b : Bool). claim_of b v.new) claims ∙ ap (claim_of true) to in
      let at_data : OnBlock (λ y. IsDataBlock s.sizes.geometry y.0) v.new = claim.on_data claims in
      spares (OfBlock x) (omega (arith, claim_one v x has)) (subst (OnBlock (λ y. IsDataBlock s.sizes.geometry y.0)) to at_data)

  carries_kept : (v : Vio) → SparesItem (item.Request v) → ClaimOk s v → Carries s t v v.phase → Carries s (h ∷ t) v v.phase
  carries_kept v spares claim k =
      by_all v v.phase v.page (own_spared v spares) (λ held. spares (OfAddress v.at.0) (omega (arith, holder_one v held)))
      (λ page is. spares (OfPage page) (omega (arith, maker_one s.sizes v page is)))
      (claim_spared v spares claim) k

  pub kept_kept : (q : Phase) (v : Vio) → SparesItem (item.Request v) → KeptOk s t q v → KeptOk s (h ∷ t) q v
  kept_kept q v spares k = (vio_kept v (own_spared v spares) k.0, carries_kept v spares k.3 k.1, k.2, k.3)

  -- one whose entry is pending, where the happening is about another request, another address and another page
  pub pending_over : (v : Vio) → SparesRequest h v.request → SparesAddress h v.at.0 → ((page : PageId) → v.page ≡ Some page → SparesPage h page) → KeptOk s t phase.Pending v → KeptOk s (h ∷ t) phase.Pending v
  pending_over v own address pages k = (
    vio_kept v own k.0,
    subst (λ (q : Phase). Carries s (h ∷ t) v q) (sym k.2) (by_all v phase.Pending v.page own (λ held. address) pages (λ is. absurd cc) (subst (λ (q : Phase). Carries s t v q) k.2 k.1)),
    k.2,
    k.3,
  )

  -- the requests of a block, and the block
  vios_kept : (vs : List Vio) → ((k : Key) → 1 ≤ total (λ v. (token_of s.sizes k).item (item.Request v)) vs → Spares s t h k) → AllByRecursion (KeptOk s t phase.Pending) vs
      → AllByRecursion (KeptOk s (h ∷ t) phase.Pending) vs
  vios_kept [] spares all = tt
  vios_kept (v ∷ vs) spares all = (kept_kept phase.Pending v (λ k some. spares k (omega (arith, some))) all.0, vios_kept vs (λ k some. spares k (omega (arith, some))) all.1)

  abbrev pub sealed_kept : (vs : List Vio) (n : ℕ) → SparesSealed s h t → IsSealed s t vs n → IsSealed s (h ∷ t) vs n
  sealed_kept vs n same k = record {
    older = k.older;
    sealed_is = same.sealed_same ∙ k.sealed_is;
    committed_is = same.committed_same ∙ k.committed_is;
    some = k.some;
    few = k.few;
    sequence = k.sequence;
    left = k.left;
  }

  -- the entries of the block, and the map of the older ones
  last_of : (vs : List Vio) (n : ℕ) (k : IsSealed s t vs n) → SparesJournaled s h t → SparesMap s h (all_logged vs) (all_of k.older)
  last_of vs n k apart = last_spared s h t (all_logged vs) k.older k.sealed_is k.committed_is apart

  by_stage : (vs : List Vio) (n : ℕ) (q : Stage) → SparesSealed s h t → SparesJournal s h → (IsFair s t → SparesJournaled s h t) → StandsAt s t vs n q → StandsAt s (h ∷ t) vs n q
  by_stage vs n stage.Cover same journal map (k, stands) = (
    sealed_kept vs n same k,
    λ fair.
        let before = fair_before s h t fair in
        let stood = stands before in
        let apart = last_of vs n k (map before) in
        (rests_kept s h t k.older journal (apart.0, tt, apart.2, apart.3) stood.0, new_reads_kept s h t (all_logged vs) apart.1 stood.1),
  )
  by_stage vs n stage.Write same journal map (k, stands) = (
    sealed_kept vs n same k,
    λ fair.
        let before = fair_before s h t fair in
        let stood = stands before in
        let apart = last_of vs n k (map before) in
        (rests_kept s h t k.older journal (apart.0, tt, apart.2, apart.3) stood.0, new_kept s h t (all_logged vs) apart.1 stood.1),
  )
  by_stage vs n stage.Harden same journal map (k, stands) = (
    sealed_kept vs n same k,
    λ fair.
        let before = fair_before s h t fair in
        let stood = stands before in
        (way_kept s h t k.older (all_logged vs) journal (last_of vs n k (map before)) stood.0, block_reads_kept s h t k.older (all_logged vs) journal stood.0 stood.1),
  )
  by_stage vs n stage.Commit same journal map (all, stands) = (
    ap all_of same.sealed_same ∙ all ∙ ap (λ es. all_logged vs ++ es) (sym same.committed_same),
    λ fair. let before = fair_before s h t fair in rw same.sealed_same (rests_kept s h t (sealed t) journal (rest_spared s h t (all_logged vs) all (map before)) (stands before)),
  )
  by_stage vs n stage.Fail same journal map (k, stands, stopped) = (
    sealed_kept vs n same k,
    λ fair. let before = fair_before s h t fair in comes_stands s h t k.older (all_logged vs) journal (last_of vs n k (map before)) (stands before),
    stop_kept h t stopped,
  )

  block_weighs : (b : SealedBlock) (k : Key) → total (λ v. (token_of s.sizes k).item (item.Request v)) b.vios ≤ (token_of s.sizes k).item (item.Block b)
  block_weighs b (OfRequest w) = omega arith
  block_weighs b (OfAddress a) = omega arith
  block_weighs b (OfBlock x) = omega arith
  block_weighs b (OfPage page) = omega arith
  block_weighs b OfJournal = omega (arith, none_weigh b.vios)

  block_kept : (b : SealedBlock) → SparesItem (item.Block b) → BlockOk s t b → BlockOk s (h ∷ t) b
  block_kept b spares k =
      let journal = spares OfJournal (omega arith) in
      (vios_kept b.vios (λ key some. spares key (omega (arith, some, block_weighs b key))) k.0, by_stage b.vios b.sequence b.stage journal.0 journal.1 journal.2 k.1, k.2)

  -- a decrement, and the report of one
  abbrev decrement_kept : (e : Remapping) → IsDecrement s t e → IsDecrement s (h ∷ t) e
  decrement_kept e k = record { committed = durable_has h t (Remaps e) k.committed; block = k.block; old_is = k.old_is; is_data = k.is_data }

  pub report_kept : (e : Remapping) (zone : ℕ) → ReportOk s t zone e → ReportOk s (h ∷ t) zone e
  report_kept e zone k = (record { decrement = decrement_kept e k.0.decrement; reported = reported_kept h t e k.0.reported }, k.1)

  pub item_kept : (to : ℕ) (it : Item) → SparesItem it → ItemOk s t to it → ItemOk s (h ∷ t) to it
  item_kept to (item.Request v) spares k = (vio_kept v (own_spared v spares) k.0, carries_kept v spares k.3 k.1, k.2, k.3)
  item_kept to (item.Decrement e) spares k = (decrement_kept e k.0, k.1)
  item_kept to (item.Report e) spares k = (record { decrement = decrement_kept e k.0.decrement; reported = reported_kept h t e k.0.reported }, k.1)
  item_kept to (item.Damage damage) spares k = (hearing_kept h t damage k.0, k.1)
  item_kept to (item.Block b) spares k = (block_kept b spares k.0, k.1)
  item_kept to item.StopNotice spares k = (stop_kept h t k.0, k.1)
