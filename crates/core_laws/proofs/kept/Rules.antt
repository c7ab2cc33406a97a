-- In a legal core a rule applies to the item in front of each inbox, and each post of a rule has a lane.
use Rattle.std.proofs.Common.{◌⊎◌, ◌+◌, ◌==◌, ◌≡◌, ℕ, ◌<◌, ◌≤◌, true, false, None, Some, Option, List, [], ◌∷◌, ◌++◌, length, slice_get, refl, ap, sym, ◌∙◌, subst, inl, inr, arith}
use Rattle.std.proofs.lemmas.Option.{slice_get_within}
use Rattle.core_laws.proofs.journal.LogLaws.{has_next, is_sealable}
use Rattle.core_laws.proofs.Common.{HasAddress, all_logged, all_of, AllByRecursion, Answer, Asks, Call, cases_Bool, cases_lt, DataOk, Desk, desk_number, device_number, DeviceZone, IsForBlock, IsServed, IsSession, IsToBlock, IsToInside, OnBlock, RightTrace, claim_token, journaled, logged, total, total-get, weight, Item, ItemOk, journal_number, JournalLists, JournalZone, logical_number, LogicalZone, Mapping, MayReply, notified_zones, option_cases, Pbn, Phase, physical_number, PhysicalZone, Post, Request, request_at, Script, sealed, SealedBlock, Session, some_of, Stage, StandsAt, Trace, Vio, VioOk, Writer, Zone, zone_at, zone_count, zone_number, zone_of, zone_of_stage, ZoneData, applied, durable, SuperblockStage, Remapping, eq-eqb}
use Rattle.blk_base.specs.Regions.{journal_slot_of}
use Rattle.blk_base.specs.declared.request.Answer.TheVariants as reply
use Rattle.blk_base.specs.declared.request.Request.TheVariants as request
use Rattle.disk_model.specs.declared.call.Call.TheVariants as call
use Rattle.vdo_model.specs.Journals.{block_of_slot}
use Rattle.data_vio.specs.declared.items.Asks.TheVariants.{Read, Write, Discard, Flush}
use Rattle.data_vio.specs.declared.items.Item.TheVariants as item
use Rattle.data_vio.specs.declared.items.Phase.TheVariants as phase
use Rattle.data_vio.specs.declared.items.Stage.TheVariants as stage
use Rattle.core_model.specs.Facts.{CarriesFor, CarriesOwn, CarriesPage}
use Rattle.core_model.specs.PhysicalFacts.{AreInTurn, IsWithdrawing}
use Rattle.core_model.specs.RequestFacts.{ClaimFor, ClaimOk, HasClaim, claim_of}
use Rattle.core_model.specs.PhysicalRules.{BeginsNext, next_step}
use Rattle.core_model.specs.Tokens.{out_in, ticket_token, ticket_weight}
use Rattle.data_vio.specs.Vios.{ticket_zone}
use Rattle.slab_counts.specs.Operations.{one_of}
use Rattle.slab_counts.specs.declared.tickets.Ticket.{Ticket}
use Rattle.slab_tickets.specs.declared.forms.Waiting.{Waiting}
use Rattle.slab_tickets.specs.declared.forms.Withdrawn.TheVariants.{Block, Nothing}
use Rattle.slab_tickets.specs.declared.forms.Withdrawn.{Withdrawn}
use Rattle.zone_counts.specs.ZoneAnswers.{GivesTicket, WithdrawsFrom}
use Rattle.zone_counts.specs.Zone.{NoneFree, Zone as Counting}
use Rattle.zone_counts.proofs.TicketLaws.{begun_counted, begun_is_zone, begun_out, begun_slabs, counted_is_out, withdrawn_is_zone, withdrawn_slabs}
use Rattle.core_laws.proofs.physical.AskTurns.{first_inside}
use Rattle.core_laws.proofs.physical.TicketDesks.{back_keeps, now}
use Rattle.core_laws.proofs.physical.ZoneFacts.{of_zone_kept, one_same}
use Rattle.core_laws.proofs.tokens.Owners.{held_is_out}
use Rattle.core_model.specs.declared.zones.ZoneData.TheVariants as at
use Rattle.core_model.specs.DeskRules.{DeskBegins, DeskServes, at_once, vio_of, is_marked, is_no_space, is_stopped, is_notified}
use Rattle.blk_base.specs.declared.place.ZoneId.TheVariants as id
use Rattle.data_vio.specs.Phases.{AtDevice, phase_rule, stage_rule}
use Rattle.core_model.specs.DeviceRules.{Announces, DeviceServes, DeviceWorks, IsInside, call_of, journal_bytes, superblock_call}
use Rattle.core_model.specs.declared.zones.SuperblockStage.TheVariants.{AsOpened, Written, Durable}
use Rattle.core_model.specs.PhysicalRules.{PhysicalServes, PhysicalTakes, spent_for}
use Rattle.blk_base.proofs.RegionLaws.{data_block_inside}
use Rattle.blk_base.specs.Regions.{IsDataBlock}
use Rattle.blk_base.specs.declared.point.Half.TheVariants as half
use Rattle.core_laws.proofs.device.LeafReads.{each_of}
use Rattle.core_laws.proofs.kept.Keys.{claim_one}
use Rattle.core_laws.proofs.kept.SoleWriter.{held_counted_there}
use Rattle.core_laws.proofs.trace.DeskOfTrace.{HasBlock, journaled_data}
use Rattle.slab_counts.specs.Counts.{Counts, Takes, unclaimed}
use Rattle.zone_counts.proofs.BlockLaws.{moved, withdraws_out, worth_block}
use Rattle.zone_counts.proofs.OperationLaws.{calls_keep}
use Rattle.zone_counts.proofs.FitLaws.{add_fits, claimed_is, gives_or_none, none_is_stray, remove_fits}
use Rattle.zone_counts.proofs.FreeBlocks.{can_begin, can_change, can_withdraw}
use Rattle.zone_counts.specs.ByBlock.{claims_in, counter_in, is_at, out_with, waits_with}
use Rattle.zone_counts.specs.Operations.{SpendsPage}
use Rattle.zone_counts.specs.Zone.{IsClaimedIn, IsOfZone, IsZone, slab_of}
use Rattle.core_model.specs.JournalFacts.{IsSoundJournal}
use Rattle.core_model.specs.JournalRules.{IsDue, IsSealable, JournalServes, JournalEnds, is_closed, has_block, has_room}
use Rattle.core_model.specs.Legal.{Legal}
use Rattle.core_model.specs.LogicalRules.{LogicalHears, LogicalServes, awaits_report, settling_of, is_among, is_held, known_at, known_by, lacks, latest_at, looked, next_for, goes_on, passes_by}
use Rattle.core_model.specs.PageTrees.{leaf_at}
use Rattle.blk_base.specs.declared.place.PageId.{PageId}
use Rattle.core_model.specs.PageTrees.{HasPath, but_page, is_listed}
use Rattle.core_laws.proofs.journal.LoggedEntries.{block_at, logged_new}
use Rattle.core_laws.proofs.logical.PageFacts.{has_path, lacked_path, link_made, linked_tree, may_link}
use Rattle.core_model.specs.Steps as steps
use Rattle.core_model.specs.Steps.{Act, HasAct, MayBegin, Core}
use Rattle.core_laws.proofs.desk.BeginLaws.{begins_some}
use Rattle.core_laws.proofs.device.DeviceCalls.{request_served}
use Rattle.core_laws.proofs.kept.LegalKept.{goes}
use Rattle.core_laws.proofs.kept.ZoneKinds.{Keeps, desk_keeps, logical_keeps, physical_keeps, journal_keeps, device_keeps}
use Rattle.core_laws.proofs.lists.CountedIn.{of_zone, zone_inside, zone_is, zone_of_vio}
use Rattle.core_laws.proofs.physical.PhysicalFacts.{zone_below}
use Rattle.data_vio.specs.Vios.{counts_for, counts_of}
use Rattle.data_vio.specs.Zones.{physical_zone_of}
use Rattle.blk_base.specs.declared.place.Mapping.TheVariants.{Unmapped, Zero, At}

-- a marked answer is that of a flush that returned
pub marked_is : (asks : Asks) (a : Answer) → is_marked asks a ≡ true → (asks ≡ Flush) × (a ≡ reply.Ok)
marked_is Flush reply.Ok marked = (refl, refl)
marked_is Read reply.Ok marked = absurd cc
marked_is Write reply.Ok marked = absurd cc
marked_is Discard reply.Ok marked = absurd cc
marked_is asks other marked = absurd cc

-- one that no block is free
pub no_space_is : (a : Answer) → is_no_space a ≡ true → a ≡ reply.NoSpace
no_space_is reply.NoSpace lacking = refl
no_space_is other lacking = absurd cc

module _ (s : Session) (session : IsSession s) (t : Trace) (right : RightTrace s t) where
  -- the desk
  replies : (desk : Desk) (v : Vio) (o : Option Answer) → v.answer ≡ o → v.phase ≡ phase.Reply → MayReply s t v o → HasAct s.sizes (at.Desk desk) (item.Request v ∷ [])
  replies desk v None is reply may = absurd may
  replies desk v (Some a) is reply may = elim (cases_Bool (is_marked v.asks a)) [
    | inl marked ↦ let both = marked_is v.asks a marked in (_, _, _, steps.answers (DeskServes.marks reply both.0 (is ∙ ap Some both.1) refl refl refl))
    | inr unmarked ↦ elim (cases_Bool (is_no_space a)) [
      | inl lacking ↦ (_, _, _, steps.answers (DeskServes.lacks reply (is ∙ ap Some (no_space_is a lacking)) refl refl refl))
      | inr spaced ↦ elim (cases_Bool (is_notified s.sizes desk)) [
        | inl notified ↦ (_, _, _, steps.answers (DeskServes.answers a reply is (λ stopped. notified) unmarked spaced refl refl refl))
        | inr unnotified ↦ elim (cases_Bool (is_stopped a)) [
          | inl stopped ↦ (_, _, _, steps.answers (DeskServes.parks a reply is stopped unnotified refl refl refl))
          | inr served ↦ (_, _, _, steps.answers (DeskServes.answers a reply is (λ stopped. absurd cc) unmarked spaced refl refl refl))
        ]
      ]
    ]
  ]

  -- with none, it begins the next request of the lowest stream that may begin one
  pub served_some : (w : Writer) (r : Request) → IsServed r → (v : Vio) × (vio_of s.sizes w r ≡ Some v)
  served_some w (request.Read at) served = (_, refl)
  served_some w (request.Write at bytes true) served = absurd (let fua = served.1 in cc)
  served_some w (request.Write at bytes false) served = (_, refl)
  served_some w (request.Discard at) served = (_, refl)
  served_some w request.Flush served = (_, refl)

  desk_starts : (n : ℕ) (desk : Desk) → DataOk s t n (at.Desk desk) → MayBegin s.sizes (at.Desk desk) → HasAct s.sizes (at.Desk desk) []
  desk_starts n desk own (some, may) =
      let begun = begins_some s.sizes.depth desk some may in
      let w = begun.0 in
      let next = begun.1 in
      let asked = some_of (request_at desk.requests w) next.may.1 in
      let served = served_some w asked.0 (request_served s w asked.0 session (ap (λ (script : Script). request_at script w) (sym own.sound.requests) ∙ asked.1)) in
      elim (option_cases (at_once s.sizes (is_notified s.sizes desk) served.0.asks served.0.at.0)) [
        | inl none ↦ (_, _, _, steps.begins (DeskBegins.sends w asked.0 served.0 next asked.1 served.1 none refl refl refl))
        | inr once ↦ (_, _, _, steps.begins (DeskBegins.answers w asked.0 served.0 once.0 next asked.1 served.1 once.1 refl refl refl))
      ]

  -- a logical zone: whoever looks asks for a block
  goes_some : (v : Vio) → IsForBlock v.asks → (post : Post) × (goes_on s.sizes v ≡ Some post)
  goes_some v block = by v.asks block
    where
      by : (q : Asks) → IsForBlock q → (post : Post) × (next_for s.sizes v q ≡ Some post)
      by Read block = (_, refl)
      by Write block = (_, refl)
      by Discard block = (_, refl)
      by Flush block = absurd block

  arrives : (l : LogicalZone) (v : Vio) → v.phase ≡ phase.Arrive → HasAct s.sizes (at.Logical l) (item.Request v ∷ [])
  arrives l v is = elim (cases_Bool (is_among v.at.0 l.retired)) [
    | inl retired ↦ (_, _, _, steps.serves (LogicalServes.arrives_retired is retired refl refl refl))
    | inr alive ↦ elim (cases_Bool (is_held v.at.0 l.held)) [
      | inl held ↦ (_, _, _, steps.serves (LogicalServes.arrives_held is alive held refl refl refl))
      | inr free ↦ (_, _, _, steps.serves (LogicalServes.arrives_free is alive free refl refl refl))
    ]
  ]

  known_leads : (o : Option Remapping) (leaf : Option Pbn) → known_by o leaf ≡ None → (x : Pbn) × (leaf ≡ Some x)
  known_leads (Some e) leaf none = absurd cc
  known_leads None None none = absurd cc
  known_leads None (Some x) none = (x, refl)

  known_or : (l : LogicalZone) (v : Vio) → v.phase ≡ phase.Look → IsForBlock v.asks → HasPath l.tree v.at.0 → passes_by l v ≡ false → lacks l v ≡ None → (known_at l v.at.0 ≡ None) ⊎ ((m : Mapping) × (known_at l v.at.0 ≡ Some m))
      → HasAct s.sizes (at.Logical l) (item.Request v ∷ [])
  known_or l v is block path stays leaf (inl unknown) =
      let there = known_leads (latest_at l v.at.0) (leaf_at l.tree v.at.0) unknown in
      (_, _, _, steps.serves (LogicalServes.needs_leaf there.0 is path stays leaf unknown there.1 refl refl refl))
  known_or l v is block path stays leaf (inr (mapping, knows)) =
      let goes = goes_some (looked l mapping v) block in (_, _, _, steps.serves (LogicalServes.looks mapping goes.0 is path stays leaf knows goes.1 refl refl refl))

  looks : (l : LogicalZone) (v : Vio) → v.phase ≡ phase.Look → IsForBlock v.asks → HasPath l.tree v.at.0 → HasAct s.sizes (at.Logical l) (item.Request v ∷ [])
  looks l v is block path = elim (cases_Bool (passes_by l v)) [
    | inl passes ↦ (_, _, _, steps.serves (LogicalServes.passes is path passes refl refl refl))
    | inr stays ↦ elim (option_cases (lacks l v)) [
      | inl leaf ↦ known_or l v is block path stays leaf (option_cases (known_at l v.at.0))
      | inr page ↦ elim (cases_Bool (is_listed page.0 l.unlinkable)) [
        | inl dropped ↦ (_, _, _, steps.serves (LogicalServes.is_dropped page.0 is path page.1 dropped refl refl refl))
        | inr linkable ↦ elim (cases_Bool (is_listed page.0 l.making)) [
          | inl made ↦ (_, _, _, steps.serves (LogicalServes.waits page.0 is path page.1 linkable made refl refl refl))
          | inr unmade ↦ (_, _, _, steps.serves (LogicalServes.makes_page page.0 is path page.1 linkable unmade refl refl refl))
        ]
      ]
    ]
  ]

  -- the path of its address leads through its home
  path_of : (l : LogicalZone) (v : Vio) → VioOk s t v → IsForBlock v.asks → DataOk s t (logical_number (zone_of s.sizes.zones v.at.0)) (at.Logical l) → HasPath l.tree v.at.0
  path_of l v ok block here =
      has_path s l.zone t l.tree v.at.0 here.lists.tree_is (inside v.asks block ok.address) (let number = here.number_is in omega (arith, number))
    where
      inside : (q : Asks) → IsForBlock q → HasAddress s.sizes v.at q → v.at.0 < s.sizes.geometry.logical
      inside Read block low = low
      inside Write block low = low
      inside Discard block low = low
      inside Flush block low = absurd block

  -- the entry of its page is committed: that may be linked
  links : (l : LogicalZone) (v : Vio) (page : PageId) → v.phase ≡ phase.Settle → v.page ≡ Some page → VioOk s t v → CarriesPage s t v page phase.Settle
      → DataOk s t (logical_number (zone_of s.sizes.zones v.at.0)) (at.Logical l) → HasAct s.sizes (at.Logical l) (item.Request v ∷ [])
  links l v page is some ok carries here =
      let block = block_at v.new carries.1 in
      let lacked = lacked_path s.sizes.geometry.height v.asks v.at v.bytes page carries.0.is_write carries.0.lacked in
      let path = path_of l v ok carries.0.turn.is_placed.for_block here in
      let entered : OnBlock (λ x. IsDataBlock s.sizes.geometry x.0) v.new = subst (OnBlock (λ x. IsDataBlock s.sizes.geometry x.0)) (logged_new v) (each_of (HasBlock s) (journaled t) (logged v) (journaled_data s t right) carries.2.handed_in) in
      let is_data : IsDataBlock s.sizes.geometry block.0.0 = subst (OnBlock (λ x. IsDataBlock s.sizes.geometry x.0)) block.1 entered in
      let may = may_link s.sizes.geometry l.zone s.sizes.zones s.links (applied t) l.tree v.at.0 here.lists.tree_is path page lacked.0 lacked.1 carries.0.up block.0 is_data in
      let between : LogicalZone = record l { tree = linked_tree l.tree page block.0; making = but_page page l.making } in
      (_, _, _, steps.serves (LogicalServes.links page block.0 between is some block.1 may (record { links = link_made l.tree page block.0 here.lists.tree_is.form may; rest = refl }) refl refl refl))

  -- the report of a decrement
  hears : (l : LogicalZone) (e : Remapping) → HasAct s.sizes (at.Logical l) (item.Report e ∷ [])
  hears l e = elim (option_cases (settling_of e.request l.settling)) [
    | inl none ↦ (_, _, _, steps.settles (LogicalHears.keeps none refl refl refl))
    | inr found ↦ (_, _, _, steps.settles (LogicalHears.settles found.0 found.1 refl refl refl))
  ]

  settles : (l : LogicalZone) (v : Vio) → v.phase ≡ phase.Settle → v.page ≡ None → HasAct s.sizes (at.Logical l) (item.Request v ∷ [])
  settles l v is bare = elim (cases_Bool (awaits_report l v)) [
    | inl waits ↦ (_, _, _, steps.serves (LogicalServes.awaits is bare waits refl refl refl))
    | inr came ↦ (_, _, _, steps.serves (LogicalServes.settles is bare came refl refl refl))
  ]

  -- The physical zone.
  claims : (p : PhysicalZone) (v : Vio) → v.phase ≡ phase.Claim → length v.tickets < s.sizes.physical → HasAct s.sizes (at.Physical p) (item.Request v ∷ [])
  claims p v is fewer = elim (gives_or_none p.counts) [
    | inl none ↦
        let step = next_step p.counts.desk.step in
        let (b, begins) = can_begin p.counts step in
        let k : Ticket = record { zone = b.desk.zone; number = b.desk.issued; asked = step } in
        let z : Counting = record b { desk = record b.desk { issued = b.desk.issued + 1; out = b.desk.out ++ record { number = k.number; asked = k.asked; writer = v.request; block = None } ∷ [] } } in
        let gives : GivesTicket b z v.request k = record {
          none_free = subst NoneFree (sym (begun_slabs p.counts b step begins)) none;
          issues = record { now = now p.counts b begins; zone = refl; number = refl; after = refl };
          same = refl;
        } in
        (_, _, _, steps.takes (PhysicalServes.asks k b z is fewer begins gives refl refl refl))
    | inr (x, z, gives) ↦ (_, _, _, steps.takes (PhysicalServes.claims x z is gives refl refl refl))
  ]

  -- A ticket that is out is withdrawn, and what it is worth is its own, or dropped.
  module _ (n : ℕ) (p : PhysicalZone) (own : DataOk s t n (at.Physical p)) (v : Vio) (is : v.phase ≡ phase.Withdraw) (k : Ticket) (others : List Ticket) (has : v.tickets ≡ k ∷ others)
      (is_out : 1 ≤ out_in (λ number. number == k.number) p.counts) (claimed : (x : Pbn) → IsOfZone p.counts x → 0 < out_with x p.counts.desk → 0 < claims_in x p.counts.slabs) where
    drops_it_at_once : (b m : Counting) (x y : Pbn) → BeginsNext p.counts b → WithdrawsFrom b m k (Block x) → v.claim ≡ Some y → HasAct s.sizes (at.Physical p) (item.Request v ∷ [])
    drops_it_at_once b m x y begins from some =
        let kept = back_keeps p.counts b begins m k (Block x) from in
        let less = withdraws_out b.desk m.desk k (Block x) x from.withdraws in
        let got : is_at x from.withdraws.waiting.block ≡ one_of x x = ap (is_at x) (worth_block b.desk m.desk k x from.withdraws) in
        let one = one_same x x refl in
        let was = ap (λ (out : List Waiting). total (waits_with x) out) (begun_out p.counts b _ begins) in
        let mine : IsOfZone p.counts x = own.sound.passed x (omega (arith, less, got, one, was)) in
        let slabs : m.slabs ≡ p.counts.slabs = withdrawn_slabs b m k (Block x) from ∙ begun_slabs p.counts b _ begins in
        let there : 0 < claims_in x m.slabs = subst (λ (l : List Counts). 0 < claims_in x l) (sym slabs) (claimed x mine (omega (arith, less, got, one, was))) in
        let is_m = withdrawn_is_zone b m k (Block x) (begun_is_zone p.counts b _ own.sound.is_zone begins) from in
        let claim = (claimed_is m x is_m (of_zone_kept p.counts m x kept mine)).1 there in
        let (z, change) = can_change m x (unclaimed (slab_of m x) x) in
        (_, _, _, steps.takes (PhysicalServes.drops_block k others x y b m z is has some begins from claim change refl refl refl))

    withdraws_by : (b m : Counting) (worth : Withdrawn) → BeginsNext p.counts b → WithdrawsFrom b m k worth → HasAct s.sizes (at.Physical p) (item.Request v ∷ [])
    withdraws_by b m (Nothing r) begins from = (_, _, _, steps.takes (PhysicalServes.has_none k others r b m is has begins from refl refl refl))
    withdraws_by b m (Block x) begins from = elim (option_cases v.claim) [
      | inl none ↦ (_, _, _, steps.takes (PhysicalServes.takes_block k others x b m is has none begins from refl refl refl))
      | inr (y, some) ↦ drops_it_at_once b m x y begins from some
    ]

    withdraws_it : HasAct s.sizes (at.Physical p) (item.Request v ∷ [])
    withdraws_it =
        let step = next_step p.counts.desk.step in
        let (b, begins) = can_begin p.counts step in
        let same = begun_counted (λ number. number == k.number) p.counts b step begins in
        let (place, out) = counted_is_out b.desk k (omega (arith, is_out, same)) in
        let (worth, m, from) = can_withdraw b k place step (now p.counts b begins) out in
        withdraws_by b m worth begins from

  -- an increment fits for which there is a claim, also where the block becomes that of a page before
  module _ (n : ℕ) (p : PhysicalZone) (own : DataOk s t n (at.Physical p)) (x : Pbn) (is_data : IsDataBlock s.sizes.geometry x.0) (here : physical_zone_of s.sizes x ≡ p.counts.zone) where
    abbrev is_zone : IsZone p.counts
    is_zone = own.sound.is_zone

    mine : IsOfZone p.counts x
    mine = of_zone s p own.sound x is_data here

    is_claimed : 0 < claims_in x p.counts.slabs → IsClaimedIn p.counts x
    is_claimed some = (claimed_is p.counts x is_zone mine).1 some

    fits : (o : Option PageId) → 0 < claims_in x p.counts.slabs → (slab : Counts) × Takes half.Increment (slab_of (spent_for o p.counts x) x) slab x
    fits None some = add_fits p.counts x is_zone mine some
    fits (Some page) some =
        let between = spent_for (Some page) p.counts x in
        let claim = is_claimed some in
        let m = moved (SpendsPage x) p.counts between is_zone (claim, refl) in
        let own_between : IsOfZone between x = record { data_block = mine.data_block; own = mine.own } in
        add_fits between x (calls_keep p.counts between (SpendsPage x ∷ []) is_zone (p.counts, refl, (claim, refl))) own_between (let still = m.claims x in omega (arith, still, some))

    counts_it : (v : Vio) → v.phase ≡ phase.Count → v.claim ≡ Some x → 0 < claims_in x p.counts.slabs → HasAct s.sizes (at.Physical p) (item.Request v ∷ [])
    counts_it v is claim some =
        let (slab, takes) = fits v.page some in
        let (z, change) = can_change (spent_for v.page p.counts x) x slab in
        (_, _, _, steps.takes (PhysicalServes.counts x slab z is claim (is_claimed some) takes change refl refl refl))

    drops_it : (v : Vio) → v.phase ≡ phase.AbortClaim → v.claim ≡ Some x → 0 < claims_in x p.counts.slabs → HasAct s.sizes (at.Physical p) (item.Request v ∷ [])
    drops_it v is claim some =
        let (z, change) = can_change p.counts x (unclaimed (slab_of p.counts x) x) in
        (_, _, _, steps.takes (PhysicalServes.drops x z is claim (is_claimed some) change refl refl refl))

    updates_it : (e : Remapping) → e.old ≡ At x → HasAct s.sizes (at.Physical p) (item.Decrement e ∷ [])
    updates_it e from = elim (cases_lt 0 (counter_in x p.counts.slabs)) [
      | inl some ↦
          let (slab, takes) = remove_fits p.counts x is_zone mine some in
          let (z, change) = can_change p.counts x slab in
          (_, _, _, steps.updates (PhysicalTakes.removes x slab z from mine takes change refl refl refl))
      | inr none ↦ (_, _, _, steps.updates (PhysicalTakes.is_stray x from mine (none_is_stray p.counts x is_zone mine (omega (arith, none))) refl refl refl))
    ]

  -- the journal
  enters : (j : JournalZone) (v : Vio) → v.phase ≡ phase.Enter → HasAct s.sizes (at.Journal j) (item.Request v ∷ [])
  enters j v is = elim (cases_Bool (is_closed j)) [
    | inl closed ↦ (_, _, _, steps.enters (JournalServes.is_stopped is closed refl refl refl))
    | inr opened ↦ elim (cases_Bool (has_block j)) [
      | inr none ↦ (_, _, _, steps.enters (JournalServes.is_full is opened none refl refl refl))
      | inl block ↦ elim (cases_Bool (has_room j)) [
        | inr full ↦ (_, _, _, steps.enters (JournalServes.waits is opened block full refl refl refl))
        | inl room ↦ elim (cases_Bool j.busy) [
          | inl busy ↦ (_, _, _, steps.enters (JournalServes.enters is opened block room busy refl refl refl))
          | inr idle ↦ (_, _, _, steps.enters (JournalServes.enters_first is opened block room idle refl refl refl))
        ]
      ]
    ]
  ]

  due : (j : JournalZone) → IsSoundJournal j → IsSealable j.log → IsDue j
  due j sound sealable = record {
    sealable = sealable;
    all = elim (cases_lt 0 (length j.waiting)) [
      | inl some ↦ let full = sound.2 some in omega (arith, full)
      | inr none ↦ let few = sound.0 in omega (arith, few, none)
    ];
  }

  commits : (j : JournalZone) (b : SealedBlock) (vios filling : List Vio) → JournalLists s t j → IsSoundJournal j → all_of (sealed t) ≡ all_logged vios ++ durable t → b.vios ≡ vios → j.filling ≡ filling → b.stage ≡ stage.Commit
      → HasAct s.sizes (at.Journal j) (item.Block b ∷ [])
  commits j b (v ∷ vs) filling lists sound left are fills is = (_, _, _, steps.ends (JournalEnds.commits v vs is are (has_next s t j.log (v ∷ vs) lists.log_is left (omega arith)) refl refl refl))
  commits j b [] [] lists sound left are fills is = (_, _, _, steps.ends (JournalEnds.rests is are fills refl refl refl))
  commits j b [] (v ∷ vs) lists sound left are fills is =
      let few = lists.filling_few in
      let some = ap length fills in
      (_, _, _, steps.ends (JournalEnds.seals v vs is are fills (due j sound (is_sealable s t j.log lists.log_is (omega (arith, few, some)) left)) refl refl refl))

  -- the device: the session is stopped, or the superblock is durable, or its next call comes first
  when_ready : (d : DeviceZone) {X : Type 0} → (d.stopped ≡ true → X) → (d.stopped ≡ false → d.superblock ≡ Durable → X)
      → ((call : Call) → superblock_call s.sizes true d.superblock ≡ Some call → d.stopped ≡ false → X) → X
  when_ready d {X} stopped durable waits = elim (cases_Bool d.stopped) [ inl stops ↦ stopped stops | inr goes ↦ by_stage d.superblock refl goes ]
    where
      by_stage : (now : SuperblockStage) → d.superblock ≡ now → d.stopped ≡ false → X
      by_stage AsOpened is goes = waits _ (ap (superblock_call s.sizes true) is) goes
      by_stage Written is goes = waits _ (ap (superblock_call s.sizes true) is) goes
      by_stage Durable is goes = durable goes is

  announces : (d : DeviceZone) (v : Vio) → (phase_rule v.phase).zone ≡ AtDevice → (call : Call) → superblock_call s.sizes true d.superblock ≡ Some call → d.stopped ≡ false → HasAct s.sizes (at.Device d) (item.Request v ∷ [])
  announces d v there call is goes = (_, _, _, steps.calls (DeviceServes.announces there (Announces.succeeds call is goes refl refl refl)))

  stores : (d : DeviceZone) (v : Vio) (x : Pbn) → v.phase ≡ phase.Store → v.new ≡ At x → IsInside s.sizes x → HasAct s.sizes (at.Device d) (item.Request v ∷ [])
  stores d v x is to inside = when_ready d
      (λ stopped. (_, _, _, steps.calls (DeviceServes.store_unmade is stopped refl refl refl)))
      (λ goes durable. (_, _, _, steps.calls (DeviceServes.stores x is to goes durable inside refl refl refl)))
      (announces d v (ap (λ q. (phase_rule q).zone) is))

  stores_by : (d : DeviceZone) (v : Vio) (m : Mapping) → v.phase ≡ phase.Store → v.new ≡ m → IsToBlock m → OnBlock (λ x. IsDataBlock s.sizes.geometry x.0) m → HasAct s.sizes (at.Device d) (item.Request v ∷ [])
  stores_by d v (At x) is to block is_data = stores d v x is to (data_block_inside s.sizes.geometry x.0 is_data)
  stores_by d v Unmapped is to block is_data = absurd block
  stores_by d v Zero is to block is_data = absurd block

  loads_by : (d : DeviceZone) (v : Vio) (m : Mapping) → v.phase ≡ phase.Load → v.old ≡ m → IsToInside s m → HasAct s.sizes (at.Device d) (item.Request v ∷ [])
  loads_by d v (At x) is from inside = when_ready d
      (λ stopped. (_, _, _, steps.calls (DeviceServes.loads x [] is from (inl stopped) inside refl refl refl)))
      (λ goes durable. (_, _, _, steps.calls (DeviceServes.loads x [] is from (inr durable) inside refl refl refl)))
      (announces d v (ap (λ q. (phase_rule q).zone) is))
  loads_by d v Unmapped is from inside = absurd inside
  loads_by d v Zero is from inside = absurd inside

  loads_leaf : (d : DeviceZone) (v : Vio) (x : Pbn) → v.phase ≡ phase.LoadLeaf → v.leaf ≡ Some x → IsInside s.sizes x → HasAct s.sizes (at.Device d) (item.Request v ∷ [])
  loads_leaf d v x is there inside = when_ready d
      (λ stopped. (_, _, _, steps.calls (DeviceServes.leaf_fails x [] true is there (inl stopped) inside refl refl refl)))
      (λ goes durable. (_, _, _, steps.calls (DeviceServes.leaf_fails x [] true is there (inr durable) inside refl refl refl)))
      (announces d v (ap (λ q. (phase_rule q).zone) is))

  flushes : (d : DeviceZone) (v : Vio) → v.phase ≡ phase.Flush → HasAct s.sizes (at.Device d) (item.Request v ∷ [])
  flushes d v is = when_ready d
      (λ stopped. (_, _, _, steps.calls (DeviceServes.flush_unmade is stopped refl refl refl)))
      (λ goes durable. (_, _, _, steps.calls (DeviceServes.flushes is goes durable refl refl refl)))
      (announces d v (ap (λ q. (phase_rule q).zone) is))

  module _ (d : DeviceZone) (b : SealedBlock) where
    abbrev slot : Pbn
    slot = record { 0 = block_of_slot (journal_slot_of s.sizes.geometry b.sequence) }

    there : (q : Stage) (call : Call) → call_of s.sizes b slot true q ≡ Some call → (stage_rule q).zone ≡ id.Device
    there stage.Cover call is = refl
    there stage.Write call is = refl
    there stage.Harden call is = refl
    there other call is = absurd cc

    works : (made unmade : Call) (vios : List Vio) → b.vios ≡ vios → 0 < length vios → call_of s.sizes b slot true b.stage ≡ Some made → call_of s.sizes b slot false b.stage ≡ Some unmade
        → HasAct s.sizes (at.Device d) (item.Block b ∷ [])
    works made unmade [] are some does fails = absurd (omega (arith, some))
    works made unmade (v ∷ vs) are some does fails = when_ready d
        (λ stopped. (_, _, _, steps.works (DeviceWorks.unmade unmade slot v vs are fails stopped refl refl refl)))
        (λ goes durable. (_, _, _, steps.works (DeviceWorks.makes made slot v vs are refl does goes durable refl refl refl)))
        (λ call is goes. (_, _, _, steps.works (DeviceWorks.announces v vs are (there b.stage made does) (Announces.succeeds call is goes refl refl refl))))

    flushes_block : (stage_is : Stage) → b.stage ≡ stage_is → call_of s.sizes b slot true stage_is ≡ Some (call.Flush true) → call_of s.sizes b slot false stage_is ≡ Some (call.Flush false) → 0 < length b.vios
        → HasAct s.sizes (at.Device d) (item.Block b ∷ [])
    flushes_block q is does fails some = works (call.Flush true) (call.Flush false) b.vios refl some (ap (call_of s.sizes b slot true) is ∙ does) (ap (call_of s.sizes b slot false) is ∙ fails)

    writes_block : b.stage ≡ stage.Write → 0 < length b.vios → HasAct s.sizes (at.Device d) (item.Block b ∷ [])
    writes_block is some =
        let bytes = journal_bytes s.sizes b in
        works (call.Write slot bytes true) (call.Write slot bytes false) b.vios refl some (ap (call_of s.sizes b slot true) is) (ap (call_of s.sizes b slot false) is)

  -- The zone of this number, with the item in front of its inbox.
  module _ (n : ℕ) (d : ZoneData) (own : DataOk s t n d) (there : n < zone_count s.sizes) where
    abbrev Has : Item → Type 0
    Has it = HasAct s.sizes d (it ∷ [])

    -- it is of the kind that has this number, where the item has a rule
    in_kind : {X : Type 0} (make : X → ZoneData) (m : ℕ) (it : Item) → n ≡ m → ((k : ZoneData) → DataOk s t m k → Keeps make k) → ((x : X) → DataOk s t m (make x) → HasAct s.sizes (make x) (it ∷ [])) → Has it
    in_kind make m it is keeps rule =
        let here = subst (λ (i : ℕ). DataOk s t i d) is own in
        let kept = keeps d here in
        subst (λ (k : ZoneData). HasAct s.sizes k (it ∷ [])) (sym kept.is) (rule kept.it (subst (λ (k : ZoneData). DataOk s t m k) kept.is here))

    in_desk : (it : Item) → n ≡ desk_number → ((desk : Desk) → HasAct s.sizes (at.Desk desk) (it ∷ [])) → Has it
    in_desk it is rule = in_kind at.Desk desk_number it is (desk_keeps s t) (λ desk here. rule desk)

    -- a claim that an item has, or a ticket of the zone, is counted; and a ticket that it has is out
    abbrev AreClaimed : Item → Type 0
    AreClaimed it = (p : PhysicalZone) → d ≡ at.Physical p → (x : Pbn) → physical_zone_of s.sizes x ≡ p.counts.zone → 1 ≤ (claim_token x).item it + out_with x p.counts.desk → 0 < claims_in x p.counts.slabs

    abbrev AreOut : Item → Type 0
    AreOut it = (p : PhysicalZone) → d ≡ at.Physical p → (number : ℕ) → 1 ≤ (ticket_token p.counts.zone (λ other. other == number)).item it → 1 ≤ out_in (λ other. other == number) p.counts

    abbrev AreCounted : Item → Type 0
    AreCounted it = AreClaimed it × AreOut it

    in_physical : (it : Item) (zone : ℕ) → zone < s.sizes.physical → n ≡ physical_number s.sizes zone
        → ((p : PhysicalZone) → d ≡ at.Physical p → p.counts.zone ≡ zone → DataOk s t n (at.Physical p) → HasAct s.sizes (at.Physical p) (it ∷ [])) → Has it
    in_physical it zone below is rule =
        let kept = physical_keeps s t zone below d (subst (λ (i : ℕ). DataOk s t i d) is own) in
        let ok : DataOk s t n (at.Physical kept.it) = subst (λ (k : ZoneData). DataOk s t n k) kept.is own in
        let same : kept.it.counts.zone ≡ zone = let number = ok.number_is in omega (arith, is, number) in
        subst (λ (k : ZoneData). HasAct s.sizes k (it ∷ [])) (sym kept.is) (rule kept.it kept.is same ok)

    -- a request at the zone that it asks, or that counts the block of its claim
    asking : (v : Vio) → n ≡ zone_number s.sizes (counts_of s.sizes v) → ((p : PhysicalZone) → d ≡ at.Physical p → DataOk s t n (at.Physical p) → HasAct s.sizes (at.Physical p) (item.Request v ∷ [])) → Has (item.Request v)
    asking v to rule =
        let its = zone_of_vio s.sizes v session.zones.1 in
        in_physical (item.Request v) its.0 its.1 (to ∙ ap (zone_number s.sizes) its.2) (λ p keeps same ok. rule p keeps ok)

    claiming : (v : Vio) (x : Pbn) → v.claim ≡ Some x → n ≡ zone_number s.sizes (counts_of s.sizes v)
        → ((p : PhysicalZone) → d ≡ at.Physical p → physical_zone_of s.sizes x ≡ p.counts.zone → DataOk s t n (at.Physical p) → HasAct s.sizes (at.Physical p) (item.Request v ∷ [])) → Has (item.Request v)
    claiming v x claim to rule =
        in_physical (item.Request v) (physical_zone_of s.sizes x) (zone_inside s.sizes x session.zones.1) (to ∙ ap (λ (o : Option Pbn). zone_number s.sizes (counts_for s.sizes (length v.tickets + v.place) o)) claim)
        (λ p keeps same ok. rule p keeps (sym same) ok)

    -- what the claim of a request is, in a phase that has one
    counts_by : (v : Vio) → v.phase ≡ phase.Count → IsToBlock v.new → HasClaim s true false v.claim v.new v.tickets → AreCounted (item.Request v) → n ≡ zone_number s.sizes (counts_of s.sizes v) → Has (item.Request v)
    counts_by v is block claim held to =
        let x = block_at v.new block in
        let claimed : v.claim ≡ Some x.0 = claim.claim_is ∙ ap (claim_of true) x.1 in
        let is_data : IsDataBlock s.sizes.geometry x.0.0 = subst (OnBlock (λ y. IsDataBlock s.sizes.geometry y.0)) x.1 (claim.on_data refl) in
        claiming v x.0 claimed to (λ p keeps here ok. counts_it n p ok x.0 is_data here v is claimed (held.0 p keeps x.0 here (let one = claim_one v x.0 claimed in omega (arith, one))))

    drops_by : (v : Vio) → v.phase ≡ phase.AbortClaim → HasClaim s true false v.claim v.new v.tickets → AreCounted (item.Request v) → n ≡ zone_number s.sizes (counts_of s.sizes v) → Has (item.Request v)
    drops_by v is claim held to = elim (option_cases v.claim) [
      | inl none ↦ asking v to (λ p keeps ok. (_, _, _, steps.takes (PhysicalServes.drops_none is none refl refl refl)))
      | inr (x, some) ↦
          let leads : v.new ≡ At x = leads_by v.new x (sym claim.claim_is ∙ some) in
          let is_data : IsDataBlock s.sizes.geometry x.0 = subst (OnBlock (λ y. IsDataBlock s.sizes.geometry y.0)) leads (claim.on_data refl) in
          claiming v x some to (λ p keeps here ok. drops_it n p ok x is_data here v is some (held.0 p keeps x here (let one = claim_one v x some in omega (arith, one))))
    ]
      where
        leads_by : (m : Mapping) (x : Pbn) → claim_of true m ≡ Some x → m ≡ At x
        leads_by (At y) x same = cc
        leads_by Unmapped x same = absurd cc
        leads_by Zero x same = absurd cc

    -- one that withdraws its oldest ticket
    withdraws_at : (v : Vio) → v.phase ≡ phase.Withdraw → IsWithdrawing s t v.request v.claim v.tickets → AreCounted (item.Request v) → n ≡ zone_number s.sizes (ticket_zone v.tickets) → Has (item.Request v)
    withdraws_at v is back held to = by v.tickets refl
      where
        one_held : (k : Ticket) (others : List Ticket) (zone : ℕ) → v.tickets ≡ k ∷ others → k.zone ≡ zone → 1 ≤ total (ticket_weight zone (λ other. other == k.number)) v.tickets
        one_held k others zone has here =
            let all = ap (total (ticket_weight zone (λ other. other == k.number))) has in
            let same : ticket_weight zone (λ other. other == k.number) k ≡ 1 = rw (eq-eqb k.zone zone here, eq-eqb k.number k.number refl) refl in
            omega (arith, all, same)

        by : (tickets : List Ticket) → v.tickets ≡ tickets → Has (item.Request v)
        by [] has = absurd (let some = back.some in let none = ap length has in omega (arith, some, none))
        by (k ∷ others) has =
            let below = first_inside s.sizes back.turn k others session.zones.1 (subst (AreInTurn s.sizes back.turn) has back.in_turn) in
            let there = ap (λ (tickets : List Ticket). zone_number s.sizes (ticket_zone tickets)) has in
            in_physical (item.Request v) k.zone below (to ∙ there) (λ p keeps same ok.
            withdraws_it n p ok v is k others has (held.1 p keeps k.number (one_held k others p.counts.zone has (sym same)))
            (λ x mine some. held.0 p keeps x (zone_is s p ok.sound x mine) (omega (arith, some))))

    in_journal : (it : Item) → n ≡ journal_number s.sizes → ((j : JournalZone) → JournalLists s t j → IsSoundJournal j → HasAct s.sizes (at.Journal j) (it ∷ [])) → Has it
    in_journal it is rule = in_kind at.Journal (journal_number s.sizes) it is (journal_keeps s t) (λ j here. rule j here.lists here.sound)

    in_device : (it : Item) → n ≡ device_number s.sizes → ((dev : DeviceZone) → HasAct s.sizes (at.Device dev) (it ∷ [])) → Has it
    in_device it is rule = in_kind at.Device (device_number s.sizes) it is (device_keeps s t) (λ dev here. rule dev)

    -- the home of a request
    in_home : (v : Vio) → VioOk s t v → n ≡ zone_number s.sizes v.home
        → ((l : LogicalZone) → DataOk s t (logical_number (zone_of s.sizes.zones v.at.0)) (at.Logical l) → HasAct s.sizes (at.Logical l) (item.Request v ∷ [])) → Has (item.Request v)
    in_home v ok is rule =
        let zone = zone_of s.sizes.zones v.at.0 in
        in_kind at.Logical (logical_number zone) (item.Request v) (is ∙ ap (zone_number s.sizes) ok.home) (logical_keeps s t zone (zone_below s.sizes.zones v.at.0 session.zones.0)) rule

    -- a request, by its phase; one that waits is in no lane
    by_phase : (v : Vio) (q : Phase) → v.phase ≡ q → v.page ≡ None → VioOk s t v → CarriesOwn s t v q → n ≡ zone_at s.sizes v q → ClaimFor s v q → AreCounted (item.Request v) → Has (item.Request v)
    by_phase v phase.Arrive is bare ok carries to claim held = in_home v ok to (λ l here. arrives l v is)
    by_phase v phase.Look is bare ok carries to claim held = in_home v ok to (λ l here. looks l v is carries.0.is_placed.for_block (path_of l v ok carries.0.is_placed.for_block here))
    by_phase v phase.LoadLeaf is bare ok carries to claim held = in_device _ to (λ dev. loads_leaf dev v carries.2.at is carries.2.block_is carries.2.inside)
    by_phase v phase.LoadedLeaf is bare ok carries to claim held = in_home v ok to (λ l here. let goes = goes_some v carries.0.held.turn.is_placed.for_block in (_, _, _, steps.serves (LogicalServes.leafed goes.0 is goes.1 refl refl refl)))
    by_phase v phase.Claim is bare ok carries to claim held = asking v to (λ p keeps ok. claims p v is carries.4.fewer)
    by_phase v phase.Withdraw is bare ok carries to claim held = withdraws_at v is carries.3 held to
    by_phase v phase.Store is bare ok carries to claim held = in_device _ to (λ dev. stores_by dev v v.new is refl carries.2 (claim.on_data refl))
    by_phase v phase.Enter is bare ok carries to claim held = in_journal _ to (λ j lists sound. enters j v is)
    by_phase v phase.Count is bare ok carries to claim held = counts_by v is carries.3 claim held to
    by_phase v phase.Settle is bare ok carries to claim held = in_home v ok to (λ l here. settles l v is bare)
    by_phase v phase.Load is bare ok carries to claim held = in_device _ to (λ dev. loads_by dev v v.old is refl carries.1)
    by_phase v phase.Loaded is bare ok carries to claim held = in_home v ok to (λ l here. (_, _, _, steps.serves (LogicalServes.gives is refl refl refl)))
    by_phase v phase.AbortClaim is bare ok carries to claim held = drops_by v is claim held to
    by_phase v phase.Abort is bare ok carries to claim held = in_home v ok to (λ l here. (_, _, _, steps.serves (LogicalServes.aborts is bare refl refl refl)))
    by_phase v phase.AbortEnteredClaim is bare ok carries to claim held = asking v to (λ p keeps ok. (_, _, _, steps.takes (PhysicalServes.spends is refl refl refl)))
    by_phase v phase.AbortEntered is bare ok carries to claim held = in_home v ok to (λ l here. (_, _, _, steps.serves (LogicalServes.aborts_entered is bare refl refl refl)))
    by_phase v phase.Flush is bare ok carries to claim held = in_device _ to (λ dev. flushes dev v is)
    by_phase v phase.Reply is bare ok carries to claim held = in_desk _ to (λ desk. replies desk v v.answer refl is carries)
    by_phase v other is bare ok carries to claim held = absurd (omega (arith, to, there))

    -- one that makes a page
    by_page : (v : Vio) (page : PageId) (q : Phase) → v.phase ≡ q → v.page ≡ Some page → VioOk s t v → CarriesPage s t v page q → n ≡ zone_at s.sizes v q → ClaimFor s v q → AreCounted (item.Request v)
        → Has (item.Request v)
    by_page v page phase.Claim is some ok carries to claim held = asking v to (λ p keeps ok. claims p v is carries.2.fewer)
    by_page v page phase.Withdraw is some ok carries to claim held = withdraws_at v is carries.2 held to
    by_page v page phase.Store is some ok carries to claim held = in_device _ to (λ dev. stores_by dev v v.new is refl carries.2 (claim.on_data refl))
    by_page v page phase.Enter is some ok carries to claim held = in_journal _ to (λ j lists sound. enters j v is)
    by_page v page phase.Count is some ok carries to claim held = counts_by v is carries.1 claim held to
    by_page v page phase.Settle is some ok carries to claim held = in_home v ok to (λ l here. links l v page is some ok carries here)
    by_page v page phase.AbortClaim is some ok carries to claim held = drops_by v is claim held to
    by_page v page phase.Abort is some ok carries to claim held = in_home v ok to (λ l here. (_, _, _, steps.serves (LogicalServes.unmakes page is some refl refl refl)))
    by_page v page phase.AbortEnteredClaim is some ok carries to claim held = asking v to (λ p keeps ok. (_, _, _, steps.takes (PhysicalServes.spends is refl refl refl)))
    by_page v page phase.AbortEntered is some ok carries to claim held = in_home v ok to (λ l here. (_, _, _, steps.serves (LogicalServes.drops page is some refl refl refl)))
    by_page v page phase.Pending is some ok carries to claim held = absurd (omega (arith, to, there))
    by_page v page other is some ok carries to claim held = absurd carries

    by_both : (v : Vio) (o : Option PageId) → v.page ≡ o → VioOk s t v → CarriesFor s t v v.phase o → n ≡ zone_at s.sizes v v.phase → ClaimOk s v → AreCounted (item.Request v) → Has (item.Request v)
    by_both v None bare ok carries to claim held = by_phase v v.phase refl bare ok carries to claim held
    by_both v (Some page) some ok carries to claim held = by_page v page v.phase refl some ok carries to claim held

    -- a sealed block, by its stage
    by_stage : (b : SealedBlock) (q : Stage) → b.stage ≡ q → StandsAt s t b.vios b.sequence q → n ≡ zone_of_stage s.sizes q → Has (item.Block b)
    by_stage b stage.Cover is stands to = in_device _ to (λ dev. flushes_block dev b stage.Cover is refl refl stands.0.some)
    by_stage b stage.Write is stands to = in_device _ to (λ dev. writes_block dev b is stands.0.some)
    by_stage b stage.Harden is stands to = in_device _ to (λ dev. flushes_block dev b stage.Harden is refl refl stands.0.some)
    by_stage b stage.Commit is stands to = in_journal _ to (λ j lists sound. commits j b b.vios j.filling lists sound stands.0 refl refl is)
    by_stage b stage.Fail is stands to = in_journal _ to (λ j lists sound. (_, _, _, steps.ends (JournalEnds.fails is refl refl refl)))

    -- a stop notice, by the kind of zone
    by_kind : (k : ZoneData) → DataOk s t n k → n ≤ notified_zones s.sizes → HasAct s.sizes k (item.StopNotice ∷ [])
    by_kind (at.Desk desk) here few = (_, _, _, steps.hears)
    by_kind (at.Logical l) here few = (_, _, _, steps.serves_notice)
    by_kind (at.Physical p) here few = (_, _, _, steps.takes_notice)
    by_kind (at.Journal j) here few = (_, _, _, steps.enters_notice)
    by_kind other here few = absurd (omega (arith, here.number_is, few))

    item_rule : (it : Item) → ItemOk s t n it → AreCounted it → Has it
    item_rule (item.Request v) ok held = by_both v v.page refl ok.0 ok.1 ok.2 ok.3 held
    item_rule (item.Decrement e) ok held =
        let x = ok.0.block in
        in_physical (item.Decrement e) (physical_zone_of s.sizes x) (zone_inside s.sizes x session.zones.1) ok.1 (λ p keeps same here. updates_it n p here x ok.0.is_data (sym same) e ok.0.old_is)
    item_rule (item.Report e) ok held =
        let zone = zone_of s.sizes.zones e.at.0 in
        in_kind at.Logical (logical_number zone) (item.Report e) ok.1 (logical_keeps s t zone (zone_below s.sizes.zones e.at.0 session.zones.0)) (λ l here. hears l e)
    item_rule (item.Damage damage) ok held = in_device (item.Damage damage) ok.1 (λ dev. (_, _, _, steps.halts (record { new_is = refl; made_is = refl; posts_are = refl })))
    item_rule (item.Block b) ok held = by_stage b b.stage refl ok.0.1 ok.1
    item_rule item.StopNotice ok held = by_kind d own ok.1

module _ (s : Session) (session : IsSession s) (core : Core) (legal : Legal s core) (n : ℕ) (z : Zone) (had : slice_get core.zones n ≡ Some z) where
  pub has_rule : (front : Item) (rest : List Item) → z.ports.inbox ≡ front ∷ rest → HasAct s.sizes z.keeps (front ∷ [])
  has_rule front rest taken =
      let ok = legal.each n z had in
      item_rule s session core.trace legal.right n z.keeps ok.own (subst (λ (k : ℕ). n < k) legal.count (slice_get_within core.zones n z had)) front
      (subst (λ (items : List Item). AllByRecursion (ItemOk s core.trace n) items) taken ok.inbox).0 (held, out)
    where
      -- its claim is counted in the zone that counts, and its ticket is out there
      held : (p : PhysicalZone) → z.keeps ≡ at.Physical p → (x : Pbn) → physical_zone_of s.sizes x ≡ p.counts.zone → 1 ≤ (claim_token x).item front + out_with x p.counts.desk → 0 < claims_in x p.counts.slabs
      held p keeps x home some =
          let here = total-get (weight (claim_token x)) core.zones n z had in
          let inbox = ap (total (claim_token x).item) taken in
          let passed = ap (claim_token x).own keeps in
          held_counted_there s core legal x n z p had keeps home (omega (arith, some, here, inbox, passed))

      out : (p : PhysicalZone) → z.keeps ≡ at.Physical p → (number : ℕ) → 1 ≤ (ticket_token p.counts.zone (λ other. other == number)).item front → 1 ≤ out_in (λ other. other == number) p.counts
      out p keeps number some =
          let token = ticket_token p.counts.zone (λ other. other == number) in
          let here = total-get (weight token) core.zones n z had in
          let inbox = ap (total token.item) taken in
          held_is_out s core legal n z p had keeps (λ other. other == number) (omega (arith, some, here, inbox))

  pub has_begin : MayBegin s.sizes z.keeps → HasAct s.sizes z.keeps []
  has_begin may = by_kind z.keeps (legal.each n z had).own may
    where
      by_kind : (d : ZoneData) → DataOk s core.trace n d → MayBegin s.sizes d → HasAct s.sizes d []
      by_kind (at.Desk desk) own begins = desk_starts s session core.trace legal.right n desk own begins
      by_kind other own begins = absurd begins

  -- the posts of an act are those of a step, and each of these has a lane
  pub has_lanes : (front rest : List Item) (new : ZoneData) (made : Trace) (posts : List Post) → z.ports.inbox ≡ front ++ rest → (front ≡ [] → rest ≡ []) → Act s.sizes z.keeps front new made posts
      → AllByRecursion (λ (post : Post). zone_number s.sizes post.0 < length z.ports.outboxes) posts
  has_lanes front rest new made posts taken turn = goes s session core legal n z had front rest new made posts taken
