-- What a request owes that asks a physical zone for a block, or withdraws a ticket there.
use Rattle.std.proofs.Common.{◌≡◌, ℕ, zero, suc, ◌+◌, ◌<◌, ◌≤◌, ◌%◌, ◌==◌, ◌&&◌, if◌then◌else◌, nat_eq, nat_lt, true, false, Bool, Option, None, Some, IsSome, List, [], ◌∷◌, length, length-append, Contains, refl, ap, sym, ◌∙◌, subst, inl, inr, arith, not, ◌||◌, All, ◌++◌}
use Rattle.std.specs.Bool.{IsTrue}
use Rattle.core_laws.proofs.Common.{AllByRecursion, Carries, DataOk, Drops, Happening, Holds, IsInTurn, IsPlaced, Mapping, MayReply, OnBlock, Pbn, PhysicalZone, Post, RightTrace, Session, Takes, Trace, Vio, VioOk, asked, ended, eq-eqb, eqb_tells, every-append, fair_before, has_taken, ltb-false, ltb-true, bit, physical_number, place_of, places, some_is, total, turned, zone_count, zone_number, Writer, same_writer, same_self}
use Rattle.blk_base.specs.Regions.{IsDataBlock}
use Rattle.blk_base.specs.declared.place.Mapping.TheVariants.{Unmapped, Zero, At}
use Rattle.blk_base.specs.declared.place.PageId.{PageId}
use Rattle.blk_base.specs.declared.request.Answer.TheVariants as reply
use Rattle.data_vio.specs.Vios.{asks_in, claiming, counts_for, counts_of, holding, refused, ticket_zone, with_tickets, withdrawing}
use Rattle.data_vio.specs.declared.items.Asks.TheVariants.{Write}
use Rattle.data_vio.specs.declared.items.Item.TheVariants as item
use Rattle.data_vio.specs.declared.items.Phase.TheVariants as phase
use Rattle.data_vio.specs.declared.items.Phase.{Phase}
use Rattle.core_model.specs.declared.zones.ZoneData.TheVariants as at
use Rattle.core_model.specs.DeskFacts.{HasReceipt}
use Rattle.core_model.specs.Facts.{CarriesFor}
use Rattle.core_model.specs.LogicalFacts.{IsUnmade, MakesPage, HasSpent}
use Rattle.core_model.specs.PhysicalFacts.{AreFirstClaims, AreInTurn, IsAsking, IsWithdrawing, LacksBlock, newest_ticket, WasIssued}
use Rattle.core_model.specs.RequestFacts.{ClaimFor, zone_at}
use Rattle.core_model.specs.PageLinks.{block_in}
use Rattle.core_model.specs.PhysicalRules.{BeginsNext, asks_on, goes_on, served, with_counts}
use Rattle.core_model.specs.RightTraces.{HadNoFree, IsLeafy, NeedsFor, WasRefused}
use Rattle.core_model.specs.Trace.{Asks, Withdraws, last_asked}
use Rattle.core_model.specs.Uses.{NoneFreeIn, issued, ticket_at}
use Rattle.slab_counts.specs.Operations.{one_of}
use Rattle.slab_counts.specs.Counts.{unclaimed}
use Rattle.slab_counts.specs.declared.tickets.Receipt.{Receipt}
use Rattle.slab_counts.specs.declared.tickets.Ticket.{Ticket}
use Rattle.slab_tickets.specs.Numbers.{AreNumbered, ticket_of}
use Rattle.slab_tickets.specs.declared.forms.Waiting.{Waiting}
use Rattle.slab_tickets.specs.declared.forms.Withdrawn.TheVariants.{Block, Nothing}
use Rattle.slab_tickets.specs.declared.forms.Withdrawn.{Withdrawn}
use Rattle.zone_counts.specs.ZoneAnswers.{GivesBlock, GivesTicket, WithdrawsFrom}
use Rattle.zone_counts.specs.ByBlock.{claims_in, counter_in, is_at, out_with, served_ticket, waits_with}
use Rattle.zone_counts.specs.Zone.{Zone, Changes, IsClaimedIn, IsOfZone, IsZone, NoneFree, slab_of}
use Rattle.zone_counts.proofs.BlockLaws.{issues_out, withdraws_out, worth_block}
use Rattle.zone_counts.proofs.FitLaws.{none_is_free, was_free}
use Rattle.zone_counts.proofs.TicketLaws.{begun_is_zone, begun_next, begun_out, begun_slabs, issued_is_zone, issued_next, issued_slabs, issued_tickets, withdrawn_block, withdrawn_is_zone, withdrawn_next, withdrawn_nothing, withdrawn_slabs, withdrawn_tickets}
use Rattle.zone_counts.proofs.ZoneLaws.{zone_claimed}
use Rattle.core_laws.proofs.journal.JournalFacts.{home_within, write_no_space}
use Rattle.core_laws.proofs.kept.ActKept.{ActKept, Known, PostOk, reaches, act_one, claim_in, in_phase, own_request, plain_clears, shown_plain, vio_ok, vio_over}
use Rattle.core_laws.proofs.kept.Spared.{asked_kept, below_kept, contains_cut, made_kept, quiet_kept, refused_kept, spent_kept, issued_kept}
use Rattle.core_laws.proofs.kept.ZoneKinds.{physical_below}
use Rattle.core_laws.proofs.lists.CountedIn.{counts_within, of_zone}
use Rattle.core_laws.proofs.physical.AskTurns.{first_inside, of_each_zone, turn_more}
use Rattle.core_laws.proofs.physical.TicketDesks.{IsKeptBy, back_keeps, begun_keeps, claimed_keeps, ticket_keeps}
use Rattle.core_laws.proofs.physical.ZoneFacts.{KnowsTickets, after_ok, data_of, drop_follows, dropped_ok, number_of, of_zone_kept, one_other, one_same, same_number, knows_still}
use Rattle.core_laws.proofs.tokens.Moves.{Moves, given_moves, no_block}
use Rattle.core_laws.proofs.trace.DeskOfTrace.{shown_of}
use Rattle.core_laws.proofs.trace.TicketsOfTrace.{all_refused_none, same_ticket}
use Rattle.image_model.specs.Pages.{is_page}
use Rattle.core_laws.proofs.physical.OutTickets.{issued_all, withdrawn_all, withdrawn_one}

-- what a write holds that asks for a block: the lock of its address, and what it needs the block for
abbrev pub HoldsFor : Session → Trace → Vio → Option PageId → Type 0
HoldsFor s t v None = Holds s t v × (v.asks ≡ Write) × IsLeafy s t v.at.0
HoldsFor s t v (Some page) = MakesPage s t v page × IsUnmade s t page

-- it has the ticket that it was given last, or with none left the receipt of that
abbrev pub HasLast : Trace → Vio → List Ticket → Type 0
HasLast t v [] = HasReceipt t v.request v.receipt
HasLast t v (k ∷ newer) = last_asked t v.request ≡ newest_ticket (k ∷ newer)

-- one more is the newest
newest_added : (tickets : List Ticket) (k : Ticket) → newest_ticket (tickets ++ k ∷ []) ≡ Some k
newest_added [] k = refl
newest_added (j ∷ []) k = refl
newest_added (j ∷ i ∷ newer) k = newest_added (i ∷ newer) k

-- A write that asks no more, with the tickets that it has left.
pub record AsksNoMore (s : Session) (t : Trace) (v : Vio) : Type 0 where
  pub ok : VioOk s t v
  pub holds : HoldsFor s t v v.page
  pub turn : ℕ
  pub in_turn : AreInTurn s.sizes turn v.tickets
  pub few : length v.tickets ≤ s.sizes.physical
  pub asked : AllByRecursion (λ k. Contains t (Asks v.request k)) v.tickets
  pub lacks : v.claim ≡ None → LacksBlock s t v.request v.tickets
  pub last : v.claim ≡ None → HasLast t v v.tickets
  pub claim_is : v.claim ≡ block_in v.new
  pub on_data : OnBlock (λ x. IsDataBlock s.sizes.geometry x.0) v.new

at_by : (m : Mapping) (x : Pbn) → Some x ≡ block_in m → m ≡ At x
at_by (At y) x same = cc
at_by Unmapped x same = absurd cc
at_by Zero x same = absurd cc

module _ (s : Session) (t : Trace) (some : 1 ≤ s.sizes.physical) (right : RightTrace s t) where
  -- with a ticket of no zone left, none was free at one moment
  had_none : (v : Vio) → LacksBlock s t v.request [] → HadNoFree s t v.request
  had_none v lacks =
      let each : (zone : ℕ) → zone < s.sizes.physical → WasRefused lacks.newer lacks.older v.request zone
      = λ zone inside. elim (lacks.each zone inside) [ inl was ↦ was | inr (k, here, (i, low, is), asked) ↦ absurd (omega (arith, low)) ] in
      record {
        newer = lacks.newer;
        older = lacks.older;
        moment = lacks.moment;
        placed = lacks.placed;
        none_free = all_refused_none s lacks.newer lacks.older v.request some (subst (RightTrace s) lacks.moment right) each;
        refused = each;
      }

  is_placed : (v : Vio) (o : Option PageId) → HoldsFor s t v o → IsPlaced s t v
  is_placed v None k = k.0.turn.is_placed
  is_placed v (Some page) k = k.0.turn.is_placed

  is_write : (v : Vio) (o : Option PageId) → HoldsFor s t v o → v.asks ≡ Write
  is_write v None k = k.1
  is_write v (Some page) k = k.0.is_write

  back_carries : (v : Vio) (o : Option PageId) → HoldsFor s t v o → IsWithdrawing s t v.request v.claim v.tickets → CarriesFor s t (turned phase.Withdraw v) phase.Withdraw o
  back_carries v None k back = (k.0, k.1, k.2, back)
  back_carries v (Some page) k back = (k.0, k.1, back)

  store_carries : (v : Vio) (o : Option PageId) (x : Pbn) → v.new ≡ At x → HoldsFor s t v o → CarriesFor s t (turned phase.Store v) phase.Store o
  store_carries v None x to k = (k.0, k.1, rw to tt, k.2)
  store_carries v (Some page) x to k = (k.0, k.1, rw to tt)

  abort_carries : (v : Vio) (o : Option PageId) → HoldsFor s t v o → MayReply s t v (Some reply.NoSpace) → CarriesFor s t (ended phase.Abort reply.NoSpace v) phase.Abort o
  abort_carries v None k may = (k.0.turn, may)
  abort_carries v (Some page) k may = (k.0, k.1, may)

  -- where it goes
  pub served_ok : (v : Vio) → zone_number s.sizes v.home < zone_count s.sizes → AsksNoMore s t v → PostOk s t (served v)
  served_ok v home k = by v.tickets v.claim refl refl
    where
      by : (tickets : List Ticket) (claim : Option Pbn) → v.tickets ≡ tickets → v.claim ≡ claim → PostOk s t (goes_on v tickets claim)
      by (j ∷ others) claim has is =
          let inside = first_inside s.sizes k.turn j others some (subst (AreInTurn s.sizes k.turn) has k.in_turn) in
          let left : 0 < length v.tickets = rw has (omega arith) in
          let its_last : v.claim ≡ None → last_asked t v.request ≡ newest_ticket v.tickets = λ none. subst (HasLast t v) has (k.last none) ∙ ap newest_ticket (sym has) in (
            omega (arith, inside),
            (
              k.ok,
              back_carries v v.page k.holds (record { turn = k.turn; in_turn = k.in_turn; few = k.few; some = left; asked = k.asked; lacks = k.lacks; last = λ none. its_last none }),
              ap (λ (tickets : List Ticket). zone_number s.sizes (ticket_zone tickets)) (sym has),
              record { claim_is = k.claim_is; on_data = λ claims. k.on_data; no_ticket = λ asks. absurd cc },
            ),
          )
      by [] (Some x) has is =
          let to = at_by v.new x (sym is ∙ k.claim_is) in
          (omega arith, (k.ok, store_carries v v.page x to k.holds, refl, record { claim_is = k.claim_is; on_data = λ claims. k.on_data; no_ticket = λ asks. has }))
      by [] None has is =
          let lacks : LacksBlock s t v.request [] = subst (LacksBlock s t v.request) has (k.lacks is) in
          let may = write_no_space s t v (is_write v v.page k.holds) (is_placed v v.page k.holds) lacks.none_taken (had_none v lacks) (subst (HasLast t v) has (k.last is)) in
          (home, (k.ok, abort_carries v v.page k.holds may, refl, record { claim_is = is; on_data = λ claims. absurd (never claims); no_ticket = λ asks. has }))
        where
          never : IsTrue false → ⊥
          never claims = absurd (cc claims)

-- The block that it claims for its page is no other page's.
own_spent : (s : Session) (t : Trace) (w u : Writer) (page : PageId) (x : Pbn) → HasSpent s t w (Some page) → HasSpent s (Takes u (Some page) x ∷ t) w (Some page)
own_spent s t w u page x k = record {
  none_taken = k.none_taken;
  others = λ other apart taken. made_kept s (Takes u (Some page) x) t other (k.others other apart (by (is_page page other) (has_taken t w (Some other)) apart taken));
}
  where
    by : (b earlier : Bool) → not b ≡ true → ((b && same_writer u w) || earlier) ≡ true → earlier ≡ true
    by true earlier differs taken = absurd cc
    by false earlier differs taken = taken

-- Over what it does there it holds what it held.
abbrev pub IsAskOf : Vio → Happening → Type 0
IsAskOf v (Takes w page x) = page ≡ v.page
IsAskOf v (Asks w k) = Unit {0}
IsAskOf v (Withdraws w k got) = Unit {0}
IsAskOf v (Drops w x to) = Unit {0}
IsAskOf v other = ⊥

module _ (s : Session) (t : Trace) (v : Vio) where
  turn_on : (h : Happening) → IsAskOf v h → IsInTurn s t v → IsInTurn s (h ∷ t) v
  turn_on (Takes w page x) is k = record {
    is_placed = record { for_block = k.is_placed.for_block; placed = k.is_placed.placed; not_entered = k.is_placed.not_entered };
    quiet = quiet_kept (Takes w page x) t v.at.0 tt k.quiet;
    below = below_kept (Takes w page x) t v.at.0 v.place tt k.below;
  }
  turn_on (Asks w j) is k = record {
    is_placed = record { for_block = k.is_placed.for_block; placed = k.is_placed.placed; not_entered = k.is_placed.not_entered };
    quiet = quiet_kept (Asks w j) t v.at.0 tt k.quiet;
    below = below_kept (Asks w j) t v.at.0 v.place tt k.below;
  }
  turn_on (Withdraws w j got) is k = record {
    is_placed = record { for_block = k.is_placed.for_block; placed = k.is_placed.placed; not_entered = k.is_placed.not_entered };
    quiet = quiet_kept (Withdraws w j got) t v.at.0 tt k.quiet;
    below = below_kept (Withdraws w j got) t v.at.0 v.place tt k.below;
  }
  turn_on (Drops w x to) is k = record {
    is_placed = record { for_block = k.is_placed.for_block; placed = k.is_placed.placed; not_entered = k.is_placed.not_entered };
    quiet = quiet_kept (Drops w x to) t v.at.0 tt k.quiet;
    below = below_kept (Drops w x to) t v.at.0 v.place tt k.below;
  }
  turn_on other is k = absurd is

  lock_on : (h : Happening) → IsAskOf v h → Holds s t v → Holds s (h ∷ t) v
  lock_on (Takes w page x) is k = record { turn = turn_on (Takes w page x) is k.turn; old_data = k.old_data; old_is = λ fair. k.old_is (fair_before s (Takes w page x) t fair) }
  lock_on (Asks w j) is k = record { turn = turn_on (Asks w j) is k.turn; old_data = k.old_data; old_is = λ fair. k.old_is (fair_before s (Asks w j) t fair) }
  lock_on (Withdraws w j got) is k = record { turn = turn_on (Withdraws w j got) is k.turn; old_data = k.old_data; old_is = λ fair. k.old_is (fair_before s (Withdraws w j got) t fair) }
  lock_on (Drops w x to) is k = record { turn = turn_on (Drops w x to) is k.turn; old_data = k.old_data; old_is = λ fair. k.old_is (fair_before s (Drops w x to) t fair) }
  lock_on other is k = absurd is

  making_on : (h : Happening) (page : PageId) → v.page ≡ Some page → IsAskOf v h → MakesPage s t v page → MakesPage s (h ∷ t) v page
  making_on (Takes w o x) page some is k = record {
    turn = turn_on (Takes w o x) is k.turn;
    is_write = k.is_write;
    spent = subst (λ (p : Option PageId). HasSpent s (Takes w p x ∷ t) v.request (Some page)) (sym (is ∙ some)) (own_spent s t v.request w page x k.spent);
    lacked = k.lacked;
    up = k.up;
  }
  making_on (Asks w j) page some is k = record { turn = turn_on (Asks w j) is k.turn; is_write = k.is_write; spent = spent_kept s (Asks w j) t v.request (Some page) (λ p. refl) k.spent; lacked = k.lacked; up = k.up }
  making_on (Withdraws w j got) page some is k = record { turn = turn_on (Withdraws w j got) is k.turn; is_write = k.is_write; spent = spent_kept s (Withdraws w j got) t v.request (Some page) (λ p. refl) k.spent; lacked = k.lacked; up = k.up }
  making_on (Drops w x to) page some is k = record { turn = turn_on (Drops w x to) is k.turn; is_write = k.is_write; spent = spent_kept s (Drops w x to) t v.request (Some page) (λ p. refl) k.spent; lacked = k.lacked; up = k.up }
  making_on other page some is k = absurd is

  unmade_on : (h : Happening) (page : PageId) → IsAskOf v h → IsUnmade s t page → IsUnmade s (h ∷ t) page
  unmade_on (Takes w o x) page is k = k
  unmade_on (Asks w j) page is k = k
  unmade_on (Withdraws w j got) page is k = k
  unmade_on (Drops w x to) page is k = k
  unmade_on other page is k = absurd is

  leafy_on : (h : Happening) → IsAskOf v h → IsLeafy s t v.at.0 → IsLeafy s (h ∷ t) v.at.0
  leafy_on (Takes w o x) is k = k
  leafy_on (Asks w j) is k = k
  leafy_on (Withdraws w j got) is k = k
  leafy_on (Drops w x to) is k = k
  leafy_on other is k = absurd is

  pub holds_on : (h : Happening) → IsAskOf v h → (o : Option PageId) → v.page ≡ o → HoldsFor s t v o → HoldsFor s (h ∷ t) v o
  holds_on h is None bare k = (lock_on h is k.0, k.1, leafy_on h is k.2)
  holds_on h is (Some page) some k = (making_on h page some is k.0, unmade_on h page is k.1)

-- an element of those of which each is so
each_has : {X : Type 0} (P : X → Type 0) (xs : List X) (x : X) → AllByRecursion P xs → Contains xs x → P x
each_has P [] x all (i, low, is) = absurd (omega (arith, low))
each_has P (y ∷ xs) x all (zero, low, is) = subst P is all.0
each_has P (y ∷ xs) x all (suc i, low, is) = each_has P xs x all.1 (i, omega (arith, low), is)

-- What a request does that is served.
module _ {s : Session} {t : Trace} {n : ℕ} {old : PhysicalZone} {v : Vio} (known : Known s t n (at.Physical old) (item.Request v ∷ [])) where
  abbrev After : PhysicalZone → Trace → List Post → Type 0
  After new made posts = ActKept s t n (at.Physical old) (item.Request v ∷ []) (at.Physical new) made posts

  home : zone_number s.sizes v.home < zone_count s.sizes
  home = home_within s t v known.session (vio_ok known)

  some_zones : 1 ≤ s.sizes.physical
  some_zones = known.session.zones.1

  is_zone : IsZone old.counts
  is_zone = known.own.sound.is_zone

  numbered : AreNumbered old.counts.desk
  numbered = known.own.sound.numbered

  -- It claims a block.
  module _ (is : v.phase ≡ phase.Claim) where
    asking : (o : Option PageId) → CarriesFor s t v phase.Claim o → IsAsking s t v.request v.place v.tickets
    asking None k = k.4
    asking (Some page) k = k.2

    holding_for : (o : Option PageId) → CarriesFor s t v phase.Claim o → HoldsFor s t v o
    holding_for None k = (k.0, k.1, k.3)
    holding_for (Some page) k = (k.0, k.1)

    asks : IsAsking s t v.request v.place v.tickets
    asks = asking v.page (in_phase known phase.Claim is)

    needs : (o : Option PageId) → v.page ≡ o → CarriesFor s t v phase.Claim o → NeedsFor s t v.request v.page
    needs None bare k = subst (NeedsFor s t v.request) (sym bare) (v.at, v.bytes, (vio_ok known).asked ∙ ap (λ q. Some (asked q v.at v.bytes)) k.1, k.2)
    needs (Some page) some k = subst (NeedsFor s t v.request) (sym some) (record { lacked = (asked v.asks v.at v.bytes, (vio_ok known).asked, k.0.lacked); up = k.0.up; unmade = k.1; none_taken = k.3 })

    module _ (x : Pbn) (z : Zone) (gives : GivesBlock old.counts z x) where
      free : IsOfZone old.counts x × (counter_in x old.counts.slabs ≡ 0) × (claims_in x old.counts.slabs ≡ 0)
      free = was_free old.counts z x is_zone gives

      is_data : IsDataBlock s.sizes.geometry x.0
      is_data = data_of known.own x free.0

      abbrev takes : Happening
      takes = Takes v.request v.page x

      first : Moves old.counts z (one_of x) no_block no_block → AreFirstClaims z
      first moves y some = elim (eqb_tells x.0 y.0) [
        | inl same ↦
            let one = one_same x y same.1 in
            let none = same_number (λ w. (counter_in w old.counts.slabs ≡ 0) × (claims_in w old.counts.slabs ≡ 0)) x y same.1 (free.1, free.2) in
            (omega (arith, moves.uses y, moves.claims y, one, none.0, none.1), omega (arith, moves.claims y, one, none.1))
        | inr other ↦
            let no = one_other x y other.1 in
            let before = known.own.sound.first_claims y (omega (arith, some, moves.claims y, no)) in
            (omega (arith, moves.uses y, moves.claims y, no, before.0, before.1), omega (arith, moves.claims y, no, before.1))
      ]

      right_takes : RightTrace s (takes ∷ t)
      right_takes = (
        record {
          is_open = (vio_ok known).is_open;
          asked = needs v.page refl (in_phase known phase.Claim is);
          is_data = is_data;
          is_free = let uses = known.own.lists.uses x free.0 in omega (arith, uses, free.1, free.2);
        },
        shown_plain s t takes tt (shown_of s t known.right),
        known.right,
      )

      pub claims_ok : After (with_counts z old) (takes ∷ []) (served (claiming x v) ∷ [])
      claims_ok =
          let own = known.own in
          let moves = given_moves old.counts z x is_zone gives in
          let kept = claimed_keeps old.counts z x gives in
          act_one known takes (plain_clears known takes t tt (number_of own x free.0) (own_request known) tt tt) (λ g fair. g (fair_before s takes t fair)) right_takes
          (after_ok own (takes ∷ t) z (one_of x) no_block no_block (subst IsZone (sym gives.same) (zone_claimed old.counts z.slabs x is_zone gives.claims)) kept moves (first moves) (λ y. omega arith) (λ y. omega arith) refl
          (knows_still own takes z kept (ap (λ (w : Zone). w.desk) gives.same) (λ number. refl) refl)) (
            served_ok s (takes ∷ t) some_zones right_takes (claiming x v) home (record {
              ok = vio_over s takes t v refl (vio_ok known);
              holds = holds_on s t v takes refl v.page refl (holding_for v.page (in_phase known phase.Claim is));
              turn = v.place;
              in_turn = asks.in_turn;
              few = let fewer = asks.fewer in omega (arith, fewer);
              asked = asked_kept takes t v.request v.tickets asks.asked;
              lacks = λ none. absurd cc;
              last = λ none. absurd cc;
              claim_is = refl;
              on_data = is_data;
            }),
            tt,
          )

    -- No block is free, and it is given a ticket.
    module _ (k : Ticket) (b z : Zone) (begins : BeginsNext old.counts b) (gives : GivesTicket b z v.request k) where
      abbrev given : Happening
      given = Asks v.request k

      abbrev held : Vio
      held = holding k v

      here : k.zone ≡ old.counts.zone
      here = gives.issues.zone ∙ (begun_keeps old.counts b begins).desk_zone ∙ is_zone.desk

      here_true : nat_eq k.zone old.counts.zone ≡ true
      here_true = eq-eqb _ _ here

      number_here : n ≡ physical_number s.sizes k.zone
      number_here = known.own.number_is ∙ ap (physical_number s.sizes) (sym here)

      asks_here : (length v.tickets + v.place) % s.sizes.physical ≡ old.counts.zone
      asks_here =
          let claim : v.claim ≡ None = (claim_in known phase.Claim is).claim_is in
          let to : n ≡ zone_number s.sizes (asks_in s.sizes (length v.tickets + v.place))
          = known.front_ok.0.2 ∙ ap (λ (q : Phase). zone_at s.sizes v q) is ∙ ap (λ (o : Option Pbn). zone_number s.sizes (counts_for s.sizes (length v.tickets + v.place) o)) claim in
          let number = known.own.number_is in
          omega (arith, to, number)

      none_free : NoneFreeIn s t k.zone
      none_free x is_data at free =
          let mine = of_zone s old known.own.sound x is_data (at ∙ here) in
          let none : NoneFree old.counts.slabs = subst NoneFree (begun_slabs old.counts b _ begins) gives.none_free in
          let some = none_is_free old.counts x is_zone none mine in
          let uses = known.own.lists.uses x mine in
          omega (arith, some, uses, free)

      placed : (o : Option PageId) → CarriesFor s t v phase.Claim o → IsSome (place_of (places t) v.request)
      placed None k' = some_is _ _ k'.0.turn.is_placed.placed
      placed (Some page) k' = some_is _ _ k'.0.turn.is_placed.placed

      its_place : IsSome (place_of (places t) v.request)
      its_place = placed v.page (in_phase known phase.Claim is)

      inside : k.zone < s.sizes.physical
      inside = let below = physical_below s t n old known.own in omega (arith, below, here)

      right_given : RightTrace s (given ∷ t)
      right_given = (
        record {
          is_open = (vio_ok known).is_open;
          placed = its_place;
          page = v.page;
          asked = needs v.page refl (in_phase known phase.Claim is);
          inside = inside;
          number = gives.issues.number ∙ begun_next old.counts b _ begins ∙ known.own.lists.issued_is ∙ ap (issued t) (sym here);
          none_free = none_free;
        },
        shown_plain s t given tt (shown_of s t known.right),
        known.right,
      )

      kept : IsKeptBy old.counts z
      kept = ticket_keeps old.counts b begins z v.request k gives

      slabs_same : z.slabs ≡ old.counts.slabs
      slabs_same = issued_slabs b z v.request k gives ∙ begun_slabs old.counts b _ begins

      out_before : b.desk.out ≡ old.counts.desk.out
      out_before = begun_out old.counts b _ begins

      new_one : WasIssued (given ∷ t) old.counts.zone (record { number = k.number; asked = k.asked; writer = v.request; block = None })
      new_one = (0, omega arith, ap (λ (zone : ℕ). Asks v.request (record { zone = zone; number = k.number; asked = k.asked })) here)

      knows : KnowsTickets s (given ∷ t) old.counts.zone z
      knows = record {
        tickets_are = λ number.
            issued_tickets b z v.request k number ((begun_keeps old.counts b begins).numbered numbered) gives
            ∙ ap (λ (o : Option (Option Pbn)). if k.number == number then Some None else o) (ap (λ (out : List Waiting). ticket_of out number) out_before ∙ known.own.lists.tickets_are number)
            ∙ sym (ap (λ (c : Bool). if c && nat_eq k.number number then Some None else ticket_at s.sizes t old.counts.zone number) here_true);
        issued_is =
            let more = issued_next b z v.request k gives in
            let was = begun_next old.counts b _ begins in
            let one = ap bit here_true in
            let before = known.own.lists.issued_is in
            omega (arith, more, was, one, before);
        passed = λ x some.
            let same = issues_out b.desk z.desk v.request k x gives.issues in
            let was = ap (λ (out : List Waiting). total (waits_with x) out) out_before in
            of_zone_kept old.counts z x kept (known.own.sound.passed x (omega (arith, some, same, was)));
        out_are = issued_all (WasIssued (given ∷ t) old.counts.zone) b z v.request k gives new_one
            (subst (All (WasIssued (given ∷ t) old.counts.zone)) (sym out_before) (issued_kept given t old.counts.zone old.counts.desk.out known.own.lists.out_are));
      }

      data_ok : DataOk s (given ∷ t) n (at.Physical (with_counts z old))
      data_ok =
          let counters = λ (y : Pbn). ap (counter_in y) slabs_same in
          let claims = λ (y : Pbn). ap (claims_in y) slabs_same in
          after_ok known.own (given ∷ t) z no_block no_block no_block (issued_is_zone b z v.request k (begun_is_zone old.counts b _ is_zone begins) gives) kept
          (record { uses = λ y. omega (arith, counters y, claims y); claims = λ y. omega (arith, claims y) })
          (λ y some. let before = known.own.sound.first_claims y (omega (arith, some, claims y)) in (omega (arith, before.0, counters y), omega (arith, before.1, claims y)))
          (λ y. omega arith) (λ y. omega arith) refl knows

      all_asked : AllByRecursion (λ j. Contains (given ∷ t) (Asks v.request j)) held.tickets
      all_asked = every-append (λ j. Contains (given ∷ t) (Asks v.request j)) v.tickets (k ∷ []) (asked_kept given t v.request v.tickets asks.asked) ((0, omega arith, refl), tt)

      in_turn : AreInTurn s.sizes v.place held.tickets
      in_turn = turn_more s.sizes v.place v.tickets k asks.in_turn (here ∙ sym asks_here)

      one_more : length held.tickets ≡ length v.tickets + 1
      one_more = length-append v.tickets (k ∷ [])

      -- it asks on ..
      asking_on : nat_lt (length held.tickets) s.sizes.physical ≡ true → (o : Option PageId) → v.page ≡ o → CarriesFor s t v phase.Claim o → CarriesFor s (given ∷ t) held phase.Claim o
      asking_on less None bare k' = (
        (holds_on s t v given tt None bare (k'.0, k'.1, k'.3)).0,
        k'.1,
        record { not_zeros = k'.2.not_zeros; none_taken = k'.2.none_taken },
        k'.3,
        record { in_turn = in_turn; fewer = ltb-true _ _ less; asked = all_asked },
      )
      asking_on less (Some page) some k' =
          let holds = holds_on s t v given tt (Some page) some (k'.0, k'.1) in
          (holds.0, holds.1, record { in_turn = in_turn; fewer = ltb-true _ _ less; asked = all_asked }, k'.3)

      -- .. or has asked each zone
      none_taken : (o : Option PageId) → CarriesFor s t v phase.Claim o → has_taken t v.request None ≡ false
      none_taken None k' = k'.2.none_taken
      none_taken (Some page) k' = k'.0.spent.none_taken

      lacks : nat_lt (length held.tickets) s.sizes.physical ≡ false → LacksBlock s (given ∷ t) v.request held.tickets
      lacks enough = record {
        newer = [];
        older = given ∷ t;
        moment = refl;
        placed = its_place;
        none_taken = none_taken v.page (in_phase known phase.Claim is);
        each = λ zone inside.
            let (j, has, at) = of_each_zone s.sizes v.place held.tickets in_turn (ltb-false _ _ enough) zone inside in
            inr (j, at, has, each_has (λ i. Contains (given ∷ t) (Asks v.request i)) held.tickets j all_asked has);
      }

      back : nat_lt (length held.tickets) s.sizes.physical ≡ false → IsWithdrawing s (given ∷ t) v.request v.claim held.tickets
      back enough = record {
        turn = v.place;
        in_turn = in_turn;
        few = let fewer = asks.fewer in omega (arith, fewer, one_more);
        some = omega (arith, one_more);
        asked = all_asked;
        lacks = λ none. lacks enough;
        last = λ none. rw (same_self v.request) (sym (newest_added v.tickets k));
      }

      backing_on : nat_lt (length held.tickets) s.sizes.physical ≡ false → (o : Option PageId) → v.page ≡ o → CarriesFor s t v phase.Claim o → CarriesFor s (given ∷ t) (withdrawing held) phase.Withdraw o
      backing_on enough None bare k' = let holds = holds_on s t v given tt None bare (k'.0, k'.1, k'.3) in (holds.0, holds.1, holds.2, back enough)
      backing_on enough (Some page) some k' = let holds = holds_on s t v given tt (Some page) some (k'.0, k'.1) in (holds.0, holds.1, back enough)

      -- the zone of the oldest ticket
      oldest_within : (tickets : List Ticket) → AreInTurn s.sizes v.place tickets → 0 < length tickets → zone_number s.sizes (ticket_zone tickets) < zone_count s.sizes
      oldest_within [] all some = absurd (omega (arith, some))
      oldest_within (j ∷ others) all some = let below = first_inside s.sizes v.place j others some_zones all in omega (arith, below)

      posted : PostOk s (given ∷ t) (asks_on s.sizes held)
      posted = by (nat_lt (length held.tickets) s.sizes.physical) refl
        where
          by : (less : Bool) → nat_lt (length held.tickets) s.sizes.physical ≡ less
              → PostOk s (given ∷ t) (if less then (counts_of s.sizes held, item.Request held) else (ticket_zone held.tickets, item.Request (withdrawing held)))
          by true less =
              let carries = asking_on less v.page refl (in_phase known phase.Claim is) in
              let claim : ClaimFor s held phase.Claim = record { claim_is = (claim_in known phase.Claim is).claim_is; on_data = (claim_in known phase.Claim is).on_data; no_ticket = λ asks. absurd cc } in (
                counts_within s.sizes held some_zones,
                (
                  vio_over s given t v refl (vio_ok known),
                  subst (Carries s (given ∷ t) held) (sym is) carries,
                  ap (zone_at s.sizes held) (sym is),
                  subst (ClaimFor s held) (sym is) claim,
                ),
              )
          by false enough = (
            oldest_within held.tickets in_turn (omega (arith, one_more)),
            (
              vio_over s given t v refl (vio_ok known),
              backing_on enough v.page refl (in_phase known phase.Claim is),
              refl,
              record { claim_is = (claim_in known phase.Claim is).claim_is; on_data = λ claims. tt; no_ticket = λ asks. absurd cc },
            ),
          )

      pub asks_ok : After (with_counts z old) (given ∷ []) (asks_on s.sizes held ∷ [])
      asks_ok = act_one known given (plain_clears known given t tt number_here (own_request known) tt tt) (λ g fair. g (fair_before s given t fair)) right_given data_ok (posted, tt)

  -- It withdraws its oldest ticket.
  module _ (is : v.phase ≡ phase.Withdraw) (k : Ticket) (others : List Ticket) (has : v.tickets ≡ k ∷ others) (b : Zone) (begins : BeginsNext old.counts b) where
    withdrawing_for : (o : Option PageId) → CarriesFor s t v phase.Withdraw o → IsWithdrawing s t v.request v.claim v.tickets
    withdrawing_for None k' = k'.3
    withdrawing_for (Some page) k' = k'.2

    holding_back : (o : Option PageId) → CarriesFor s t v phase.Withdraw o → HoldsFor s t v o
    holding_back None k' = (k'.0, k'.1, k'.2)
    holding_back (Some page) k' = (k'.0, k'.1)

    withdraws : IsWithdrawing s t v.request v.claim v.tickets
    withdraws = withdrawing_for v.page (in_phase known phase.Withdraw is)

    turns : AreInTurn s.sizes withdraws.turn (k ∷ others)
    turns = subst (AreInTurn s.sizes withdraws.turn) has withdraws.in_turn

    few : length (k ∷ others) ≤ s.sizes.physical
    few = subst (λ (tickets : List Ticket). length tickets ≤ s.sizes.physical) has withdraws.few

    were_asked : AllByRecursion (λ j. Contains t (Asks v.request j)) (k ∷ others)
    were_asked = subst (AllByRecursion (λ j. Contains t (Asks v.request j))) has withdraws.asked

    ticket_here : k.zone ≡ old.counts.zone
    ticket_here =
        let to : n ≡ zone_number s.sizes (ticket_zone (k ∷ others)) = known.front_ok.0.2 ∙ ap (λ (q : Phase). zone_at s.sizes v q) is ∙ ap (λ (tickets : List Ticket). zone_number s.sizes (ticket_zone tickets)) has in
        let number = known.own.number_is in
        omega (arith, to, number)

    ticket_true : nat_eq k.zone old.counts.zone ≡ true
    ticket_true = eq-eqb _ _ ticket_here

    -- What is worth so, it gets.
    module _ (z : Zone) (worth : Withdrawn) (got : Option Pbn) (from : WithdrawsFrom b z k worth) (out_is : ticket_of b.desk.out k.number ≡ Some got) where
      abbrev back_taken : Happening
      back_taken = Withdraws v.request k got

      right_back : RightTrace s (back_taken ∷ t)
      right_back = (
        record {
          is_open = (vio_ok known).is_open;
          asked = were_asked.0;
          out =
              ap (λ (zone : ℕ). ticket_at s.sizes t zone k.number) ticket_here
              ∙ sym (known.own.lists.tickets_are k.number)
              ∙ ap (λ (out : List Waiting). ticket_of out k.number) (sym (begun_out old.counts b _ begins))
              ∙ out_is;
        },
        shown_plain s t back_taken tt (shown_of s t known.right),
        known.right,
      )

      back_kept : IsKeptBy old.counts z
      back_kept = back_keeps old.counts b begins z k worth from

      back_slabs : z.slabs ≡ old.counts.slabs
      back_slabs = withdrawn_slabs b z k worth from ∙ begun_slabs old.counts b _ begins

      back_out : (y : Pbn) → out_with y z.desk ≤ out_with y old.counts.desk
      back_out y =
          let less = withdraws_out b.desk z.desk k worth y from.withdraws in
          let was = ap (λ (out : List Waiting). total (waits_with y) out) (begun_out old.counts b _ begins) in
          omega (arith, less, was)

      back_data : DataOk s (back_taken ∷ t) n (at.Physical (with_counts z old))
      back_data =
          let counters = λ (y : Pbn). ap (counter_in y) back_slabs in
          let claims = λ (y : Pbn). ap (claims_in y) back_slabs in
          after_ok known.own (back_taken ∷ t) z no_block no_block no_block (withdrawn_is_zone b z k worth (begun_is_zone old.counts b _ is_zone begins) from) back_kept
          (record { uses = λ y. omega (arith, counters y, claims y); claims = λ y. omega (arith, claims y) })
          (λ y some. let before = known.own.sound.first_claims y (omega (arith, some, claims y)) in (omega (arith, before.0, counters y), omega (arith, before.1, claims y)))
          (λ y. omega arith) (λ y. omega arith) refl
          (record {
            tickets_are = λ number.
                withdrawn_tickets b z k worth number ((begun_keeps old.counts b begins).numbered numbered) from
                ∙ ap (λ (o : Option (Option Pbn)). if k.number == number then None else o) (ap (λ (out : List Waiting). ticket_of out number) (begun_out old.counts b _ begins) ∙ known.own.lists.tickets_are number)
                ∙ sym (ap (λ (c : Bool). if c && nat_eq k.number number then None else ticket_at s.sizes t old.counts.zone number) ticket_true);
            issued_is = withdrawn_next b z k worth from ∙ begun_next old.counts b _ begins ∙ known.own.lists.issued_is;
            passed = λ y some. of_zone_kept old.counts z y back_kept (known.own.sound.passed y (let less = back_out y in omega (arith, some, less)));
            out_are = withdrawn_all (WasIssued (back_taken ∷ t) old.counts.zone) b z k worth from
                (subst (All (WasIssued (back_taken ∷ t) old.counts.zone)) (sym (begun_out old.counts b _ begins)) (issued_kept back_taken t old.counts.zone old.counts.desk.out known.own.lists.out_are));
          })

      back_number : n ≡ physical_number s.sizes k.zone
      back_number = known.own.number_is ∙ ap (physical_number s.sizes) (sym ticket_here)

      -- what it has then, but for its claim
      left_with : (claim : Option Pbn) (new : Mapping) (receipt : Option Receipt) → (claim ≡ None → LacksBlock s (back_taken ∷ t) v.request others) → (claim ≡ None → HasLast (back_taken ∷ t) (record v { receipt = receipt }) others) → claim ≡ block_in new → OnBlock (λ x. IsDataBlock s.sizes.geometry x.0) new
          → AsksNoMore s (back_taken ∷ t) (record v { phase = v.phase; new = new; claim = claim; tickets = others; receipt = receipt })
      left_with claim new receipt lacks last claim_is on_data = record {
        ok = vio_over s back_taken t v refl (vio_ok known);
        holds = holds_left v.page refl (holds_on s t v back_taken tt v.page refl (holding_back v.page (in_phase known phase.Withdraw is)));
        turn = suc withdraws.turn;
        in_turn = turns.1;
        few = omega (arith, few);
        asked = asked_kept back_taken t v.request others were_asked.1;
        lacks = lacks;
        last = λ none. last_left others (last none);
        claim_is = claim_is;
        on_data = on_data;
      }
        where
          holds_left : (o : Option PageId) → v.page ≡ o → HoldsFor s (back_taken ∷ t) v o → HoldsFor s (back_taken ∷ t) (record v { phase = v.phase; new = new; claim = claim; tickets = others; receipt = receipt }) o
          holds_left None bare k' = k'
          holds_left (Some page) some k' = k'

          last_left : (tickets : List Ticket) → HasLast (back_taken ∷ t) (record v { receipt = receipt }) tickets
              → HasLast (back_taken ∷ t) (record v { phase = v.phase; new = new; claim = claim; tickets = others; receipt = receipt }) tickets
          last_left [] k' = k'
          last_left (j ∷ newer) k' = k'

    -- the block that went to a ticket is a data block, which is claimed
    module _ (x : Pbn) (z : Zone) (from : WithdrawsFrom b z k (Block x)) where
      block_out : ticket_of b.desk.out k.number ≡ Some (Some x)
      block_out = withdrawn_block b z k x ((begun_keeps old.counts b begins).numbered numbered) from

      its_block : IsOfZone old.counts x
      its_block =
          let less = withdraws_out b.desk z.desk k (Block x) x from.withdraws in
          let got : is_at x from.withdraws.waiting.block ≡ one_of x x = ap (is_at x) (worth_block b.desk z.desk k x from.withdraws) in
          let one = one_same x x refl in
          let was = ap (λ (out : List Waiting). total (waits_with x) out) (begun_out old.counts b _ begins) in
          known.own.sound.passed x (omega (arith, less, got, one, was))

      block_data : IsDataBlock s.sizes.geometry x.0
      block_data = data_of known.own x its_block

    pub takes_ok : (x : Pbn) (z : Zone) → v.claim ≡ None → (from : WithdrawsFrom b z k (Block x)) → After (with_counts z old) (Withdraws v.request k (Some x) ∷ []) (served (claiming x (with_tickets others v)) ∷ [])
    takes_ok x z none from =
        let h : Happening = Withdraws v.request k (Some x) in
        let right = right_back z (Block x) (Some x) from (block_out x z from) in
        act_one known h (plain_clears known h t tt (back_number z (Block x) (Some x) from (block_out x z from)) (own_request known) tt tt) (λ g fair. g (fair_before s h t fair)) right
        (back_data z (Block x) (Some x) from (block_out x z from)) (
          served_ok s (h ∷ t) some_zones right (claiming x (with_tickets others v)) home
              (as_served (left_with z (Block x) (Some x) from (block_out x z from) (Some x) (At x) v.receipt (λ no. absurd cc) (λ no. absurd cc) refl (block_data x z from))),
          tt,
        )
      where
        as_served : AsksNoMore s (Withdraws v.request k (Some x) ∷ t) (record v { phase = v.phase; new = At x; claim = Some x; tickets = others; receipt = v.receipt }) → AsksNoMore s (Withdraws v.request k (Some x) ∷ t) (claiming x (with_tickets others v))
        as_served k' = record { ok = k'.ok; holds = k'.holds; turn = k'.turn; in_turn = k'.in_turn; few = k'.few; asked = k'.asked; lacks = k'.lacks; last = λ none. absurd cc; claim_is = k'.claim_is; on_data = k'.on_data }

    -- No block went to it.
    module _ (r : Receipt) (z : Zone) (from : WithdrawsFrom b z k (Nothing r)) where
      abbrev in_vain : Happening
      in_vain = Withdraws v.request k None

      none_out : ticket_of b.desk.out k.number ≡ Some None
      none_out = withdrawn_nothing b z k r ((begun_keeps old.counts b begins).numbered numbered) from

      lacks_left : v.claim ≡ None → LacksBlock s (in_vain ∷ t) v.request others
      lacks_left none =
          let l : LacksBlock s t v.request (k ∷ others) = subst (LacksBlock s t v.request) has (withdraws.lacks none) in
          record {
            newer = in_vain ∷ l.newer;
            older = l.older;
            moment = ap (λ (u : Trace). in_vain ∷ u) l.moment;
            placed = l.placed;
            none_taken = l.none_taken;
            each = λ zone inside. elim (l.each zone inside) [
              | inl was ↦ inl (refused_kept in_vain l.newer l.older v.request zone was)
              | inr (j, at, here, was) ↦ elim (contains_cut k others j here) [
                | inl same ↦ inl (record { ticket = k; zone_is = ap (λ (q : Ticket). q.zone) same ∙ at; asked = subst (λ (q : Ticket). Contains l.older (Asks v.request q)) (sym same) was; withdrawn = (0, omega arith, refl) })
                | inr later ↦ inr (j, at, later, was)
              ]
            ];
          }

      -- its receipt is of this ticket
      receipt_is : r.asked ≡ k.asked
      receipt_is =
          let out = subst (All (WasIssued t old.counts.zone)) (sym (begun_out old.counts b _ begins)) known.own.lists.out_are in
          let (waiting, was, number, asked) = withdrawn_one (WasIssued t old.counts.zone) b z k r from out in
          let ticket : Ticket = record { zone = old.counts.zone; number = waiting.number; asked = waiting.asked } in
          let same : ticket ≡ k = same_ticket s t waiting.writer v.request ticket k known.right was were_asked.0 (sym ticket_here) number in
          asked ∙ ap (λ (j : Ticket). j.asked) same

      last_left : v.claim ≡ None → HasLast (in_vain ∷ t) (record v { receipt = Some r }) others
      last_left none = by others (sym (ap newest_ticket has) ∙ sym (withdraws.last none))
        where
          by : (tickets : List Ticket) → newest_ticket (k ∷ tickets) ≡ last_asked t v.request → HasLast (in_vain ∷ t) (record v { receipt = Some r }) tickets
          by [] same = record { ticket = k; last = sym same; given = r; receipt_is = refl; asked = receipt_is }
          by (j ∷ newer) same = sym same

      pub lacks_ok : After (with_counts z old) (in_vain ∷ []) (served (refused r (with_tickets others v)) ∷ [])
      lacks_ok =
          let claim = claim_in known phase.Withdraw is in
          act_one known in_vain (plain_clears known in_vain t tt (back_number z (Nothing r) None from none_out) (own_request known) tt tt) (λ g fair. g (fair_before s in_vain t fair)) (right_back z (Nothing r) None from none_out)
          (back_data z (Nothing r) None from none_out) (
            served_ok s (in_vain ∷ t) some_zones (right_back z (Nothing r) None from none_out) (refused r (with_tickets others v)) home
                (left_with z (Nothing r) None from none_out v.claim v.new (Some r) lacks_left last_left claim.claim_is (claim.on_data refl)),
            tt,
          )

    -- A block went to it that it doesn't need: that is dropped at once.
    module _ (x y : Pbn) (m z : Zone) (some : v.claim ≡ Some y) (from : WithdrawsFrom b m k (Block x)) (claimed : IsClaimedIn m x) (change : Changes m z x (unclaimed (slab_of m x) x)) where
      abbrev got : Happening
      got = Withdraws v.request k (Some x)

      abbrev drops : Happening
      drops = Drops v.request x (served_ticket change.serves)

      between : DataOk s (got ∷ t) n (at.Physical (with_counts m old))
      between = back_data m (Block x) (Some x) from (block_out x m from)

      right_got : RightTrace s (got ∷ t)
      right_got = right_back m (Block x) (Some x) from (block_out x m from)

      right_drops : RightTrace s (drops ∷ got ∷ t)
      right_drops = (
        ((vio_over s got t v refl (vio_ok known)).is_open, drop_follows between v.request x z claimed change),
        shown_plain s (got ∷ t) drops tt (shown_of s (got ∷ t) right_got),
        right_got,
      )

      spared : AsksNoMore s (drops ∷ got ∷ t) (with_tickets others v)
      spared =
          let claim = claim_in known phase.Withdraw is in
          let u : Vio = with_tickets others v in
          let k' : AsksNoMore s (got ∷ t) u = left_with m (Block x) (Some x) from (block_out x m from) v.claim v.new v.receipt (λ none. absurd (let both : Some y ≡ None = sym some ∙ none in cc)) (λ none. absurd (let both : Some y ≡ None = sym some ∙ none in cc)) claim.claim_is (claim.on_data refl) in
          record {
            ok = vio_over s drops (got ∷ t) u refl k'.ok;
            holds = holds_on s (got ∷ t) u drops tt u.page refl k'.holds;
            turn = k'.turn;
            in_turn = k'.in_turn;
            few = k'.few;
            asked = asked_kept drops (got ∷ t) v.request others k'.asked;
            lacks = λ none. absurd (let both : Some y ≡ None = sym some ∙ none in cc);
            last = λ none. absurd (let both : Some y ≡ None = sym some ∙ none in cc);
            claim_is = k'.claim_is;
            on_data = k'.on_data;
          }

      pub spares_ok : After (with_counts z old) (drops ∷ got ∷ []) (served (with_tickets others v) ∷ [])
      spares_ok = record {
        right = right_drops;
        gives = λ g fair. g (fair_before s got t (fair_before s drops (got ∷ t) fair));
        owns = (
          reaches known (plain_clears known drops (got ∷ t) tt (number_of between x claimed.own) (own_request known) tt tt),
          (reaches known (plain_clears known got t tt (back_number m (Block x) (Some x) from (block_out x m from)) (own_request known) tt tt), tt),
        );
        own = dropped_ok between v.request x z claimed change;
        posts_ok = (served_ok s (drops ∷ got ∷ t) some_zones right_drops (with_tickets others v) home spared, tt);
      }
