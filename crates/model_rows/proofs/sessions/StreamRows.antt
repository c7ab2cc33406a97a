-- What was sent to a logical zone, what drew its place there, and the order between: each clause with a case that it accepts
-- and one that breaks it alone.
use Rattle.std.proofs.Common.{ℕ, zero, suc, ◌≡◌, ◌++◌, Some, List, [], ◌∷◌, slice_get, refl, sym, subst}
use Rattle.std.proofs.lemmas.Option.{same_Some}
use Rattle.blk_base.specs.declared.request.Answer.TheVariants as reply
use Rattle.blk_base.specs.declared.request.Writer.{Writer}
use Rattle.vdo_model.specs.declared.report.DeskLine.TheVariants.{Begin, Answer}
use Rattle.data_vio.specs.declared.items.Asks.TheVariants as asks
use Rattle.data_vio.specs.declared.items.Item.{Item}
use Rattle.data_vio.specs.declared.items.Item.TheVariants.{Request, StopNotice}
use Rattle.data_vio.specs.declared.items.Phase.TheVariants as phase
use Rattle.core_model.specs.declared.zones.Zone.{Zone}
use Rattle.core_model.specs.declared.zones.ZoneData.{ZoneData}
use Rattle.core_model.specs.Arrivals.{arrivals_at, drew_in, sent_to_zone}
use Rattle.core_model.specs.Facts.{arrival}
use Rattle.core_model.specs.Streams.{Flows, counted}
use Rattle.core_model.specs.Trace.{Trace, Says, Draws, places}
use Rattle.core_model.proofs.ZoneForms.{desk, logical}
use Rattle.model_rows.proofs.sessions.PhaseRows.{vio}
use Rattle.core_model.proofs.WorkedTraces.{first, reader, second, other, session, begun, drawn, place}

-- sent_to_zone: those whose address is of the zone, in the order of their begins; not the one of the other zone, nor a flush
sent_to_first : sent_to_zone session 0 begun ≡ first ∷ reader ∷ second ∷ []
sent_to_first = refl

sent_to_other : sent_to_zone session 1 begun ≡ other ∷ []
sent_to_other = refl

-- not one that was answered at once; but one that was answered later, and one before whose answer another was begun
sent-not_at_once : sent_to_zone session 0 (Says (Answer first reply.Stopped) ∷ Says (Begin first) ∷ []) ≡ []
sent-not_at_once = refl

sent-answered_later : sent_to_zone session 0 (Says (Answer first reply.Ok) ∷ Draws (place first 0 0) ∷ Says (Begin first) ∷ []) ≡ first ∷ []
sent-answered_later = refl

sent-another_answered : sent_to_zone session 0 (Says (Answer first reply.Ok) ∷ Says (Begin second) ∷ Draws (place first 0 0) ∷ Says (Begin first) ∷ []) ≡ first ∷ second ∷ []
sent-another_answered = refl

-- drew_in: in the order of their places
drew_in_first : drew_in 0 (places drawn) ≡ first ∷ second ∷ reader ∷ []
drew_in_first = refl

drew_in_other : drew_in 1 (places drawn) ≡ other ∷ []
drew_in_other = refl

-- a request that has yet to draw its place, and one that has it
arrives : Writer → Item
arrives w = Request (vio w asks.Write phase.Arrive 0)

counted-arrivals_alone : counted arrival (Request (vio first asks.Write phase.Arrive 0) ∷ StopNotice ∷ Request (vio second asks.Write phase.Settle 1) ∷ []) ≡ first ∷ []
counted-arrivals_alone = refl

-- Three zones: the desk with a lane to zone 1, zone 1 with its inbox, and zone 2 with a lane to zone 1.
abbrev zone : ℕ → ZoneData → List Item → List Item → Zone
zone number keeps inbox lane = record { number = number; steps = 0; keeps = keeps; ports = record { inbox = inbox; outboxes = [] ∷ lane ∷ [] ∷ [] } }

abbrev kept : ZoneData
kept = logical 0 [] [] [] [] []

abbrev zones : List Item → List Item → List Item → List Zone
zones inbox lane others = zone 0 (desk [] [] 0 []) [] lane ∷ zone 1 kept inbox [] ∷ zone 2 kept [] others ∷ []

-- the first request drew its place, and two more were sent
abbrev now : Trace
now = Draws (place first 0 0) ∷ begun

abbrev one : Writer → List Item
one w = Request (vio w asks.Write phase.Arrive 0) ∷ []

abbrev InOrder : List Item → List Item → Type 0
InOrder inbox lane = sent_to_zone session 0 now ≡ drew_in 0 (places now) ++ (counted arrival inbox ++ counted arrival lane)

-- what a lane holds where it holds something else by its place
only : (lane items : List Item) → ◌≡◌ {A = _} (Some lane) (Some items) → lane ≡ items
only lane items is = same_Some _ _ is

order : (inbox lane others : List Item) → InOrder inbox lane → (receiver sender : Zone) (items : List Item)
    → slice_get (zones inbox lane others) 1 ≡ Some receiver → slice_get (zones inbox lane others) 0 ≡ Some sender → slice_get sender.ports.outboxes 1 ≡ Some items
    → sent_to_zone session 0 now ≡ drew_in 0 (places now) ++ (counted arrival receiver.ports.inbox ++ counted arrival items)
order inbox lane others is receiver sender items hr hs hl =
    let r : zone 1 kept inbox [] ≡ receiver = same_Some _ _ hr in
    let q : zone 0 (desk [] [] 0 []) [] lane ≡ sender = same_Some _ _ hs in
    let held : lane ≡ items = only lane items (subst (λ (z : Zone). slice_get z.ports.outboxes 1 ≡ Some items) (sym q) hl) in
    subst (λ (z : Zone). sent_to_zone session 0 now ≡ drew_in 0 (places now) ++ (counted arrival z.ports.inbox ++ counted arrival items)) r
    (subst (λ (these : List Item). sent_to_zone session 0 now ≡ drew_in 0 (places now) ++ (counted arrival inbox ++ counted arrival these)) held is)

none_else : (inbox lane others : List Item) → counted arrival others ≡ [] → (n : ℕ) (z : Zone) → slice_get (zones inbox lane others) n ≡ Some z → (n ≡ 0 → ⊥)
    → (items : List Item) → slice_get z.ports.outboxes 1 ≡ Some items → counted arrival items ≡ []
none_else inbox lane others none zero z had ne items hl = absurd (ne refl)
none_else inbox lane others none (suc zero) z had ne items hl =
    let q : zone 1 kept inbox [] ≡ z = same_Some _ _ had in
    let held : [] ≡ items = only [] items (subst (λ (y : Zone). slice_get y.ports.outboxes 1 ≡ Some items) (sym q) hl) in
    subst (λ (these : List Item). counted arrival these ≡ []) held refl
none_else inbox lane others none (suc (suc zero)) z had ne items hl =
    let q : zone 2 kept [] others ≡ z = same_Some _ _ had in
    let held : others ≡ items = only others items (subst (λ (y : Zone). slice_get y.ports.outboxes 1 ≡ Some items) (sym q) hl) in
    subst (λ (these : List Item). counted arrival these ≡ []) held none
none_else inbox lane others none (suc (suc (suc n))) z had ne items hl = absurd cc

-- Flows: the reader is in the inbox and the second write in the lane, behind a stop notice that counts for nothing
flows : Flows (arrivals_at session 0) now (zones (one reader) (StopNotice ∷ one second) [])
flows = record { in_order = order (one reader) (StopNotice ∷ one second) [] refl; alone = none_else (one reader) (StopNotice ∷ one second) [] refl }

-- not in another order, not where one is lost, and not where one is there twice
flows-not_in_another_order : Flows (arrivals_at session 0) now (zones (one second) (one reader) []) → ⊥
flows-not_in_another_order flows = let is = flows.in_order _ _ _ refl refl refl in absurd cc

flows-not_lost : Flows (arrivals_at session 0) now (zones (one reader) [] []) → ⊥
flows-not_lost flows = let is = flows.in_order _ _ _ refl refl refl in absurd cc

flows-not_twice : Flows (arrivals_at session 0) now (zones (one reader) (Request (vio reader asks.Write phase.Arrive 0) ∷ one second) []) → ⊥
flows-not_twice flows = let is = flows.in_order _ _ _ refl refl refl in absurd cc

flows-not_in_another_order_alone : (n : ℕ) (z : Zone) → slice_get (zones (one second) (one reader) []) n ≡ Some z → (n ≡ 0 → ⊥) → (items : List Item) → slice_get z.ports.outboxes 1 ≡ Some items → counted arrival items ≡ []
flows-not_in_another_order_alone = none_else (one second) (one reader) [] refl

-- nor where another zone has one on its way there
flows-not_from_another_zone : Flows (arrivals_at session 0) now (zones (one reader) (one second) (one first)) → ⊥
flows-not_from_another_zone flows = let is = flows.alone 2 _ refl (λ e. absurd cc) _ refl in absurd cc

flows-not_from_another_zone_alone : InOrder (one reader) (one second)
flows-not_from_another_zone_alone = refl
