-- Over an act of a legal core: what its zone owes, and everything beside what is served stays as it was.
use Rattle.std.proofs.Common.{◌≡◌, ℕ, ◌+◌, ◌≤◌, append_assoc, Some, List, [], ◌∷◌, ◌++◌, slice_get, refl, ap, ◌∙◌, subst, arith}
use Rattle.core_laws.proofs.Common.{AllByRecursion, DataOk, IsFair, IsSession, KeptOk, durable, Item, ItemOk, LogicalZone, Phase, Post, Session, Trace, Vio, Writer, Zone, ZoneData, arrival, arriving, desk_number, every-front, kept_by, of_vio, places, total, total-append, total-get, Pbn, weight}
use Rattle.data_vio.specs.declared.items.Item.TheVariants as item
use Rattle.data_vio.specs.declared.items.Phase.TheVariants as phase
use Rattle.core_model.specs.declared.zones.ZoneData.TheVariants as at
use Rattle.core_model.specs.Arrivals.{drew_in}
use Rattle.core_model.specs.Legal.{Legal, ComesAfter}
use Rattle.core_model.specs.Steps as steps
use Rattle.core_model.specs.Steps.{Act, Core}
use Rattle.core_model.specs.Streams.{counted}
use Rattle.core_model.specs.CountUpdates.{CountUpdate, updates_in, updates_of, updates_taken}
use Rattle.core_model.specs.UpdateStream.{updating}
use Rattle.core_model.specs.declared.zones.PhysicalZone.{PhysicalZone}
use Rattle.core_laws.proofs.kept.Streams.{counted-append}
use Rattle.core_laws.proofs.lists.CountedIn.{counted_part}
use Rattle.core_laws.proofs.desk.DeskFacts.{desk_begins, desk_serves, desk_hears}
use Rattle.core_laws.proofs.device.DeviceFacts.{device_serves}
use Rattle.core_laws.proofs.device.DeviceFacts.{device_hears, device_works}
use Rattle.core_laws.proofs.journal.JournalFacts.{journal_ends}
use Rattle.core_laws.proofs.journal.JournalFacts.{journal_serves, journal_notified}
use Rattle.core_laws.proofs.kept.ActKept.{Known, Owns, ActKept}
use Rattle.core_laws.proofs.kept.Arrivals.{arrives_in_turn}
use Rattle.core_laws.proofs.kept.FreeBlocks.{updates_flow}
use Rattle.core_laws.proofs.kept.Frame.{Sides, sides_before, sides_after}
use Rattle.core_laws.proofs.kept.Keys.{clears_with}
use Rattle.core_laws.proofs.kept.KeysOnce.{most_here, unborn_here, none_beside}
use Rattle.core_laws.proofs.kept.MapCounts.{durable_mapped}
use Rattle.core_laws.proofs.kept.SoleWriter.{holder_unused, unowed_token}
use Rattle.core_laws.proofs.tokens.Lift.{items_total}
use Rattle.core_model.specs.RightTraces.{IsUnused}
use Rattle.core_model.specs.Tokens.{unowed_weight}
use Rattle.core_laws.proofs.kept.ZoneKinds.{stood, desk_sits}
use Rattle.core_laws.proofs.logical.HearingFacts.{logical_hears}
use Rattle.core_laws.proofs.tokens.ActSums.{settling_has, settling_taken}
use Rattle.core_laws.proofs.tokens.Known.{SettlingLeased}
use Rattle.core_model.specs.LogicalFacts.{AwaitsReport}
use Rattle.core_laws.proofs.logical.LogicalActs.{logical_serves, logical_notified}
use Rattle.core_laws.proofs.physical.PhysicalFacts.{physical_serves, physical_updates, physical_notified}
use Rattle.core_laws.proofs.tokens.Owners.{leased_front, leased_kept}

-- each act, by its zone
pub by_act : {s : Session} {t : Trace} {n : ℕ} {old new : ZoneData} {front : List Item} {made : Trace} {posts : List Post} → Act s.sizes old front new made posts → Known s t n old front → ActKept s t n old front new made posts
by_act (steps.begins act) known = desk_begins known _ _ _ act
by_act (steps.answers act) known = desk_serves known _ _ _ act
by_act steps.hears known = desk_hears known
by_act (steps.serves act) known = logical_serves known _ _ _ act
by_act steps.serves_notice known = logical_notified known
by_act (steps.takes act) known = physical_serves known _ _ _ act
by_act steps.takes_notice known = physical_notified known
by_act (steps.enters act) known = journal_serves known _ _ _ act
by_act (steps.ends act) known = journal_ends known _ _ _ act
by_act steps.enters_notice known = journal_notified known
by_act (steps.calls act) known = device_serves known _ _ _ act
by_act (steps.works act) known = device_works known _ _ _ act
by_act (steps.settles act) known = logical_hears known _ _ _ act
by_act (steps.updates act) known = physical_updates known _ _ _ act
by_act (steps.halts act) known = device_hears known _ _ _ act

module _ (s : Session) (session : IsSession s) (core : Core) (legal : Legal s core) (n : ℕ) (z : Zone) (had : slice_get core.zones n ≡ Some z) (front rest : List Item) (taken : z.ports.inbox ≡ front ++ rest) where
  own_ok : (d : ZoneData) → z.keeps ≡ d → DataOk s core.trace n d
  own_ok d is = subst (λ (e : ZoneData). DataOk s core.trace n e) is (legal.each n z had).own

  -- an arrival comes in the order of its stream
  in_turn : (old : LogicalZone) (v : Vio) → z.keeps ≡ at.Logical old → front ≡ item.Request v ∷ [] → v.phase ≡ phase.Arrive → AllByRecursion (ComesAfter old.zone v.request) (places core.trace)
  in_turn old v keeps is arrives =
      let desk = desk_sits s core.trace core.zones legal.each legal.count in
      let lanes = (legal.each desk_number desk.zone desk.had).lanes in
      let k : DataOk s core.trace n (at.Logical old) = own_ok (at.Logical old) keeps in
      let place = k.number_is in let among = k.sound.among in
      let lane = stood desk.zone.ports.outboxes n (omega (arith, lanes, place, among)) in
      let order = (legal.in_order old.zone among).in_order z desk.zone lane.it (subst (λ (i : ℕ). slice_get core.zones i ≡ Some z) place had) desk.had (subst (λ (i : ℕ). slice_get desk.zone.ports.outboxes i ≡ Some lane.it) place lane.is) in
      let inbox = ap (counted arrival) (taken ∙ ap (λ (items : List Item). items ++ rest) is) ∙ first v.phase arrives in
      arrives_in_turn s core.trace old.zone v.request (counted arrival rest ++ counted arrival lane.it) legal.right
      (order ∙ ap (λ (us : List Writer). drew_in old.zone (places core.trace) ++ (us ++ counted arrival lane.it)) inbox)
    where
      first : (q : Phase) → q ≡ phase.Arrive → arriving q v.request ++ counted arrival rest ≡ v.request ∷ counted arrival rest
      first q is = rw is refl

  -- who waits for a report has the lock of its address
  settling_leased : SettlingLeased z.keeps front
  settling_leased l e keeps is v found =
      let k : DataOk s core.trace n (at.Logical l) = own_ok (at.Logical l) keeps in
      let waits = (settling_has s.sizes (KeptOk s core.trace phase.Settle) e.request l.settling v found k.kept.2).0 in
      let awaits = (settling_has s.sizes (AwaitsReport l.zone l.reported) e.request l.settling v found k.sound.reports).0 in
      leased_kept s core.trace core.zones n z l v legal.each (legal.leases v.at.0) had keeps awaits.at_home waits.0 (rw waits.2 refl) (λ f.
      let taken = settling_taken s.sizes e.request f l.settling v found in
      omega (arith, taken, total-append f l.waiting (l.lacking ++ l.settling), total-append f l.lacking l.settling))

  -- updates come in the order of the committed entries
  next_updates : (p : PhysicalZone) → z.keeps ≡ at.Physical p
      → (more : List CountUpdate) × (updates_in s.sizes p.counts.zone (updates_of (durable core.trace)) ≡ updates_in s.sizes p.counts.zone (updates_taken core.trace) ++ (updates_in s.sizes p.counts.zone (counted updating front) ++ more))
  next_updates p keeps =
      let (lane, order) = updates_flow s core legal n z p had keeps in
      let here : List Item → List CountUpdate = counted (λ it. updates_in s.sizes p.counts.zone (updating it)) in
      let before = updates_in s.sizes p.counts.zone (updates_taken core.trace) in
      let inbox : here z.ports.inbox ≡ here front ++ here rest = ap here taken ∙ counted-append (λ it. updates_in s.sizes p.counts.zone (updating it)) front rest in (
        here rest ++ here lane,
        order ∙ ap (λ (us : List CountUpdate). before ++ (us ++ here lane)) inbox
            ∙ ap (λ (us : List CountUpdate). before ++ us) (append_assoc (here front) (here rest) (here lane))
            ∙ ap (λ (us : List CountUpdate). before ++ (us ++ (here rest ++ here lane))) (counted_part s.sizes p.counts.zone front),
      )

  -- so nobody maps a block on which what is in front, or what the zone keeps, has a claim
  unused : (x : Pbn) → 1 ≤ total (of_vio (unowed_weight x)) front + total (unowed_weight x) (kept_by z.keeps) → IsFair s core.trace → IsUnused s core.trace x
  unused x some fair = holder_unused s core legal x session.zones.1 (durable_mapped s core.trace x session legal.right fair) (omega (arith, some, here))
    where
      here : total (of_vio (unowed_weight x)) front + total (unowed_weight x) (kept_by z.keeps) ≤ total (weight (unowed_token x)) core.zones
      here =
          let weighs = total-get (weight (unowed_token x)) core.zones n z had in
          let inbox = ap (total (of_vio (unowed_weight x))) taken in
          let parts = total-append (of_vio (unowed_weight x)) front rest in
          let kept = items_total (of_vio (unowed_weight x)) (kept_by z.keeps) in
          omega (arith, weighs, inbox, parts, kept)

  pub known : Known s core.trace n z.keeps front
  known = record {
    session = session;
    right = legal.right;
    own = (legal.each n z had).own;
    front_ok = (every-front (ItemOk s core.trace n) front rest (subst (λ (items : List Item). AllByRecursion (ItemOk s core.trace n) items) taken (legal.each n z had).inbox)).0;
    most = most_here s core legal n z had front rest taken;
    none_unborn = unborn_here s core legal n z had front rest taken;
    leased = λ l v keeps is. leased_front s core.trace core.zones n z l v rest legal.each (legal.leases v.at.0) had (taken ∙ ap (λ (items : List Item). items ++ rest) is) keeps;
    in_turn = in_turn;
    settling_leased = settling_leased;
    next_updates = next_updates;
    unused = unused;
  }

  -- what happens is its own, so everybody else keeps their facts
  pub sides : (made : Trace) → Owns s core.trace n z.keeps front made → Sides s (made ++ core.trace) core.zones n (record z { ports = record z.ports { inbox = rest } })
  sides [] owns = sides_before s core.trace core.zones n z front rest legal.each had taken
  sides (h ∷ made) owns = sides_after s (made ++ core.trace) core.zones n (record z { ports = record z.ports { inbox = rest } }) h (clears_with (none_beside s core legal n z had front rest taken) owns.0) (sides made owns.1)
