-- In a legal core nobody maps a free block, nor one on which there is a claim whose entry isn't handed in; and what is counted of a
-- block is what the updates that were taken come to.
use Rattle.std.proofs.Common.{◌≡◌, ◌<◌, ◌≤◌, ◌+◌, ◌-◌, ◌++◌, ℕ, zero, suc, false, Contains, List, [], ◌∷◌, Some, slice_get, refl, ap, sym, ◌∙◌, subst, inl, inr, arith}
use Rattle.core_laws.proofs.Common.{DataOk, IsFair, IsSession, Item, Mapping, Pbn, PhysicalZone, Session, Vio, Zone, ZoneData, claim_token, claim_weight, durable, journal_number, of_vio, opened_image, physical_number, owes, total, total-get, weight}
use Rattle.blk_base.specs.Counters.{limit_of}
use Rattle.blk_base.specs.Regions.{IsDataBlock}
use Rattle.blk_base.specs.declared.geometry.Geometry.{Geometry}
use Rattle.blk_base.specs.declared.journal_entry.CommittedEntry.{CommittedEntry}
use Rattle.blk_base.specs.declared.place.PageId.{PageId}
use Rattle.blk_base.specs.Pages.{above, slot_of, leaf_of, slot_of_address}
use Rattle.count_laws.proofs.BelowLaws.{same_up_to}
use Rattle.count_laws.proofs.StepLaws.{number_of_pages}
use Rattle.count_laws.specs.Turns.{HasMappingsAfter, IsPageAfter}
use Rattle.core_laws.proofs.kept.Keys.{claim_one}
use Rattle.core_laws.proofs.kept.MapCounts.{durable_mapped}
use Rattle.core_laws.proofs.kept.SoleWriter.{held_counted_there, holder_unused, left_over, none_left_unused, physical, physical_here, physical_ok, unowed_token}
use Rattle.core_laws.proofs.kept.Spared.{contains_cut}
use Rattle.core_laws.proofs.kept.ZoneKinds.{journal_sits, physical_below, physical_sits, stood}
use Rattle.core_laws.proofs.lists.CountedIn.{of_zone}
use Rattle.data_vio.specs.Zones.{physical_zone_of}
use Rattle.core_laws.proofs.trace.EntriesInTurn.{pointed}
use Rattle.core_laws.proofs.trace.NoStrays.{all_taken}
use Rattle.core_model.specs.CountUpdates.{CountUpdate, updates_in, updates_of, updates_taken}
use Rattle.core_model.specs.Legal.{Legal}
use Rattle.core_model.specs.RightTraces.{IsUnused}
use Rattle.core_model.specs.Sessions.{said_by}
use Rattle.core_model.specs.Steps.{Core}
use Rattle.core_model.specs.Streams.{counted as counted_in}
use Rattle.core_model.specs.Tokens.{unowed_weight}
use Rattle.core_model.specs.UpdateStream.{updates_at}
use Rattle.core_model.specs.Uses.{IsFreeAt, counted, uncounted}
use Rattle.core_model.specs.declared.zones.ZoneData.TheVariants as at
use Rattle.data_vio.specs.declared.items.Item.TheVariants.{Request}
use Rattle.image_model.specs.Maps.{Image, put_last, target_of}
use Rattle.image_model.specs.Pages.{address_count}
use Rattle.journal_stops.proofs.GrowLaws.{by_leaf, by_link}
use Rattle.journal_stops.specs.Mapped.{linked_after, mapping_after, page_after, slot_after}
use Rattle.zone_counts.proofs.FitLaws.{within_limit}
use Rattle.zone_counts.specs.ByBlock.{claims_in, counter_in}

-- an element of a list weighs no more than all
total_has : {X : Type 0} (f : X → ℕ) (xs : List X) (y : X) → Contains xs y → f y ≤ total f xs
total_has f [] y (k, inside, is) = absurd (omega (arith, inside))
total_has f (x ∷ xs) y has = elim (contains_cut x xs y has) [
  | inl same ↦ let here = ap f same in omega (arith, here)
  | inr behind ↦ let later = total_has f xs y behind in omega (arith, later)
]

-- What entries give depends on what they say, and not on their points.
module _ (opened : Image) where
  last_same : (es fs : List CommittedEntry) (page : PageId) (slot : ℕ) → said_by es ≡ said_by fs → put_last es page slot ≡ put_last fs page slot
  last_same [] [] page slot same = refl
  last_same [] (f ∷ fs) page slot same = absurd cc
  last_same (e ∷ es) [] page slot same = absurd cc
  last_same (e ∷ es) (f ∷ fs) page slot same =
      let here : e.entry ≡ f.entry = cc in
      let behind : said_by es ≡ said_by fs = cc in
      rw (here, last_same es fs page slot behind) refl

  module _ (es fs : List CommittedEntry) (same : said_by es ≡ said_by fs) where
    slot_same : (page : PageId) (slot : ℕ) → slot_after opened es page slot ≡ slot_after opened fs page slot
    slot_same page slot = rw (last_same es fs page slot same, slot_after) refl

    linked_same : (links : ℕ) (page : PageId) → linked_after opened es links page ≡ linked_after opened fs links page
    linked_same zero page = refl
    linked_same (suc links) page =
        ap (by_link (λ at. target_of (slot_after opened es (above page) (slot_of page)))) (linked_same links (above page))
        ∙ ap (λ (m : Mapping). by_link (λ at. target_of m) (linked_after opened fs links (above page))) (slot_same (above page) (slot_of page))

    page_same : (page : PageId) → page_after opened es page ≡ page_after opened fs page
    page_same page = rw (linked_same (opened.geometry.height - 1 - page.level) page, page_after) refl

    mapping_same : (a : ℕ) → mapping_after opened es a ≡ mapping_after opened fs a
    mapping_same a =
        ap (by_leaf (λ at. slot_after opened es (leaf_of a) (slot_of_address a))) (page_same (leaf_of a))
        ∙ ap (λ (m : Mapping). by_leaf (λ at. m) (page_after opened fs (leaf_of a))) (slot_same (leaf_of a) (slot_of_address a))

    pub has_same : (x : Pbn) (count : ℕ) → HasMappingsAfter opened es x count → HasMappingsAfter opened fs x count
    has_same x count has = record {
      pages = has.pages;
      one_page = number_of_pages (IsPageAfter opened es x) (IsPageAfter opened fs x) has.pages
          (λ (page, below, there). (page, below, sym (page_same page) ∙ there))
          (λ (page, below, there). (page, below, page_same page ∙ there)) has.one_page;
      sum = has.sum ∙ ap (λ (n : ℕ). n + has.pages) (same_up_to (mapping_after opened fs) (mapping_after opened es) x (address_count opened.geometry) (λ a below. mapping_same a));
    }

module _ (s : Session) (core : Core) (legal : Legal s core) where
  -- a free block is mapped by nobody
  pub free_unused : (x : Pbn) → IsSession s → IsFair s core.trace → IsDataBlock s.sizes.geometry x.0 → IsFreeAt s core.trace x → IsUnused s core.trace x
  free_unused x session fair is_data free =
      let some = session.zones.1 in
      let own = physical_ok s core legal x some in
      let uses = own.lists.uses x (of_zone s (physical s core legal x some).it own.sound x is_data (physical_here s core legal x some)) in
      none_left_unused s core.trace x legal.right (durable_mapped s core.trace x session legal.right fair) (omega (arith, uses, free, left_over s core legal x some))

  -- what a request in an inbox has a claim on
  module _ (x : Pbn) (n : ℕ) (z : Zone) (v : Vio) (had : slice_get core.zones n ≡ Some z) (has : Contains z.ports.inbox (Request v)) (claim : v.claim ≡ Some x) where
    claimed : 1 ≤ total (weight (claim_token x)) core.zones
    claimed =
        let item = total_has (of_vio (claim_weight x)) z.ports.inbox (Request v) has in
        let here = total-get (weight (claim_token x)) core.zones n z had in
        omega (arith, claim_one v x claim, item, here)

    pub claim_counted : (m : ℕ) (y : Zone) (p : PhysicalZone) → slice_get core.zones m ≡ Some y → y.keeps ≡ at.Physical p → physical_zone_of s.sizes x ≡ p.counts.zone → 0 < claims_in x p.counts.slabs
    claim_counted m y p there keeps here = held_counted_there s core legal x m y p there keeps here claimed

    pub claimed_unused : IsSession s → IsFair s core.trace → owes v.phase ≡ false → IsUnused s core.trace x
    claimed_unused session fair free =
        let unowed : unowed_weight x v ≡ 1 = rw free (claim_one v x claim) in
        let item = total_has (of_vio (unowed_weight x)) z.ports.inbox (Request v) has in
        let here = total-get (weight (unowed_token x)) core.zones n z had in
        holder_unused s core legal x session.zones.1 (durable_mapped s core.trace x session legal.right fair) (omega (arith, unowed, item, here))

  -- what a zone that counts has
  module _ (n : ℕ) (z : Zone) (p : PhysicalZone) (had : slice_get core.zones n ≡ Some z) (keeps : z.keeps ≡ at.Physical p) where
    own : DataOk s core.trace n (at.Physical p)
    own = subst (λ (d : ZoneData). DataOk s core.trace n d) keeps (legal.each n z had).own

    pub counter_taken : (x : Pbn) → IsDataBlock s.sizes.geometry x.0 → physical_zone_of s.sizes x ≡ p.counts.zone → counter_in x p.counts.slabs + uncounted core.trace x ≡ counted s core.trace x
    counter_taken x is_data here = own.lists.counters x (of_zone s p own.sound x is_data here)

    pub counter_limit : (x : Pbn) → counter_in x p.counts.slabs + claims_in x p.counts.slabs ≤ limit_of s.sizes.geometry
    counter_limit x = subst (λ (g : Geometry). counter_in x p.counts.slabs + claims_in x p.counts.slabs ≤ limit_of g) own.sound.geometry (within_limit p.counts x own.sound.is_zone)

    pub counter_mapped : (x : Pbn) (entries : List CommittedEntry) → IsSession s → IsFair s core.trace → IsDataBlock s.sizes.geometry x.0 → physical_zone_of s.sizes x ≡ p.counts.zone
        → updates_in s.sizes p.counts.zone (updates_taken core.trace) ≡ updates_in s.sizes p.counts.zone (updates_of (durable core.trace))
        → said_by (pointed (durable core.trace)) ≡ said_by entries → HasMappingsAfter (opened_image s) entries x (counter_in x p.counts.slabs)
    counter_mapped x entries session fair is_data here all said =
        has_same (opened_image s) (pointed (durable core.trace)) entries said x (counter_in x p.counts.slabs)
        (all_taken s core.trace session legal.right fair p.counts.zone all x here (counter_in x p.counts.slabs) (counter_taken x is_data here))

    -- its updates are taken in the order of the committed entries
    pub updates_flow : (lane : List Item)
        × (updates_in s.sizes p.counts.zone (updates_of (durable core.trace))
        ≡ updates_in s.sizes p.counts.zone (updates_taken core.trace) ++ (counted_in (updates_at s p.counts.zone).counts z.ports.inbox ++ counted_in (updates_at s p.counts.zone).counts lane))
    updates_flow =
        let journal = journal_sits s core.trace core.zones legal.each legal.count in
        let lanes = (legal.each (journal_number s.sizes) journal.zone journal.had).lanes in
        let place = own.number_is in
        let below = physical_below s core.trace n p own in
        let lane = stood journal.zone.ports.outboxes n (omega (arith, lanes, place, below)) in (
          lane.it,
          (legal.updates p.counts.zone below).in_order z journal.zone lane.it (subst (λ (i : ℕ). slice_get core.zones i ≡ Some z) place had) journal.had
              (subst (λ (i : ℕ). slice_get journal.zone.ports.outboxes i ≡ Some lane.it) place lane.is),
        )

  pub updates_order : (zone : ℕ) → zone < s.sizes.physical → (rest : List CountUpdate) × (updates_in s.sizes zone (updates_of (durable core.trace)) ≡ updates_in s.sizes zone (updates_taken core.trace) ++ rest)
  updates_order zone below =
      let sits = physical_sits s core.trace core.zones legal.each legal.count zone below in
      let own = subst (λ (d : ZoneData). DataOk s core.trace (physical_number s.sizes zone) d) sits.keeps (legal.each (physical_number s.sizes zone) sits.zone sits.had).own in
      let flow = updates_flow _ sits.zone sits.it sits.had sits.keeps in
      let same : sits.it.counts.zone ≡ zone = let number = own.number_is in omega (arith, number) in
      subst (λ (k : ℕ). (rest : List CountUpdate) × (updates_in s.sizes k (updates_of (durable core.trace)) ≡ updates_in s.sizes k (updates_taken core.trace) ++ rest)) same (_, flow.1)
