-- What a zone hands out after its calls, what is durable, and that its receipts are right.
use Rattle.std.specs.Prelude.{ℕ, ◌≡◌, ◌*◌, ◌/◌, ◌%◌, ◌<◌, ◌⊎◌, List, [], length, take, drop, Contains}
use Rattle.std.proofs.Common.{sym, ◌∙◌, ap, subst, arith, inl, inr, refl}
use Rattle.blk_base.specs.Counters.{sectors_per_slab}
use Rattle.blk_base.specs.Limits.{IsGeometry}
use Rattle.blk_base.specs.declared.geometry.Geometry.{Geometry}
use Rattle.blk_base.specs.declared.opened.Opened.{Opened}
use Rattle.blk_base.specs.declared.point.Point.{Point}
use Rattle.reference_blocks.specs.References.{HandsOutBlock, point_at, points_of, sectors_of}
use Rattle.reference_blocks.specs.Updates.{AreRising, counters_after, up_to}
use Rattle.slab_codec.specs.Reference.{reference_bytes}
use Rattle.slab_codec.specs.BlockBytes.{block_bytes}
use Rattle.slab_codec.specs.declared.forms.SlabEntry.{SlabEntry}
use Rattle.slab_codec.specs.declared.forms.SlabJournalBlock.{SlabJournalBlock}
use Rattle.slab_counts.specs.declared.tickets.Ticket.{Ticket}
use Rattle.slab_counts.specs.declared.tickets.Receipt.{Receipt}
use Rattle.slab_journal.specs.Unsettled.{IsUnsettled}
use Rattle.slab_tickets.specs.Tickets.{empty_desk}
use Rattle.slab_tickets.specs.declared.forms.Withdrawn.TheVariants.{Nothing}
use Rattle.slab_writes.specs.Operations as writes
use Rattle.slab_writes.specs.Commits.{IsReported}
use Rattle.slab_writes.specs.Due.{IsDue}
use Rattle.slab_writes.specs.Writes.{Writes, opening}
use Rattle.slab_writes.specs.declared.forms.Need.{Need}
use Rattle.slab_writes.specs.declared.forms.SlabPart.TheVariants as part
use Rattle.slab_writes.specs.declared.forms.SlabWork.{SlabWork}
use Rattle.slab_writes.proofs.OperationLaws.{filling_taken, reference_says}
use Rattle.slab_writes.proofs.CommitLaws.{commit_reported}
use Rattle.slab_writes.proofs.DurableLaws.{settled_is_durable}
use Rattle.zone_counts.specs.ZoneAnswers.{WithdrawsFrom}
use Rattle.zone_counts.specs.Operations.{IsRight}
use Rattle.zone_counts.specs.Zone.{slab_at}
use Rattle.zone_counts.proofs.OperationLaws.{zone_receipt}
use Rattle.slab_zone.specs.Whole.{WholeZone, IsWhole, IsOpeningWhole, writes_at}
use Rattle.slab_zone.specs.ZoneWrites.{IsDueIn, IsLowPointIn, NoneUnsettledIn}
use Rattle.slab_zone.specs.Operations.{Operation, LeadTo, AreAbove, IsDurableIn, calls_of, counted_of, updates_in}
use Rattle.slab_zone.proofs.SizeLaws.{HasSizes, counted_lead, sizes_after, number_again, calls_whole}
use Rattle.slab_zone.proofs.SlabCallLaws.{slab_lead, stands}
use Rattle.slab_zone.proofs.CounterLaws.{counters_are}
use Rattle.slab_zone.proofs.RisingLaws.{are_rising, points_many}
use Rattle.slab_zone.proofs.WrittenLaws.{place, below, own}

pub whole_receipt : (first old new : WholeZone) (room : ℕ) (calls : List Operation) (ticket : Ticket) (receipt : Receipt) → IsWhole first → first.counts.desk ≡ empty_desk first.counts.zone room → LeadTo first calls old
    → WithdrawsFrom old.counts new.counts ticket (Nothing receipt) → IsRight (counted_of calls) receipt
whole_receipt first old new room calls ticket receipt is opened lead did =
    zone_receipt first.counts old.counts new.counts room (counted_of calls) ticket receipt is.counts opened (counted_lead first old calls lead) did

-- a due block, by what it is
pub journal_due : (need : Need) (old new : Writes) (counters bytes : List ℕ) (work : SlabWork) → IsDue need old new counters bytes work → work.part ≡ part.Journal
    → (entries : List SlabEntry) × (bytes ≡ block_bytes old.journal.geometry.nonce work.number work.slab entries) × (entries ≡ old.journal.filling)
journal_due need old new counters bytes work (inl journal) is =
    let did = journal.1 in
    let says = did.seals.records in (
      did.block.entries,
      did.says ∙ ap (λ (b : SlabJournalBlock). block_bytes b.nonce b.sequence b.slab did.block.entries) says
          ∙ ap (λ (n : ℕ). block_bytes old.journal.geometry.nonce n old.journal.slab did.block.entries) (sym did.number)
          ∙ ap (λ (n : ℕ). block_bytes old.journal.geometry.nonce work.number n did.block.entries) (sym did.slab),
      ap (λ (b : SlabJournalBlock). b.entries) says,
    )
journal_due need old new counters bytes work (inr reference) is = let no : part.References ≡ part.Journal = sym reference.1.part ∙ is in cc

pub reference_due : (need : Need) (old new : Writes) (counters bytes : List ℕ) (work : SlabWork) → IsDue need old new counters bytes work → work.part ≡ part.References
    → HandsOutBlock old.blocks new.blocks counters bytes work.number
reference_due need old new counters bytes work (inl journal) is = let no : part.Journal ≡ part.References = sym journal.1.part ∙ is in cc
reference_due need old new counters bytes work (inr reference) is = reference.1.hands_out

module _ (o : Opened) (zone zones room : ℕ) (first : WholeZone) (opened : IsOpeningWhole o zone zones room first) (is : IsWhole first) where
  abbrev g : Geometry
  g = o.head.geometry

  abbrev all : List ℕ
  all = o.counters.items

  abbrev commits : List Point
  commits = o.commits.items

  has : HasSizes g zone zones first.counts
  has = record { geometry = opened.counts.geometry; zone = opened.counts.zone; zones = opened.counts.zones }

  sizes : IsGeometry g
  sizes = subst (λ (h : Geometry). IsGeometry h) opened.counts.geometry is.counts.slabs.sizes

  module _ (n : ℕ) (inside : n < g.slabs) (mine : n % zones ≡ zone) where
    counted : n / zones < length first.writes
    counted = stands g zone zones first has is n inside mine first [] refl

    opens : writes_at first.writes (n / zones) ≡ opening g n commits
    opens =
        opened.writes.each (n / zones) (omega (arith, counted, opened.writes.many)) ∙ ap (λ (m : ℕ). opening g m commits) (number_again n zone zones mine)

    counters : (slab_at first.counts.slabs (n / zones)).counters ≡ take g.slab_blocks (drop (n * g.slab_blocks) all)
    counters =
        let there : n / zones < length first.counts.slabs = omega (arith, counted, is.writes.many) in
        (opened.counts.slabs.each (n / zones) (omega (arith, there, opened.counts.slabs.length_is))).0.counters
        ∙ ap (λ (m : ℕ). take g.slab_blocks (drop (m * g.slab_blocks) all)) (number_again n zone zones mine)

    pub leads : (z : WholeZone) (calls : List Operation) → LeadTo first calls z → writes.LeadTo (opening g n commits) (calls_of g n calls) (writes_at z.writes (n / zones))
    leads z calls lead =
        subst (λ (w : Writes). writes.LeadTo w (calls_of g n calls) (writes_at z.writes (n / zones))) opens (slab_lead g zone zones first has is n inside mine z calls lead)

    pub rising : (z : WholeZone) (calls : List Operation) → LeadTo first calls z → AreAbove g (points_of g n commits) (updates_in g n calls) → AreRising g (points_of g n commits) (updates_in g n calls)
    rising z calls lead above = are_rising g (points_of g n commits) (opening g n commits) (calls_of g n calls) (writes_at z.writes (n / zones)) (leads z calls lead) above

    pub counters_now : (z : WholeZone) (calls : List Operation) → LeadTo first calls z
        → (slab_at z.counts.slabs (n / zones)).counters ≡ counters_after (take g.slab_blocks (drop (n * g.slab_blocks) all)) (updates_in g n calls)
    counters_now z calls lead =
        counters_are g zone zones first has is n inside mine z calls lead ∙ ap (λ (cs : List ℕ). counters_after cs (updates_in g n calls)) counters

    -- an update that isn't unsettled is durable
    pub durable : (z : WholeZone) (calls : List Operation) (entry : SlabEntry) → length commits ≡ g.slabs * sectors_per_slab g → LeadTo first calls z → AreAbove g (points_of g n commits) (updates_in g n calls)
        → Contains (updates_in g n calls) entry → ¬ IsUnsettled (writes_at z.writes (n / zones)).journal entry → IsDurableIn g n calls entry
    durable z calls entry many lead above there settled =
        settled_is_durable g n commits (calls_of g n calls) (writes_at z.writes (n / zones)) entry sizes (points_many g n commits many inside) (leads z calls lead) (rising z calls lead above) there settled

    pub commit_told : (z : WholeZone) (calls : List Operation) (sector : ℕ) → length commits ≡ g.slabs * sectors_per_slab g → LeadTo first calls z
        → let point = point_at (writes_at z.writes (n / zones)).journal.commits sector in (point ≡ record { 0 = 0 }) ⊎ IsReported g (calls_of g n calls) sector point
    commit_told z calls sector many lead =
        commit_reported g sizes n commits (calls_of g n calls) (writes_at z.writes (n / zones)) sector (points_many g n commits many inside) (leads z calls lead)

  -- the slab of a due block is of the zone
  module _ (need : Need) (old new : WholeZone) (calls : List Operation) (bytes : List ℕ) (work : SlabWork) (lead : LeadTo first calls old) (did : IsDueIn need old new bytes work) where
    whole : IsWhole old
    whole = calls_whole first old calls is lead

    now : HasSizes g zone zones old.counts
    now = sizes_after g zone zones first old calls has lead

    due_below : work.slab < g.slabs
    due_below = omega (arith, below need old new bytes work whole did, ap (λ (h : Geometry). h.slabs) now.geometry)

    due_own : work.slab % zones ≡ zone
    due_own = ap (λ (p : ℕ). work.slab % p) (sym now.zones) ∙ own need old new bytes work whole did ∙ now.zone

    due_place : did.due.place ≡ work.slab / zones
    due_place = sym (place need old new bytes work whole did) ∙ ap (λ (p : ℕ). work.slab / p) now.zones

    abbrev w : Writes
    w = writes_at old.writes (work.slab / zones)

    is_due : IsDue need w did.due.slab (slab_at old.counts.slabs (work.slab / zones)).counters bytes work
    is_due = subst (λ (j : ℕ). IsDue need (writes_at old.writes j) did.due.slab (slab_at old.counts.slabs j).counters bytes work) due_place did.due.due

    pub journal_taken : work.part ≡ part.Journal
        → (entries : List SlabEntry) × (bytes ≡ block_bytes g.nonce work.number work.slab entries) × ((entry : SlabEntry) → Contains entries entry → Contains (updates_in g work.slab calls) entry)
    journal_taken kind =
        let one = journal_due need w did.due.slab _ bytes work is_due kind in
        let there = whole.writes.each did.due.place (omega (arith, did.due.inside, whole.writes.many)) in
        let nonce : w.journal.geometry.nonce ≡ g.nonce
        = ap (λ (j : ℕ). (writes_at old.writes j).journal.geometry.nonce) (sym due_place) ∙ ap (λ (h : Geometry). h.nonce) (there.journal ∙ now.geometry) in (
          one.0,
          one.1 ∙ ap (λ (n : ℕ). block_bytes n work.number work.slab one.0) nonce,
          (λ entry inside.
              filling_taken g work.slab commits (calls_of g work.slab calls) w entry (leads work.slab due_below due_own old calls lead)
              (subst (λ (es : List SlabEntry). Contains es entry) one.2 inside)),
        )

    pub reference_updates : work.part ≡ part.References → length commits ≡ g.slabs * sectors_per_slab g → AreAbove g (points_of g work.slab commits) (updates_in g work.slab calls)
        → bytes
        ≡ reference_bytes
        (sectors_of g w.blocks.applied (counters_after (take g.slab_blocks (drop (work.slab * g.slab_blocks) all)) (up_to g w.blocks.applied (updates_in g work.slab calls))) work.number)
    reference_updates kind many above =
        let hands = reference_due need w did.due.slab _ bytes work is_due kind in
        let hands' = subst (λ (cs : List ℕ). HandsOutBlock w.blocks did.due.slab.blocks cs bytes work.number) (counters_now work.slab due_below due_own old calls lead) hands in
        reference_says g work.slab commits (take g.slab_blocks (drop (work.slab * g.slab_blocks) all)) (calls_of g work.slab calls) w did.due.slab bytes work.number
        (points_many g work.slab commits many due_below) (leads work.slab due_below due_own old calls lead) (rising work.slab due_below due_own old calls lead above) hands'

  -- below the low point of the zone
  module _ (z : WholeZone) (calls : List Operation) (n : ℕ) (entry : SlabEntry) (many : length commits ≡ g.slabs * sectors_per_slab g) (lead : LeadTo first calls z) (inside : n < g.slabs) (mine : n % zones ≡ zone)
      (above : AreAbove g (points_of g n commits) (updates_in g n calls)) (there : Contains (updates_in g n calls) entry) where
    pub low_durable : (low : Point) → IsLowPointIn z low → entry.point.0 < low.0 → IsDurableIn g n calls entry
    low_durable low lowest less =
        durable n inside mine z calls entry many lead above there
        (λ unsettled. absurd (omega (arith, less, lowest.least (n / zones) entry (stands g zone zones first has is n inside mine z calls lead) unsettled)))

    pub none_durable : NoneUnsettledIn z → IsDurableIn g n calls entry
    none_durable none =
        durable n inside mine z calls entry many lead above there
        (λ unsettled. none (n / zones) (stands g zone zones first has is n inside mine z calls lead) entry unsettled)
