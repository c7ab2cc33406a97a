-- Lists of calls of a zone, the newest first, and those of them that are on one slab's counters or writes.
use Rattle.std.specs.Prelude.{ℕ, ◌≡◌, ◌-◌, ◌/◌, ◌%◌, ◌<◌, ◌==◌, if◌then◌else◌, List, [], ◌∷◌, All, slice_set}
use Rattle.blk_base.specs.Counters.{sector_of_offset}
use Rattle.blk_base.specs.Points.{half_of}
use Rattle.blk_base.specs.Regions.{slab_start_of}
use Rattle.blk_base.specs.declared.geometry.Geometry.{Geometry}
use Rattle.blk_base.specs.declared.journal_entry.Update.{Update}
use Rattle.blk_base.specs.declared.point.Point.{Point}
use Rattle.plain_laws.specs.Leads.{LeadsBy}
use Rattle.reference_blocks.specs.References.{point_at}
use Rattle.slab_codec.specs.BlockBytes.{block_bytes}
use Rattle.slab_codec.specs.declared.forms.SlabEntry.{SlabEntry}
use Rattle.slab_counts.specs.Counts.{Counts}
use Rattle.slab_writes.specs.Operations as writes
use Rattle.slab_writes.specs.Writes.{Writes}
use Rattle.slab_writes.specs.declared.forms.SlabPart.TheVariants as part
use Rattle.slab_writes.specs.declared.forms.SlabWork.{SlabWork}
use Rattle.zone_counts.specs.Operations as counts
use Rattle.zone_counts.specs.Zone.{IsOfZone, slab_at, slab_number}
use Rattle.slab_zone.specs.Whole.{WholeZone, writes_at}
use Rattle.slab_zone.specs.ZoneWrites.{RisesIn, TakesUpdate}

-- a call by what it did: one on the counts, or an update that is taken, with the slab's counts by then, or of the slab
-- with this number in the image a block is handed out, or its write is durable
pub data Operation : Type 0 where
  Counted : counts.Operation → Operation
  Taken : Update → Counts → Operation
  Written : ℕ → writes.Operation → Operation

-- a call on the counts takes no update
abbrev pub TakesNone : counts.Operation → Type 0
TakesNone (counts.Applies half at slab) = ⊥
TakesNone other = Unit {0}

-- a reference block is handed out with these counters; no update is taken
abbrev pub HandsOutWith : List ℕ → writes.Operation → Type 0
HandsOutWith counters (writes.Taken entry) = ⊥
HandsOutWith counters (writes.ReferenceOut given bytes block) = given ≡ counters
HandsOutWith counters other = Unit {0}

-- of a slab of the zone a block is handed out, with the counters as they are, or its write is durable
pub record WritesSlab (old new : WholeZone) (number : ℕ) (call : writes.Operation) : Type 0 where
  pub inside : number < old.counts.geometry.slabs
  pub own : number % old.counts.zones ≡ old.counts.zone
  pub counters : HandsOutWith (slab_at old.counts.slabs (number / old.counts.zones)).counters call
  pub slab : Writes
  pub does : writes.Does call (writes_at old.writes (number / old.counts.zones)) slab
  pub after : new ≡ record old { writes = slice_set old.writes (number / old.counts.zones) slab }

-- what a call does, as its contract says
abbrev pub Does : Operation → WholeZone → WholeZone → Type 0
Does (Counted call) old new = TakesNone call × counts.Does call old.counts new.counts × (new.writes ≡ old.writes)
Does (Taken update slab) old new = IsOfZone old.counts update.at × RisesIn old update × TakesUpdate old new update slab
Does (Written number call) old new = WritesSlab old new number call

-- these calls, the newest first, lead from the one to the other
abbrev pub LeadTo : WholeZone → List Operation → WholeZone → Type 0
LeadTo old calls new = LeadsBy Does old calls new

-- those on the counts
abbrev pub counted_of : List Operation → List counts.Operation
counted_of [] = []
counted_of (Counted call ∷ calls) = call ∷ counted_of calls
counted_of (Taken update slab ∷ calls) = counts.Applies (half_of update.point.0) update.at slab ∷ counted_of calls
counted_of (Written number call ∷ calls) = counted_of calls

-- an update by its block's offset in its slab
abbrev pub entry_in : Geometry → Update → SlabEntry
entry_in g update = record { point = update.point; offset = update.at.0 - slab_start_of g (slab_number g update.at) }

-- those on what is to be written of the slab with this number in the image
abbrev pub calls_of : Geometry → ℕ → List Operation → List writes.Operation
calls_of g number [] = []
calls_of g number (Counted call ∷ calls) = calls_of g number calls
calls_of g number (Taken update slab ∷ calls) =
    if slab_number g update.at == number then writes.Taken (entry_in g update) ∷ calls_of g number calls else calls_of g number calls
calls_of g number (Written other call ∷ calls) = if other == number then call ∷ calls_of g number calls else calls_of g number calls

-- the updates that it took, and whether one of them is durable
abbrev pub updates_in : Geometry → ℕ → List Operation → List SlabEntry
updates_in g number calls = writes.updates_of (calls_of g number calls)

abbrev pub IsDurableIn : Geometry → ℕ → List Operation → SlabEntry → Type 0
IsDurableIn g number calls entry = writes.IsDurable g (calls_of g number calls) entry

-- each is above the point with which its sector was opened
abbrev pub AreAbove : Geometry → List Point → List SlabEntry → Type 0
AreAbove g opened entries = All (λ entry. (point_at opened (sector_of_offset g entry.offset)).0 < entry.point.0) entries

-- the call hands out this work with these bytes
abbrev pub HandsOut : writes.Operation → List ℕ → SlabWork → Type 0
HandsOut (writes.JournalOut block) bytes work =
    (work.part ≡ part.Journal) × (work.number ≡ block.sequence) × (bytes ≡ block_bytes block.nonce block.sequence block.slab block.entries)
HandsOut (writes.ReferenceOut counters said block) bytes work = (work.part ≡ part.References) × (work.number ≡ block) × (bytes ≡ said)
HandsOut other bytes work = ⊥

-- the call reports this work as durable
abbrev pub Reports : writes.Operation → SlabWork → Type 0
Reports (writes.JournalDurable sequence) work = (work.part ≡ part.Journal) × (work.number ≡ sequence)
Reports (writes.ReferenceDurable block) work = (work.part ≡ part.References) × (work.number ≡ block)
Reports other work = ⊥
