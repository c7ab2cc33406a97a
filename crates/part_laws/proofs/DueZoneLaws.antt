-- Each slab of a zone, by its own calls.
use Rattle.std.proofs.Common.{◌≡◌, ℕ, ◌<◌, ◌*◌, ◌/◌, ◌%◌, List, length, subst}
use Rattle.blk_base.specs.Counters.{sectors_per_slab}
use Rattle.blk_base.specs.Limits.{IsGeometry}
use Rattle.blk_base.specs.declared.geometry.Geometry.{Geometry}
use Rattle.blk_base.specs.declared.opened.Opened.{Opened}
use Rattle.reference_blocks.specs.References.{points_of}
use Rattle.slab_journal.specs.Unsettled.{NoneUnsettled}
use Rattle.slab_writes.specs.declared.forms.Need.TheVariants.{Head}
use Rattle.slab_zone.specs.Operations.{AreAbove, Operation, LeadTo, calls_of, updates_in}
use Rattle.slab_zone.specs.Whole.{IsOpeningWhole, IsWhole, WholeZone, writes_at}
use Rattle.slab_zone.specs.ZoneWrites.{NoneDueIn}
use Rattle.slab_zone.proofs.RisingLaws.{points_many}
use Rattle.slab_zone.proofs.ZoneLaws.{leads, rising}
use Rattle.part_laws.specs.Still.{AreSpelled}
use Rattle.part_laws.specs.StillZones.{NoneOutIn}
use Rattle.part_laws.proofs.DueLaws.{slab_still}

pub zone_still : (o : Opened) (zone zones room : ℕ) (first z : WholeZone) (calls : List Operation) (slab : ℕ)
    → let g = o.head.geometry in
    let commits = o.commits.items in
    IsOpeningWhole o zone zones room first → IsWhole first → length commits ≡ g.slabs * sectors_per_slab g
    → LeadTo first calls z → slab < g.slabs → slab % zones ≡ zone → slab / zones < length z.writes
    → AreAbove g (points_of g slab commits) (updates_in g slab calls) → AreSpelled (updates_in g slab calls)
    → NoneOutIn z → NoneDueIn Head z → NoneUnsettled (writes_at z.writes (slab / zones)).journal
zone_still o zone zones room first z calls slab opened is many lead inside mine stands above spelled out due =
    let g = o.head.geometry in
    let commits = o.commits.items in
    let sizes : IsGeometry g = subst (λ (h : Geometry). IsGeometry h) opened.counts.geometry is.counts.slabs.sizes in
    slab_still g slab commits (calls_of g slab calls) (writes_at z.writes (slab / zones)) sizes (points_many g slab commits many inside)
    (leads o zone zones room first opened is slab inside mine z calls lead)
    (rising o zone zones room first opened is slab inside mine z calls lead above)
    spelled (out (slab / zones) stands) (due (slab / zones) stands)
