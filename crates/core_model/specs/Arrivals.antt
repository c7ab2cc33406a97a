-- The first stream: the requests that the desk sends to a logical zone, each of which has yet to draw its place there.
use Rattle.std.specs.Prelude.{ℕ, ◌==◌, Option, None, Some, List, [], ◌∷◌, ◌++◌, if◌then◌else◌}
use Rattle.blk_base.specs.declared.request.Request.{Request}
use Rattle.blk_base.specs.declared.request.Request.TheVariants.{Read, Write, Discard, Flush}
use Rattle.blk_base.specs.declared.request.Writer.{Writer}
use Rattle.vdo_model.specs.Places.{zone_of}
use Rattle.vdo_model.specs.Scripts.{request_at, same_writer}
use Rattle.vdo_model.specs.declared.report.DeskLine.TheVariants as line
use Rattle.vdo_model.specs.declared.report.Placed.{Placed}
use Rattle.core_model.specs.Facts.{arrival}
use Rattle.data_vio.specs.Zones.{desk_number, logical_number}
use Rattle.core_model.specs.Sessions.{Session}
use Rattle.core_model.specs.Streams.{Stream}
use Rattle.core_model.specs.Trace.{Trace, Says, places}

-- the logical zone of the address that a request asks for
abbrev pub zone_asked : ℕ → Option Request → Option ℕ
zone_asked zones (Some (Read at)) = Some (zone_of zones at.0)
zone_asked zones (Some (Write at bytes fua)) = Some (zone_of zones at.0)
zone_asked zones (Some (Discard at)) = Some (zone_of zones at.0)
zone_asked zones (Some Flush) = None
zone_asked zones None = None

-- the request, where that is this zone
abbrev pub only_of : ℕ → Option ℕ → Writer → List Writer
only_of zone None w = []
only_of zone (Some z) w = if z == zone then w ∷ [] else []

-- the requests that were sent to a logical zone: those that were begun, but for those that were answered at once
abbrev pub sent_to_zone : Session → ℕ → Trace → List Writer
sent_to_zone s zone [] = []
sent_to_zone s zone (Says (line.Begin w) ∷ t) = sent_to_zone s zone t ++ only_of zone (zone_asked s.sizes.zones (request_at s.script w)) w
sent_to_zone s zone (Says (line.Answer w a) ∷ Says (line.Begin v) ∷ t) =
    if same_writer w v then sent_to_zone s zone t
    else sent_to_zone s zone t ++ only_of zone (zone_asked s.sizes.zones (request_at s.script v)) v
sent_to_zone s zone (other ∷ t) = sent_to_zone s zone t

-- those that drew a place of it
abbrev pub drew_in : ℕ → List Placed → List Writer
drew_in zone [] = []
drew_in zone (p ∷ older) = if p.zone == zone then drew_in zone older ++ p.request ∷ [] else drew_in zone older

-- the arrivals at a logical zone
abbrev pub arrivals_at : Session → ℕ → Stream Writer
arrivals_at s zone = record { from = desk_number; to = logical_number zone; counts = arrival; sent = sent_to_zone s zone; taken = λ t. drew_in zone (places t) }
