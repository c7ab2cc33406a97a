-- What a request carries, in whichever zone it is: its address, its claim, and what it asks.
use Rattle.std.specs.Prelude.{ℕ, ◌≡◌, ◌<◌, Bool, true, false, Option, None, Some, IsTrue, List, []}
use Rattle.blk_base.specs.declared.place.Lba.{Lba}
use Rattle.blk_base.specs.declared.place.Mapping.{Mapping}
use Rattle.blk_base.specs.declared.place.Mapping.TheVariants.{At}
use Rattle.blk_base.specs.declared.place.Pbn.{Pbn}
use Rattle.blk_base.specs.declared.place.ZoneId.{ZoneId}
use Rattle.blk_base.specs.declared.place.ZoneId.TheVariants as id
use Rattle.blk_base.specs.declared.request.Writer.{Writer}
use Rattle.blk_base.specs.Regions.{IsDataBlock}
use Rattle.vdo_model.specs.Places.{zone_of}
use Rattle.vdo_model.specs.Scripts.{request_at}
use Rattle.data_vio.specs.declared.items.Asks.{Asks}
use Rattle.data_vio.specs.declared.items.Asks.TheVariants.{Write, Discard, Flush}
use Rattle.data_vio.specs.declared.items.Phase.{Phase}
use Rattle.data_vio.specs.declared.items.Stage.{Stage}
use Rattle.data_vio.specs.declared.items.Vio.{Vio}
use Rattle.data_vio.specs.declared.sizes.Sizes.{Sizes}
use Rattle.data_vio.specs.Phases.{phase_rule, number_at, stage_rule}
use Rattle.data_vio.specs.Zones.{zone_number}
use Rattle.core_model.specs.RightTraces.{IsOpen}
use Rattle.core_model.specs.Sessions.{Session, OnBlock}
use Rattle.core_model.specs.PageLinks.{block_in}
use Rattle.core_model.specs.Trace.{Trace}
use Rattle.data_vio.specs.Vios.{asked, counts_of, ticket_zone}
use Rattle.slab_counts.specs.declared.tickets.Ticket.{Ticket}

-- the number of the zone where a phase, and a stage, is done
abbrev pub zone_at : Sizes → Vio → Phase → ℕ
zone_at sizes v p = number_at sizes v.home (counts_of sizes v) (ticket_zone v.tickets) (phase_rule p).zone

abbrev pub zone_of_stage : Sizes → Stage → ℕ
zone_of_stage sizes now = zone_number sizes (stage_rule now).zone

-- the address of a block request is below the logical size; a flush has none
abbrev pub HasAddress : Sizes → Lba → Asks → Type 0
HasAddress sizes at Flush = Unit {0}
HasAddress sizes at other = at.0 < sizes.geometry.logical

-- What a request carries is said of those of its fields that matter: so it stays where its other fields change.
-- A request under way is one of the script, it is open, and its home is the logical zone of its address.
pub record IsUnderWay (s : Session) (t : Trace) (w : Writer) (asks : Asks) (at : Lba) (bytes : List ℕ) (zone : ZoneId) : Type 0 where
  pub asked : request_at s.script w ≡ Some (asked asks at bytes)
  pub is_open : IsOpen t w
  pub address : HasAddress s.sizes at asks
  pub home : zone ≡ id.Logical (zone_of s.sizes.zones at.0)

abbrev pub VioOk : Session → Trace → Vio → Type 0
VioOk s t v = IsUnderWay s t v.request v.asks v.at v.bytes v.home

-- its claim is on the block to which it maps its address, or where its page will stand, in the phases in which it has one; and it
-- has tickets in those alone in which it asks for one
abbrev pub claim_of : Bool → Mapping → Option Pbn
claim_of true new = block_in new
claim_of false new = None

pub record HasClaim (s : Session) (claims asks : Bool) (claim : Option Pbn) (new : Mapping) (tickets : List Ticket) : Type 0 where
  pub claim_is : claim ≡ claim_of claims new
  pub on_data : IsTrue claims → OnBlock (λ x. IsDataBlock s.sizes.geometry x.0) new
  pub no_ticket : asks ≡ false → tickets ≡ []

abbrev pub ClaimFor : Session → Vio → Phase → Type 0
ClaimFor s v q = HasClaim s (phase_rule q).claims (phase_rule q).asks v.claim v.new v.tickets

abbrev pub ClaimOk : Session → Vio → Type 0
ClaimOk s v = ClaimFor s v v.phase

-- a request for a block: it reads, writes or discards
abbrev pub IsForBlock : Asks → Type 0
IsForBlock Flush = ⊥
IsForBlock other = Unit {0}

-- one that changes its block: it writes or discards
abbrev pub IsChange : Asks → Type 0
IsChange Write = Unit {0}
IsChange Discard = Unit {0}
IsChange other = ⊥

-- a mapping is to a data block, or to none
abbrev pub IsToData : Session → Mapping → Type 0
IsToData s mapping = OnBlock (λ x. IsDataBlock s.sizes.geometry x.0) mapping

-- a mapping is to a block
abbrev pub IsToBlock : Mapping → Type 0
IsToBlock (At x) = Unit {0}
IsToBlock other = ⊥
