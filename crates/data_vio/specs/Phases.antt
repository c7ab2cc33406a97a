-- The phases of a request and the stages of a sealed block, with one line for each: the table of docs/DESIGN.md.
use Rattle.std.specs.Prelude.{ℕ, Bool, true, false}
use Rattle.blk_base.specs.declared.place.ZoneId.{ZoneId}
use Rattle.blk_base.specs.declared.place.ZoneId.TheVariants as id
use Rattle.data_vio.specs.declared.items.Phase.{Phase}
use Rattle.data_vio.specs.declared.items.Phase.TheVariants as phase
use Rattle.data_vio.specs.declared.items.Stage.{Stage}
use Rattle.data_vio.specs.declared.items.Stage.TheVariants as stage
use Rattle.data_vio.specs.declared.sizes.Sizes.{Sizes}
use Rattle.data_vio.specs.Zones.{zone_number, zone_count}

-- where a phase is done; a request that waits is in no lane
pub data Where : Type 0 where
  AtDesk : Where
  AtHome : Where
  AtPhysical : Where
  AtTicket : Where
  AtJournal : Where
  AtDevice : Where
  InNoLane : Where

-- Where a phase is done; whether the request holds the lock of its address, has a claim on the block to which it maps that, may
-- hold tickets, owes the increment of an entry that was handed in, has yet to draw its place, and has an entry that was handed in and of
-- which neither the slot is set nor the address retired.
pub record PhaseRule : Type 0 where
  pub zone : Where
  pub locks : Bool
  pub claims : Bool
  pub asks : Bool
  pub owes : Bool
  pub arrives : Bool
  pub entered : Bool

abbrev pub phase_rule : Phase → PhaseRule
phase_rule phase.Arrive = record { zone = AtHome; locks = false; claims = false; asks = false; owes = false; arrives = true; entered = false }
phase_rule phase.Wait = record { zone = InNoLane; locks = false; claims = false; asks = false; owes = false; arrives = false; entered = false }
phase_rule phase.Look = record { zone = AtHome; locks = true; claims = false; asks = false; owes = false; arrives = false; entered = false }
phase_rule phase.LoadLeaf = record { zone = AtDevice; locks = true; claims = false; asks = false; owes = false; arrives = false; entered = false }
phase_rule phase.LoadedLeaf = record { zone = AtHome; locks = true; claims = false; asks = false; owes = false; arrives = false; entered = false }
phase_rule phase.Claim = record { zone = AtPhysical; locks = true; claims = false; asks = true; owes = false; arrives = false; entered = false }
phase_rule phase.Withdraw = record { zone = AtTicket; locks = true; claims = true; asks = true; owes = false; arrives = false; entered = false }
phase_rule phase.Store = record { zone = AtDevice; locks = true; claims = true; asks = false; owes = false; arrives = false; entered = false }
phase_rule phase.Enter = record { zone = AtJournal; locks = true; claims = true; asks = false; owes = false; arrives = false; entered = false }
phase_rule phase.Pending = record { zone = InNoLane; locks = true; claims = true; asks = false; owes = true; arrives = false; entered = true }
phase_rule phase.Count = record { zone = AtPhysical; locks = true; claims = true; asks = false; owes = true; arrives = false; entered = true }
phase_rule phase.Settle = record { zone = AtHome; locks = true; claims = false; asks = false; owes = false; arrives = false; entered = true }
phase_rule phase.Load = record { zone = AtDevice; locks = true; claims = false; asks = false; owes = false; arrives = false; entered = false }
phase_rule phase.Loaded = record { zone = AtHome; locks = true; claims = false; asks = false; owes = false; arrives = false; entered = false }
phase_rule phase.AbortClaim = record { zone = AtPhysical; locks = true; claims = true; asks = false; owes = false; arrives = false; entered = false }
phase_rule phase.Abort = record { zone = AtHome; locks = true; claims = false; asks = false; owes = false; arrives = false; entered = false }
phase_rule phase.AbortEnteredClaim = record { zone = AtPhysical; locks = true; claims = true; asks = false; owes = true; arrives = false; entered = true }
phase_rule phase.AbortEntered = record { zone = AtHome; locks = true; claims = false; asks = false; owes = false; arrives = false; entered = true }
phase_rule phase.Flush = record { zone = AtDevice; locks = false; claims = false; asks = false; owes = false; arrives = false; entered = false }
phase_rule phase.Reply = record { zone = AtDesk; locks = false; claims = false; asks = false; owes = false; arrives = false; entered = false }

-- the number of the zone there, for a request of this home, whose block this zone counts, and whose oldest ticket is of this one;
-- where it is in no lane, none to a zone's number
abbrev pub number_at : Sizes → (home counts ticket : ZoneId) → Where → ℕ
number_at sizes home counts ticket AtDesk = zone_number sizes id.Desk
number_at sizes home counts ticket AtHome = zone_number sizes home
number_at sizes home counts ticket AtPhysical = zone_number sizes counts
number_at sizes home counts ticket AtTicket = zone_number sizes ticket
number_at sizes home counts ticket AtJournal = zone_number sizes id.Journal
number_at sizes home counts ticket AtDevice = zone_number sizes id.Device
number_at sizes home counts ticket InNoLane = zone_count sizes

-- the zone where a stage is done, and the stage behind it; at Commit and at Fail the block's way ends
pub record StageRule : Type 0 where
  pub zone : ZoneId
  pub next : Stage

abbrev pub stage_rule : Stage → StageRule
stage_rule stage.Cover = record { zone = id.Device; next = stage.Write }
stage_rule stage.Write = record { zone = id.Device; next = stage.Harden }
stage_rule stage.Harden = record { zone = id.Device; next = stage.Commit }
stage_rule stage.Commit = record { zone = id.Journal; next = stage.Commit }
stage_rule stage.Fail = record { zone = id.Journal; next = stage.Fail }
