-- The legal states of the core.
use Rattle.std.specs.Prelude.{ℕ, ◌+◌, ◌*◌, ◌≡◌, ◌<◌, Bool, length}
use Rattle.blk_base.specs.declared.place.PageId.{PageId}
use Rattle.blk_base.specs.declared.place.Pbn.{Pbn}
use Rattle.blk_base.specs.declared.request.Writer.{Writer}
use Rattle.vdo_model.specs.declared.report.Placed.{Placed}
use Rattle.core_model.specs.UpdateStream.{updates_at}
use Rattle.core_model.specs.Arrivals.{arrivals_at}
use Rattle.core_model.specs.Facts.{ZoneOk}
use Rattle.data_vio.specs.Zones.{zone_count, notified_zones}
use Rattle.core_model.specs.RightTraces.{RightTrace, GivesRight}
use Rattle.core_model.specs.Sessions.{Session, IsFair, opened_uses}
use Rattle.core_model.specs.Steps.{Core}
use Rattle.core_model.specs.Streams.{Flows}
use Rattle.plain_laws.specs.Sums.{Each}
use Rattle.core_model.specs.Tokens.{Balanced, AtMost, request_token, lease_token, block_token, claim_token, ticket_token, report_token, waiter_token, damage_token, journal_token, room_token, notice_token, holder_token, entry_token, making_token, page_entry_token}

-- in a zone, each stream's places are drawn in the order of its requests: a request has a greater number than those of its
-- stream that have a place there
abbrev pub ComesAfter : ℕ → Writer → Placed → Type 0
ComesAfter zone w p = p.zone ≡ zone → p.request.stream ≡ w.stream → p.request.number < w.number

-- how many items a lane has at most, and how many requests a zone keeps: those under way, with a decrement or its report for each,
-- the stop notices, a block of the journal, and damage from each physical zone
abbrev pub share : Session → ℕ
share s = 2 * (length s.script * s.sizes.depth) + notified_zones s.sizes + 1 + s.sizes.physical

-- A legal core: balances of tokens, what each zone with its lanes keeps and carries, and a right trace.
pub record Legal (s : Session) (core : Core) : Type 0 where
  pub count : length core.zones ≡ zone_count s.sizes
  pub each : Each (ZoneOk s core.trace) core.zones
  -- each request that is begun and not answered is in one place
  pub requests : (w : Writer) → Balanced (request_token w) core.zones
  -- each lock has one holder, with its place
  pub leases : (a : ℕ) (test : ℕ → Bool) → Balanced (lease_token a test) core.zones
  -- each lock that is held has a holder that is under way
  pub holders : Balanced holder_token core.zones
  -- each entry that was handed in is under way, or its slot is set, or its address retired
  pub entries : Balanced entry_token core.zones
  -- each page that is being made has one maker
  pub making : (page : PageId) → Balanced (making_token page) core.zones
  -- no more pages are never linked than entries of pages were handed in
  pub dropped : AtMost page_entry_token core.zones
  -- each use of a data block is that of a claim, of an entry or of a decrement under way
  pub blocks : (x : Pbn) → Balanced (block_token (opened_uses s) x) core.zones
  -- each claim that a request has is counted
  pub claims : (x : Pbn) → AtMost (claim_token x) core.zones
  -- each ticket that is out is held by one request
  pub tickets : (zone : ℕ) (test : ℕ → Bool) → Balanced (ticket_token zone test) core.zones
  -- each committed entry that replaces a block has its decrement under way, or the report of that, until its slot is set; and so
  -- has its request
  pub reports : (w : Writer) → Balanced (report_token w) core.zones
  pub waiters : (w : Writer) → Balanced (waiter_token w) core.zones
  -- damage is told once by each physical zone
  pub damage : AtMost damage_token core.zones
  -- one block is under way, or the journal is idle
  pub journal : Balanced journal_token core.zones
  -- no request and no stop notice is lost or doubled
  pub room : Balanced room_token core.zones
  pub stop_notices : Balanced (notice_token s.sizes) core.zones
  -- requests come to each logical zone in the order in which they were sent
  pub in_order : (zone : ℕ) → zone < s.sizes.zones → Flows (arrivals_at s zone) core.trace core.zones
  -- updates come to each physical zone in the order of the committed entries
  pub updates : (zone : ℕ) → zone < s.sizes.physical → Flows (updates_at s zone) core.trace core.zones
  pub right : RightTrace s core.trace
  -- where the session is fair
  pub gives_right : IsFair s core.trace → GivesRight s core.trace
