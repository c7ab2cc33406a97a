-- A move keeps a core legal, and so does each list of events.
use Rattle.std.proofs.Common.{◌≡◌, ◌++◌, length, slice_set, ap, sym, ◌∙◌, subst, arith}
use Rattle.core_laws.proofs.Common.{AllByRecursion, Each, Each-put, GivesRight, IsFair, IsSession, ItemOk, RightTrace, Session, Trace, Writer, Zone, ZoneOk, block_token, entry_token, every-append, every-front, get-put_other, holder_token, journal_token, lease_token, length-put, notice_token, request_token, room_token}
use Rattle.core_model.specs.Tokens.{ticket_token}
use Rattle.core_model.specs.Sessions.{opened_uses}
use Rattle.core_model.specs.Tokens.{claim_token, damage_token, report_token, waiter_token}
use Rattle.core_model.specs.Arrivals.{arrivals_at}
use Rattle.core_model.specs.CountUpdates.{CountUpdate}
use Rattle.core_model.specs.UpdateStream.{updates_at}
use Rattle.core_model.specs.Legal.{Legal}
use Rattle.core_model.specs.Steps as steps
use Rattle.core_model.specs.Tokens.{making_token, page_entry_token}
use Rattle.core_model.specs.Steps.{Core, MoveOf, Leads}
use Rattle.core_laws.proofs.kept.Streams.{flows_move}
use Rattle.core_laws.proofs.kept.LegalKept.{legal_step}
use Rattle.core_laws.proofs.tokens.Lift.{balance_move, at_most_move}

module _ (s : Session) (old new : Core) (m : MoveOf old new) (legal : Legal s old) where
  abbrev source' : Zone
  source' = record m.source { ports = record m.source.ports { outboxes = slice_set m.source.ports.outboxes m.to m.left } }

  abbrev target' : Zone
  target' = record m.target { ports = record m.target.ports { inbox = m.target.ports.inbox ++ m.part } }

  source_ok : ZoneOk s old.trace m.from m.source
  source_ok = legal.each m.from m.source m.had_source

  target_ok : ZoneOk s old.trace m.to m.target
  target_ok = legal.each m.to m.target m.had_target

  parts : AllByRecursion (ItemOk s old.trace m.to) m.part × AllByRecursion (ItemOk s old.trace m.to) m.left
  parts = every-front (ItemOk s old.trace m.to) m.part m.left (source_ok.outboxes m.to (m.part ++ m.left) m.outbox)

  source_ok' : ZoneOk s old.trace m.from source'
  source_ok' = record {
    number_is = source_ok.number_is;
    lanes = length-put m.source.ports.outboxes m.to m.left ∙ source_ok.lanes;
    inbox = source_ok.inbox;
    outboxes = Each-put {P = λ to. AllByRecursion (ItemOk s old.trace to)} {Q = λ to. AllByRecursion (ItemOk s old.trace to)} m.source.ports.outboxes m.to (m.part ++ m.left) m.left m.outbox source_ok.outboxes (λ j x h. h) parts.1;
    to_itself = λ lane had. source_ok.to_itself lane (sym (get-put_other m.source.ports.outboxes m.to m.from m.left m.apart) ∙ had);
    own = source_ok.own;
    counted = source_ok.counted;
  }

  target_ok' : ZoneOk s old.trace m.to target'
  target_ok' = record {
    number_is = target_ok.number_is;
    lanes = target_ok.lanes;
    inbox = every-append (ItemOk s old.trace m.to) m.target.ports.inbox m.part target_ok.inbox parts.0;
    outboxes = target_ok.outboxes;
    to_itself = target_ok.to_itself;
    own = target_ok.own;
    counted = target_ok.counted;
  }

  zones_ok : Each (ZoneOk s old.trace) (slice_set (slice_set old.zones m.from source') m.to target')
  zones_ok =
      let still = get-put_other old.zones m.from m.to source' (λ e. m.apart (sym e)) ∙ m.had_target in
      let first = Each-put {P = ZoneOk s old.trace} {Q = ZoneOk s old.trace} old.zones m.from m.source source' m.had_source legal.each (λ j x h. h) source_ok' in
      Each-put {P = ZoneOk s old.trace} {Q = ZoneOk s old.trace} (slice_set old.zones m.from source') m.to m.target target' still first (λ j x h. h) target_ok'

  zones_is : new.zones ≡ slice_set (slice_set old.zones m.from source') m.to target'
  zones_is = ap (λ (core : Core). core.zones) m.has

  trace_is : new.trace ≡ old.trace
  trace_is = ap (λ (core : Core). core.trace) m.has

  pub legal_move : Legal s new
  legal_move = record {
    count = ap length zones_is ∙ length-put (slice_set old.zones m.from source') m.to target' ∙ length-put old.zones m.from source' ∙ legal.count;
    each = subst (λ (core : Core). Each (ZoneOk s core.trace) core.zones) (sym m.has) zones_ok;
    requests = λ w. balance_move (request_token w) old new m (legal.requests w);
    leases = λ a test. balance_move (lease_token a test) old new m (legal.leases a test);
    holders = balance_move holder_token old new m legal.holders;
    entries = balance_move entry_token old new m legal.entries;
    making = λ page. balance_move (making_token page) old new m (legal.making page);
    dropped = at_most_move page_entry_token old new m legal.dropped;
    blocks = λ x. balance_move (block_token (opened_uses s) x) old new m (legal.blocks x);
    claims = λ x. at_most_move (claim_token x) old new m (legal.claims x);
    tickets = λ zone test. balance_move (ticket_token zone test) old new m (legal.tickets zone test);
    reports = λ w. balance_move (report_token w) old new m (legal.reports w);
    waiters = λ w. balance_move (waiter_token w) old new m (legal.waiters w);
    damage = at_most_move damage_token old new m legal.damage;
    journal = balance_move journal_token old new m legal.journal;
    room = balance_move room_token old new m legal.room;
    stop_notices = balance_move (notice_token s.sizes) old new m legal.stop_notices;
    in_order = λ zone below. flows_move Writer (arrivals_at s zone) s.sizes (λ e. absurd (omega (arith, e))) old new m (legal.in_order zone below);
    updates = λ zone below. flows_move CountUpdate (updates_at s zone) s.sizes (λ e. absurd (omega (arith, e, below))) old new m (legal.updates zone below);
    right = subst (RightTrace s) (sym trace_is) legal.right;
    gives_right = subst (λ (t : Trace). IsFair s t → GivesRight s t) (sym trace_is) legal.gives_right;
  }

-- every list of events keeps a core legal
pub legal_leads : (s : Session) (first core : Core) → IsSession s → Leads s.sizes first core → Legal s first → Legal s core
legal_leads s first core session steps.rests legal = legal
legal_leads s first core session (steps.steps st leads) legal = legal_step s session _ core (legal_leads s first _ session leads legal) st
legal_leads s first core session (steps.moves m leads) legal = legal_move s _ core m (legal_leads s first _ session leads legal)
