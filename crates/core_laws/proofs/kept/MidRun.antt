-- A core in the middle of a run: a write has its place, the lock of its address and the page that it makes; the read behind it waits
-- for the lock. It is legal, since events lead to it from the core at its start.
use Rattle.std.proofs.Common.{◌≡◌, ℕ, ◌+◌, ◌/◌, ◌%◌, ◌<◌, Bool, true, false, Option, None, Some, is_some, if◌then◌else◌, List, [], ◌∷◌, ◌++◌, nat_eq, slice_get, slice_set, refl, ap, sym, ◌∙◌, subst, arith}
use Rattle.core_laws.proofs.Common.{Draws, Item, LogicalZone, Pbn, Post, Says, Trace, Vio, Writer, Zone, ZoneData, ZoneOk, begun_vio, turned}
use Rattle.blk_base.specs.Pages.{leaf_of}
use Rattle.blk_base.specs.Sectors.{zero_block}
use Rattle.blk_base.specs.declared.place.Lba.{Lba}
use Rattle.blk_base.specs.declared.place.PageId.{PageId}
use Rattle.blk_base.specs.declared.place.ZoneId.TheVariants as id
use Rattle.blk_base.specs.declared.request.Request.TheVariants as request
use Rattle.block_map_tree.specs.Pages.{IsTreeOf}
use Rattle.block_map_tree.specs.Tree.{IsLinkable}
use Rattle.core_laws.proofs.kept.FirstCore.{empty_zone, logical, sizes, small_core, small_desk, small_legal, small_physical, small_served, small_session}
use Rattle.core_laws.proofs.kept.LegalMoves.{legal_leads}
use Rattle.core_laws.proofs.logical.BareTrees.{bare, bare_is}
use Rattle.core_model.specs.DeskData.{Desk}
use Rattle.core_model.specs.DeskRules.{DeskBegins}
use Rattle.core_model.specs.Legal.{Legal}
use Rattle.core_model.specs.LogicalRules.{LogicalServes, drawn_by, lacks, lock_of, looks_up, place_of_vio, placed}
use Rattle.core_model.specs.PageTrees.{HasPath, link_at}
use Rattle.core_model.specs.Steps as steps
use Rattle.core_model.specs.Steps.{Act, Core, Leads, MoveOf, StepOf, delivered, sent, sent_to, step_limit, with_inbox, with_outboxes}
use Rattle.core_model.specs.declared.zones.ZoneData.TheVariants as at
use Rattle.data_vio.specs.Vios.{makes}
use Rattle.data_vio.specs.Zones.{zone_number}
use Rattle.data_vio.specs.declared.items.Asks.TheVariants.{Read, Write}
use Rattle.data_vio.specs.declared.items.Item.TheVariants as item
use Rattle.data_vio.specs.declared.items.Phase.TheVariants as phase
use Rattle.image_model.proofs.Example.{small, small_is}
use Rattle.vdo_model.specs.declared.report.DeskLine.TheVariants as line

-- The core after a step of one of its zones, and after a move.
abbrev served : Zone → List Item → ZoneData → Zone
served z rest new = record z { keeps = new; ports = record z.ports { inbox = rest }; steps = z.steps + 1 }

abbrev after : Core → ℕ → Zone → List Item → ZoneData → Trace → List Post → Core
after core n z rest new made posts = record { zones = slice_set core.zones n (delivered sizes posts (served z rest new)); trace = made ++ core.trace }

keeps_sent : (b : Bool) (to : ℕ) (it : Item) (z : Zone) → (sent_to b to it z).keeps ≡ z.keeps
keeps_sent true to it z = refl
keeps_sent false to it z = refl

keeps_delivered : (posts : List Post) (z : Zone) → (delivered sizes posts z).keeps ≡ z.keeps
keeps_delivered [] z = refl
keeps_delivered (p ∷ ps) z = keeps_delivered ps (sent sizes p z) ∙ keeps_sent (nat_eq (zone_number sizes p.0) z.number) (zone_number sizes p.0) p.1 z

does : (core : Core) (n : ℕ) (z : Zone) (front rest : List Item) (new : ZoneData) (made : Trace) (posts : List Post)
    → slice_get core.zones n ≡ Some z → z.steps < step_limit → z.ports.inbox ≡ front ++ rest → (front ≡ [] → rest ≡ []) → Act sizes z.keeps front new made posts → StepOf sizes core (after core n z rest new made posts)
does core n z front rest new made posts had few taken turn act =
    let same = keeps_delivered posts (served z rest new) in
    record {
      number = n;
      zone = z;
      zone' = delivered sizes posts (served z rest new);
      made = made;
      had = had;
      step = record {
        front = front;
        rest = rest;
        posts = posts;
        counts = few;
        taken = taken;
        in_turn = turn;
        act = subst (λ (k : ZoneData). Act sizes z.keeps front k made posts) (sym same) act;
        lanes = ap (λ (k : ZoneData). delivered sizes posts (served z rest k)) (sym same);
      };
      has = refl;
    }

abbrev handed : Core → (from to : ℕ) → (source target : Zone) → List Item → Core
handed core from to source target part = record {
  zones = slice_set (slice_set core.zones from (with_outboxes source (slice_set source.ports.outboxes to []))) to (with_inbox target (target.ports.inbox ++ part));
  trace = core.trace;
}

-- The two requests, as they are under way.
abbrev at_5 : Lba
at_5 = record { 0 = 5 }

abbrev writer : Writer
writer = record { stream = 0; number = 0 }

abbrev reader : Writer
reader = record { stream = 0; number = 1 }

abbrev write : Vio
write = begun_vio sizes writer Write at_5 zero_block

abbrev read : Vio
read = begun_vio sizes reader Read at_5 zero_block

-- The desk begins both.
abbrev begun_one : Desk
begun_one = record small_desk { log = line.Begin writer ∷ [] }

abbrev begun_both : Desk
begun_both = record small_desk { log = line.Begin reader ∷ line.Begin writer ∷ [] }

abbrev desk_0 : Zone
desk_0 = empty_zone 0 (at.Desk small_desk)

abbrev desk_1 : Zone
desk_1 = delivered sizes ((id.Logical 0, item.Request write) ∷ []) (served desk_0 [] (at.Desk begun_one))

abbrev desk_2 : Zone
desk_2 = delivered sizes ((id.Logical 0, item.Request read) ∷ []) (served desk_1 [] (at.Desk begun_both))

abbrev core_1 : Core
core_1 = after small_core 0 desk_0 [] (at.Desk begun_one) (Says (line.Begin writer) ∷ []) ((id.Logical 0, item.Request write) ∷ [])

abbrev core_2 : Core
core_2 = after core_1 0 desk_1 [] (at.Desk begun_both) (Says (line.Begin reader) ∷ []) ((id.Logical 0, item.Request read) ∷ [])

step_1 : StepOf sizes small_core core_1
step_1 =
    does small_core 0 desk_0 [] [] (at.Desk begun_one) (Says (line.Begin writer) ∷ []) ((id.Logical 0, item.Request write) ∷ []) refl (omega arith) refl (λ is. refl)
    (steps.begins (DeskBegins.sends writer (request.Write at_5 zero_block false) write (record { may = (refl, refl, omega arith); lowest = λ w may. omega arith }) refl refl refl refl refl refl))

step_2 : StepOf sizes core_1 core_2
step_2 =
    does core_1 0 desk_1 [] [] (at.Desk begun_both) (Says (line.Begin reader) ∷ []) ((id.Logical 0, item.Request read) ∷ []) refl (omega arith) refl (λ is. refl)
    (steps.begins (DeskBegins.sends reader (request.Read at_5) read (record { may = (refl, refl, omega arith); lowest = λ w may. omega arith }) refl refl refl refl refl refl))

-- They come to their logical zone, which has no lock: the write gets it, the read waits.
abbrev look : Vio
look = turned phase.Look (placed (logical 0) write)

abbrev page : PageId
page = leaf_of 5

abbrev logical_4 : LogicalZone
logical_4 = record (drawn_by (logical 0) write) { held = lock_of (placed (logical 0) write) ∷ [] }

abbrev logical_5 : LogicalZone
logical_5 = record (drawn_by logical_4 read) { waiting = turned phase.Wait (placed logical_4 read) ∷ [] }

abbrev logical_6 : LogicalZone
logical_6 = record logical_5 { making = page ∷ [] }

abbrev home_0 : Zone
home_0 = empty_zone 1 (at.Logical (logical 0))

abbrev home_3 : Zone
home_3 = with_inbox home_0 (item.Request write ∷ item.Request read ∷ [])

abbrev home_4 : Zone
home_4 = delivered sizes (looks_up (placed (logical 0) write) ∷ []) (served home_3 (item.Request read ∷ []) (at.Logical logical_4))

abbrev home_5 : Zone
home_5 = served home_4 (item.Request look ∷ []) (at.Logical logical_5)

abbrev home_6 : Zone
home_6 = delivered sizes ((id.Physical 0, item.Request (makes page look)) ∷ []) (served home_5 [] (at.Logical logical_6))

abbrev core_3 : Core
core_3 = handed core_2 0 1 desk_2 home_0 (item.Request write ∷ item.Request read ∷ [])

abbrev core_4 : Core
core_4 = after core_3 1 home_3 (item.Request read ∷ []) (at.Logical logical_4) (Draws (place_of_vio (logical 0) write) ∷ []) (looks_up (placed (logical 0) write) ∷ [])

abbrev core_5 : Core
core_5 = after core_4 1 home_4 (item.Request look ∷ []) (at.Logical logical_5) (Draws (place_of_vio logical_4 read) ∷ []) []

abbrev core_6 : Core
core_6 = after core_5 1 home_5 [] (at.Logical logical_6) [] ((id.Physical 0, item.Request (makes page look)) ∷ [])

move_3 : MoveOf core_2 core_3
move_3 = record { from = 0; to = 1; source = desk_2; target = home_0; part = item.Request write ∷ item.Request read ∷ []; left = []; apart = λ is. omega (arith, is); had_source = refl; had_target = refl; outbox = refl; has = refl }

step_4 : StepOf sizes core_3 core_4
step_4 =
    does core_3 1 home_3 (item.Request write ∷ []) (item.Request read ∷ []) (at.Logical logical_4) (Draws (place_of_vio (logical 0) write) ∷ []) (looks_up (placed (logical 0) write) ∷ []) refl (omega arith) refl (λ is. absurd cc)
    (steps.serves (LogicalServes.arrives_free refl refl refl refl refl refl))

step_5 : StepOf sizes core_4 core_5
step_5 =
    does core_4 1 home_4 (item.Request read ∷ []) (item.Request look ∷ []) (at.Logical logical_5) (Draws (place_of_vio logical_4 read) ∷ []) [] refl (omega arith) refl (λ is. absurd cc)
    (steps.serves (LogicalServes.arrives_held refl refl refl refl refl refl))

-- The write lacks its leaf, and makes it.
of_tree : IsTreeOf (bare small 0 2).forest (5 / 812 % 60)
unfolding bare
of_tree = record { inside = omega arith; own = refl }

path : HasPath (bare small 0 2) 5
unfolding bare
path = record { inside = omega arith; own = of_tree }

linkable : IsLinkable (bare small 0 2) page
unfolding bare
linkable = record { path = record { address = 5; inside = omega arith; level = omega arith; there = refl; tree = of_tree }; lower = λ root. omega (arith, root.level) }

unlinked : (link : Option Pbn) → link ≡ None → ◌≡◌ {A = Option PageId} (if is_some link then None else Some page) (Some page)
unlinked None is = refl
unlinked (Some x) is = absurd cc

lacking : lacks logical_5 look ≡ Some page
unfolding bare
lacking = unlinked (link_at (bare small 0 2) page) ((bare_is small 0 2 small_is (omega arith) (omega arith) refl).linked page linkable)

step_6 : StepOf sizes core_5 core_6
step_6 =
    does core_5 1 home_5 (item.Request look ∷ []) [] (at.Logical logical_6) [] ((id.Physical 0, item.Request (makes page look)) ∷ []) refl (omega arith) refl (λ is. absurd cc)
    (steps.serves (LogicalServes.makes_page page refl path lacking refl refl refl refl refl))

-- It comes to the physical zone, of which it asks a block for the page.
abbrev counting_0 : Zone
counting_0 = empty_zone 3 (at.Physical small_physical)

abbrev pub mid_core : Core
mid_core = handed core_6 1 3 home_6 counting_0 (item.Request (makes page look) ∷ [])

move_7 : MoveOf core_6 mid_core
move_7 = record { from = 1; to = 3; source = home_6; target = counting_0; part = item.Request (makes page look) ∷ []; left = []; apart = λ is. omega (arith, is); had_source = refl; had_target = refl; outbox = refl; has = refl }

-- So it is legal ..
pub mid_legal : Legal small_session mid_core
mid_legal =
    legal_leads small_session small_core mid_core small_served
    (steps.moves move_7 (steps.steps step_6 (steps.steps step_5 (steps.steps step_4 (steps.moves move_3 (steps.steps step_2 (steps.steps step_1 steps.rests)))))))
    small_legal

-- .. and so is each of its zones: the home, with the lock, the read that waits for it and the page that is made; the physical zone,
-- with the write in its inbox; and the desk
abbrev home_now : Zone
home_now = with_outboxes home_6 (slice_set home_6.ports.outboxes 3 [])

abbrev physical_now : Zone
physical_now = with_inbox counting_0 (item.Request (makes page look) ∷ [])

abbrev desk_now : Zone
desk_now = with_outboxes desk_2 (slice_set desk_2.ports.outboxes 1 [])

home_ok : ZoneOk small_session mid_core.trace 1 home_now
home_ok = mid_legal.each 1 home_now refl

physical_ok : ZoneOk small_session mid_core.trace 3 physical_now
physical_ok = mid_legal.each 3 physical_now refl

desk_ok : ZoneOk small_session mid_core.trace 0 desk_now
desk_ok = mid_legal.each 0 desk_now refl

has_all : (home_now.keeps ≡ at.Logical logical_6) × (logical_6.held ≡ record { at = at_5; place = 0 } ∷ []) × (mid_core.trace ≡ Draws (place_of_vio logical_4 read) ∷ Draws (place_of_vio (logical 0) write) ∷ Says (line.Begin reader) ∷ Says (line.Begin writer) ∷ [])
has_all = (refl, refl, refl)
