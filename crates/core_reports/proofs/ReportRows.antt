-- What the zones of a small core have of its report, and the requests that are found: each clause is met, and is broken
-- alone.
use Rattle.std.proofs.Common.{ℕ, zero, suc, ◌≡◌, ◌<◌, ◌+◌, false, true, Option, Some, None, List, [], ◌∷◌, get_or, replicate, slice_get, sym, ap, ◌∙◌, refl, arith}
use Rattle.std.proofs.lemmas.Bool.{false≢true}
use Rattle.std.proofs.lemmas.List.{length-replicate}
use Rattle.std.proofs.lemmas.Option.{same_Some}
use Rattle.std.specs.List.{AllByRecursion}
use Rattle.plain_laws.proofs.ListLaws.{every-get}
use Rattle.blk_base.specs.declared.geometry.Geometry.{Geometry}
use Rattle.blk_base.specs.declared.request.Answer.TheVariants as reply
use Rattle.blk_base.specs.declared.request.Request.TheVariants.{Flush}
use Rattle.blk_base.specs.declared.request.Writer.{Writer}
use Rattle.blk_base.specs.Forms.{writer, pbn as block}
use Rattle.vdo_model.specs.declared.report.DeskLine.{DeskLine}
use Rattle.vdo_model.specs.declared.report.DeskLine.TheVariants.{Begin, Answer}
use Rattle.vdo_model.specs.declared.report.Placed.{Placed}
use Rattle.vdo_model.specs.Histories.{Progress}
use Rattle.data_vio.specs.declared.logged.Logged.TheVariants.{Remaps}
use Rattle.core_model.specs.DeskData.{Desk}
use Rattle.core_model.specs.Reports.{is_there}
use Rattle.core_model.specs.Trace.{logged_of, remappings}
use Rattle.core_model.specs.JournalData.{JournalZone}
use Rattle.core_model.specs.declared.zones.DeviceZone.{DeviceZone}
use Rattle.core_model.specs.declared.zones.PhysicalZone.{PhysicalZone}
use Rattle.zone_counts.specs.Zone.{used_in}
use Rattle.core_model.specs.declared.zones.SuperblockStage.TheVariants.{Durable}
use Rattle.page_codec.specs.declared.fault.PageFault.TheVariants.{Header}
use Rattle.vdo_model.specs.declared.report.Damage.{Damage}
use Rattle.vdo_model.specs.declared.report.Damage.TheVariants.{Page}
use Rattle.data_vio.specs.declared.logged.Logged.{Logged}
use Rattle.data_vio.specs.declared.logged.Remapping.{Remapping}
use Rattle.core_model.specs.declared.zones.Zone.{Zone}
use Rattle.core_model.specs.declared.zones.ZoneData.{ZoneData}
use Rattle.core_model.specs.declared.zones.ZoneData.TheVariants as at
use Rattle.core_model.proofs.ZoneForms.{desk, device, empty_log, journal, logical, nothing, one, physical, slab_with, zone_with}
use Rattle.core_model.proofs.WorkedTraces.{first, of_first, other, place, script, second}
use Rattle.core_reports.specs.Found.{AreEntered, AreFound, AreNoted, IsFound, entered_in}
use Rattle.core_reports.specs.Listed.{HasDamage, HasDesk, HasEntered, HasGeometry, places_at, places_of_all, used_by, used_by_all}
use Rattle.core_reports.specs.Rooms.{IsRoomFor}

-- room: for one request of stream 0 and two of stream 1, and too little for stream 1
room_enough : IsRoomFor (1 ∷ 2 ∷ []) ((Flush ∷ []) ∷ (Flush ∷ Flush ∷ []) ∷ [])
room_enough zero within = omega arith
room_enough (suc zero) within = omega arith
room_enough (suc (suc stream)) within = omega arith

room_short : IsRoomFor (2 ∷ 1 ∷ []) ((Flush ∷ []) ∷ (Flush ∷ Flush ∷ []) ∷ []) → ⊥
room_short is = absurd (let fits = is 1 (omega arith) in omega (arith, fits))

abbrev zone : ℕ → ZoneData → Zone
zone number keeps = record { number = number; steps = 0; keeps = keeps; ports = record { inbox = []; outboxes = [] } }

-- two places were drawn in the first logical zone, one in the second; one entry was handed in
abbrev near : List Placed
near = place second 0 1 ∷ place first 0 0 ∷ []

abbrev far : List Placed
far = place other 1 0 ∷ []

abbrev front : Zone
front = zone 0 (desk [] [] 0 [])

abbrev of_journal : List Remapping → Zone
of_journal entries = zone 4 (journal false empty_log [] [] entries [])

abbrev zones : List Zone
zones = front ∷ zone 1 (logical 2 near [] [] [] []) ∷ zone 2 (logical 1 far [] [] [] []) ∷ zone 3 (physical nothing nothing) ∷ of_journal (of_first ∷ []) ∷ zone 5 (device false 0) ∷ []

-- a logical zone alone has places
places_at_logical : places_at (logical 2 near [] [] [] []) ≡ near
places_at_logical = refl

places_at_desk : places_at (desk [] [] 0 []) ≡ []
places_at_desk = refl

places_at_journal : places_at (journal false empty_log [] [] (of_first ∷ []) []) ≡ []
places_at_journal = refl

-- those of the second zone stand before those of the first one, which are older
all_places : places_of_all zones ≡ place other 1 0 ∷ place second 0 1 ∷ place first 0 0 ∷ []
all_places = refl

-- the desk
abbrev data_of : ℕ → Desk
data_of notices = record { requests = script; log = []; marks = []; receipts = []; notices = notices; parked = [] }

desk_there : HasDesk (data_of 0) zones
desk_there = record { zone = front; had = refl; keeps = refl }

abbrev notices_at : ZoneData → ℕ
notices_at (at.Desk d) = d.notices
notices_at kept = 0

-- had: there is none; keeps: it keeps something else
no_desk : HasDesk (data_of 0) [] → ⊥
no_desk is = absurd (let had = is.had in cc)

other_desk : HasDesk (data_of 1) zones → ⊥
other_desk is =
    let same : front ≡ is.zone = same_Some _ _ is.had in
    let count : 0 ≡ 1 = ap (λ (z : Zone). notices_at z.keeps) same ∙ ap notices_at is.keeps in
    absurd (omega (arith, count))

-- the journal
abbrev Enters : List Logged → Zone → Type 0
Enters entries z = (j : JournalZone) → z.keeps ≡ at.Journal j → j.entered ≡ entries

abbrev entered_at : ZoneData → List Logged
entered_at (at.Journal j) = j.entered
entered_at kept = []

all_enter : AllByRecursion (Enters (Remaps of_first ∷ [])) zones
all_enter =
    ((λ j is. absurd cc), ((λ j is. absurd cc), ((λ j is. absurd cc), ((λ j is. absurd cc), ((λ j is. ap entered_at (sym is)), ((λ j is. absurd cc), tt))))))

entered_there : HasEntered (Remaps of_first ∷ []) zones
entered_there = record {
  number = 4;
  zone = of_journal (of_first ∷ []);
  journal = record { notified = false; busy = false; broken = false; log = empty_log; filling = []; waiting = []; entered = Remaps of_first ∷ []; committed = [] };
  had = refl;
  keeps = refl;
  each = λ n z j had keeps. every-get (Enters (Remaps of_first ∷ [])) zones n z all_enter had j keeps;
}

-- had, keeps: there is none; each: there are two, and one of them has handed in nothing
only_desk : (n : ℕ) (z : Zone) (j : JournalZone) → slice_get (front ∷ []) n ≡ Some z → z.keeps ≡ at.Journal j → ⊥
only_desk zero z j had keeps =
    let same : desk [] [] 0 [] ≡ at.Journal j = ap (λ (y : Zone). y.keeps) (same_Some _ _ had) ∙ keeps in
    cc
only_desk (suc n) z j had keeps = cc

no_journal : HasEntered (Remaps of_first ∷ []) [] → ⊥
no_journal is = absurd (let had = is.had in cc)

desk_is_none : HasEntered (Remaps of_first ∷ []) (front ∷ []) → ⊥
desk_is_none is = only_desk is.number is.zone is.journal is.had is.keeps

two_journals : HasEntered (Remaps of_first ∷ []) (of_journal (of_first ∷ []) ∷ of_journal [] ∷ []) → ⊥
two_journals is = absurd (let none = is.each 1 (of_journal []) _ refl refl in cc)

-- the device's zone, which found this first
abbrev bad_leaf : Option Damage
bad_leaf = Some (Page (block 79) Header)

abbrev of_device : Option Damage → Zone
of_device damage = record { number = 5; steps = 0; keeps = at.Device (record { stopped = true; calls = 7; superblock = Durable; damage = damage }); ports = front.ports }

abbrev damage_at : ZoneData → Option Damage
damage_at (at.Device d) = d.damage
damage_at kept = None

damage_there : HasDamage bad_leaf (front ∷ of_device bad_leaf ∷ [])
damage_there = record { number = 1; zone = of_device bad_leaf; device = _; had = refl; keeps = refl; each = each }
  where
    each : (n : ℕ) (z : Zone) (d : DeviceZone) → slice_get (front ∷ of_device bad_leaf ∷ []) n ≡ Some z → z.keeps ≡ at.Device d → d.damage ≡ bad_leaf
    each zero z d had keeps = absurd (let same : desk [] [] 0 [] ≡ at.Device d = ap (λ (y : Zone). y.keeps) (same_Some _ _ had) ∙ keeps in cc)
    each (suc zero) z d had keeps = ap damage_at (sym (ap (λ (y : Zone). y.keeps) (same_Some _ _ had) ∙ keeps))
    each (suc (suc n)) z d had keeps = absurd cc

-- had, keeps: there is none; each: there are two, and one of them found nothing
no_device : HasDamage bad_leaf (front ∷ []) → ⊥
no_device is = by is.number is.zone is.device is.had is.keeps
  where
    by : (n : ℕ) (z : Zone) (d : DeviceZone) → slice_get (front ∷ []) n ≡ Some z → z.keeps ≡ at.Device d → ⊥
    by zero z d had keeps = let same : desk [] [] 0 [] ≡ at.Device d = ap (λ (y : Zone). y.keeps) (same_Some _ _ had) ∙ keeps in cc
    by (suc n) z d had keeps = cc

two_devices : HasDamage bad_leaf (of_device bad_leaf ∷ of_device None ∷ []) → ⊥
two_devices is = absurd (let none = is.each 1 (of_device None) _ refl refl in cc)

-- a physical zone, with these counters
abbrev of_counters : List ℕ → Zone
of_counters counters = zone 3 (physical counters nothing)

-- used_by, used_by_all: two physical zones, of which each block is used in the one, and none in the other; the desk counts none
used_there : (used_by (physical one nothing) ≡ used_in (zone_with (slab_with one nothing)).slabs) × (used_by (desk [] [] 0 []) ≡ 0)
used_there = (refl, refl)

used_in_all : used_by_all (front ∷ of_counters one ∷ of_counters nothing ∷ of_counters one ∷ [])
    ≡ used_in (zone_with (slab_with one nothing)).slabs + used_in (zone_with (slab_with one nothing)).slabs
used_in_all = refl

geometry_there : HasGeometry (zone_with (slab_with one nothing)).geometry (front ∷ of_counters one ∷ [])
geometry_there = record { number = 1; zone = of_counters one; physical = _; had = refl; keeps = refl; each = each }
  where
    geometry_at : ZoneData → Option Geometry
    geometry_at (at.Physical p) = Some p.counts.geometry
    geometry_at kept = None

    each : (n : ℕ) (z : Zone) (p : PhysicalZone) → slice_get (front ∷ of_counters one ∷ []) n ≡ Some z → z.keeps ≡ at.Physical p → p.counts.geometry ≡ (zone_with (slab_with one nothing)).geometry
    each zero z p had keeps = absurd (let same : desk [] [] 0 [] ≡ at.Physical p = ap (λ (y : Zone). y.keeps) (same_Some _ _ had) ∙ keeps in cc)
    each (suc zero) z p had keeps = same_Some _ _ (ap geometry_at (sym (ap (λ (y : Zone). y.keeps) (same_Some _ _ had) ∙ keeps)))
    each (suc (suc n)) z p had keeps = absurd cc

-- had, keeps: there is none; each: one is of an image of other sizes
no_physical : (g : Geometry) → HasGeometry g (front ∷ []) → ⊥
no_physical g is = by is.number is.zone is.physical is.had is.keeps
  where
    by : (n : ℕ) (z : Zone) (p : PhysicalZone) → slice_get (front ∷ []) n ≡ Some z → z.keeps ≡ at.Physical p → ⊥
    by zero z p had keeps = let same : desk [] [] 0 [] ≡ at.Physical p = ap (λ (y : Zone). y.keeps) (same_Some _ _ had) ∙ keeps in cc
    by (suc n) z p had keeps = cc

other_sizes : HasGeometry (record (zone_with (slab_with one nothing)).geometry { slabs = 7 }) (front ∷ of_counters one ∷ []) → ⊥
other_sizes is = absurd (let sizes = ap (λ (g : Geometry). g.slabs) (is.each 1 (of_counters one) _ refl refl) in omega (arith, sizes))

-- notes: the first request of stream 0 is answered by line 1
abbrev answered : Writer → List DeskLine
answered w = Answer w reply.Stopped ∷ Begin w ∷ []

abbrev lines : List DeskLine
lines = Begin first ∷ Answer first reply.Stopped ∷ []

are_noted : AreNoted lines ((Some 1 ∷ None ∷ []) ∷ [])
are_noted zero below zero within = record { by = first; answer = reply.Stopped; there = refl; newest = refl }
are_noted zero below (suc zero) within = refl
are_noted zero below (suc (suc n)) within = absurd (omega arith)
are_noted (suc stream) below n within = absurd (omega arith)

not_noted : AreNoted lines ((None ∷ []) ∷ []) → ⊥
not_noted notes = absurd (let none = notes 0 (omega arith) 0 (omega arith) in cc)

is_found : IsFound (answered first) (1 ∷ []) first
is_found = record { stream = omega arith; number = omega arith; answered = refl }

-- stream: there are streams 0 to 15; number: there is room for one request; answered: it isn't
late_stream : IsFound (answered (writer 16 0)) (replicate 17 1) (writer 16 0) → ⊥
late_stream is = absurd (omega (arith, is.stream))

late_number : IsFound (answered (writer 0 1)) (1 ∷ []) (writer 0 1) → ⊥
late_number is = absurd (omega (arith, is.number))

unanswered : IsFound (Begin first ∷ []) (1 ∷ []) first → ⊥
unanswered is = absurd (let some = is.answered in cc)

-- how far each write has come: the first one's entry was handed in
abbrev progress : Progress
progress = record { is_set = λ w. false; is_handed = λ w. is_there (logged_of (remappings (Remaps of_first ∷ [])) w) }

abbrev drawn : Placed
drawn = place first 0 0

are_found : AreFound (answered first) (1 ∷ []) (Remaps of_first ∷ []) progress (drawn ∷ [])
are_found = record { few = omega arith; handed = λ w stopped. refl; found = (is_found, tt) }

-- few: one place more than there may be requests; handed: another entry was; found: the request isn't answered
too_many : AreFound (answered first) (1 ∷ []) (Remaps of_first ∷ []) progress (replicate 65537 drawn) → ⊥
too_many is = absurd (omega (arith, is.few, length-replicate 65537 drawn))

other_handed : AreFound (answered first) (1 ∷ []) [] progress (drawn ∷ []) → ⊥
other_handed is = absurd (let handed = is.handed first refl in cc)

not_found : AreFound (Begin first ∷ []) (1 ∷ []) (Remaps of_first ∷ []) progress (drawn ∷ []) → ⊥
not_found is = unanswered is.found.0

-- it is noted that the entry of one request was handed in
told_first : (stream number : ℕ) → number < get_or (1 ∷ []) stream 0
    → entered_in ((true ∷ []) ∷ []) (writer stream number) ≡ is_there (logged_of (remappings (Remaps of_first ∷ [])) (writer stream number))
told_first zero zero within = refl
told_first zero (suc number) within = absurd (omega (arith, within))
told_first (suc stream) number within = absurd (omega (arith, within))

are_entered : AreEntered (Remaps of_first ∷ []) (1 ∷ []) ((true ∷ []) ∷ [])
are_entered = record { room_is = refl; told = λ w within. told_first w.stream w.number within }

no_room_for_two : AreEntered (Remaps of_first ∷ []) (2 ∷ []) ((true ∷ []) ∷ []) → ⊥
no_room_for_two is = let same = ap (λ (room : List ℕ). get_or room 0 0) is.room_is in absurd (omega (arith, same))

entry_not_noted : AreEntered (Remaps of_first ∷ []) (1 ∷ []) ((false ∷ []) ∷ []) → ⊥
entry_not_noted is = absurd (false≢true (is.told first (omega arith)))

not_entered : entered_in [] first ≡ false
not_entered = refl
