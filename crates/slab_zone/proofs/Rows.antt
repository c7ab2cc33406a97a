-- For each clause of what a zone takes and writes a case that it accepts, and one that breaks it alone.
use Rattle.std.specs.Prelude.{ℕ, ◌≡◌, ◌+◌, ◌*◌, ◌<◌, List, [], ◌∷◌, false, drop, length, replicate, None, Some}
use Rattle.std.proofs.Common.{◌∙◌, ap, arith, inl, inr, refl, sym}
use Rattle.std.proofs.lemmas.Bool.{cases_eq}
use Rattle.std.proofs.lemmas.List.{length-replicate}
use Rattle.blk_base.specs.declared.geometry.Geometry.{Geometry}
use Rattle.blk_base.specs.declared.journal_entry.Update.{Update}
use Rattle.blk_base.specs.declared.opened.Opened.{Opened}
use Rattle.blk_base.specs.declared.point.Half.TheVariants.{Decrement}
use Rattle.blk_base.specs.declared.point.Point.{Point}
use Rattle.blk_base.specs.Forms.{point as p, pbn as at}
use Rattle.slab_codec.specs.declared.forms.SlabEntry.{SlabEntry}
use Rattle.slab_counts.specs.Counts.{Counts}
use Rattle.slab_journal.specs.Unsettled.{IsLowPoint, IsUnsettled}
use Rattle.slab_tickets.specs.Tickets.{Desk}
use Rattle.slab_writes.specs.Operations as writes
use Rattle.slab_writes.specs.Due.{IsDue, NoneDue}
use Rattle.slab_writes.specs.Writes.{Writes, opening, taken}
use Rattle.slab_writes.specs.declared.forms.Need.{Need}
use Rattle.slab_writes.specs.declared.forms.SlabPart.TheVariants as part
use Rattle.slab_writes.specs.declared.forms.SlabWork.{SlabWork}
use Rattle.zone_counts.specs.Operations as counts
use Rattle.zone_counts.specs.Zone.{Zone, IsOfZone}
use Rattle.slab_zone.specs.Lesser.{IsLesser}
use Rattle.slab_zone.specs.Whole.{WholeZone, AreOfSlab, AreOfZone, AreOpenedWrites, writes_at}
use Rattle.slab_zone.specs.ZoneWrites.{HasRoomAt, MayTake, RisesIn, TakesUpdate, IsDueAmong, IsDueIn, NoneDueBefore, IsOutIn, SettlesIn, IsLowPointBefore, NoneUnsettledBefore}
use Rattle.slab_zone.specs.Operations.{Operation, Counted, Taken, Written, TakesNone, HandsOutWith, WritesSlab, AreAbove, HandsOut, Reports, calls_of, counted_of, updates_in}

-- four slabs of 16 data blocks each, which begin at 85, 104, 123 and 142; the second of two zones has 104 and 142
abbrev pub sizes : Geometry
sizes = record { logical = 1000; slabs = 4; slab_blocks = 16; journal = 8; index = 16; slab_journal = 2; height = 2; nonce = 1 }

-- the image has commit point 7 for each slab
abbrev pub commits : List Point
commits = p 7 ∷ p 7 ∷ p 7 ∷ p 7 ∷ []

abbrev pub opened : ℕ → Writes
opened n = opening sizes n commits

abbrev pub both : List Writes
both = opened 1 ∷ opened 3 ∷ []

-- a decrement of the fourth block of slab 1
abbrev pub update : Update
update = record { at = at 107; point = p 513 }

abbrev pub waits : Writes
waits = taken (opened 1) update

abbrev pub slab : ℕ → ℕ → Counts
slab number count =
    record { geometry = sizes; slab = number; counters = 1 ∷ 1 ∷ 1 ∷ count ∷ replicate 12 1; claims = replicate 16 0; pages = replicate 16 false }

abbrev desk : Desk
desk = record { zone = 1; room = 3; issued = 6; step = Some 9; last_free = None; out = [] }

abbrev pub zone : Zone
zone = record { geometry = sizes; zone = 1; zones = 2; slabs = slab 1 2 ∷ slab 3 2 ∷ []; desk = desk }

abbrev pub first : WholeZone
first = record { counts = zone; writes = both }

abbrev head_of : List ℕ → ℕ
head_of [] = 0
head_of (n ∷ ns) = n

-- the counter of the fourth block
abbrev counter : Counts → ℕ
counter c = head_of (drop 3 c.counters)

-- AreOfSlab
of_slab_one : AreOfSlab sizes 1 (opened 1)
of_slab_one = record { journal = refl; slab = refl; blocks = refl }

journal_of_another_image : ¬ AreOfSlab sizes 1 (record (opened 1) { journal = record (opened 1).journal { geometry = record sizes { nonce = 2 } } })
journal_of_another_image = λ is. let no : 2 ≡ 1 = ap (λ (g : Geometry). g.nonce) is.journal in omega (arith, no)

journal_of_another_slab : ¬ AreOfSlab sizes 1 (opened 3)
journal_of_another_slab = λ is. let no : 3 ≡ 1 = is.slab in omega (arith, no)

blocks_of_another_image : ¬ AreOfSlab sizes 1 (record (opened 1) { blocks = record (opened 1).blocks { geometry = record sizes { nonce = 2 } } })
blocks_of_another_image = λ is. let no : 2 ≡ 1 = ap (λ (g : Geometry). g.nonce) is.blocks in omega (arith, no)

-- AreOfZone
pub of_zone_one : AreOfZone sizes 1 2 2 both
of_zone_one = record {
  many = refl;
  each = λ k below. elim (cases_eq k 0) [
    | inl is ↦ rw is (record { journal = refl; slab = refl; blocks = refl })
    | inr later ↦ let one : k ≡ 1 = omega (arith, below, later) in rw one (record { journal = refl; slab = refl; blocks = refl })
  ];
}

one_is_missing : ¬ AreOfZone sizes 1 2 2 (opened 1 ∷ [])
one_is_missing = λ is. omega (arith, is.many)

in_the_other_order : ¬ AreOfZone sizes 1 2 2 (opened 3 ∷ opened 1 ∷ [])
in_the_other_order = λ is. let no : 3 ≡ 1 = (is.each 0 (omega arith)).slab in omega (arith, no)

-- AreOpenedWrites: of an image with these sizes and commit points
module _ (image : Opened) (sizes_are : image.head.geometry ≡ sizes) (commits_are : image.commits.items ≡ commits) where
  pub as_opened : (n : ℕ) → opening image.head.geometry n image.commits.items ≡ opened n
  as_opened n = ap (λ (g : Geometry). opening g n image.commits.items) sizes_are ∙ ap (λ (points : List Point). opening sizes n points) commits_are

  pub are_opened : AreOpenedWrites image 1 2 2 both
  are_opened = record {
    many = refl;
    each = λ k below. each k below ∙ sym (as_opened (k * 2 + 1));
  }
    where
      each : (k : ℕ) → k < 2 → writes_at both k ≡ opened (k * 2 + 1)
      each k below = elim (cases_eq k 0) [ inl is ↦ rw is refl | inr later ↦ let one : k ≡ 1 = omega (arith, below, later) in rw one refl ]

  one_too_few : ¬ AreOpenedWrites image 1 2 2 (opened 1 ∷ [])
  one_too_few = λ is. omega (arith, is.many)

  opened_with_an_update : ¬ AreOpenedWrites image 1 2 2 (waits ∷ opened 3 ∷ [])
  opened_with_an_update = λ is. let no : 513 ≡ 511 = ap (λ (w : Writes). w.journal.last.0) (is.each 0 (omega arith) ∙ as_opened 1) in omega (arith, no)

-- HasRoomAt, RisesIn
none_waits : HasRoomAt first (at 107)
none_waits = omega arith

abbrev filled : WholeZone
filled = record first { writes = record (opened 1) { journal = record (opened 1).journal { filling = replicate 320 (record { point = p 512; offset = 0 }) } } ∷ opened 3 ∷ [] }

no_room_in_slab_one : ¬ HasRoomAt filled (at 107)
no_room_in_slab_one = λ is. omega (arith, is, length-replicate {A = SlabEntry} 320 (record { point = p 512; offset = 0 }))

room_in_slab_three : HasRoomAt filled (at 145)
room_in_slab_three = omega arith

pub rises : RisesIn first update
rises = omega arith

pub does_not_rise : ¬ RisesIn (record first { writes = waits ∷ opened 3 ∷ [] }) update
does_not_rise = λ is. omega (arith, is)

-- TakesUpdate
abbrev pub after : WholeZone
after = record { counts = record zone { slabs = slab 1 1 ∷ slab 3 2 ∷ [] }; writes = waits ∷ opened 3 ∷ [] }

-- MayTake: of the zone, with room, and above what was taken
pub update_here : IsOfZone zone (at 107)
update_here = record { data_block = record { slab = 1; offset = 3; inside = (omega arith, omega arith); stands = refl }; own = refl }

may_take_it : MayTake first update
may_take_it = record { own = update_here; room = none_waits; rises = rises }

update_of_the_other_zone : ¬ MayTake first (record update { at = at 85 })
update_of_the_other_zone = λ is. let no : 0 ≡ 1 = is.own.own in omega (arith, no)

where_no_room_is : ¬ MayTake filled update
where_no_room_is = λ is. no_room_in_slab_one is.room

at_a_point_taken : ¬ MayTake (record first { writes = waits ∷ opened 3 ∷ [] }) update
at_a_point_taken = λ is. does_not_rise is.rises

pub takes_it : TakesUpdate first after update (slab 1 1)
takes_it = record { takes = (omega arith, refl); changes = record { serves = inl (inl refl, refl, refl); same = refl }; writes = refl }

counts_it_twice : ¬ TakesUpdate first after update (slab 1 0)
counts_it_twice = λ is. let no : 0 ≡ 1 = ap (λ (c : Counts). counter c) is.takes.1 in omega (arith, no)

does_not_write_it : ¬ TakesUpdate first (record after { writes = both }) update (slab 1 1)
does_not_write_it = λ is. let no : 511 ≡ 513 = ap (λ (ws : List Writes). (writes_at ws 0).journal.last.0) is.writes in omega (arith, no)

forgets_the_step : ¬ TakesUpdate first (record after { counts = record after.counts { zone = 0 } }) update (slab 1 1)
forgets_the_step = λ is. let no : 0 ≡ 1 = ap (λ (z : Zone). z.zone) is.changes.same in omega (arith, no)

-- IsDueAmong, NoneDueBefore: a block of the second slab
module _ (need : Need) (now : Writes) (bytes : List ℕ) (work : SlabWork) where
  due_of_the_second : NoneDue need (opened 1) → IsDue need (opened 3) now (slab 3 2).counters bytes work → IsDueAmong need zone.slabs both (opened 1 ∷ now ∷ []) bytes work
  due_of_the_second none due = record { place = 1; inside = omega arith; before = λ k below. let here : k ≡ 0 = omega (arith, below) in rw here none; slab = now; due = due; after = refl }

  due_of_the_first_too : ¬ NoneDue need (opened 1) → (is : IsDueAmong need zone.slabs both (opened 1 ∷ now ∷ []) bytes work) → ¬ (is.place ≡ 1)
  due_of_the_first_too due is second = due (is.before 0 (omega (arith, second)))

  a_slab_is_lost : ¬ IsDueAmong need zone.slabs both [] bytes work
  a_slab_is_lost is = elim (cases_eq is.place 0) [
    | inl here ↦ let no : 0 ≡ 2 = ap (λ (ws : List Writes). length ws) is.after ∙ rw here refl in omega (arith, no)
    | inr later ↦
        let one : is.place ≡ 1 = omega (arith, is.inside, later) in
        let no : 0 ≡ 2 = ap (λ (ws : List Writes). length ws) is.after ∙ rw one refl in omega (arith, no)
  ]

  none_due_up_to_the_first : NoneDue need (opened 1) → NoneDueBefore need both 1
  none_due_up_to_the_first none k below = let here : k ≡ 0 = omega (arith, below) in rw here none

  one_of_them_is_due : ¬ NoneDue need (opened 3) → ¬ NoneDueBefore need both 2
  one_of_them_is_due due all = due (all 1 (omega arith))

-- IsDueIn
module _ (need : Need) (new : List Writes) (bytes : List ℕ) (work : SlabWork) (due : IsDueAmong need zone.slabs both new bytes work) where
  due_in_the_zone : IsDueIn need first (record first { writes = new }) bytes work
  due_in_the_zone = record { due = due; same = refl }

  becomes_another_zone : ¬ IsDueIn need first (record { counts = record zone { zone = 0 }; writes = new }) bytes work
  becomes_another_zone is = let no : 0 ≡ 1 = ap (λ (z : WholeZone). z.counts.zone) is.same in omega (arith, no)

-- IsOutIn, SettlesIn: the journal block of slab 1
abbrev sealed : Writes
sealed = record waits { journal = record waits.journal { sequence = 2; filling = []; slots = [] ∷ waits.journal.filling ∷ [] } }

abbrev work : SlabWork
work = record { at = at 122; slab = 1; part = part.Journal; number = 1 }

abbrev pub out : WholeZone
out = record after { writes = sealed ∷ opened 3 ∷ [] }

is_out : IsOutIn out work
is_out = record { inside = omega arith; own = refl; out = (omega arith, refl) }

past_the_last_slab : ¬ IsOutIn out (record work { slab = 5 })
past_the_last_slab = λ is. omega (arith, is.inside)

of_the_other_zone : ¬ IsOutIn out (record work { slab = 0 })
of_the_other_zone = λ is. let no : 0 ≡ 1 = is.own in omega (arith, no)

of_the_slab_behind : ¬ IsOutIn out (record work { slab = 3 })
of_the_slab_behind = λ is. omega (arith, is.out.0)

abbrev pub durable : Writes
durable = record sealed { journal = record sealed.journal { durable = 2 } }

settles : SettlesIn out (record out { writes = durable ∷ opened 3 ∷ [] }) work
settles = record { slab = durable; settles = refl; after = refl }

settles_nothing : ¬ SettlesIn out out work
settles_nothing = λ is.
    let made : 1 ≡ is.slab.journal.durable = ap (λ (z : WholeZone). (writes_at z.writes 0).journal.durable) is.after in
    let now : is.slab.journal.durable ≡ 2 = ap (λ (w : Writes). w.journal.durable) is.settles in
    omega (arith, made, now)

loses_the_other_slab : ¬ SettlesIn out (record out { writes = durable ∷ [] }) work
loses_the_other_slab = λ is. let no : 1 ≡ 2 = ap (λ (z : WholeZone). length z.writes) is.after in omega (arith, no)

-- IsLowPointBefore, NoneUnsettledBefore: of two slabs, of which the first has this point
module _ (one other : Writes) (low : Point) (is : IsLowPoint one.journal low) (least : (entry : SlabEntry) → IsUnsettled other.journal entry → low.0 < entry.point.0) where
  pub low_of_the_first : IsLowPointBefore (one ∷ other ∷ []) 2 low
  low_of_the_first = record {
    place = 0;
    inside = omega arith;
    is = is;
    least = λ k entry below unsettled. elim (cases_eq k 0) [
      | inl here ↦ is.least entry (rw here at unsettled)
      | inr later ↦ let second : k ≡ 1 = omega (arith, below, later) in let above = least entry (rw second at unsettled) in omega (arith, above)
    ];
  }

  pub not_a_higher_one : (high : Point) → low.0 < high.0 → ¬ IsLowPointBefore (one ∷ other ∷ []) 2 high
  not_a_higher_one high above is' = let lower = is'.least 0 is.entry (omega arith) is.there in omega (arith, lower, above, ap (λ (q : Point). q.0) is.is)

  not_all_are_durable : ¬ NoneUnsettledBefore (one ∷ other ∷ []) 2
  not_all_are_durable none = none 0 (omega arith) is.entry is.there

none_of_none : (writes : List Writes) → NoneUnsettledBefore writes 0
none_of_none writes k below = absurd (omega (arith, below))

-- IsLesser
the_lesser : IsLesser (Some (p 3)) (Some (p 5)) (Some (p 3))
the_lesser = record { lower = p 3; is = refl; one = inl refl; below_first = omega arith; below_second = omega arith }

not_the_greater : ¬ IsLesser (Some (p 3)) (Some (p 5)) (Some (p 5))
not_the_greater = λ is. let same : p 5 ≡ is.lower = let e = is.is in cc in omega (arith, is.below_first, ap (λ (q : Point). q.0) same)

not_another : ¬ IsLesser (Some (p 3)) (Some (p 5)) (Some (p 2))
not_another = λ is.
    let same : p 2 ≡ is.lower = let e = is.is in cc in
    elim is.one [ inl first ↦ omega (arith, ap (λ (q : Point). q.0) (same ∙ first)) | inr second ↦ omega (arith, ap (λ (q : Point). q.0) (same ∙ second)) ]

the_one_that_is_there : IsLesser None (Some (p 5)) (Some (p 5))
the_one_that_is_there = refl

-- TakesNone, HandsOutWith
a_withdrawn_step : TakesNone (counts.Drops (at 107))
a_withdrawn_step = tt

an_update_is_taken : ¬ TakesNone (counts.Applies Decrement (at 107) (slab 1 1))
an_update_is_taken = λ none. none

with_these_counters : HandsOutWith (1 ∷ []) (writes.ReferenceOut (1 ∷ []) [] 0)
with_these_counters = refl

with_other_counters : ¬ HandsOutWith (1 ∷ []) (writes.ReferenceOut (2 ∷ []) [] 0)
with_other_counters = λ same. let no : 2 ≡ 1 = ap (λ (ns : List ℕ). head_of ns) same in omega (arith, no)

takes_an_update : ¬ HandsOutWith (1 ∷ []) (writes.Taken (record { point = p 513; offset = 3 }))
takes_an_update = λ none. none

-- WritesSlab
pub writes_slab_one : WritesSlab out (record out { writes = durable ∷ opened 3 ∷ [] }) 1 (writes.JournalDurable 1)
writes_slab_one = record { inside = omega arith; own = refl; counters = tt; slab = durable; does = (omega arith, refl, refl); after = refl }

writes_past_the_last : ¬ WritesSlab out out 5 (writes.JournalDurable 1)
writes_past_the_last = λ is. omega (arith, is.inside)

writes_in_the_other_zone : ¬ WritesSlab out out 0 (writes.JournalDurable 1)
writes_in_the_other_zone = λ is. let no : 0 ≡ 1 = is.own in omega (arith, no)

pub writes_what_is_not_out : (new : WholeZone) → ¬ WritesSlab first new 1 (writes.JournalDurable 1)
writes_what_is_not_out new = λ is. omega (arith, is.does.0)

-- calls_of, counted_of, updates_in: those of slab 1, and of slab 3
abbrev calls : List Operation
calls = Written 3 (writes.JournalDurable 7) ∷ Counted counts.Refused ∷ Taken update (slab 1 1) ∷ []

of_slab_one_alone : calls_of sizes 1 calls ≡ writes.Taken (record { point = p 513; offset = 3 }) ∷ []
of_slab_one_alone = refl

of_slab_three_alone : calls_of sizes 3 calls ≡ writes.JournalDurable 7 ∷ []
of_slab_three_alone = refl

on_the_counts : counted_of calls ≡ counts.Refused ∷ counts.Applies Decrement (at 107) (slab 1 1) ∷ []
on_the_counts = refl

updates_of_slab_one : updates_in sizes 1 calls ≡ record { point = p 513; offset = 3 } ∷ []
updates_of_slab_one = refl

-- AreAbove
above_the_opening : AreAbove sizes (p 7 ∷ []) (record { point = p 513; offset = 3 } ∷ [])
above_the_opening = λ k d below. let here : k ≡ 0 = omega (arith, below) in rw here (omega arith)

not_above_the_opening : ¬ AreAbove sizes (p 600 ∷ []) (record { point = p 513; offset = 3 } ∷ [])
not_above_the_opening = λ all. omega (arith, all 0 (record { point = p 0; offset = 0 }) (omega arith))

-- HandsOut, Reports
reports_it : Reports (writes.JournalDurable 1) work
reports_it = (refl, refl)

reports_another : ¬ Reports (writes.JournalDurable 2) work
reports_another = λ is. omega (arith, is.1)

reports_the_other_part : ¬ Reports (writes.ReferenceDurable 1) work
reports_the_other_part = λ is. let no : part.Journal ≡ part.References = is.0 in cc

hands_it_out : HandsOut (writes.ReferenceOut [] (9 ∷ []) 0) (9 ∷ []) (record work { part = part.References; number = 0 })
hands_it_out = (refl, refl, refl)

says_something_else : ¬ HandsOut (writes.ReferenceOut [] (8 ∷ []) 0) (9 ∷ []) (record work { part = part.References; number = 0 })
says_something_else = λ is. let no : 9 ≡ 8 = ap (λ (ns : List ℕ). head_of ns) is.2 in omega (arith, no)

hands_out_the_other_part : ¬ HandsOut (writes.ReferenceOut [] (9 ∷ []) 1) (9 ∷ []) work
hands_out_the_other_part = λ is. let no : part.Journal ≡ part.References = is.0 in cc
