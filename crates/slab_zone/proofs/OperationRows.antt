-- For each clause of what is whole, and of what calls do one after the other, a case that it accepts, and one that breaks it
-- alone. The zone is that of Rows.
use Rattle.std.specs.Prelude.{ℕ, ◌≡◌, ◌<◌, List, [], ◌∷◌}
use Rattle.std.proofs.Common.{◌∙◌, ap, arith, inl, inr, refl, subst, sym}
use Rattle.std.proofs.lemmas.Bool.{cases_eq}
use Rattle.blk_base.specs.declared.opened.Opened.{Opened}
use Rattle.blk_base.specs.declared.point.Half.TheVariants.{Decrement}
use Rattle.blk_base.specs.declared.point.Point.{Point}
use Rattle.blk_base.specs.declared.geometry.Geometry.{Geometry}
use Rattle.blk_base.specs.Forms.{point as p, pbn as at}
use Rattle.slab_codec.specs.declared.forms.SlabEntry.{SlabEntry}
use Rattle.slab_journal.specs.Unsettled.{IsLowPoint, IsUnsettled}
use Rattle.slab_writes.specs.Operations as writes
use Rattle.slab_writes.specs.Due.{NoneDue}
use Rattle.slab_writes.specs.Writes.{Writes}
use Rattle.slab_writes.specs.declared.forms.Need.{Need}
use Rattle.zone_counts.specs.Operations as counts
use Rattle.zone_counts.specs.Zone.{Zone, IsZone, IsOpeningZone, slab_at, slabs_of_zone}
use Rattle.slab_zone.specs.Whole.{WholeZone, IsWhole, IsOpeningWhole, writes_at, AreOpenedWrites}
use Rattle.slab_zone.specs.ZoneWrites.{IsLowPointIn, NoneDueIn, NoneUnsettledIn, TakesUpdate}
use Rattle.slab_zone.specs.Operations.{Operation, Counted, Taken, Written, Does, IsDurableIn, LeadTo, entry_in}
use Rattle.slab_zone.proofs.Rows.{
  after,
  are_opened,
  as_opened,
  both,
  commits,
  does_not_rise,
  first,
  low_of_the_first,
  not_a_higher_one,
  of_zone_one,
  opened,
  out,
  rises,
  sizes,
  slab,
  takes_it,
  update,
  update_here,
  waits,
  writes_slab_one,
  writes_what_is_not_out,
  zone,
  durable,
}

-- IsWhole, IsOpeningWhole
is_whole : IsZone zone → IsWhole first
is_whole is = record { counts = is; writes = of_zone_one }

of_a_step_of_another_zone : ¬ IsWhole (record first { counts = record zone { desk = record zone.desk { zone = 0 } } })
of_a_step_of_another_zone = λ is. let no : 0 ≡ 1 = is.counts.desk in omega (arith, no)

without_writes_of_a_slab : ¬ IsWhole (record first { writes = opened 1 ∷ [] })
without_writes_of_a_slab = λ is. omega (arith, is.writes.many)

module _ (image : Opened) (sizes_are : image.head.geometry ≡ sizes) (commits_are : image.commits.items ≡ commits) where
  is_opened : IsOpeningZone image 1 2 3 zone → IsOpeningWhole image 1 2 3 first
  is_opened is =
      let both_slabs : slabs_of_zone image.head.geometry 1 2 ≡ 2 = ap (λ (g : Geometry). slabs_of_zone g 1 2) sizes_are in
      record { counts = is; writes = subst (λ (n : ℕ). AreOpenedWrites image 1 2 n both) (sym both_slabs) (are_opened image sizes_are commits_are) }

  opened_as_another_zone : ¬ IsOpeningWhole image 0 2 3 first
  opened_as_another_zone is = let no : 1 ≡ 0 = is.counts.zone in omega (arith, no)

  opened_with_an_update_that_waits : ¬ IsOpeningWhole image 1 2 3 (record first { writes = waits ∷ opened 3 ∷ [] })
  opened_with_an_update_that_waits is =
      let no : 513 ≡ 511 = ap (λ (w : Writes). w.journal.last.0) (is.writes.each 0 (omega arith) ∙ as_opened image sizes_are commits_are 1) in omega (arith, no)

-- Does
a_call_on_the_counts : Does (Counted counts.Refused) first first
a_call_on_the_counts = (tt, refl, refl)

an_update_as_a_call_on_the_counts : ¬ Does (Counted (counts.Applies Decrement (at 107) (slab 1 1))) first after
an_update_as_a_call_on_the_counts = λ is. is.0

refused_and_changed : ¬ Does (Counted counts.Refused) first (record after { writes = both })
refused_and_changed = λ is. let no : 1 ≡ 2 = ap (λ (z : Zone). counter_of z) is.1 in omega (arith, no)
  where
    fourth : List ℕ → ℕ
    fourth (a ∷ b ∷ c ∷ d ∷ rest) = d
    fourth other = 0

    counter_of : Zone → ℕ
    counter_of z = fourth (slab_at z.slabs 0).counters

writes_by_a_call_on_the_counts : ¬ Does (Counted counts.Refused) first (record first { writes = waits ∷ opened 3 ∷ [] })
writes_by_a_call_on_the_counts = λ is. let no : 513 ≡ 511 = ap (λ (ws : List Writes). (writes_at ws 0).journal.last.0) is.2 in omega (arith, no)

an_update_is_taken : Does (Taken update (slab 1 1)) first after
an_update_is_taken = (update_here, rises, takes_it)

of_another_zone : (new : WholeZone) → ¬ Does (Taken (record update { at = at 85 }) (slab 1 1)) first new
of_another_zone new = λ is. let no : 0 ≡ 1 = is.0.own in omega (arith, no)

at_a_point_that_was_taken : (new : WholeZone) → ¬ Does (Taken update (slab 1 1)) (record first { writes = waits ∷ opened 3 ∷ [] }) new
at_a_point_that_was_taken new = λ is. does_not_rise is.1

taken_for_nothing : ¬ Does (Taken update (slab 1 1)) first first
taken_for_nothing = λ is. let no : 511 ≡ 513 = ap (λ (ws : List Writes). (writes_at ws 0).journal.last.0) is.2.writes in omega (arith, no)

a_block_is_durable : Does (Written 1 (writes.JournalDurable 1)) out (record out { writes = durable ∷ opened 3 ∷ [] })
a_block_is_durable = writes_slab_one

-- LeadTo: none, one, two calls, of which each begins where the one before ended
no_call : LeadTo first [] first
no_call = refl

no_call_changes : ¬ LeadTo first [] after
no_call_changes = λ is. let no : 513 ≡ 511 = ap (λ (z : WholeZone). (writes_at z.writes 0).journal.last.0) is in omega (arith, no)

one_call : LeadTo first (Taken update (slab 1 1) ∷ []) after
one_call = (first, refl, an_update_is_taken)

two_calls : LeadTo first (Counted counts.Refused ∷ Taken update (slab 1 1) ∷ []) after
two_calls = (after, one_call, (tt, refl, refl))

durable_before_it_is_out : (new : WholeZone) → ¬ LeadTo first (Written 1 (writes.JournalDurable 1) ∷ []) new
durable_before_it_is_out new = λ (before, is, does). writes_what_is_not_out new (rw is at does)

one_update_twice : (new : WholeZone) → ¬ LeadTo first (Taken update (slab 1 1) ∷ Taken update (slab 1 1) ∷ []) new
one_update_twice new = λ (before, (start, is, one), two).
    let taken : TakesUpdate first before update (slab 1 1) = rw is at one.2 in
    let writes : before.writes ≡ waits ∷ opened 3 ∷ [] = taken.writes in
    let zones : before.counts.zones ≡ 2 = ap (λ (z : Zone). z.zones) taken.changes.same in
    let geometry : before.counts.geometry ≡ sizes = ap (λ (z : Zone). z.geometry) taken.changes.same in
    let above : 513 < 513 = rw geometry at rw zones at rw writes at two.1 in
    omega (arith, above)

-- entry_in, IsDurableIn: by its offset in its slab, in the slab with this number alone
by_its_offset : entry_in sizes update ≡ record { point = p 513; offset = 3 }
by_its_offset = refl

module _ (calls : List Operation) (entry : SlabEntry) where
  durable_from_then_on : IsDurableIn sizes 1 calls entry → IsDurableIn sizes 1 (Counted counts.Refused ∷ calls) entry
  durable_from_then_on is = is

  not_by_another_slab : ¬ IsDurableIn sizes 1 calls entry → ¬ IsDurableIn sizes 1 (Written 3 (writes.JournalDurable 1) ∷ calls) entry
  not_by_another_slab none is = none is

not_as_it_is_taken : ¬ IsDurableIn sizes 1 (Taken update (slab 1 1) ∷ []) (entry_in sizes update)
not_as_it_is_taken = λ is. is

-- NoneDueIn, IsLowPointIn, NoneUnsettledIn: of both slabs of the zone
module _ (need : Need) where
  none_due : NoneDue need (opened 1) → NoneDue need (opened 3) → NoneDueIn need first
  none_due none also k below = elim (cases_eq k 0) [
    | inl here ↦ rw here none
    | inr later ↦ let second : k ≡ 1 = omega (arith, below, later) in rw second also
  ]

  due_of_the_last : ¬ NoneDue need (opened 3) → ¬ NoneDueIn need first
  due_of_the_last due all = due (all 1 (omega arith))

module _ (one other : Writes) (low : Point) (is : IsLowPoint one.journal low) (least : (entry : SlabEntry) → IsUnsettled other.journal entry → low.0 < entry.point.0) where
  abbrev with_both : WholeZone
  with_both = record first { writes = one ∷ other ∷ [] }

  low_in_the_zone : IsLowPointIn with_both low
  low_in_the_zone = low_of_the_first one other low is least

  no_higher_one : (high : Point) → low.0 < high.0 → ¬ IsLowPointIn with_both high
  no_higher_one high above = not_a_higher_one one other low is least high above

  one_is_unsettled : ¬ NoneUnsettledIn with_both
  one_is_unsettled none = none 0 (omega arith) is.entry is.there

none_is_unsettled : NoneUnsettledIn (record first { writes = [] })
none_is_unsettled = λ k below. absurd (omega (arith, below))
