-- What a trace says: each function is computed on small ones, and each side of a definition has a case of its own. The traces are
-- those of `Rows`; in the second session a zone 1 is beside zone 0.
use Rattle.std.proofs.Common.{◌≡◌, ℕ, zero, suc, ◌<◌, ◌≤◌, ◌⊎◌, inl, inr, Option, None, Some, List, [], ◌∷◌, true, false, refl, ap, subst, arith}
use Rattle.std.proofs.lemmas.Bool.Decides.{eqb_tells}
use Rattle.blk_base.specs.declared.geometry.Geometry.{Geometry}
use Rattle.blk_base.specs.declared.journal_entry.CommittedEntry.{CommittedEntry}
use Rattle.blk_base.specs.declared.journal_entry.Entry.TheVariants.{NewPage}
use Rattle.handed_parts.specs.Parts.{Handed, low_of, opening}
use Rattle.recovery_journal.specs.Log.{Log}
use Rattle.recovery_journal.specs.Log as journal
use Rattle.part_laws.specs.Flows.{Flows}
use Rattle.part_laws.specs.KeptParts.{keeping, point_with}
use Rattle.part_laws.specs.Watermarks.{Setup, first_point, front, head_of, least_watermark, watermark}
use Rattle.part_laws.specs.Parts.{Climbs, Has, Logged, Part, Told, last_low, points_for, points_of, without, without_point}
use Rattle.part_laws.specs.ReapedEntries.{HasPoint, Reaps, watermark_in}
use Rattle.part_laws.specs.RightTraces.{IsBelow, IsHandled, IsOfChange, RightTrace, RiseMayFollow, SealMayFollow}
use Rattle.part_laws.specs.Trace.{Hands, Hears, IsDurable, IsHanded, IsSealed, IsSet, Learns, Needs, Rises, Seals, Sets, Settles, Tells, Trace, Writes, heard, is_writing, learned, needed, risen, sequence, told, unhanded, waiting}
use Rattle.part_laws.proofs.WatermarkRows.{done, entry, four, half_heard, handed, one, second, setup, three, two}

abbrev part : ℕ → ℕ → Part
part zone n = record { zone = zone; point = record { 0 = n } }

-- an entry of which the zones have a half each
abbrev shared : Logged
shared = record { at = 514; parts = part 1 514 ∷ part 0 515 ∷ [] }

-- What zones tell: with_part, points_of, without_point, without, last_low

points_told : points_of (three ∷ two ∷ one ∷ []) ≡ 513 ∷ 512 ∷ []
points_told = refl

without_the_first : (without_point 512 (513 ∷ 512 ∷ 512 ∷ []) ≡ 513 ∷ 512 ∷ []) × (without_point 511 (512 ∷ []) ≡ 512 ∷ []) × (without None (512 ∷ []) ≡ 512 ∷ [])
without_the_first = (refl, refl, refl)

low_of_the_newest : (last_low (three ∷ two ∷ []) ≡ Some 513) × (last_low (four ∷ three ∷ []) ≡ None) × (last_low [] ≡ None)
low_of_the_newest = (refl, refl, refl)

-- Climbs: the points of an entry, none of them twice

climbs : Climbs 512 (512 ∷ 513 ∷ []) 514
climbs = (omega arith, (omega arith, omega arith))

climbs_too_low : Climbs 512 (511 ∷ []) 514 → ⊥
climbs_too_low is = omega (arith, is.0)

climbs_too_high : Climbs 512 (514 ∷ []) 514 → ⊥
climbs_too_high is = omega (arith, is.1)

stays : Climbs 512 (512 ∷ 512 ∷ []) 514 → ⊥
stays is = omega (arith, is.1.0)

-- AreRising: a block may not be sealed with an entry that isn't formed
sealed_with_a_part_of_no_zone : SealMayFollow setup (record { at = 512; parts = part 1 512 ∷ [] } ∷ []) [] → ⊥
sealed_with_a_part_of_no_zone may = omega (arith, may.1.inside 1 512 (inl refl))

-- Which block is being filled, and which entries weren't handed out: those of the older block first

two_blocks : Trace
two_blocks = Seals (shared ∷ []) ∷ Seals (entry ∷ []) ∷ []

third_block : sequence 1 two_blocks ≡ 3
unfolding two_blocks
third_block = refl

block_of_none : sequence 1 (Hands entry ∷ []) ≡ 1
block_of_none = refl

older_first : unhanded two_blocks ≡ entry ∷ shared ∷ []
unfolding two_blocks
older_first = refl

newer_behind : unhanded (Hands entry ∷ two_blocks) ≡ shared ∷ []
unfolding two_blocks
newer_behind = refl

none_to_hand_out : unhanded (Hands entry ∷ []) ≡ []
none_to_hand_out = refl

-- IsSealed: in the newest block, or in one before it

sealed_now : IsSealed two_blocks shared
unfolding two_blocks
sealed_now = inl (inl refl)

sealed_before : IsSealed two_blocks entry
unfolding two_blocks
sealed_before = inr (inl (inl refl))

never_sealed : IsSealed (Hands entry ∷ []) entry → ⊥
never_sealed never = never

-- IsHanded: for its zone, now or before

handed_now : IsHanded (Hands shared ∷ handed) 1 514
handed_now = inl (inl refl)

handed_before : IsHanded (Hands shared ∷ handed) 0 512
handed_before = inr (inl (inl refl))

handed_elsewhere : IsHanded (Hands shared ∷ []) 0 514 → ⊥
handed_elsewhere (inl (inl same)) = omega (arith, same)
handed_elsewhere (inl (inr never)) = never
handed_elsewhere (inr never) = never

-- IsSet, IsDurable: in its zone, at its point, now or before

set_before : IsSet (Sets 0 513 ∷ Sets 0 512 ∷ []) 0 512
set_before = inr (inl (refl, refl))

set_elsewhere : IsSet (Sets 1 512 ∷ []) 0 512 → ⊥
set_elsewhere (inl same) = omega (arith, same.0)
set_elsewhere (inr never) = never

another_set : IsSet (Sets 0 513 ∷ []) 0 512 → ⊥
another_set (inl same) = omega (arith, same.1)
another_set (inr never) = never

durable_before : IsDurable (Settles 0 [] ∷ Settles 0 (513 ∷ 512 ∷ []) ∷ []) 0 512
durable_before = inr (inl (refl, inr (inl refl)))

durable_elsewhere : IsDurable (Settles 1 (512 ∷ []) ∷ []) 0 512 → ⊥
durable_elsewhere (inl same) = omega (arith, same.0)
durable_elsewhere (inr never) = never

another_durable : IsDurable (Settles 0 (513 ∷ []) ∷ []) 0 512 → ⊥
another_durable (inl (same, inl at)) = omega (arith, at)
another_durable (inl (same, inr never)) = never
another_durable (inr never) = never

-- told, heard, waiting: of each zone by itself, the newest first

told_by_each : (told 0 (Tells 1 four ∷ Tells 0 two ∷ Tells 0 one ∷ []) ≡ two ∷ one ∷ []) × (told 1 (Tells 1 four ∷ Tells 0 two ∷ []) ≡ four ∷ [])
told_by_each = (refl, refl)

heard_of_each : (heard 0 (Hears 1 four ∷ Hears 0 two ∷ Hears 0 one ∷ []) ≡ two ∷ one ∷ []) × (heard 1 (Tells 1 four ∷ Hears 0 two ∷ []) ≡ [])
heard_of_each = (refl, refl)

waits_for_each : (waiting 0 (Hands shared ∷ handed) ≡ 512 ∷ 513 ∷ 515 ∷ []) × (waiting 1 (Hands shared ∷ handed) ≡ 514 ∷ [])
waits_for_each = (refl, refl)

waits_no_more : (waiting 0 (Hears 0 one ∷ handed) ≡ 513 ∷ []) × (waiting 0 (Hears 1 one ∷ handed) ≡ 512 ∷ 513 ∷ []) × (waiting 0 (Hears 0 three ∷ handed) ≡ 512 ∷ 513 ∷ [])
waits_no_more = (refl, refl, refl)

-- risen, is_writing, needed, learned

head_at_first : (risen 1 handed ≡ 1) × (risen 1 (Seals [] ∷ Rises 3 ∷ Rises 2 ∷ []) ≡ 3)
head_at_first = (refl, refl)

writes_until_it_settles : (is_writing 0 (Tells 0 one ∷ Writes 0 ∷ []) ≡ true) × (is_writing 0 (Settles 0 [] ∷ Writes 0 ∷ []) ≡ false) × (is_writing 0 (Settles 1 [] ∷ Writes 0 ∷ []) ≡ true)
    × (is_writing 1 (Writes 0 ∷ []) ≡ false)
writes_until_it_settles = (refl, refl, refl, refl)

greatest_need : (needed (Needs 3 ∷ Needs 5 ∷ []) ≡ 5) × (needed (Needs 5 ∷ Needs 3 ∷ []) ≡ 5) × (needed [] ≡ 0)
greatest_need = (refl, refl, refl)

greatest_taken : (learned 0 (Learns 0 3 ∷ Learns 0 5 ∷ []) ≡ 5) × (learned 0 (Learns 1 5 ∷ Learns 0 3 ∷ []) ≡ 3)
greatest_taken = (refl, refl)

-- The watermarks: by a part that wasn't heard, by the low point that was heard last, by what wasn't handed out, and by none of these

first_points : (first_point [] 2 ≡ 1024) × (first_point (shared ∷ []) 2 ≡ 514)
first_points = (refl, refl)

fronts : (front setup (Seals (entry ∷ []) ∷ []) ≡ 512) × (front setup handed ≡ 1024)
fronts = (refl, refl)

mark_by_a_part : watermark setup 0 handed ≡ 512
mark_by_a_part = refl

-- of the half that adds, also where only the other half waits
mark_by_the_other_half : watermark setup 0 (Hands (record { at = 514; parts = part 0 515 ∷ [] }) ∷ Seals (record { at = 514; parts = part 0 515 ∷ [] } ∷ []) ∷ []) ≡ 514
mark_by_the_other_half = refl

mark_by_the_low_point : watermark setup 0 half_heard ≡ 512
mark_by_the_low_point = refl

mark_by_what_is_not_handed_out : watermark setup 0 (Seals (entry ∷ []) ∷ []) ≡ 512
mark_by_what_is_not_handed_out = refl

mark_by_none : (watermark setup 0 done ≡ 1024) × (head_of setup done ≡ 2)
mark_by_none = (refl, refl)

-- the least of both zones, of which the one has no part
abbrev both : Setup
both = record { start = 1; zones = 2 }

least_of_both : (least_watermark both 2 handed ≡ 512) × (watermark both 1 handed ≡ 1024) × (head_of both handed ≡ 1)
least_of_both = (refl, refl, refl)

least_of_none : least_watermark both 0 (Seals (entry ∷ []) ∷ []) ≡ 512
least_of_none = refl

-- IsBelow, IsOfChange

below_none : IsBelow 512 None
below_none = tt

below_the_low_point : IsBelow 512 (Some 513)
below_the_low_point = omega arith

at_the_low_point : IsBelow 512 (Some 512) → ⊥
at_the_low_point is = omega (arith, is)

of_no_change : IsOfChange handed 0 None
of_no_change = tt

-- IsHandled: each part is heard, and below the low point

handled : IsHandled done entry
handled z p has = elim (eqb_tells 0 z) [
  | inl same ↦ subst (λ (n : ℕ). Has p (points_for n entry.parts) → Has p (points_of (heard n done)) × IsBelow p (last_low (heard n done))) same.1 at_first has
  | inr other ↦ absurd (rw other.0 at has)
]
  where
    at_first : Has p (points_for 0 entry.parts) → Has p (points_of (heard 0 done)) × IsBelow p (last_low (heard 0 done))
    at_first (inl same) = (inr (inl same), tt)
    at_first (inr (inl same)) = (inl same, tt)
    at_first (inr (inr never)) = absurd never

not_heard : IsHandled handed entry → ⊥
not_heard is = (is 0 512 (inl refl)).0

above_the_low_point : IsHandled half_heard entry → ⊥
above_the_low_point is = omega (arith, (is 0 513 (inr (inl refl))).1)

-- RiseMayFollow: the head doesn't fall below the first sequence
falls_below_the_first : RiseMayFollow setup 0 [] → ⊥
falls_below_the_first may = omega (arith, may.above)

-- RightTrace: each happening, not only the newest
wrong_before : RightTrace setup (Writes 0 ∷ Sets 0 512 ∷ []) → ⊥
wrong_before right = right.1.0

-- Flows: what was told first is heard first, and then it stands in the inbox

flows_on : Flows 0 second (one ∷ []) (two ∷ [])
flows_on = refl

flows_heard : Flows 0 (Hears 0 one ∷ second) [] (two ∷ [])
flows_heard = refl

first_of : List Told → ℕ
first_of [] = 0
first_of (x ∷ xs) = number x.part
  where
    number : Option ℕ → ℕ
    number None = 0
    number (Some n) = n

flows_back : Flows 0 second (two ∷ []) (one ∷ []) → ⊥
unfolding first_of
flows_back flow = omega (arith, ap first_of flow)

-- point_with, keeping: what it keeps after each happening

points_with : (point_with None ≡ None) × (point_with (Some 5) ≡ Some (record { 0 = 5 }))
points_with = (refl, refl)

abbrev kept : Handed
kept = keeping (Hands entry) (opening 1 4)

keeps_the_parts : points_for 0 kept.waiting ≡ 512 ∷ 513 ∷ []
keeps_the_parts = refl

keeps_what_it_hears : (points_for 0 (keeping (Hears 0 one) kept).waiting ≡ 513 ∷ []) × (low_of (keeping (Hears 0 one) kept) 0 ≡ Some 512)
keeps_what_it_hears = (refl, refl)

keeps_all_else : keeping (Tells 0 one) kept ≡ kept
keeps_all_else = refl

-- HasPoint, watermark_in

abbrev committed : ℕ → CommittedEntry
committed n = record { entry = NewPage (record { tree = 0; level = 0; index = 0 }) (record { 0 = 85 }); point = record { 0 = n } }

has_point : HasPoint 512 (committed 514 ∷ committed 512 ∷ [])
has_point = inr (inl refl)

has_another : HasPoint 512 (committed 514 ∷ []) → ⊥
has_another (inl same) = omega (arith, same)
has_another (inr never) = never

watermarks_are : (watermark_in (record { 0 = 512 } ∷ record { 0 = 514 } ∷ []) 1 ≡ 514) × (watermark_in [] 0 ≡ 0)
watermarks_are = (refl, refl)

-- Reaps: a watermark may be that of the trace, and not one above it
module _ (g : Geometry) where
  abbrev log : Log
  log = journal.opening g 1 1

  marked_as_it_is : Reaps setup log []
  marked_as_it_is = record { number = refl; count = refl; watermarks = λ z inside. at_most z inside; kept = λ e never. absurd never }
    where
      at_most : (z : ℕ) → z < 1 → watermark_in log.watermarks z ≤ watermark setup z []
      at_most zero inside = omega arith
      at_most (suc z) inside = absurd (omega (arith, inside))

  marked_one_too_high : Reaps setup (record log { watermarks = record { 0 = 513 } ∷ [] }) [] → ⊥
  marked_one_too_high is = omega (arith, is.watermarks 0 (omega arith))

  -- an entry is there, or is below each watermark
  abbrev sealed : Trace
  sealed = Seals (entry ∷ []) ∷ []

  at_first : (z : ℕ) → z < 1 → watermark_in log.watermarks z ≤ watermark setup z sealed
  at_first zero inside = omega arith
  at_first (suc z) inside = absurd (omega (arith, inside))

  keeps_an_entry : Reaps setup (record log { sequence = 2; entries = committed 512 ∷ [] }) sealed
  keeps_an_entry = record { number = refl; count = refl; watermarks = at_first; kept = λ e is. kept_there e is }
    where
      kept_there : (e : Logged) → IsSealed sealed e → HasPoint e.at (committed 512 ∷ []) ⊎ ((z : ℕ) → z < 1 → e.at < watermark setup z sealed)
      kept_there e (inl (inl same)) = inl (inl (ap (λ (x : Logged). x.at) same))
      kept_there e (inl (inr never)) = absurd never
      kept_there e (inr never) = absurd never

  keeps_another : Reaps setup (record log { sequence = 2; entries = committed 514 ∷ [] }) sealed → ⊥
  keeps_another is = elim (is.kept entry (inl (inl refl))) [ inl has ↦ has_another has | inr low ↦ omega (arith, low 0 (omega arith)) ]

  lets_go_of_an_entry : Reaps setup (record log { sequence = 2; watermarks = record { 0 = 1024 } ∷ [] }) done
  lets_go_of_an_entry = record { number = refl; count = refl; watermarks = λ z inside. at_most z inside; kept = λ e is. inr (λ z inside. below e is z inside) }
    where
      at_most : (z : ℕ) → z < 1 → watermark_in (record { 0 = 1024 } ∷ []) z ≤ watermark setup z done
      at_most zero inside = omega arith
      at_most (suc z) inside = absurd (omega (arith, inside))

      below : (e : Logged) → IsSealed done e → (z : ℕ) → z < 1 → e.at < watermark setup z done
      below e (inl (inl same)) zero inside = let at = ap (λ (x : Logged). x.at) same in omega (arith, at)
      below e (inl (inr never)) z inside = absurd never
      below e (inr never) z inside = absurd never
      below e is (suc z) inside = absurd (omega (arith, inside))
