-- The least point of the updates of several slabs that aren't durable.
use Rattle.std.specs.Prelude.{ℕ, ◌≡◌, ◌+◌, ◌<◌, ◌≤◌, List, Option, None, Some, IfSome, IfNone}
use Rattle.std.proofs.Common.{sym, subst, arith, inl, inr}
use Rattle.std.proofs.lemmas.Bool.{cases_lt}
use Rattle.blk_base.specs.declared.point.Point.{Point}
use Rattle.slab_codec.specs.declared.forms.SlabEntry.{SlabEntry}
use Rattle.slab_journal.specs.Unsettled.{IsLowPoint, IsUnsettled, NoneUnsettled}
use Rattle.slab_writes.specs.Writes.{Writes}
use Rattle.slab_zone.specs.Whole.{writes_at}
use Rattle.slab_zone.specs.ZoneWrites.{IsLowPointBefore, NoneUnsettledBefore}
use Rattle.slab_zone.specs.Lesser.{IsLesser, IsLesserOf}

-- it is the least point of the first so many slabs, where there is one
abbrev pub IsLeastBefore : List Writes → ℕ → Option Point → Type 0
IsLeastBefore writes count None = NoneUnsettledBefore writes count
IsLeastBefore writes count (Some low) = IsLowPointBefore writes count low

module _ (writes : List Writes) (count : ℕ) where
  none_more : NoneUnsettledBefore writes count → NoneUnsettled (writes_at writes count).journal → NoneUnsettledBefore writes (count + 1)
  none_more none here k below = elim (cases_lt k count) [
    | inl early ↦ none k early
    | inr past ↦ subst (λ (n : ℕ). NoneUnsettled (writes_at writes n).journal) (let is : count ≡ k = omega (arith, below, past) in is) here
  ]

  -- it is the one before
  low_before : (low : Point) → IsLowPointBefore writes count low → ((entry : SlabEntry) → IsUnsettled (writes_at writes count).journal entry → low.0 ≤ entry.point.0) → IsLowPointBefore writes (count + 1) low
  low_before low old here = record {
    place = old.place;
    inside = omega (arith, old.inside);
    is = old.is;
    least = λ k entry below unsettled. elim (cases_lt k count) [
      | inl early ↦ old.least k entry early unsettled
      | inr past ↦ here entry (subst (λ (n : ℕ). IsUnsettled (writes_at writes n).journal entry) (let is : k ≡ count = omega (arith, below, past) in is) unsettled)
    ];
  }

  -- it is that of the last slab
  low_here : (low : Point) → IsLowPoint (writes_at writes count).journal low → ((k : ℕ) (entry : SlabEntry) → k < count → IsUnsettled (writes_at writes k).journal entry → low.0 ≤ entry.point.0)
      → IsLowPointBefore writes (count + 1) low
  low_here low found before = record {
    place = count;
    inside = omega arith;
    is = found;
    least = λ k entry below unsettled. elim (cases_lt k count) [
      | inl early ↦ before k entry early unsettled
      | inr past ↦ found.least entry (subst (λ (n : ℕ). IsUnsettled (writes_at writes n).journal entry) (let is : k ≡ count = omega (arith, below, past) in is) unsettled)
    ];
  }

  low_of : (first second : Point) (new : Option Point) → IsLowPointBefore writes count first → IsLowPoint (writes_at writes count).journal second → IsLesserOf first second new → IsLeastBefore writes (count + 1) new
  low_of first second new old found is =
      subst (λ (o : Option Point). IsLeastBefore writes (count + 1) o) (sym is.is)
      (elim is.one [
        | inl one ↦ low_before is.lower (subst (λ (p : Point). IsLowPointBefore writes count p) (sym one) old) (λ entry unsettled. omega (arith, is.below_second, found.least entry unsettled))
        | inr other ↦
            low_here is.lower (subst (λ (p : Point). IsLowPoint (writes_at writes count).journal p) (sym other) found)
            (λ k entry early unsettled. omega (arith, is.below_first, old.least k entry early unsettled))
      ])

  more : (old found new : Option Point) → IsLeastBefore writes count old → IfSome found (λ p. IsLowPoint (writes_at writes count).journal p) → IfNone found (NoneUnsettled (writes_at writes count).journal)
      → IsLesser old found new → IsLeastBefore writes (count + 1) new
  more None None new old some none is = subst (λ (o : Option Point). IsLeastBefore writes (count + 1) o) (sym is) (none_more old none)
  more None (Some found) new old some none is =
      subst (λ (o : Option Point). IsLeastBefore writes (count + 1) o) (sym is) (low_here found some (λ k entry early unsettled. absurd (old k early entry unsettled)))
  more (Some low) None new old some none is =
      subst (λ (o : Option Point). IsLeastBefore writes (count + 1) o) (sym is) (low_before low old (λ entry unsettled. absurd (none entry unsettled)))
  more (Some low) (Some found) new old some none is = low_of low found new old some is

  -- the low point of one more slab, as it was read
  pub low_more : (old found new : Option Point) (slab : Writes) → slab ≡ writes_at writes count → IsLeastBefore writes count old → IfSome found (λ p. IsLowPoint slab.journal p)
      → IfNone found (NoneUnsettled slab.journal) → IsLesser old found new → IsLeastBefore writes (count + 1) new
  low_more old found new slab read before some none is =
      more old found new before (subst (λ (w : Writes). IfSome found (λ p. IsLowPoint w.journal p)) read some) (subst (λ (w : Writes). IfNone found (NoneUnsettled w.journal)) read none) is

-- and so of all slabs
pub low_whole : (writes : List Writes) (count all : ℕ) (least : Option Point) → count ≡ all → IsLeastBefore writes count least → IfSome least (λ low. IsLowPointBefore writes all low)
low_whole writes count all None is before = tt
low_whole writes count all (Some low) is before = subst (λ (n : ℕ). IsLowPointBefore writes n low) is before

pub none_whole : (writes : List Writes) (count all : ℕ) (least : Option Point) → count ≡ all → IsLeastBefore writes count least → IfNone least (NoneUnsettledBefore writes all)
none_whole writes count all None is before = subst (λ (n : ℕ). NoneUnsettledBefore writes n) is before
none_whole writes count all (Some low) is before = tt
