-- For each clause on what isn't durable a case that it accepts, and one that breaks it alone.
use Rattle.std.specs.Prelude.{◌≡◌, ◌≤◌, [], ◌∷◌}
use Rattle.std.proofs.Common.{ap, arith, refl, inl, inr}
use Rattle.std.proofs.lemmas.List.Elements.{All-nil, All-push, All-contains}
use Rattle.blk_base.specs.declared.geometry.Geometry.{Geometry}
use Rattle.blk_base.specs.declared.point.Point.{Point}
use Rattle.slab_codec.specs.declared.forms.SlabEntry.{SlabEntry}
use Rattle.slab_codec.specs.Updates.{slab_entry as entry}
use Rattle.slab_journal.specs.Slab.{Slab, opening}
use Rattle.slab_journal.specs.Unsettled.{sealed_block, IsWaiting, IsUnsettled, IsLowPoint, NoneUnsettled, IsRising}

-- a slab of 1000 data blocks: two sectors of counters, and two slots
abbrev pub sizes : Geometry
sizes = record { logical = 1000; slabs = 1; slab_blocks = 1000; journal = 8; index = 16; slab_journal = 2; height = 2; nonce = 1 }

abbrev pub first : SlabEntry
first = entry 512 3

abbrev pub third : SlabEntry
third = entry 600 5

-- block 1 is sealed and isn't durable, and block 2 has an update
abbrev pub sealed_one : Slab
sealed_one = record (opening sizes 0) {
  sequence = 2;
  filling = third ∷ [];
  last = record { 0 = 600 };
  slots = [] ∷ (first ∷ entry 513 504 ∷ []) ∷ [];
}

abbrev pub durable_one : Slab
durable_one = record sealed_one { durable = 2 }

-- the first update is covered
abbrev covered_first : Slab
covered_first = record sealed_one { commits = record { 0 = 512 } ∷ record { 0 = 0 } ∷ [] }

-- sealed_block
block_of_first : sealed_block sealed_one ≡ first ∷ entry 513 504 ∷ []
block_of_first = refl

block_of_second : sealed_block durable_one ≡ []
block_of_second = refl

-- IsWaiting
waits_sealed : IsWaiting sealed_one first
waits_sealed = inl (omega arith, (0, omega arith, refl))

waits_filling : IsWaiting durable_one third
waits_filling = inr (0, omega arith, refl)

durable_does_not_wait : ¬ IsWaiting durable_one first
durable_does_not_wait = λ waits. elim waits [
  | inl sealed ↦ omega (arith, sealed.0)
  | inr filling ↦
      let above = All-contains (λ (e : SlabEntry). 600 ≤ e.point.0) (third ∷ []) first (All-push (λ (e : SlabEntry). 600 ≤ e.point.0) [] third (All-nil (λ (e : SlabEntry). 600 ≤ e.point.0)) (omega arith)) filling in
      omega (arith, above)
]

-- IsUnsettled
first_unsettled : IsUnsettled sealed_one first
first_unsettled = (waits_sealed, λ covered. omega (arith, covered))

covered_is_settled : ¬ IsUnsettled covered_first first
covered_is_settled = λ unsettled. unsettled.1 (omega arith)

-- IsLowPoint
all_after : (other : SlabEntry) → IsWaiting sealed_one other → 512 ≤ other.point.0
all_after other waits =
    let P : SlabEntry → Type 0 = λ e. 512 ≤ e.point.0 in
    elim waits [
      | inl sealed ↦ All-contains P (first ∷ entry 513 504 ∷ []) other (All-push P (first ∷ []) (entry 513 504) (All-push P [] first (All-nil P) (omega arith)) (omega arith)) sealed.1
      | inr filling ↦ All-contains P (third ∷ []) other (All-push P [] third (All-nil P) (omega arith)) filling
    ]

low_is_first : IsLowPoint sealed_one first.point
low_is_first = record { entry = first; there = first_unsettled; is = refl; least = λ other unsettled. all_after other unsettled.0 }

not_the_least : ¬ IsLowPoint sealed_one (record { 0 = 513 })
not_the_least = λ low. omega (arith, low.least first first_unsettled)

nothing_there : ¬ IsLowPoint sealed_one (record { 0 = 500 })
nothing_there = λ low. omega (arith, all_after low.entry low.there.0, ap (λ (p : Point). p.0) low.is)

-- NoneUnsettled
none_at_first : NoneUnsettled (opening sizes 0)
none_at_first = λ one unsettled. elim unsettled.0 [ inl sealed ↦ omega (arith, sealed.0) | inr filling ↦ omega (arith, filling.1) ]

one_is_unsettled : ¬ NoneUnsettled sealed_one
one_is_unsettled = λ none. none first first_unsettled

-- IsRising
pub rising : IsRising (first ∷ third ∷ [])
rising = (All-push (λ (e : SlabEntry). 512 ≤ e.point.0) [] third (All-nil (λ (e : SlabEntry). 512 ≤ e.point.0)) (omega arith), (All-nil (λ (e : SlabEntry). 600 ≤ e.point.0), tt))

falling : ¬ IsRising (third ∷ first ∷ [])
falling = λ is. omega (arith, is.0 0 first (omega arith))

level : IsRising (first ∷ first ∷ [])
level = (All-push (λ (e : SlabEntry). 512 ≤ e.point.0) [] first (All-nil (λ (e : SlabEntry). 512 ≤ e.point.0)) (omega arith), (All-nil (λ (e : SlabEntry). 512 ≤ e.point.0), tt))
