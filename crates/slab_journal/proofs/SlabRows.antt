-- What a slab's journal knows, and what the calls on it leave: for each clause a case that it accepts, and one that breaks
-- it alone.
use Rattle.std.proofs.Common.{ℕ, zero, suc, ◌≡◌, ◌<◌, ◌≤◌, List, [], ◌∷◌, length, Any, Contains, slice_index_or, ap, subst, sym, arith, refl, inl, inr}
use Rattle.std.proofs.lemmas.List.Elements.{All-cons, All-nil}
use Rattle.blk_base.specs.declared.point.Point.{Point}
use Rattle.blk_base.specs.Forms.{point as p}
use Rattle.slab_codec.specs.declared.forms.SlabEntry.{SlabEntry}
use Rattle.slab_codec.specs.declared.forms.SlabJournalBlock.{SlabJournalBlock}
use Rattle.slab_codec.specs.Updates.{slab_entry as entry}
use Rattle.slab_journal.specs.Slab.{IsCovered, IsFirst, IsHeld, IsOfSlab, IsWriting, Keeps, MayOverwrite, Seals, Slab, commit_of, entry_of, next_block, next_slot, opening}
use Rattle.slab_journal.specs.Unsettled.{IsLeastUncovered}
use Rattle.slab_journal.proofs.UnsettledRows.{durable_one, first, sealed_one, sizes, third}

abbrev place_at : ℕ → SlabEntry
place_at offset = entry 512 offset

abbrev first_point_of : List SlabEntry → ℕ
first_point_of [] = 0
first_point_of (e ∷ es) = e.point.0

only : (one e : SlabEntry) → Contains (one ∷ []) e → one ≡ e
only one e (zero, inside, same) = same
only one e (suc n, inside, same) = absurd (omega (arith, inside))

-- opening: the points of sequence 1 begin with 512
opens : opening sizes 0 ≡ record { geometry = sizes; slab = 0; sequence = 1; filling = []; last = p 511; slots = [] ∷ [] ∷ []; durable = 1; commits = p 0 ∷ p 0 ∷ [] }
opens = refl

-- IsOfSlab: the 1000 data blocks from block 85 on
abbrev At : ℕ → Type 0
At block = IsOfSlab sealed_one (record { 0 = block })

first_of_slab : At 85
first_of_slab = (omega arith, omega arith)

last_of_slab : At 1084
last_of_slab = (omega arith, omega arith)

before_the_slab : At 84 → ⊥
before_the_slab is = omega (arith, is.0)

behind_the_slab : At 1085 → ⊥
behind_the_slab is = omega (arith, is.1)

-- entry_of: by the offset in the slab
entry_of_fourth : entry_of sealed_one (record { at = record { 0 = 88 }; point = p 512 }) ≡ entry 512 3
entry_of_fourth = refl

-- IsFirst
abbrev two : List SlabEntry
two = third ∷ first ∷ []

first_of_two : IsFirst two (p 512)
first_of_two = record {
  least = All-cons (λ (e : SlabEntry). 512 ≤ e.point.0) third (first ∷ []) (omega arith) (All-cons (λ (e : SlabEntry). 512 ≤ e.point.0) first [] (omega arith) (All-nil (λ (e : SlabEntry). 512 ≤ e.point.0)));
  there = (1, first, omega arith, refl, refl);
}

-- least
not_the_least : IsFirst two (p 600) → ⊥
not_the_least is = omega (arith, is.least 1 first (omega arith))

-- there
of_no_update : IsFirst (third ∷ []) (p 500) → ⊥
of_no_update is = of_one is.there
  where
    of_one : Any (λ (e : SlabEntry). e.point ≡ p 500) (third ∷ []) → ⊥
    of_one (zero, e, inside, here, same) = omega (arith, ap (λ (f : SlabEntry). f.point.0) here, ap (λ (q : Point). q.0) same)
    of_one (suc n, e, inside, here, same) = omega (arith, inside)

-- commit_of: 504 counters a sector, and nothing past the last sector
abbrev commits : List Point
commits = p 512 ∷ p 700 ∷ []

commit_of_first : commit_of sizes commits (place_at 503) ≡ p 512
commit_of_first = refl

commit_of_second : commit_of sizes commits (place_at 504) ≡ p 700
commit_of_second = refl

commit_of_none : commit_of sizes commits (place_at 1008) ≡ p 0
commit_of_none = refl

-- IsCovered
covered : IsCovered sizes commits first
covered = omega arith

not_covered : IsCovered sizes commits (entry 513 3) → ⊥
not_covered is = omega (arith, is)

-- next_slot, next_block
slot_of_first : next_slot (opening sizes 0) ≡ 1
slot_of_first = refl

slot_of_second : next_slot sealed_one ≡ 0
slot_of_second = refl

nothing_in_it : next_block sealed_one ≡ []
nothing_in_it = refl

-- both slots have a block, and the first of these is in the next slot
abbrev both : Slab
both = record durable_one { sequence = 3; durable = 3; filling = []; slots = (third ∷ []) ∷ (first ∷ []) ∷ [] }

first_in_it : next_block both ≡ first ∷ []
first_in_it = refl

-- MayOverwrite
may_overwrite : MayOverwrite (record both { commits = p 512 ∷ p 0 ∷ [] })
may_overwrite = All-cons (IsCovered sizes (p 512 ∷ p 0 ∷ [])) first [] (omega arith) (All-nil (IsCovered sizes (p 512 ∷ p 0 ∷ [])))

may_not_overwrite : MayOverwrite both → ⊥
may_not_overwrite is = omega (arith, is 0 first (omega arith))

-- IsWriting
is_writing : IsWriting sealed_one
is_writing = omega arith

is_durable : IsWriting durable_one → ⊥
is_durable is = omega (arith, is)

-- IsHeld
held_filling : IsHeld sealed_one third
held_filling = inl (0, omega arith, refl)

held_in_a_slot : IsHeld durable_one first
held_in_a_slot = inr (1, first ∷ entry 513 504 ∷ [], omega arith, refl, (0, omega arith, refl))

not_in_slot : (e : SlabEntry) → 514 ≤ e.point.0 → (slot : ℕ) (block : List SlabEntry) → slot < 2 → Contains (slice_index_or durable_one.slots slot block) e → ⊥
not_in_slot e high zero block within (n, inside, same) = omega (arith, inside)
not_in_slot e high (suc zero) block within (zero, inside, same) = omega (arith, high, ap (λ (f : SlabEntry). f.point.0) same)
not_in_slot e high (suc zero) block within (suc zero, inside, same) = omega (arith, high, ap (λ (f : SlabEntry). f.point.0) same)
not_in_slot e high (suc zero) block within (suc (suc n), inside, same) = omega (arith, inside)
not_in_slot e high (suc (suc slot)) block within there = omega (arith, within)

not_in_slots : (e : SlabEntry) → 514 ≤ e.point.0 → Any (λ (block : List SlabEntry). Contains block e) durable_one.slots → ⊥
not_in_slots e high (slot, block, within, here, there) = not_in_slot e high slot block within (subst (λ (b : List SlabEntry). Contains b e) (sym here) there)

not_held : IsHeld durable_one (entry 700 3) → ⊥
not_held (inl there) = let no = ap (λ (e : SlabEntry). e.point.0) (only third (entry 700 3) there) in omega (arith, no)
not_held (inr there) = not_in_slots (entry 700 3) (omega arith) there

-- Keeps: what is covered may go
keeps : Keeps sealed_one (record sealed_one { filling = []; commits = p 600 ∷ p 0 ∷ [] })
keeps e (inl there) uncovered = absurd (uncovered (subst (λ (f : SlabEntry). IsCovered sizes (p 600 ∷ p 0 ∷ []) f) (only third e there) (omega arith)))
keeps e (inr there) uncovered = inr there

loses_one : Keeps sealed_one (record sealed_one { filling = []; commits = p 599 ∷ p 0 ∷ [] }) → ⊥
loses_one is = gone (is third (inl (0, omega arith, refl)) (λ low. omega (arith, low)))
  where
    gone : IsHeld (record sealed_one { filling = []; commits = p 599 ∷ p 0 ∷ [] }) third → ⊥
    gone (inl (n, inside, same)) = omega (arith, inside)
    gone (inr there) = not_in_slots third (omega arith) there

-- Seals: block 1 is durable, and block 2 is sealed
abbrev block_two : SlabJournalBlock
block_two = record { nonce = 1; sequence = 2; slab = 0; entries = third ∷ [] }

abbrev sealed_two : Slab
sealed_two = record durable_one { sequence = 3; filling = []; slots = (third ∷ []) ∷ (first ∷ entry 513 504 ∷ []) ∷ [] }

seals : Seals durable_one sealed_two block_two
seals = record { waits = omega arith; none_writing = refl; covered = All-nil (IsCovered sizes durable_one.commits); records = refl; follows = refl }

-- waits
seals_nothing : (new : Slab) (block : SlabJournalBlock) → Seals (record durable_one { filling = [] }) new block → ⊥
seals_nothing new block is = omega (arith, is.waits)

-- none_writing
seals_while_one_is_written : (new : Slab) (block : SlabJournalBlock) → Seals sealed_one new block → ⊥
seals_while_one_is_written new block is = let no : 1 ≡ 2 = is.none_writing in omega (arith, no)

-- covered
seals_over_an_update : (new : Slab) (block : SlabJournalBlock) → Seals (record both { filling = entry 700 3 ∷ [] }) new block → ⊥
seals_over_an_update new block is = omega (arith, is.covered 0 first (omega arith))

-- records: the image, the sequence, the slab and the updates
of_another_image : Seals durable_one sealed_two (record block_two { nonce = 2 }) → ⊥
of_another_image is = let no : 2 ≡ 1 = ap (λ (b : SlabJournalBlock). b.nonce) is.records in omega (arith, no)

with_the_next_sequence : Seals durable_one sealed_two (record block_two { sequence = 3 }) → ⊥
with_the_next_sequence is = let no : 3 ≡ 2 = ap (λ (b : SlabJournalBlock). b.sequence) is.records in omega (arith, no)

of_another_slab : Seals durable_one sealed_two (record block_two { slab = 1 }) → ⊥
of_another_slab is = let no : 1 ≡ 0 = ap (λ (b : SlabJournalBlock). b.slab) is.records in omega (arith, no)

with_other_updates : Seals durable_one sealed_two (record block_two { entries = first ∷ [] }) → ⊥
with_other_updates is = let no : 512 ≡ 600 = ap (λ (b : SlabJournalBlock). first_point_of b.entries) is.records in omega (arith, no)

-- follows: the next sequence, with no updates, behind this block in its slot; and nothing else changes
with_the_same_sequence : Seals durable_one (record sealed_two { sequence = 2 }) block_two → ⊥
with_the_same_sequence is = let no : 2 ≡ 3 = ap (λ (s : Slab). s.sequence) is.follows in omega (arith, no)

fills_it_still : Seals durable_one (record sealed_two { filling = third ∷ [] }) block_two → ⊥
fills_it_still is = let no : 1 ≡ 0 = ap (λ (s : Slab). length s.filling) is.follows in omega (arith, no)

in_no_slot : Seals durable_one (record sealed_two { slots = durable_one.slots }) block_two → ⊥
in_no_slot is = let no : 0 ≡ 1 = ap (λ (s : Slab). length (slice_index_or s.slots 0 [])) is.follows in omega (arith, no)

is_durable_at_once : Seals durable_one (record sealed_two { durable = 3 }) block_two → ⊥
is_durable_at_once is = let no : 3 ≡ 2 = ap (λ (s : Slab). s.durable) is.follows in omega (arith, no)

-- IsLeastUncovered
abbrev LeastOf : List Point → List SlabEntry → ℕ → Type 0
LeastOf durable entries point = IsLeastUncovered sizes durable entries (p point)

least_uncovered : LeastOf commits (entry 513 3 ∷ first ∷ entry 514 3 ∷ []) 513
least_uncovered = record { entry = entry 513 3; there = (0, omega arith, refl); uncovered = λ is. omega (arith, is); is = refl; least = least }
  where
    least : (other : SlabEntry) → Contains (entry 513 3 ∷ first ∷ entry 514 3 ∷ []) other → (IsCovered sizes commits other → ⊥) → 513 ≤ other.point.0
    least other (zero, inside, same) high = omega (arith, ap (λ (e : SlabEntry). e.point.0) same)
    least other (suc zero, inside, same) high = absurd (high (subst (λ (e : SlabEntry). IsCovered sizes commits e) same (omega arith)))
    least other (suc (suc zero), inside, same) high = omega (arith, ap (λ (e : SlabEntry). e.point.0) same)
    least other (suc (suc (suc n)), inside, same) high = absurd (omega (arith, inside))

-- there
of_none_of_them : LeastOf commits [] 513 → ⊥
of_none_of_them is = omega (arith, is.there.1)

-- uncovered
of_one_that_is_covered : LeastOf commits (first ∷ []) 512 → ⊥
of_one_that_is_covered is = is.uncovered (subst (λ (e : SlabEntry). IsCovered sizes commits e) (only first is.entry is.there) (omega arith))

-- is
by_a_lower_point : LeastOf commits (entry 513 3 ∷ []) 500 → ⊥
by_a_lower_point is = omega (arith, ap (λ (e : SlabEntry). e.point.0) (only (entry 513 3) is.entry is.there), ap (λ (q : Point). q.0) is.is)

-- least
of_a_later_one : LeastOf commits (entry 513 3 ∷ entry 514 3 ∷ []) 514 → ⊥
of_a_later_one is = omega (arith, is.least (entry 513 3) (0, omega arith, refl) (λ low. omega (arith, low)))
