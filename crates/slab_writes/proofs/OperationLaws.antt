-- Over every list of calls a journal block has updates that were taken, a reference block those of its sectors, and each
-- update is durable or waits.
use Rattle.std.specs.Prelude.{ℕ, ◌≡◌, ◌⊎◌, List, [], ◌∷◌, length, Contains}
use Rattle.std.proofs.Common.{arith, sym, subst, ap, refl, inl, inr}
use Rattle.std.proofs.lemmas.List.Elements.{Contains-append_right, Contains-push_cases, Contains-append_cases}
use Rattle.blk_base.specs.Counters.{sectors_per_slab}
use Rattle.blk_base.specs.declared.geometry.Geometry.{Geometry}
use Rattle.blk_base.specs.declared.point.Point.{Point}
use Rattle.reference_blocks.specs.References.{References, HandsOutBlock, points_of, sectors_of}
use Rattle.reference_blocks.specs.Updates.{AreRising, counters_after, up_to}
use Rattle.reference_blocks.specs.Updates as updates
use Rattle.reference_blocks.proofs.UpdateLaws.{says_exactly}
use Rattle.slab_codec.specs.Reference.{reference_bytes}
use Rattle.slab_codec.specs.declared.forms.SlabEntry.{SlabEntry}
use Rattle.slab_codec.specs.declared.forms.SlabJournalBlock.{SlabJournalBlock}
use Rattle.slab_journal.specs.Slab.{Slab, Seals}
use Rattle.slab_writes.specs.Writes.{Writes, opening}
use Rattle.slab_writes.specs.Operations.{Operation, Taken, JournalOut, ReferenceOut, JournalDurable, ReferenceDurable, LeadTo, updates_of}

-- an update of a longer list
pub more : (e : SlabEntry) (us : List SlabEntry) (x : SlabEntry) → Contains us x → Contains (e ∷ us) x
more e us x there = Contains-append_right (e ∷ []) us x there

pub newest : (e : SlabEntry) (us : List SlabEntry) (x : SlabEntry) → e ≡ x → Contains (e ∷ us) x
newest e us x same = subst (λ (y : SlabEntry). Contains (e ∷ us) y) same (0, omega arith, refl)

pub split : (e : SlabEntry) (us : List SlabEntry) (x : SlabEntry) → Contains (e ∷ us) x → (e ≡ x) ⊎ Contains us x
split e us x there = elim (Contains-append_cases (e ∷ []) us x there) [
  | inl first ↦ elim (Contains-push_cases [] e x first) [ inl none ↦ absurd (omega (arith, none.1)) | inr same ↦ inl same ]
  | inr later ↦ inr later
]

-- what waits was taken
filling_same : (us : List SlabEntry) (old new : Slab) (x : SlabEntry) → new.filling ≡ old.filling → (Contains old.filling x → Contains us x) → Contains new.filling x → Contains us x
filling_same us old new x same kept there = kept (subst (λ (es : List SlabEntry). Contains es x) same there)

pub filling_taken : (g : Geometry) (slab : ℕ) (commits : List Point) (calls : List Operation) (w : Writes) (x : SlabEntry) → LeadTo (opening g slab commits) calls w → Contains w.journal.filling x → Contains (updates_of calls) x
filling_taken g slab commits [] w x is there = absurd (omega (arith, (subst (λ (v : Writes). Contains v.journal.filling x) is there).1))
filling_taken g slab commits (Taken e ∷ calls) w x (before, lead, did) there =
    elim (Contains-push_cases before.journal.filling e x (subst (λ (v : Writes). Contains v.journal.filling x) did.2 there)) [
      | inl old ↦ more e (updates_of calls) x (filling_taken g slab commits calls before x lead old)
      | inr same ↦ newest e (updates_of calls) x same
    ]
filling_taken g slab commits (JournalOut block ∷ calls) w x (before, lead, did) there =
    absurd (omega (arith, (subst (λ (es : List SlabEntry). Contains es x) (ap (λ (j : Slab). j.filling) did.0.follows) there).1))
filling_taken g slab commits (ReferenceOut counters bytes block ∷ calls) w x (before, lead, did) there =
    filling_same (updates_of calls) before.journal w.journal x (ap (λ (v : Writes). v.journal.filling) did.1) (filling_taken g slab commits calls before x lead) there
filling_taken g slab commits (JournalDurable sequence ∷ calls) w x (before, lead, did) there =
    filling_same (updates_of calls) before.journal w.journal x (ap (λ (v : Writes). v.journal.filling) did.2) (filling_taken g slab commits calls before x lead) there
filling_taken g slab commits (ReferenceDurable block ∷ calls) w x (before, lead, did) there =
    filling_same (updates_of calls) before.journal w.journal x (ap (λ (j : Slab). j.filling) did.1.journal) (filling_taken g slab commits calls before x lead) there

pub block_taken : (g : Geometry) (slab : ℕ) (commits : List Point) (calls : List Operation) (old : Writes) (new : Slab) (block : SlabJournalBlock) (x : SlabEntry) → LeadTo (opening g slab commits) calls old
    → Seals old.journal new block → Contains block.entries x → Contains (updates_of calls) x
block_taken g slab commits calls old new block x lead seals there =
    filling_taken g slab commits calls old x lead (subst (λ (es : List SlabEntry). Contains es x) (ap (λ (b : SlabJournalBlock). b.entries) seals.records) there)

-- the calls as those on the reference blocks
abbrev on_blocks : List Operation → List updates.Operation
on_blocks [] = []
on_blocks (Taken e ∷ calls) = updates.Updated e ∷ on_blocks calls
on_blocks (ReferenceOut counters bytes block ∷ calls) = updates.HandedOut counters bytes block ∷ on_blocks calls
on_blocks (ReferenceDurable block ∷ calls) = updates.Written block ∷ on_blocks calls
on_blocks (other ∷ calls) = on_blocks calls

same_updates : (calls : List Operation) → updates.updates_of (on_blocks calls) ≡ updates_of calls
same_updates [] = refl
same_updates (Taken e ∷ calls) = ap (λ (es : List SlabEntry). e ∷ es) (same_updates calls)
same_updates (JournalOut block ∷ calls) = same_updates calls
same_updates (ReferenceOut counters bytes block ∷ calls) = same_updates calls
same_updates (JournalDurable sequence ∷ calls) = same_updates calls
same_updates (ReferenceDurable block ∷ calls) = same_updates calls

on_blocks_lead : (first : Writes) (calls : List Operation) (w : Writes) → LeadTo first calls w → updates.LeadTo first.blocks (on_blocks calls) w.blocks
on_blocks_lead first [] w is = ap (λ (v : Writes). v.blocks) is
on_blocks_lead first (Taken e ∷ calls) w (before, lead, did) = (before.blocks, on_blocks_lead first calls before lead, (did.1, ap (λ (v : Writes). v.blocks) did.2))
on_blocks_lead first (JournalOut block ∷ calls) w (before, lead, did) =
    subst (λ (r : References). updates.LeadTo first.blocks (on_blocks calls) r) (sym (ap (λ (v : Writes). v.blocks) did.1)) (on_blocks_lead first calls before lead)
on_blocks_lead first (ReferenceOut counters bytes block ∷ calls) w (before, lead, did) = (before.blocks, on_blocks_lead first calls before lead, did.0)
on_blocks_lead first (JournalDurable sequence ∷ calls) w (before, lead, did) =
    subst (λ (r : References). updates.LeadTo first.blocks (on_blocks calls) r) (sym (ap (λ (v : Writes). v.blocks) did.2)) (on_blocks_lead first calls before lead)
on_blocks_lead first (ReferenceDurable block ∷ calls) w (before, lead, did) = (before.blocks, on_blocks_lead first calls before lead, (did.0, did.1.blocks))

pub reference_says : (g : Geometry) (slab : ℕ) (commits : List Point) (first : List ℕ) (calls : List Operation) (old new : Writes) (bytes : List ℕ) (block : ℕ) → length (points_of g slab commits) ≡ sectors_per_slab g
    → LeadTo (opening g slab commits) calls old → AreRising g (points_of g slab commits) (updates_of calls) → HandsOutBlock old.blocks new.blocks (counters_after first (updates_of calls)) bytes block
    → bytes ≡ reference_bytes (sectors_of g old.blocks.applied (counters_after first (up_to g old.blocks.applied (updates_of calls))) block)
reference_says g slab commits first calls old new bytes block size lead rising did =
    let points = points_of g slab commits in
    let law : List SlabEntry → Type 0
    = λ es. AreRising g points es → HandsOutBlock old.blocks new.blocks (counters_after first es) bytes block → bytes ≡ reference_bytes (sectors_of g old.blocks.applied (counters_after first (up_to g old.blocks.applied es)) block) in
    subst law (same_updates calls) (says_exactly g points first (on_blocks calls) old.blocks new.blocks bytes block size (on_blocks_lead (opening g slab commits) calls old lead)) rising did
