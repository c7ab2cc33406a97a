-- A block that is handed out is being written until that is reported.
use Rattle.std.specs.Prelude.{ℕ, ◌≡◌, List}
use Rattle.std.proofs.Common.{sym, ◌∙◌, ap, subst, arith, inl, inr, get_or-set_same}
use Rattle.dirty_pages.specs.declared.dirty_points.DirtyPoints.{DirtyPoints}
use Rattle.dirty_pages.specs.DirtyPoints.{clean, handed_out, dirty_points_at}
use Rattle.slab_journal.specs.Slab.{Slab}
use Rattle.slab_writes.specs.Due.{IsDue, NoneDue}
use Rattle.slab_writes.specs.Writes.{Writes, IsOut, IsOutAs}
use Rattle.slab_writes.specs.declared.forms.Need.{Need}
use Rattle.slab_writes.specs.declared.forms.SlabPart.{SlabPart}
use Rattle.slab_writes.specs.declared.forms.SlabPart.TheVariants as part
use Rattle.slab_writes.specs.declared.forms.SlabWork.{SlabWork}
use Rattle.slab_writes.proofs.SectorLaws.{due_inside}

pub due_is_out : (need : Need) (old new : Writes) (counters bytes : List ℕ) (work : SlabWork) → IsDue need old new counters bytes work → IsOut new work
due_is_out need old new counters bytes work (inl journal) =
    let did = journal.1 in
    let seals = did.seals in
    let sequence = ap (λ (j : Slab). j.sequence) seals.follows in
    let durable = ap (λ (j : Slab). j.durable) seals.follows in
    let out : IsOutAs part.Journal work.number new = (omega (arith, sequence, durable, seals.none_writing), did.number ∙ sym seals.none_writing ∙ sym durable) in
    subst (λ (kind : SlabPart). IsOutAs kind work.number new) (sym did.part) out
due_is_out need old new counters bytes work (inr reference) =
    let did = reference.1 in
    let first = did.hands_out.first in
    let inside = due_inside old.blocks.blocks work.number first.first first.due in
    let now : dirty_points_at new.blocks.blocks work.number ≡ handed_out (dirty_points_at old.blocks.blocks work.number)
    = ap (λ (ms : List DirtyPoints). dirty_points_at ms work.number) first.after ∙ get_or-set_same old.blocks.blocks work.number (handed_out (dirty_points_at old.blocks.blocks work.number)) clean inside in
    let out : IsOutAs part.References work.number new = record { first = first.first; is = ap (λ (m : DirtyPoints). m.writing) now ∙ first.due.dirty } in
    subst (λ (kind : SlabPart). IsOutAs kind work.number new) (sym did.part) out

-- where a block is handed out, there is one that is wanted and isn't being written
pub due_or_none : (need : Need) (old new : Writes) (counters bytes : List ℕ) (work : SlabWork) → IsDue need old new counters bytes work → NoneDue need old → ⊥
due_or_none need old new counters bytes work (inl journal) none =
    let writing = none.journal journal.0 in
    omega (arith, writing, journal.1.seals.none_writing)
due_or_none need old new counters bytes work (inr reference) none =
    let first = reference.1.hands_out.first in
    none.reference reference.0 work.number first.first (omega (arith, first.reached)) first.due
