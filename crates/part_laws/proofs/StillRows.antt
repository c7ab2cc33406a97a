-- A slab as it is opened: nothing is being written, nothing is due, and so nothing is dirty. And what each clause refuses.
use Rattle.std.proofs.Common.{◌≡◌, ℕ, zero, suc, ◌^◌, ◌-◌, None, Some, List, [], ◌∷◌, replicate, refl, ap, sym, arith, ◌∙◌, inl, inr}
use Rattle.std.proofs.lemmas.Bool.{cases_lt}
use Rattle.std.proofs.lemmas.List.{get_or-replicate, get_or_past, length-replicate}
use Rattle.std.proofs.lemmas.Option.{none-some}
use Rattle.blk_base.specs.Regions.{references_of}
use Rattle.blk_base.specs.declared.geometry.Geometry.{Geometry}
use Rattle.blk_base.specs.declared.point.Point.{Point}
use Rattle.dirty_pages.specs.DirtyPoints.{clean, dirty_points_at}
use Rattle.dirty_pages.specs.declared.dirty_points.DirtyPoints.{DirtyPoints}
use Rattle.slab_writes.specs.Due.{NoneDue}
use Rattle.slab_codec.specs.declared.forms.SlabEntry.{SlabEntry}
use Rattle.slab_writes.specs.Writes.{Writes, opening}
use Rattle.slab_writes.specs.declared.forms.Need.TheVariants.{Head}
use Rattle.zone_counts.specs.Zone.{Zone}
use Rattle.part_laws.specs.Still.{AreSpelled, NoneOut, NonePageOut}
use Rattle.part_laws.specs.StillZones.{NoneOutIn}

clean_at : (count b : ℕ) → dirty_points_at (replicate count clean) b ≡ clean
clean_at count b = elim (cases_lt b count) [
  | inl below ↦ get_or-replicate count b clean clean below
  | inr past ↦ get_or_past (replicate count clean) b clean (omega (arith, past, length-replicate count clean))
]

pub opened_out : (g : Geometry) (slab : ℕ) (commits : List Point) → NoneOut (opening g slab commits)
opened_out g slab commits = record {
  journal = λ writing. omega (arith, writing);
  references = λ b out. none-some out.first (sym (ap (λ (m : DirtyPoints). m.writing) (clean_at (references_of g) b)) ∙ out.is);
}

pub opened_due : (g : Geometry) (slab : ℕ) (commits : List Point) → NoneDue Head (opening g slab commits)
opened_due g slab commits = record {
  journal = λ wants. absurd (omega (arith, wants.0));
  reference = λ wants block first few due. none-some first (sym (ap (λ (m : DirtyPoints). m.dirty) (clean_at (references_of g) block)) ∙ due.dirty);
}

-- NonePageOut

abbrev out : DirtyPoints
out = record { dirty = None; writing = Some (record { 0 = 5 }) }

abbrev busy : List DirtyPoints
busy = clean ∷ out ∷ []

none_out : NonePageOut (clean ∷ record clean { dirty = Some (record { 0 = 5 }) } ∷ [])
none_out zero is = none-some is.first is.is
none_out (suc zero) is = none-some is.first is.is
none_out (suc (suc n)) is = none-some is.first is.is

one_out : NonePageOut busy → ⊥
one_out none = none 1 (record { first = record { 0 = 5 }; is = refl })

-- AreSpelled

spelled : AreSpelled (record { point = record { 0 = 512 }; offset = 3 } ∷ [])
spelled x (zero, inside, is) = omega (arith, ap (λ (e : SlabEntry). e.point.0) is)
spelled x (suc k, inside, is) = absurd (omega (arith, inside))

last_of_all : AreSpelled (record { point = record { 0 = 2 ^ 64 - 1 }; offset = 3 } ∷ [])
last_of_all x (zero, inside, is) = omega (arith, ap (λ (e : SlabEntry). e.point.0) is)
last_of_all x (suc k, inside, is) = absurd (omega (arith, inside))

above_all : AreSpelled (record { point = record { 0 = 2 ^ 64 }; offset = 3 } ∷ []) → ⊥
above_all are = omega (arith, are (record { point = record { 0 = 2 ^ 64 }; offset = 3 }) (0, omega arith, refl))

-- NoneOut

module _ (g : Geometry) (slab : ℕ) (commits : List Point) where
  abbrev opened : Writes
  opened = opening g slab commits

  -- journal
  a_journal_block_out : NoneOut (record opened { journal = record opened.journal { sequence = 2; durable = 1 } }) → ⊥
  a_journal_block_out none = none.journal (omega arith)

  -- references
  a_reference_block_out : NoneOut (record opened { blocks = record opened.blocks { blocks = busy } }) → ⊥
  a_reference_block_out none = none.references 1 (record { first = record { 0 = 5 }; is = refl })

  -- NoneOutIn
  module _ (counts : Zone) where
    none_out_in : NoneOutIn (record { counts = counts; writes = opened ∷ [] })
    none_out_in zero inside = opened_out g slab commits
    none_out_in (suc k) inside = absurd (omega (arith, inside))

    one_slab_out : NoneOutIn (record { counts = counts; writes = opened ∷ record opened { blocks = record opened.blocks { blocks = busy } } ∷ [] }) → ⊥
    one_slab_out none = a_reference_block_out (none 1 (omega arith))
