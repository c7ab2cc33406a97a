-- Over calls whose updates rise no commit point that is handed out is below one that was handed out before.
use Rattle.std.specs.Prelude.{ℕ, ◌≡◌, ◌*◌, ◌<◌, ◌≤◌, ◌⊎◌, List, [], ◌∷◌, length}
use Rattle.std.proofs.Common.{sym, ◌∙◌, ap, subst, arith, inl, inr, set, get_or-set_same, get_or-set_other}
use Rattle.std.proofs.lemmas.Bool.{cases_eq, cases_lt}
use Rattle.blk_base.specs.Counters.{sectors_per_slab, sector_of_offset}
use Rattle.blk_base.specs.Limits.{IsGeometry}
use Rattle.blk_base.specs.declared.geometry.Geometry.{Geometry}
use Rattle.blk_base.specs.declared.point.Point.{Point}
use Rattle.reference_blocks.specs.References.{References, HandsOutBlock, point_at, points_of, updated, end_of}
use Rattle.reference_blocks.specs.Updates.{AreRising}
use Rattle.slab_codec.specs.declared.forms.SlabEntry.{SlabEntry}
use Rattle.slab_writes.specs.Operations.{Operation, Taken, JournalOut, ReferenceOut, JournalDurable, ReferenceDurable, Does, LeadTo, updates_of}
use Rattle.slab_writes.specs.Writes.{Writes, opening}
use Rattle.slab_writes.proofs.DurableLaws.{IsKnown, known, below_next}
use Rattle.slab_writes.proofs.SectorLaws.{due_inside, own_sector, other_sector}

abbrev zero_point : Point
zero_point = record { 0 = 0 }

-- what was handed out isn't above what was applied
abbrev AreBelow : References → Type 0
AreBelow r = (n : ℕ) → (point_at r.handed n).0 ≤ (point_at r.applied n).0

module _ (g : Geometry) (slab : ℕ) (all : List Point) (sizes : IsGeometry g) (size : length (points_of g slab all) ≡ sectors_per_slab g) where
  abbrev points : List Point
  points = points_of g slab all

  -- an update of a sector is above all before
  taken_above : (calls : List Operation) (e : SlabEntry) (w : Writes) → IsKnown g points calls w → AreRising g points (updates_of (Taken e ∷ calls)) → e.offset < w.blocks.geometry.slab_blocks → AreBelow w.blocks
      → AreBelow (updated w.blocks e.offset e.point)
  taken_above calls e w is rising inside below n =
      let r = w.blocks in
      let k = sector_of_offset r.geometry e.offset in
      let there : k < length r.applied = omega (arith, inside, is.blocks.applied, ap (λ (h : Geometry). h.slab_blocks) is.blocks.geometry) in
      elim (cases_eq n k) [
        | inl same ↦
            let now : point_at (set r.applied k e.point) n ≡ e.point = ap (λ (j : ℕ). point_at (set r.applied k e.point) j) same ∙ get_or-set_same r.applied k e.point zero_point there in
            let own : sector_of_offset r.geometry e.offset ≡ sector_of_offset g e.offset = ap (λ (h : Geometry). sector_of_offset h e.offset) is.blocks.geometry in
            let above = below_next g points e (updates_of calls) (point_at r.applied (sector_of_offset g e.offset)) rising (is.blocks.applied_bounded (sector_of_offset g e.offset)) in
            let here : point_at r.applied n ≡ point_at r.applied (sector_of_offset g e.offset) = ap (λ (j : ℕ). point_at r.applied j) (same ∙ own) in
            omega (arith, below n, ap (λ (p : Point). p.0) now, ap (λ (p : Point). p.0) here, above)
        | inr other ↦ omega (arith, below n, ap (λ (p : Point). p.0) (get_or-set_other r.applied k n e.point zero_point other))
      ]

  -- a block is handed out
  module _ (calls : List Operation) (counters bytes : List ℕ) (block : ℕ) (before w : Writes) (is : IsKnown g points calls before) (out : HandsOutBlock before.blocks w.blocks counters bytes block) where
    abbrev r : References
    r = before.blocks

    inside : block < length r.blocks
    inside = due_inside r.blocks block out.first.first out.first.due

    starts : 8 * block ≤ length r.applied
    starts = omega (arith, inside, is.blocks.dirty_points, is.blocks.applied, sizes.slab_blocks)

    alike : length r.applied ≡ length r.handed
    alike = is.blocks.applied ∙ sym is.blocks.handed

    now : (n : ℕ) → (point_at w.blocks.handed n ≡ point_at r.applied n) ⊎ (point_at w.blocks.handed n ≡ point_at r.handed n)
    now n =
        let keeps = ap (λ (ps : List Point). point_at ps n) out.keeps in
        elim (cases_lt n (8 * block)) [
          | inl less ↦ inr (keeps ∙ other_sector r.applied r.handed block n alike starts (inl less))
          | inr low ↦ elim (cases_lt n (end_of r.applied block)) [
            | inl high ↦ inl (keeps ∙ own_sector r.applied r.handed block n alike starts low high)
            | inr past ↦ inr (keeps ∙ other_sector r.applied r.handed block n alike starts (inr past))
          ]
        ]

    out_below : AreBelow r → AreBelow w.blocks
    out_below below n =
        let applied = ap (λ (s : References). (point_at s.applied n).0) out.same in
        elim (now n) [
          | inl new ↦ omega (arith, ap (λ (p : Point). p.0) new, applied)
          | inr old ↦ omega (arith, ap (λ (p : Point). p.0) old, applied, below n)
        ]

    out_rises : AreBelow r → (n : ℕ) → (point_at r.handed n).0 ≤ (point_at w.blocks.handed n).0
    out_rises below n = elim (now n) [
      | inl new ↦ omega (arith, ap (λ (p : Point). p.0) new, below n)
      | inr old ↦ omega (arith, ap (λ (p : Point). p.0) old)
    ]

  same_below : (old new : References) → new.handed ≡ old.handed → new.applied ≡ old.applied → AreBelow old → AreBelow new
  same_below old new handed applied below n = omega (arith, ap (λ (ps : List Point). (point_at ps n).0) handed, ap (λ (ps : List Point). (point_at ps n).0) applied, below n)

  are_below : (calls : List Operation) (w : Writes) → LeadTo (opening g slab all) calls w → AreRising g points (updates_of calls) → AreBelow w.blocks
  are_below [] w is rising = λ n. omega (arith, ap (λ (v : Writes). (point_at v.blocks.handed n).0) is, ap (λ (v : Writes). (point_at v.blocks.applied n).0) is)
  are_below (Taken e ∷ calls) w (before, lead, did) rising =
      subst (λ (v : Writes). AreBelow v.blocks) (sym did.2)
      (taken_above calls e before (known g slab all calls before sizes size lead rising.2) rising did.1 (are_below calls before lead rising.2))
  are_below (JournalOut block ∷ calls) w (before, lead, did) rising =
      same_below before.blocks w.blocks (ap (λ (v : Writes). v.blocks.handed) did.1) (ap (λ (v : Writes). v.blocks.applied) did.1) (are_below calls before lead rising)
  are_below (ReferenceOut counters bytes block ∷ calls) w (before, lead, did) rising =
      out_below calls counters bytes block before w (known g slab all calls before sizes size lead rising) did.0 (are_below calls before lead rising)
  are_below (JournalDurable sequence ∷ calls) w (before, lead, did) rising =
      same_below before.blocks w.blocks (ap (λ (v : Writes). v.blocks.handed) did.2) (ap (λ (v : Writes). v.blocks.applied) did.2) (are_below calls before lead rising)
  are_below (ReferenceDurable block ∷ calls) w (before, lead, did) rising =
      same_below before.blocks w.blocks (ap (λ (r : References). r.handed) did.1.blocks) (ap (λ (r : References). r.applied) did.1.blocks) (are_below calls before lead rising)

  still_handed : (old new : References) (n : ℕ) → new.handed ≡ old.handed → (point_at old.handed n).0 ≤ (point_at new.handed n).0
  still_handed old new n same = omega (arith, ap (λ (ps : List Point). (point_at ps n).0) same)

  pub no_handed_falls : (calls : List Operation) (call : Operation) (old new : Writes) (sector : ℕ) → LeadTo (opening g slab all) calls old → AreRising g points (updates_of calls) → Does call old new
      → (point_at old.blocks.handed sector).0 ≤ (point_at new.blocks.handed sector).0
  no_handed_falls calls (Taken e) old new n lead rising did = still_handed old.blocks new.blocks n (ap (λ (v : Writes). v.blocks.handed) did.2)
  no_handed_falls calls (JournalOut block) old new n lead rising did = still_handed old.blocks new.blocks n (ap (λ (v : Writes). v.blocks.handed) did.1)
  no_handed_falls calls (ReferenceOut counters bytes block) old new n lead rising did =
      out_rises calls counters bytes block old new (known g slab all calls old sizes size lead rising) did.0 (are_below calls old lead rising) n
  no_handed_falls calls (JournalDurable sequence) old new n lead rising did = still_handed old.blocks new.blocks n (ap (λ (v : Writes). v.blocks.handed) did.2)
  no_handed_falls calls (ReferenceDurable block) old new n lead rising did = still_handed old.blocks new.blocks n (ap (λ (r : References). r.handed) did.1.blocks)
