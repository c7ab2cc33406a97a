-- A block that is handed out wasn't being written, and is until its write is reported.
use Rattle.std.specs.Prelude.{ℕ, ◌≡◌, ◌+◌, ◌*◌, ◌/◌, ◌%◌, ◌<◌, ◌⊎◌, List, length, Some}
use Rattle.std.proofs.Common.{sym, ◌∙◌, ap, subst, arith, inl, inr, refl, set, get_or-set_same, get_or-set_other}
use Rattle.std.proofs.lemmas.Bool.{cases_eq}
use Rattle.std.proofs.lemmas.Option.{none-some}
use Rattle.blk_base.specs.declared.geometry.Geometry.{Geometry}
use Rattle.blk_base.specs.declared.point.Point.{Point}
use Rattle.dirty_pages.specs.declared.dirty_points.DirtyPoints.{DirtyPoints}
use Rattle.dirty_pages.specs.DirtyPoints.{IsBeingWritten, changed_at, handed_out, dirty_points_at, settled, with_dirty_points}
use Rattle.dirty_pages.proofs.DirtyPointLaws.{out_inside, changed_here, changed_elsewhere}
use Rattle.reference_blocks.specs.References.{References, updated}
use Rattle.slab_codec.specs.declared.forms.SlabEntry.{SlabEntry}
use Rattle.slab_journal.specs.Slab.{Slab}
use Rattle.slab_writes.specs.Operations as writes
use Rattle.slab_writes.specs.Due.{IsDue}
use Rattle.slab_writes.specs.Writes.{Writes, IsOut, IsOutAs, taken}
use Rattle.slab_writes.specs.declared.forms.Need.{Need}
use Rattle.slab_writes.specs.declared.forms.SlabPart.{SlabPart}
use Rattle.slab_writes.specs.declared.forms.SlabPart.TheVariants as part
use Rattle.slab_writes.specs.declared.forms.SlabWork.{SlabWork}
use Rattle.zone_counts.specs.Zone.{index_of}
use Rattle.zone_counts.specs.Operations as counts
use Rattle.blk_base.specs.Points.{half_of}
use Rattle.slab_zone.specs.Whole.{WholeZone, IsWhole, nothing, writes_at, writes_of}
use Rattle.slab_zone.specs.ZoneWrites.{IsDueIn, IsOutIn}
use Rattle.slab_zone.specs.Operations.{Operation, Counted, Taken, Written, Does, Reports}
use Rattle.slab_zone.proofs.ShapeLaws.{IsShaped, call_shape}
use Rattle.slab_zone.proofs.SizeLaws.{number_again, stands_inside}
use Rattle.slab_zone.proofs.WrittenLaws.{is_out, place}

-- a change of a page that is still being written by it
still_writing : (pages : List DirtyPoints) (page : ℕ) (change : DirtyPoints → DirtyPoints) (other : ℕ) → ((first : Point) → (dirty_points_at pages page).writing ≡ Some first → (change (dirty_points_at pages page)).writing ≡ Some first)
    → IsBeingWritten (dirty_points_at pages other) → IsBeingWritten (dirty_points_at (with_dirty_points pages page change) other)
still_writing pages page change other keeps is = elim (cases_eq other page) [
  | inl same ↦
      let here = subst (λ (n : ℕ). IsBeingWritten (dirty_points_at pages n)) same is in
      let now = changed_here pages page change (out_inside pages page here) in
      record { first = here.first; is = ap (λ (n : ℕ). (dirty_points_at (with_dirty_points pages page change) n).writing) same ∙ ap (λ (m : DirtyPoints). m.writing) now ∙ keeps here.first here.is }
  | inr differs ↦ subst (λ (m : DirtyPoints). IsBeingWritten m) (sym (changed_elsewhere pages page other change differs)) is
]

-- an update is taken
out_updated : (kind : SlabPart) (number : ℕ) (w : Writes) (entries : List SlabEntry) (point : Point) (offset : ℕ) → IsOutAs kind number w
    → IsOutAs kind number (record { journal = record w.journal { filling = entries; last = point }; blocks = updated w.blocks offset point })
out_updated part.Journal number w entries point offset out = (out.0, out.1)
out_updated part.References number w entries point offset out = still_writing w.blocks.blocks _ (changed_at point) number (λ first is. is) out

same_journal : (old new : Writes) (number : ℕ) → new.journal.sequence ≡ old.journal.sequence → new.journal.durable ≡ old.journal.durable → IsOutAs part.Journal number old → IsOutAs part.Journal number new
same_journal old new number sequence durable out = (omega (arith, out.0, sequence, durable), out.1 ∙ sym durable)

same_blocks : (old new : Writes) (number : ℕ) → new.blocks.blocks ≡ old.blocks.blocks → IsOutAs part.References number old → IsOutAs part.References number new
same_blocks old new number same out = subst (λ (ms : List DirtyPoints). IsBeingWritten (dirty_points_at ms number)) (sym same) out

-- of one slab
out_kept : (call : writes.Operation) (old new : Writes) (work : SlabWork) (kind : SlabPart) → work.part ≡ kind → IsOutAs kind work.number old → writes.Does call old new → IsOutAs kind work.number new ⊎ Reports call work
out_kept (writes.Taken entry) old new work kind is out did = inl (subst (λ (w : Writes). IsOutAs kind work.number w) (sym did.2) (out_updated kind work.number old _ entry.point entry.offset out))
out_kept (writes.JournalOut block) old new work part.Journal is out did = absurd (omega (arith, out.0, did.0.none_writing))
out_kept (writes.JournalOut block) old new work part.References is out did = inl (same_blocks old new work.number (ap (λ (w : Writes). w.blocks.blocks) did.1) out)
out_kept (writes.ReferenceOut counters bytes block) old new work part.Journal is out did =
    inl (same_journal old new work.number (ap (λ (w : Writes). w.journal.sequence) did.1) (ap (λ (w : Writes). w.journal.durable) did.1) out)
out_kept (writes.ReferenceOut counters bytes block) old new work part.References is out did =
    let first = did.0.first in
    inl (subst (λ (ms : List DirtyPoints). IsBeingWritten (dirty_points_at ms work.number)) (sym first.after)
    (still_writing old.blocks.blocks block handed_out work.number (λ point writing. absurd (none-some point (sym first.due.idle ∙ writing))) out))
out_kept (writes.JournalDurable sequence) old new work part.Journal is out did = inr (is, out.1 ∙ sym did.1)
out_kept (writes.JournalDurable sequence) old new work part.References is out did = inl (same_blocks old new work.number (ap (λ (w : Writes). w.blocks.blocks) did.2) out)
out_kept (writes.ReferenceDurable block) old new work part.Journal is out did =
    inl (same_journal old new work.number (ap (λ (j : Slab). j.sequence) did.1.journal) (ap (λ (j : Slab). j.durable) did.1.journal) out)
out_kept (writes.ReferenceDurable block) old new work part.References is out did = elim (cases_eq work.number block) [
  | inl same ↦ inr (is, same)
  | inr differs ↦
      let dirty_points : new.blocks.blocks ≡ with_dirty_points old.blocks.blocks block settled = ap (λ (r : References). r.blocks) did.1.blocks in
      inl (subst (λ (ms : List DirtyPoints). IsBeingWritten (dirty_points_at ms work.number)) (sym dirty_points)
      (subst (λ (m : DirtyPoints). IsBeingWritten m) (sym (changed_elsewhere old.blocks.blocks block work.number settled differs)) out))
]

-- in a zone whose slabs stand where they stood
out_shaped : (old new : WholeZone) (work : SlabWork) → IsShaped old.counts new.counts → work.slab < old.counts.geometry.slabs → work.slab % old.counts.zones ≡ old.counts.zone
    → IsOut (writes_at new.writes (work.slab / old.counts.zones)) work → IsOutIn new work
out_shaped old new work shape inside own out = record {
  inside = omega (arith, inside, ap (λ (g : Geometry). g.slabs) shape.geometry);
  own = ap (λ (n : ℕ). work.slab % n) shape.zones ∙ own ∙ sym shape.zone;
  out = subst (λ (n : ℕ). IsOut (writes_at new.writes (work.slab / n)) work) (sym shape.zones) out;
}

abbrev IsReported : Operation → SlabWork → Type 0
IsReported call work = (report : writes.Operation) × (call ≡ Written work.slab report) × Reports report work

pub out_kept_in : (call : Operation) (old new : WholeZone) (work : SlabWork) → IsWhole old → IsOutIn old work → Does call old new
    → IsOutIn new work ⊎ ((report : writes.Operation) × (call ≡ Written work.slab report) × Reports report work)
out_kept_in (Counted call) old new work is out did =
    inl (out_shaped old new work (call_shape call old.counts new.counts did.1) out.inside out.own
    (subst (λ (ws : List Writes). IsOut (writes_at ws (work.slab / old.counts.zones)) work) (sym did.2) out.out))
out_kept_in (Taken update slab) old new work is out did =
    let k = index_of old.counts update.at in
    let j = work.slab / old.counts.zones in
    let w = writes_of old update.at in
    let shape = call_shape (counts.Applies (half_of update.point.0) update.at slab) old.counts new.counts (did.0, did.2.takes, did.2.changes) in
    let inside : j < length old.writes
    = omega (arith, stands_inside old.counts.geometry old.counts.zone old.counts.zones old.counts.slabs work.slab is.counts.slabs out.inside out.own, is.writes.many) in
    let now : IsOut (writes_at (set old.writes k (taken w update)) j) work
    = elim (cases_eq j k) [
      | inl same ↦
          let here = subst (λ (n : ℕ). IsOut (writes_at old.writes n) work) same out.out in
          let there : k < length old.writes = omega (arith, inside, same) in
          let read : writes_at (set old.writes k (taken w update)) j ≡ taken w update
          = ap (λ (n : ℕ). writes_at (set old.writes k (taken w update)) n) same ∙ get_or-set_same old.writes k (taken w update) nothing there in
          subst (λ (x : Writes). IsOut x work) (sym read) (out_updated work.part work.number w _ update.point _ here)
      | inr differs ↦ subst (λ (x : Writes). IsOut x work) (sym (get_or-set_other old.writes k j (taken w update) nothing differs)) out.out
    ] in
    inl (out_shaped old new work shape out.inside out.own (subst (λ (ws : List Writes). IsOut (writes_at ws j) work) (sym did.2.writes) now))
out_kept_in (Written m call) old new work is out did =
    let k = m / old.counts.zones in
    let j = work.slab / old.counts.zones in
    let shape : IsShaped old.counts new.counts
    = record {
      geometry = ap (λ (z : WholeZone). z.counts.geometry) did.after;
      zone = ap (λ (z : WholeZone). z.counts.zone) did.after;
      zones = ap (λ (z : WholeZone). z.counts.zones) did.after;
      many = ap (λ (z : WholeZone). length z.counts.slabs) did.after;
    } in
    let inside : j < length old.writes
    = omega (arith, stands_inside old.counts.geometry old.counts.zone old.counts.zones old.counts.slabs work.slab is.counts.slabs out.inside out.own, is.writes.many) in
    let settle : IsOut (writes_at (set old.writes k did.slab) j) work → IsOutIn new work
    = λ now. out_shaped old new work shape out.inside out.own
    (subst (λ (ws : List Writes). IsOut (writes_at ws j) work) (sym (ap (λ (z : WholeZone). z.writes) did.after)) now) in
    elim (cases_eq j k) [
      | inl same ↦
          let here = subst (λ (n : ℕ). IsOut (writes_at old.writes n) work) same out.out in
          let there : k < length old.writes = omega (arith, inside, same) in
          let read : writes_at (set old.writes k did.slab) j ≡ did.slab
          = ap (λ (n : ℕ). writes_at (set old.writes k did.slab) n) same ∙ get_or-set_same old.writes k did.slab nothing there in
          let number : m ≡ work.slab
          = sym (number_again m old.counts.zone old.counts.zones did.own) ∙ ap (λ (n : ℕ). n * old.counts.zones + old.counts.zone) (sym same)
          ∙ number_again work.slab old.counts.zone old.counts.zones out.own in
          elim (out_kept call (writes_at old.writes k) did.slab work work.part refl here did.does) [
            | inl still ↦ inl (settle (subst (λ (x : Writes). IsOut x work) (sym read) still))
            | inr reports ↦ inr (call, ap (λ (n : ℕ). Written n call) number, reports)
          ]
      | inr differs ↦ inl (settle (subst (λ (x : Writes). IsOut x work) (sym (get_or-set_other old.writes k j did.slab nothing differs)) out.out))
    ]

-- a block that is due isn't out
fresh : (kind : SlabPart) (need : Need) (old new : Writes) (counters bytes : List ℕ) (work : SlabWork) → work.part ≡ kind → IsDue need old new counters bytes work → ¬ IsOutAs kind work.number old
fresh part.Journal need old new counters bytes work is (inl journal) = λ out. omega (arith, out.0, journal.1.seals.none_writing)
fresh part.References need old new counters bytes work is (inl journal) = λ out. let no : part.Journal ≡ part.References = sym journal.1.part ∙ is in cc
fresh part.Journal need old new counters bytes work is (inr reference) = λ out. let no : part.References ≡ part.Journal = sym reference.1.part ∙ is in cc
fresh part.References need old new counters bytes work is (inr reference) = λ out. none-some out.first (sym reference.1.hands_out.first.due.idle ∙ out.is)

pub handed_in : (need : Need) (old new : WholeZone) (bytes : List ℕ) (work : SlabWork) → IsWhole old → IsDueIn need old new bytes work → (¬ IsOutIn old work) × IsOutIn new work
handed_in need old new bytes work is did =
    let k = did.due.place in
    let at_k = place need old new bytes work is did in (
      (λ out.
          let here = subst (λ (n : ℕ). IsOut (writes_at old.writes n) work) at_k out.out in
          fresh work.part need (writes_at old.writes k) did.due.slab _ bytes work refl did.due.due here),
      is_out need old new bytes work is did,
    )
