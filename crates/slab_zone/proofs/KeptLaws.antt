-- What is to be written stays that of the slabs of the zone.
use Rattle.std.specs.Prelude.{ℕ, ◌≡◌, ◌+◌, ◌*◌, ◌<◌, List, length, Option, None, Some, IfSome, IfNone}
use Rattle.std.proofs.Common.{sym, ◌∙◌, ap, subst, arith, inl, inr, refl, get_or, set, get_or-set_same, get_or-set_other}
use Rattle.std.proofs.lemmas.Bool.{cases_eq}
use Rattle.std.proofs.lemmas.List.{length-set}
use Rattle.blk_base.specs.Regions.{slab_start_of}
use Rattle.blk_base.specs.declared.geometry.Geometry.{Geometry}
use Rattle.blk_base.specs.declared.journal_entry.Update.{Update}
use Rattle.blk_base.specs.declared.place.Pbn.{Pbn}
use Rattle.reference_blocks.specs.References.{References}
use Rattle.slab_journal.specs.Slab.{Slab, IsOfSlab}
use Rattle.slab_writes.specs.Due.{IsDue}
use Rattle.slab_writes.specs.Writes.{Writes, Settles, SettlesAs, taken}
use Rattle.slab_writes.specs.declared.forms.Need.{Need}
use Rattle.slab_writes.specs.declared.forms.SlabPart.{SlabPart}
use Rattle.slab_writes.specs.declared.forms.SlabPart.TheVariants as part
use Rattle.slab_writes.specs.declared.forms.SlabWork.{SlabWork}
use Rattle.zone_counts.specs.Zone.{IsOfZone, index_of, slab_of}
use Rattle.zone_counts.proofs.OperationLaws.{inside, of_slab}
use Rattle.slab_zone.specs.Whole.{WholeZone, IsWhole, AreOfSlab, AreOfZone, nothing, writes_at}
use Rattle.slab_zone.specs.ZoneWrites.{IsDueAmong}
use Rattle.slab_zone.proofs.DueLaws.{read_as}

-- one slab's journal and reference blocks are still of that slab
pub record IsStillOf (old new : Writes) : Type 0 where
  pub journal : new.journal.geometry ≡ old.journal.geometry
  pub slab : new.journal.slab ≡ old.journal.slab
  pub blocks : new.blocks.geometry ≡ old.blocks.geometry

pub same_of : (old new : Writes) (n : ℕ) (g : Geometry) → IsStillOf old new → AreOfSlab g n old → AreOfSlab g n new
same_of old new n g still are = record { journal = still.journal ∙ are.journal; slab = still.slab ∙ are.slab; blocks = still.blocks ∙ are.blocks }

pub still_taken : (w : Writes) (update : Update) → IsStillOf w (taken w update)
still_taken w update = record { journal = refl; slab = refl; blocks = refl }

pub still_due : (need : Need) (old new : Writes) (counters bytes : List ℕ) (work : SlabWork) → IsDue need old new counters bytes work → IsStillOf old new
still_due need old new counters bytes work (inl journal) =
    let did = journal.1 in
    record {
      journal = ap (λ (j : Slab). j.geometry) did.seals.follows;
      slab = ap (λ (j : Slab). j.slab) did.seals.follows;
      blocks = ap (λ (w : Writes). w.blocks.geometry) did.same;
    }
still_due need old new counters bytes work (inr reference) =
    let did = reference.1 in
    record {
      journal = ap (λ (w : Writes). w.journal.geometry) did.same;
      slab = ap (λ (w : Writes). w.journal.slab) did.same;
      blocks = ap (λ (r : References). r.geometry) did.hands_out.same;
    }

still_settled : (kind : SlabPart) (number : ℕ) (old new : Writes) → SettlesAs kind number old new → IsStillOf old new
still_settled part.Journal number old new did = record {
  journal = ap (λ (w : Writes). w.journal.geometry) did;
  slab = ap (λ (w : Writes). w.journal.slab) did;
  blocks = ap (λ (w : Writes). w.blocks.geometry) did;
}
still_settled part.References number old new did = record {
  journal = ap (λ (j : Slab). j.geometry) did.journal;
  slab = ap (λ (j : Slab). j.slab) did.journal;
  blocks = ap (λ (r : References). r.geometry) did.blocks;
}

pub still_settles : (old new : Writes) (work : SlabWork) → Settles old new work → IsStillOf old new
still_settles old new work did = still_settled work.part work.number old new did

-- so they are of the zone
pub of_zone_set : (g : Geometry) (zone zones count : ℕ) (writes : List Writes) (k : ℕ) (w : Writes) → AreOfZone g zone zones count writes → k < count → IsStillOf (writes_at writes k) w
    → AreOfZone g zone zones count (set writes k w)
of_zone_set g zone zones count writes k w are inside still = record {
  many = length-set writes k w ∙ are.many;
  each = λ j below. elim (cases_eq j k) [
    | inl same ↦
        let now : writes_at (set writes k w) j ≡ w
        = ap (λ (n : ℕ). writes_at (set writes k w) n) same ∙ get_or-set_same writes k w nothing (omega (arith, inside, are.many)) in
        subst (λ (x : Writes). AreOfSlab g (j * zones + zone) x) (sym now)
        (subst (λ (n : ℕ). AreOfSlab g (n * zones + zone) w) (sym same) (same_of (writes_at writes k) w (k * zones + zone) g still (are.each k inside)))
    | inr other ↦ subst (λ (x : Writes). AreOfSlab g (j * zones + zone) x) (sym (get_or-set_other writes k j w nothing other)) (are.each j below)
  ];
}

pub set_keeps : (z : WholeZone) (k : ℕ) (w : Writes) → IsWhole z → k < length z.writes → IsStillOf (writes_at z.writes k) w → IsWhole (record { counts = z.counts; writes = set z.writes k w })
set_keeps z k w is inside still = record {
  counts = is.counts;
  writes = of_zone_set z.counts.geometry z.counts.zone z.counts.zones (length z.counts.slabs) z.writes k w is.writes (omega (arith, inside, is.writes.many)) still;
}

pub due_keeps : (z : WholeZone) (new : List Writes) (need : Need) (bytes : List ℕ) (found : Option SlabWork) → IsWhole z → IfSome found (λ work. IsDueAmong need z.counts.slabs z.writes new bytes work)
    → IfNone found (new ≡ z.writes) → IsWhole (record { counts = z.counts; writes = new })
due_keeps z new need bytes None is some none = subst (λ (ws : List Writes). IsWhole (record { counts = z.counts; writes = ws })) (sym none) (record { counts = is.counts; writes = is.writes })
due_keeps z new need bytes (Some work) is some none =
    subst (λ (ws : List Writes). IsWhole (record { counts = z.counts; writes = ws })) (sym some.after)
    (set_keeps z some.place some.slab is some.inside (still_due need (writes_at z.writes some.place) some.slab (_) bytes work some.due))

-- a block of the zone is of the slab of whose writes it is
pub block_of_slab : (z : WholeZone) (at : Pbn) (k : ℕ) (w : Writes) → IsWhole z → IsOfZone z.counts at → k ≡ index_of z.counts at → w ≡ get_or z.writes k w → IsOfSlab w.journal at
block_of_slab z at k w is own place read =
    let c = z.counts in
    let here = of_slab c.geometry c.zone c.zones c.slabs at is.counts.slabs own in
    let below : index_of c at < length c.slabs = inside c.geometry c.zone c.zones c.slabs at is.counts.slabs own in
    let one = is.counts.slabs.each (index_of c at) below in
    let same : w ≡ writes_at z.writes (index_of c at)
    = read_as z.writes k w (omega (arith, below, place, is.writes.many)) read ∙ ap (λ (n : ℕ). writes_at z.writes n) place in
    let are = is.writes.each (index_of c at) below in
    let start : slab_start_of w.journal.geometry w.journal.slab ≡ slab_start_of c.geometry (index_of c at * c.zones + c.zone)
    = ap (λ (x : Writes). slab_start_of x.journal.geometry x.journal.slab) same ∙ ap (λ (h : Geometry). slab_start_of h (writes_at z.writes (index_of c at)).journal.slab) are.journal
    ∙ ap (λ (n : ℕ). slab_start_of c.geometry n) are.slab in
    let start' : slab_start_of (slab_of c at).geometry (slab_of c at).slab ≡ slab_start_of c.geometry (index_of c at * c.zones + c.zone)
    = ap (λ (h : Geometry). slab_start_of h (slab_of c at).slab) one.1 ∙ ap (λ (n : ℕ). slab_start_of c.geometry n) one.0 in
    let size : w.journal.geometry.slab_blocks ≡ c.geometry.slab_blocks = ap (λ (x : Writes). x.journal.geometry.slab_blocks) same ∙ ap (λ (h : Geometry). h.slab_blocks) are.journal in
    let size' : (slab_of c at).geometry.slab_blocks ≡ c.geometry.slab_blocks = ap (λ (h : Geometry). h.slab_blocks) one.1 in
    (omega (arith, here.0, start, start'), omega (arith, here.1, start, start', size, size'))

pub taken_keeps : (z : WholeZone) (k : ℕ) (w new : Writes) (update : Update) → IsWhole z → k < length z.writes → w ≡ get_or z.writes k w → new ≡ taken w update
    → IsWhole (record { counts = z.counts; writes = set z.writes k new })
taken_keeps z k w new update is inside read did =
    let same = read_as z.writes k w inside read in
    set_keeps z k new is inside
    (subst (λ (x : Writes). IsStillOf x new) same (subst (λ (x : Writes). IsStillOf w x) (sym did) (still_taken w update)))
