-- Over every list of calls a zone stays whole, with its slabs where they were.
use Rattle.std.specs.Prelude.{ℕ, ◌≡◌, ◌≢◌, ◌+◌, ◌*◌, ◌/◌, ◌%◌, ◌<◌, List, [], ◌∷◌, length, ◌==◌, if◌then◌else◌}
use Rattle.std.proofs.Common.{sym, ◌∙◌, ap, subst, arith, inl, inr}
use Rattle.std.proofs.lemmas.Bool.Decides.{eqb_tells}
use Rattle.std.proofs.lemmas.Nat.{div-add-mod'}
use Rattle.blk_base.specs.Points.{half_of}
use Rattle.blk_base.specs.declared.geometry.Geometry.{Geometry}
use Rattle.blk_base.specs.declared.place.Pbn.{Pbn}
use Rattle.plain_laws.proofs.LeadLaws.{leads_keep}
use Rattle.reference_blocks.specs.References.{References}
use Rattle.slab_counts.specs.Counts.{Counts}
use Rattle.slab_journal.specs.Slab.{Slab}
use Rattle.slab_writes.specs.Operations as writes
use Rattle.slab_writes.specs.Writes.{Writes, taken}
use Rattle.zone_counts.specs.Operations as counts
use Rattle.zone_counts.specs.Zone.{Zone, AreSlabs, IsOf, place_in, index_of, slab_number}
use Rattle.zone_counts.proofs.OperationLaws.{inside}
use Rattle.zone_counts.proofs.PlaceLaws.{number_is}
use Rattle.slab_zone.specs.Whole.{WholeZone, IsWhole, AreOfZone, writes_at, writes_of}
use Rattle.slab_zone.specs.Operations.{Operation, Counted, Taken, Written, Does, LeadTo, counted_of}
use Rattle.slab_zone.proofs.ShapeLaws.{call_shape, call_keeps}
use Rattle.slab_zone.proofs.KeptLaws.{IsStillOf, still_taken, set_keeps}

-- by whether two numbers are equal
pub pick : {X : Type 0} (P : X → Type 0) (a b : ℕ) (same other : X) → (a ≡ b → P same) → (a ≢ b → P other) → P (if a == b then same else other)
pick P a b same other one two = elim (eqb_tells a b) [ inl is ↦ rw is.0 (one is.1) | inr not ↦ rw not.0 (two not.1) ]

pub does_still : (call : writes.Operation) (old new : Writes) → writes.Does call old new → IsStillOf old new
does_still (writes.Taken entry) old new did = record {
  journal = ap (λ (w : Writes). w.journal.geometry) did.2;
  slab = ap (λ (w : Writes). w.journal.slab) did.2;
  blocks = ap (λ (w : Writes). w.blocks.geometry) did.2;
}
does_still (writes.JournalOut block) old new did = record {
  journal = ap (λ (j : Slab). j.geometry) did.0.follows;
  slab = ap (λ (j : Slab). j.slab) did.0.follows;
  blocks = ap (λ (w : Writes). w.blocks.geometry) did.1;
}
does_still (writes.ReferenceOut counters bytes block) old new did = record {
  journal = ap (λ (w : Writes). w.journal.geometry) did.1;
  slab = ap (λ (w : Writes). w.journal.slab) did.1;
  blocks = ap (λ (r : References). r.geometry) did.0.same;
}
does_still (writes.JournalDurable sequence) old new did = record {
  journal = ap (λ (w : Writes). w.journal.geometry) did.2;
  slab = ap (λ (w : Writes). w.journal.slab) did.2;
  blocks = ap (λ (w : Writes). w.blocks.geometry) did.2;
}
does_still (writes.ReferenceDurable block) old new did = record {
  journal = ap (λ (j : Slab). j.geometry) did.1.journal;
  slab = ap (λ (j : Slab). j.slab) did.1.journal;
  blocks = ap (λ (r : References). r.geometry) did.1.blocks;
}

-- the number of a block's slab is that of a slab
pub number_below : (g : Geometry) (zone zones : ℕ) (at : Pbn) → IsOf g zone zones at → slab_number g at < g.slabs
number_below g zone zones at own =
    let b = own.data_block in
    omega (arith, number_is g b.slab b.offset at b.inside.1 b.stands, b.inside.0)

-- where a slab of the zone stands among those of the zone
pub stands_inside : (g : Geometry) (zone zones : ℕ) (slabs : List Counts) (n : ℕ) → AreSlabs g zone zones slabs → n < g.slabs → n % zones ≡ zone → n / zones < length slabs
stands_inside g zone zones slabs n are below own = are.all n below own

pub number_again : (n zone zones : ℕ) → n % zones ≡ zone → n / zones * zones + zone ≡ n
number_again n zone zones own = omega (arith, div-add-mod' n zones, own)

-- two slabs of the zone don't stand at one place
pub other_place : (m n zone zones : ℕ) → m % zones ≡ zone → n % zones ≡ zone → m ≢ n → n / zones ≢ m / zones
other_place m n zone zones of_m of_n differs = λ same.
    let whole = ap (λ (k : ℕ). k * zones + zone) same in
    differs (sym (number_again m zone zones of_m) ∙ sym whole ∙ number_again n zone zones of_n)

pub call_whole : (call : Operation) (old new : WholeZone) → IsWhole old → Does call old new → IsWhole new
call_whole (Counted call) old new is did =
    subst (λ (ws : List Writes). IsWhole (record { counts = new.counts; writes = ws })) (sym did.2) (call_keeps call old new.counts is did.1)
call_whole (Taken update slab) old new is did =
    let counted = call_keeps (counts.Applies (half_of update.point.0) update.at slab) old new.counts is (did.0, did.2.takes, did.2.changes) in
    let k = index_of old.counts update.at in
    let below : k < length old.writes = omega (arith, inside old.counts.geometry old.counts.zone old.counts.zones old.counts.slabs update.at is.counts.slabs did.0, is.writes.many) in
    subst (λ (ws : List Writes). IsWhole (record { counts = new.counts; writes = ws })) (sym did.2.writes)
    (set_keeps (record { counts = new.counts; writes = old.writes }) k (taken (writes_of old update.at) update) counted below (still_taken (writes_of old update.at) update))
call_whole (Written n call) old new is did =
    let k = n / old.counts.zones in
    let below : k < length old.writes
    = omega (arith, stands_inside old.counts.geometry old.counts.zone old.counts.zones old.counts.slabs n is.counts.slabs did.inside did.own, is.writes.many) in
    subst (λ (z : WholeZone). IsWhole z) (sym did.after) (set_keeps old k did.slab is below (does_still call (writes_at old.writes k) did.slab did.does))

pub calls_whole : (old new : WholeZone) (calls : List Operation) → IsWhole old → LeadTo old calls new → IsWhole new
calls_whole = leads_keep Does IsWhole call_whole

-- the calls as those on the counts
pub counted_lead : (first z : WholeZone) (calls : List Operation) → LeadTo first calls z → counts.LeadTo first.counts (counted_of calls) z.counts
counted_lead first z [] same = ap (λ (x : WholeZone). x.counts) same
counted_lead first z (Counted call ∷ calls) (before, lead, did) = (before.counts, counted_lead first before calls lead, did.1)
counted_lead first z (Taken update slab ∷ calls) (before, lead, did) = (before.counts, counted_lead first before calls lead, (did.0, did.2.takes, did.2.changes))
counted_lead first z (Written n call ∷ calls) (before, lead, did) =
    subst (λ (c : Zone). counts.LeadTo first.counts (counted_of calls) c) (sym (ap (λ (x : WholeZone). x.counts) did.after)) (counted_lead first before calls lead)

-- the image's sizes, and which of its zones it is
pub record HasSizes (g : Geometry) (number many : ℕ) (z : Zone) : Type 0 where
  pub geometry : z.geometry ≡ g
  pub zone : z.zone ≡ number
  pub zones : z.zones ≡ many

pub sizes_kept : (g : Geometry) (zone zones : ℕ) (old new : Zone) (calls : List counts.Operation) → HasSizes g zone zones old → counts.LeadTo old calls new → HasSizes g zone zones new
sizes_kept g zone zones = leads_keep counts.Does (HasSizes g zone zones) (λ call before after kept did.
    let shape = call_shape call before after did in
    record { geometry = shape.geometry ∙ kept.geometry; zone = shape.zone ∙ kept.zone; zones = shape.zones ∙ kept.zones })

pub sizes_after : (g : Geometry) (zone zones : ℕ) (first z : WholeZone) (calls : List Operation) → HasSizes g zone zones first.counts → LeadTo first calls z → HasSizes g zone zones z.counts
sizes_after g zone zones first z calls has lead = sizes_kept g zone zones first.counts z.counts (counted_of calls) has (counted_lead first z calls lead)

-- what is known of the slabs, by these sizes
module _ (g : Geometry) (zone zones : ℕ) (z : WholeZone) (has : HasSizes g zone zones z.counts) (is : IsWhole z) where
  pub slabs_of : AreSlabs g zone zones z.counts.slabs
  slabs_of =
      subst (λ (h : Geometry). AreSlabs h zone zones z.counts.slabs) has.geometry
      (subst (λ (n : ℕ). AreSlabs z.counts.geometry n zones z.counts.slabs) has.zone
      (subst (λ (n : ℕ). AreSlabs z.counts.geometry z.counts.zone n z.counts.slabs) has.zones is.counts.slabs))

  pub writes_are : AreOfZone g zone zones (length z.counts.slabs) z.writes
  writes_are =
      subst (λ (h : Geometry). AreOfZone h zone zones (length z.counts.slabs) z.writes) has.geometry
      (subst (λ (n : ℕ). AreOfZone z.counts.geometry n zones (length z.counts.slabs) z.writes) has.zone
      (subst (λ (n : ℕ). AreOfZone z.counts.geometry z.counts.zone n (length z.counts.slabs) z.writes) has.zones is.writes))

  pub is_of : (at : Pbn) → IsOf z.counts.geometry z.counts.zone z.counts.zones at → IsOf g zone zones at
  is_of at own =
      subst (λ (h : Geometry). IsOf h zone zones at) has.geometry
      (subst (λ (n : ℕ). IsOf z.counts.geometry n zones at) has.zone (subst (λ (n : ℕ). IsOf z.counts.geometry z.counts.zone n at) has.zones own))

  pub place_is : (at : Pbn) → index_of z.counts at ≡ slab_number g at / zones
  place_is at = ap (λ (h : Geometry). place_in h z.counts.zones at) has.geometry ∙ ap (λ (n : ℕ). slab_number g at / n) has.zones
