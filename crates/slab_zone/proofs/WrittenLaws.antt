-- What is handed out and what is reported as durable are calls of a zone's list.
use Rattle.std.specs.Prelude.{ℕ, ◌≡◌, ◌+◌, ◌*◌, ◌/◌, ◌%◌, ◌<◌, List, length}
use Rattle.std.proofs.Common.{sym, ◌∙◌, ap, subst, arith, inl, inr, refl, set, get_or-set_same}
use Rattle.std.proofs.lemmas.Nat.{div-mul-add, mod-mul-add}
use Rattle.blk_base.specs.declared.geometry.Geometry.{Geometry}
use Rattle.slab_codec.specs.declared.forms.SlabJournalBlock.{SlabJournalBlock}
use Rattle.slab_writes.specs.Operations as writes
use Rattle.slab_writes.specs.Due.{IsDue}
use Rattle.slab_writes.specs.Writes.{Writes, IsOut, IsOutAs, SettlesAs}
use Rattle.slab_writes.specs.declared.forms.Need.{Need}
use Rattle.slab_writes.specs.declared.forms.SlabPart.{SlabPart}
use Rattle.slab_writes.specs.declared.forms.SlabPart.TheVariants as part
use Rattle.slab_writes.specs.declared.forms.SlabWork.{SlabWork}
use Rattle.slab_writes.proofs.OutLaws.{due_is_out}
use Rattle.zone_counts.specs.Zone.{slab_at}
use Rattle.slab_zone.specs.Whole.{WholeZone, IsWhole, nothing, writes_at}
use Rattle.slab_zone.specs.ZoneWrites.{IsDueIn, IsOutIn, SettlesIn}
use Rattle.slab_zone.specs.Operations.{Does, Written, HandsOut, HandsOutWith, Reports}

-- of one slab
record IsCall (old new : Writes) (counters bytes : List ℕ) (work : SlabWork) : Type 0 where
  pub call : writes.Operation
  pub hands_out : HandsOut call bytes work
  pub with_counters : HandsOutWith counters call
  pub does : writes.Does call old new

due_call : (need : Need) (old new : Writes) (counters bytes : List ℕ) (work : SlabWork) → IsDue need old new counters bytes work → IsCall old new counters bytes work
due_call need old new counters bytes work (inl journal) =
    let did = journal.1 in
    record {
      call = writes.JournalOut did.block;
      hands_out = (did.part, did.number ∙ sym (ap (λ (b : SlabJournalBlock). b.sequence) did.seals.records), did.says);
      with_counters = tt;
      does = (did.seals, did.same);
    }
due_call need old new counters bytes work (inr reference) =
    let did = reference.1 in
    record {
      call = writes.ReferenceOut counters bytes work.number;
      hands_out = (did.part, refl, refl);
      with_counters = refl;
      does = (did.hands_out, did.same);
    }

due_slab : (need : Need) (old new : Writes) (counters bytes : List ℕ) (work : SlabWork) → IsDue need old new counters bytes work → work.slab ≡ old.journal.slab
due_slab need old new counters bytes work (inl journal) = journal.1.slab
due_slab need old new counters bytes work (inr reference) = reference.1.slab

module _ (need : Need) (old new : WholeZone) (bytes : List ℕ) (work : SlabWork) (is : IsWhole old) (did : IsDueIn need old new bytes work) where
  abbrev k : ℕ
  k = did.due.place

  there : k < length old.counts.slabs
  there = omega (arith, did.due.inside, is.writes.many)

  pub number_is : work.slab ≡ k * old.counts.zones + old.counts.zone
  number_is = due_slab need (writes_at old.writes k) did.due.slab _ bytes work did.due.due ∙ (is.writes.each k there).slab

  number : old.counts.zone < old.counts.zones
  number = is.counts.slabs.number

  pub own : work.slab % old.counts.zones ≡ old.counts.zone
  own = ap (λ (n : ℕ). n % old.counts.zones) number_is ∙ mod-mul-add k old.counts.zones old.counts.zone number

  pub place : work.slab / old.counts.zones ≡ k
  place = ap (λ (n : ℕ). n / old.counts.zones) number_is ∙ div-mul-add k old.counts.zones old.counts.zone number

  pub below : work.slab < old.counts.geometry.slabs
  below =
      let one = is.counts.slabs.each k there in
      omega (arith, number_is, one.0, one.2.slab, ap (λ (g : Geometry). g.slabs) one.1)

  pub due_does : (call : writes.Operation) × HandsOut call bytes work × Does (Written work.slab call) old new
  due_does =
      let one = due_call need (writes_at old.writes k) did.due.slab (slab_at old.counts.slabs k).counters bytes work did.due.due in (
        one.call,
        one.hands_out,
        record {
          inside = below;
          own = own;
          counters = subst (λ (j : ℕ). HandsOutWith (slab_at old.counts.slabs j).counters one.call) (sym place) one.with_counters;
          slab = did.due.slab;
          does = subst (λ (j : ℕ). writes.Does one.call (writes_at old.writes j) did.due.slab) (sym place) one.does;
          after = did.same ∙ ap (λ (ws : List Writes). record old { writes = ws }) (did.due.after ∙ ap (λ (j : ℕ). set old.writes j did.due.slab) (sym place));
        },
      )

  pub is_out : IsOutIn new work
  is_out =
      let now : writes_at new.writes k ≡ did.due.slab
      = ap (λ (ws : List Writes). writes_at ws k) did.due.after ∙ get_or-set_same old.writes k did.due.slab nothing did.due.inside in
      let out : IsOut did.due.slab work = due_is_out need (writes_at old.writes k) did.due.slab _ bytes work did.due.due in
      subst (λ (z : WholeZone). IsOutIn z work) (sym did.same) (record {
        inside = below;
        own = own;
        out = subst (λ (j : ℕ). IsOut (writes_at new.writes j) work) (sym place) (subst (λ (w : Writes). IsOut w work) (sym now) out);
      })

record IsReport (old new : Writes) (kind : SlabPart) (work : SlabWork) : Type 0 where
  pub call : writes.Operation
  pub reports : work.part ≡ kind → Reports call work
  pub counters : (counters : List ℕ) → HandsOutWith counters call
  pub does : writes.Does call old new

settle_call : (kind : SlabPart) (old new : Writes) (work : SlabWork) → IsOutAs kind work.number old → SettlesAs kind work.number old new → IsReport old new kind work
settle_call part.Journal old new work out did = record {
  call = writes.JournalDurable work.number;
  reports = λ is. (is, refl);
  counters = λ cs. tt;
  does = (out.0, out.1, did);
}
settle_call part.References old new work out did = record {
  call = writes.ReferenceDurable work.number;
  reports = λ is. (is, refl);
  counters = λ cs. tt;
  does = (out, did);
}

pub settle_does : (old new : WholeZone) (work : SlabWork) → IsOutIn old work → SettlesIn old new work → (call : writes.Operation) × Reports call work × Does (Written work.slab call) old new
settle_does old new work out did =
    let one = settle_call work.part (writes_at old.writes (work.slab / old.counts.zones)) did.slab work out.out did.settles in (
      one.call,
      one.reports refl,
      record { inside = out.inside; own = out.own; counters = one.counters _; slab = did.slab; does = one.does; after = did.after },
    )
