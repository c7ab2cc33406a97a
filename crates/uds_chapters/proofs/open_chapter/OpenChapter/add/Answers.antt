use Rattle.std.proofs.Common.{◌≡◌, ◌<◌, ◌≤◌, ◌∙◌, List, length, ap, sym, subst, arith, refl}
use Rattle.std.specs.Prelude.{HoldsAt, IsSome, ◌≢◌}
use Rattle.std.specs.List.Sorted.{IsPartitionPoint}
use Rattle.std.proofs.lemmas.Bool.{eqb-true, eq-eqb, false≢true}
use Rattle.uds_chapters.specs.declared.entry.Record.{Record}
use Rattle.uds_chapters.specs.Names.{AreSorted}
use Rattle.uds_chapters.specs.Chapters.{location_of, with_record}
use Rattle.uds_chapters.specs.Finds.{IsUnder, IsOver}
use Rattle.uds_chapters.proofs.RecordLaws.{with_record-place, with_record-gap, location-place, location-gap, sorted-with_record, refilled}
use Rattle.uds_chapters.proofs.open_chapter.OpenChapter.add.Goals as goal

pub invariant_of-self : goal.invariant_of-self
invariant_of-self c =
    let items = c.self.inside.records.items in
    let new : Record = record { name = c.args.name.now; at = c.args.at } in
    let inside : c.in-Ok.place < length items = subst (λ (rs : List Record). c.in-Ok.place < length rs) c.as_slice.ensures.value c.in-Ok.ensures.bound in
    let at : HoldsAt (λ (one : Record). one.name ≡ new.name) items c.in-Ok.place
    = subst (λ (rs : List Record). HoldsAt (λ (one : Record). one.name ≡ c.args.name.now) rs c.in-Ok.place) c.as_slice.ensures.value c.in-Ok.ensures.found in
    subst AreSorted (sym (refilled items c.as_mut_slice.result.now c.in-Ok.place new c.as_mut_slice.ensures.value ∙ with_record-place new items c.in-Ok.place c.self.invariant.rising inside at))
    (sorted-with_record new items c.is_name.ensures c.self.invariant)

pub invariant_of-self-in-Err-2 : goal.invariant_of-self-in-Err-2
invariant_of-self-in-Err-2 c =
    let items = c.self.inside.records.items in
    let new : Record = record { name = c.args.name.now; at = c.args.at } in
    let few : c.in-Err.field-0 ≤ length items = subst (λ (rs : List Record). c.in-Err.field-0 ≤ length rs) c.as_slice.ensures.value c.in-Err.ensures.bound in
    let gap : IsPartitionPoint (IsUnder new.name) (IsOver new.name) items c.in-Err.field-0
    = subst (λ (rs : List Record). IsPartitionPoint (IsUnder c.args.name.now) (IsOver c.args.name.now) rs c.in-Err.field-0) c.as_slice.ensures.value c.in-Err.ensures.gap in
    subst AreSorted (sym (c.insert.ensures.items ∙ with_record-gap new items c.in-Err.field-0 few gap))
    (sorted-with_record new items c.is_name.ensures c.self.invariant)

pub returns-in-Ok : goal.returns-in-Ok
returns-in-Ok c =
    let items = c.self.inside.records.items in
    let new : Record = record { name = c.args.name.now; at = c.args.at } in
    let inside : c.in-Ok.place < length items = subst (λ (rs : List Record). c.in-Ok.place < length rs) c.as_slice.ensures.value c.in-Ok.ensures.bound in
    let at : HoldsAt (λ (one : Record). one.name ≡ new.name) items c.in-Ok.place
    = subst (λ (rs : List Record). HoldsAt (λ (one : Record). one.name ≡ c.args.name.now) rs c.in-Ok.place) c.as_slice.ensures.value c.in-Ok.ensures.found in (
      subst (λ (rs : List Record). IsSome (location_of c.args.name.now rs)) c.self.view_is
          (subst IsSome (sym (location-place new.name items c.in-Ok.place new c.self.invariant.rising inside at)) refl),
      refilled items c.as_mut_slice.result.now c.in-Ok.place new c.as_mut_slice.ensures.value ∙ with_record-place new items c.in-Ok.place c.self.invariant.rising inside at
          ∙ ap (with_record new) c.self.view_is,
    )

pub returns-in-Err : goal.returns-in-Err
returns-in-Err c =
    let items = c.self.inside.records.items in
    let gap : IsPartitionPoint (IsUnder c.args.name.now) (IsOver c.args.name.now) items c.in-Err.field-0
    = subst (λ (rs : List Record). IsPartitionPoint (IsUnder c.args.name.now) (IsOver c.args.name.now) rs c.in-Err.field-0) c.as_slice.ensures.value c.in-Err.ensures.gap in (
      ap (location_of c.args.name.now) (sym c.self.view_is) ∙ location-gap c.args.name.now items c.in-Err.field-0 gap,
      sym (ap length c.self.view_is) ∙ eqb-true (length items) 680 (sym c.is_full.ensures.value ∙ c.if-is_full.true),
      refl,
    )

pub returns-in-Err-2 : goal.returns-in-Err-2
returns-in-Err-2 c =
    let items = c.self.inside.records.items in
    let new : Record = record { name = c.args.name.now; at = c.args.at } in
    let few : c.in-Err.field-0 ≤ length items = subst (λ (rs : List Record). c.in-Err.field-0 ≤ length rs) c.as_slice.ensures.value c.in-Err.ensures.bound in
    let gap : IsPartitionPoint (IsUnder new.name) (IsOver new.name) items c.in-Err.field-0
    = subst (λ (rs : List Record). IsPartitionPoint (IsUnder c.args.name.now) (IsOver c.args.name.now) rs c.in-Err.field-0) c.as_slice.ensures.value c.in-Err.ensures.gap in
    let not_full : length items ≢ 680 = λ same. false≢true (sym c.if-is_full.false ∙ c.is_full.ensures.value ∙ eq-eqb (length items) 680 same) in (
      ap (location_of c.args.name.now) (sym c.self.view_is) ∙ location-gap c.args.name.now items c.in-Err.field-0 gap,
      omega (arith, ap length c.self.view_is, ap length c.as_slice.ensures.value, c.as_slice.ensures.fits, not_full),
      c.insert.ensures.items ∙ with_record-gap new items c.in-Err.field-0 few gap ∙ ap (with_record new) c.self.view_is,
    )
