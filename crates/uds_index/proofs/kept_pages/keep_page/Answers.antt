use Rattle.std.proofs.Common.{◌<◌, ◌∙◌, ◌≢◌, List, length, ap, subst, arith}
use Rattle.std.specs.Prelude.{slice_index_or}
use Rattle.uds_chapters.specs.Chapters.{Numbered}
use Rattle.uds_index.specs.Held.{HasRecordsAt, IsPlaceAmong}
use Rattle.uds_index.proofs.KeepLaws.{records_at, replaced, inserted, one_more}
use Rattle.uds_index.proofs.kept_pages.keep_page.Goals as goal

pub joined-chapter-requires-clause-few : goal.joined-chapter-requires-clause-few
joined-chapter-requires-clause-few c =
    let old = c.args.kept.now.items in
    let place = c.place_among-place.result in
    let at : IsPlaceAmong c.args.number old place = subst (λ (ks : List Numbered). IsPlaceAmong c.args.number ks place) c.deref.ensures.value c.place_among-place.ensures in
    let has : HasRecordsAt c.args.number old place c.in-Some.earlier.now =
    subst (λ (ks : List Numbered). HasRecordsAt c.args.number ks place c.in-Some.earlier.now) c.deref-2.ensures.value c.in-Some.ensures.some in
    let d : Numbered = record { number = 0; records = c.in-Some.earlier.now } in
    let same = ap length (records_at c.args.number old place d at has.inside (has.number_is d) ∙ has.records_are d) in
    omega (arith, same, c.requires.few)

pub unreachable-requires : goal.unreachable-requires
unreachable-requires c =
    let old = c.args.kept.now.items in
    let place = c.place_among-place.result in
    let at : IsPlaceAmong c.args.number old place = subst (λ (ks : List Numbered). IsPlaceAmong c.args.number ks place) c.deref.ensures.value c.place_among-place.ensures in
    let none : (place < length old → (d : Numbered) → (slice_index_or old place d).number ≢ c.args.number) =
    subst (λ (ks : List Numbered). place < length ks → (d : Numbered) → (slice_index_or ks place d).number ≢ c.args.number) c.deref-2.ensures.value c.in-None.ensures.none in
    let joined = c.joined-chapter-in-None.ensures in
    let more = one_more c.args.number c.args.page.now old place c.joined-chapter-in-None.result at none joined in
    let room = c.requires.room c.joined-chapter-in-None.result joined.number_is in
    let full = c.in_default.ensures.full in
    let ok = c.args.kept.now.ok in
    omega (arith, more, room, full, ok)

pub returns-in-Some-clause-kept : goal.returns-in-Some-clause-kept
returns-in-Some-clause-kept c =
    let old = c.args.kept.now.items in
    let place = c.place_among-place.result in
    replaced c.args.number c.args.page.now old place c.in-Some.earlier.now c.joined-chapter.result
    (subst (λ (ks : List Numbered). IsPlaceAmong c.args.number ks place) c.deref.ensures.value c.place_among-place.ensures)
    (subst (λ (ks : List Numbered). HasRecordsAt c.args.number ks place c.in-Some.earlier.now) c.deref-2.ensures.value c.in-Some.ensures.some)
    c.joined-chapter.ensures

pub returns-in-Ok-clause-kept : goal.returns-in-Ok-clause-kept
returns-in-Ok-clause-kept c =
    let old = c.args.kept.now.items in
    let place = c.place_among-place.result in
    inserted c.args.number c.args.page.now old place c.joined-chapter-in-None.result c.insert.new.self.items c.requires.order
    (subst (λ (ks : List Numbered). IsPlaceAmong c.args.number ks place) c.deref.ensures.value c.place_among-place.ensures)
    (subst (λ (ks : List Numbered). place < length ks → (d : Numbered) → (slice_index_or ks place d).number ≢ c.args.number) c.deref-2.ensures.value c.in-None.ensures.none)
    c.joined-chapter-in-None.ensures c.in-Ok.ensures.items
