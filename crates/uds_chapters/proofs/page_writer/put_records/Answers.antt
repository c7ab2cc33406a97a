use Rattle.std.proofs.Common.{ℕ, ◌≡◌, ◌∙◌, ◌++◌, ◌+◌, ◌*◌, length, take, flat_map, ap, sym, arith, append_assoc, refl}
use Rattle.std.proofs.lemmas.List.{take_all, append-nil}
use Rattle.byte_fields.proofs.FieldLaws.{records-more}
use Rattle.uds_chapters.specs.Pages.{record_bytes}
use Rattle.uds_chapters.proofs.PageLaws.{held_more}
use Rattle.uds_chapters.proofs.page_writer.put_records.Goals as goal

pub loop-place-init : goal.loop-place-init
loop-place-init c = record { written = simp append-nil refl; held = λ k d lt within. absurd (omega arith) }

pub loop-place-preserved : goal.loop-place-preserved
loop-place-preserved c =
    let place = c.loop-place.place in
    let records = c.args.records.now in
    let one = c.index-records-place.result in
    let front = take 16 c.args.page.now in
    let next : 16 + 24 * (place + 1) ≡ 16 + 24 * place + 24 = omega arith in
    let lt = c.loop-place-test.true in
    record {
      written = ap (λ (n : ℕ). take n c.put_record.new.page) next ∙ c.put_record.ensures.written
          ∙ ap (λ f. f ++ record_bytes one) c.loop-place.invariant.written
          ∙ append_assoc front (flat_map record_bytes (take place records)) (record_bytes one)
          ∙ ap (λ b. front ++ (flat_map record_bytes (take place records) ++ b)) (ap record_bytes c.index-records-place.is)
          ∙ ap (λ b. front ++ b) (sym (records-more record_bytes records place one lt));
      held = held_more records place one lt c.index-records-place.is c.put_record.ensures.held c.loop-place.invariant.held;
    }

pub returns-clause-written : goal.returns-clause-written
returns-clause-written c =
    let count : c.loop-place.place ≡ length c.args.records.now = omega arith in
    ap (λ (n : ℕ). take (16 + 24 * n) c.loop-place.page) (sym count) ∙ c.loop-place.invariant.written
    ∙ ap (λ rs. take 16 c.args.page.now ++ flat_map record_bytes rs) (take_all c.loop-place.place c.args.records.now c.loop-place-test.false)

pub returns-clause-held : goal.returns-clause-held
returns-clause-held c = λ k d inside. c.loop-place.invariant.held k d (let last = c.loop-place-test.false in omega arith) inside
