use Rattle.std.proofs.Common.{ℕ, ◌≡◌, ◌∙◌, ◌++◌, ◌+◌, ◌-◌, ◌*◌, length, replicate, flat_map, ap, sym, arith}
use Rattle.std.proofs.lemmas.List.{take_all}
use Rattle.uds_chapters.specs.Pages.{record_bytes, head_bytes, page_bytes}
use Rattle.uds_chapters.proofs.page_writer.put_page.Goals as goal

pub returns-clause-spelled : goal.returns-clause-spelled
unfolding page_bytes
returns-clause-spelled c =
    let records = c.args.records.now in
    let end = 16 + 24 * length records in
    let zeros : 4096 - end ≡ 4080 - 24 * length records = omega arith in
    let few = c.requires.few in
    let head = head_bytes c.args.nonce c.args.number c.args.i (length records) in
    sym (take_all (end + (4096 - end)) c.put_zeros.new.out (omega (arith, c.requires.size))) ∙ c.put_zeros.ensures.front
    ∙ ap (λ f. f ++ replicate (4096 - end) 0) (c.put_records.ensures.written ∙ ap (λ h. h ++ flat_map record_bytes records) c.put_head.ensures)
    ∙ ap (λ (n : ℕ). head ++ flat_map record_bytes records ++ replicate n 0) zeros
