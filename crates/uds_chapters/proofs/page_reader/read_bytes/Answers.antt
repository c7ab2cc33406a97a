use Rattle.std.proofs.Common.{◌∙◌, List, ap, sym, subst, arith}
use Rattle.uds_chapters.specs.declared.entry.Record.{Record}
use Rattle.uds_chapters.specs.Names.{AreRising}
use Rattle.uds_chapters.specs.Pages.{page_bytes}
use Rattle.uds_chapters.proofs.PageLaws.{count_of, spelled_records}
use Rattle.uds_chapters.proofs.page_reader.read_bytes.Goals as goal
use Rattle.uds_chapters.proofs.page_reader.read_bytes.Goals.{then-i-gt3-via-then-i-gt3, then-i-gt3-via-else-i-gt3+then-count-gt170, else-is_spelled-via-then-is_spelled+else-are_rising, else-is_spelled-via-else-is_spelled}

pub returns-then-i-gt3-clause-none : goal.returns-then-i-gt3-clause-none
returns-then-i-gt3-clause-none c = λ records is.
    let place = is.place in
    let few = is.few in
    let count = c.read_u8-count.ensures ∙ count_of c.args.nonce c.args.number c.args.i c.args.bytes.now records is in
    elim c.then-i-gt3.branch [
      | then-i-gt3-via-then-i-gt3 w ↦ let test = w.if-i-gt3.true in omega (arith, place, test)
      | then-i-gt3-via-else-i-gt3+then-count-gt170 w ↦ let test = w.if-count-gt170.true in omega (arith, few, count, test)
    ]

pub returns-else-is_spelled-clause-none : goal.returns-else-is_spelled-clause-none
returns-else-is_spelled-clause-none c = λ records is.
    let a = c.args in
    let count = c.read_u8-count.ensures ∙ count_of a.nonce a.number a.i a.bytes.now records is in
    let read = c.read_records-records.ensures.read records _ is.held (sym count) (spelled_records a.nonce a.number a.i a.bytes.now records is) in
    elim c.else-is_spelled.branch [
      | else-is_spelled-via-then-is_spelled+else-are_rising w ↦
          let rising = w.are_rising.ensures.1 (subst (λ (rs : List Record). AreRising rs) (sym (w.as_slice-then-is_spelled.ensures.value ∙ read)) is.rising) in
          absurd (cc (rising, w.if-are_rising.false))
      | else-is_spelled-via-else-is_spelled w ↦
          let spelled = c.is_spelled.ensures.spelled.1 (is.spelled ∙ ap (page_bytes a.nonce a.number a.i) (sym (c.as_slice.ensures.value ∙ read))) in
          absurd (cc (spelled, w.if-is_spelled.false))
    ]
