use Rattle.std.proofs.Common.{◌≡◌, ◌<◌, ◌∙◌, Some, option_copied, vec_len, length, ap, sym, subst, arith}
use Rattle.std.proofs.lemmas.Bool.{eqb-false}
use Rattle.index_advice.specs.Books.{Book, chapter_of}
use Rattle.index_advice.specs.Advices.{HasDuePage}
use Rattle.uds_index.proofs.BookLaws.{taken, kept_taken, has_due}
use Rattle.uds_index.proofs.volume.Volume.write_due.Goals as goal

pub invariant_of-self : goal.invariant_of-self
invariant_of-self c =
    let v = c.self.inside in
    let book : Book = record { nonce = v.nonce; first = v.first; places = v.places; kept = v.kept.items; unclosed = v.unclosed; due = v.due.items } in
    let apart = eqb-false (vec_len v.due) 0 (sym c.is_empty.ensures ∙ c.if-is_empty.false) in
    let ok = v.due.ok in
    let some : 0 < length v.due.items = omega (arith, apart, ok) in
    let done = c.remove-page.ensures in
    let capacity = done.capacity in
    record {
      kept = kept_taken book c.remove-page.result c.remove-page.new.self.items (taken v.due.items c.remove-page.new.self.items c.remove-page.result some done.value done.items) c.self.invariant.kept;
      room = c.self.invariant.room;
      room_for_pages = omega (arith, capacity, c.self.invariant.room_for_pages);
    }

pub returns-clause-filled : goal.returns-clause-filled
returns-clause-filled c =
    let v = c.self.inside in
    let book : Book = record { nonce = v.nonce; first = v.first; places = v.places; kept = v.kept.items; unclosed = v.unclosed; due = v.due.items } in
    let apart = eqb-false (vec_len v.due) 0 (sym c.is_empty.ensures ∙ c.if-is_empty.false) in
    let ok = v.due.ok in
    let some : 0 < length v.due.items = omega (arith, apart, ok) in
    let done = c.remove-page.ensures in
    let found : chapter_of c.number.result book.kept ≡ Some c.in-Some.chapter.now =
    ap (chapter_of c.number.result) (sym c.deref.ensures.value) ∙ sym c.chapter_of.ensures ∙ ap option_copied c.in-Some.is in
    subst (λ (b : Book). HasDuePage b c.page-2.new.into) c.self.view_is (has_due book c.remove-page.result c.remove-page.new.self.items c.page-2.new.into c.in-Some.chapter.now
    c.number.result c.page.result (taken v.due.items c.remove-page.new.self.items c.remove-page.result some done.value done.items) c.number.ensures c.page.ensures found c.page-2.ensures)
