use Rattle.std.proofs.Common.{◌≡◌, ◌∙◌, ap, sym, subst, arith}
use Rattle.index_advice.specs.Books.{Book, number_after}
use Rattle.uds_index.specs.Places.{IsKept}
use Rattle.uds_index.proofs.BookLaws.{closed_by, closed_kept, left_room, left_page_room}
use Rattle.uds_index.proofs.volume.Volume.close.Goals as goal

pub unreachable-requires : goal.unreachable-requires
unreachable-requires c =
    let v = c.self.inside in
    let book : Book = record { nonce = v.nonce; first = v.first; places = v.places; kept = v.kept.items; unclosed = v.unclosed; due = v.due.items } in
    let number : c.args.number ≡ number_after book.kept = c.requires.number ∙ sym (ap (λ (b : Book). number_after b.kept) c.self.view_is) in
    let room = left_room book c.args.number c.leave_out_chapters.new.kept.items c.self.invariant.kept number c.leave_out_chapters.ensures.items in
    let full = c.in_default.ensures.full in
    let capacity = c.leave_out_chapters.ensures.capacity in
    let ok = c.leave_out_chapters.new.kept.ok in
    omega (arith, room, full, capacity, ok, c.self.invariant.room)

pub push_pages-requires : goal.push_pages-requires
push_pages-requires c =
    let v = c.self.inside in
    let book : Book = record { nonce = v.nonce; first = v.first; places = v.places; kept = v.kept.items; unclosed = v.unclosed; due = v.due.items } in
    let number : c.args.number ≡ number_after book.kept = c.requires.number ∙ sym (ap (λ (b : Book). number_after b.kept) c.self.view_is) in
    let room = left_page_room book c.args.number c.leave_out_pages.new.due.items c.self.invariant.kept number c.leave_out_pages.ensures.items in
    let capacity = c.leave_out_pages.ensures.capacity in
    let ok = c.leave_out_pages.new.due.ok in
    omega (arith, room, capacity, ok, c.self.invariant.room_for_pages)

pub invariant_of-self : goal.invariant_of-self
invariant_of-self c =
    let v = c.self.inside in
    let book : Book = record { nonce = v.nonce; first = v.first; places = v.places; kept = v.kept.items; unclosed = v.unclosed; due = v.due.items } in
    let number : c.args.number ≡ number_after book.kept = c.requires.number ∙ sym (ap (λ (b : Book). number_after b.kept) c.self.view_is) in
    let chapters = c.leave_out_chapters.ensures.capacity in
    let grown = c.in-Ok.ensures.capacity in
    let pages = c.leave_out_pages.ensures.capacity in
    let pushed = c.push_pages.ensures.capacity in
    record {
      kept = subst IsKept (sym (closed_by book c.args.number c.close-chapter.result c.leave_out_chapters.new.kept.items c.insert.new.self.items c.close-chapter.new.self
          c.leave_out_pages.new.due.items c.push_pages.new.due.items number c.leave_out_chapters.ensures.items c.close-chapter.ensures.closed c.in-Ok.ensures.items
          c.close-chapter.ensures.empty c.leave_out_pages.ensures.items c.push_pages.ensures.items)) (closed_kept book c.self.invariant.kept);
      room = omega (arith, chapters, grown, c.self.invariant.room);
      room_for_pages = omega (arith, pages, pushed, c.self.invariant.room_for_pages);
    }
