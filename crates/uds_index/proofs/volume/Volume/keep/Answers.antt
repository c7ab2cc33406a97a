use Rattle.std.proofs.Common.{◌∙◌, ◌<◌, ◌%◌, refl, sym, subst, arith, ap}
use Rattle.index_advice.specs.Books.{Book}
use Rattle.uds_index.specs.Rooms.{count_at, place_of_chapter}
use Rattle.uds_index.proofs.LoadLaws.{kept_page, page_room}
use Rattle.uds_index.proofs.volume.Volume.keep.Goals as goal

pub keep_page-requires-clause-order : goal.keep_page-requires-clause-order
keep_page-requires-clause-order c = c.self.invariant.kept.order.newest_first

pub keep_page-requires-clause-room : goal.keep_page-requires-clause-room
keep_page-requires-clause-room c = λ chapter same.
    let v = c.self.inside in
    let book : Book = record { nonce = v.nonce; first = v.first; places = v.places; kept = v.kept.items; unclosed = v.unclosed; due = v.due.items } in
    let few : count_at (place_of_chapter book.places) (c.args.number % book.places) book.kept < 4 =
    subst (λ (b : Book). count_at (place_of_chapter b.places) (c.args.number % b.places) b.kept < 4) (sym c.self.view_is) c.requires.room in
    let room = page_room book c.args.number chapter c.self.invariant.kept few same in
    omega (arith, room, c.self.invariant.room)

pub invariant_of-self : goal.invariant_of-self
invariant_of-self c =
    let v = c.self.inside in
    let book : Book = record { nonce = v.nonce; first = v.first; places = v.places; kept = v.kept.items; unclosed = v.unclosed; due = v.due.items } in
    let few : count_at (place_of_chapter book.places) (c.args.number % book.places) book.kept < 4 =
    subst (λ (b : Book). count_at (place_of_chapter b.places) (c.args.number % b.places) b.kept < 4) (sym c.self.view_is) c.requires.room in
    let new : Book = record book { kept = c.keep_page.new.kept.items } in
    let capacity = c.keep_page.ensures.capacity in
    record {
      kept = kept_page book new c.args.number c.args.page.now c.self.invariant.kept (ap (λ (b : Book). b.due) c.self.view_is ∙ c.requires.written) few c.keep_page.ensures.kept refl;
      room = omega (arith, capacity, c.self.invariant.room);
      room_for_pages = c.self.invariant.room_for_pages;
    }
