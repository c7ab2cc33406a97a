use Rattle.std.proofs.Common.{◌*◌, ◌≤◌, length, ap, sym, subst, arith}
use Rattle.index_advice.specs.Books.{Book}
use Rattle.uds_index.proofs.BookLaws.{kept_room}
use Rattle.uds_index.proofs.volume.Volume.list_tags.Goals as goal

pub list_all-requires-clause-room : goal.list_all-requires-clause-room
list_all-requires-clause-room c =
    let v = c.self.inside in
    let book : Book = record { nonce = v.nonce; first = v.first; places = v.places; kept = v.kept.items; unclosed = v.unclosed; due = v.due.items } in
    let room = kept_room book c.self.invariant.kept in
    let all : 2720 * book.places ≤ c.args.tags.now.room = subst (λ (b : Book). 2720 * b.places ≤ c.args.tags.now.room) (sym c.self.view_is) c.requires.room in
    let same = ap length c.deref.ensures.value in
    omega (arith, room, all, same)
