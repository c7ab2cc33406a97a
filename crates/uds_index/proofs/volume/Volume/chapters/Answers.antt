use Rattle.std.proofs.Common.{arith}
use Rattle.index_advice.specs.Books.{Book}
use Rattle.uds_index.proofs.BookLaws.{kept_room}
use Rattle.uds_index.proofs.volume.Volume.chapters.Goals as goal

pub overflow_cast-result : goal.overflow_cast-result
overflow_cast-result c =
    let v = c.self.inside in
    let book : Book = record { nonce = v.nonce; first = v.first; places = v.places; kept = v.kept.items; unclosed = v.unclosed; due = v.due.items } in
    let room = kept_room book c.self.invariant.kept in
    let blocks = c.self.invariant.kept.blocks in
    let ok = v.kept.ok in
    let size = c.len.ensures in
    omega (arith, room, blocks, ok, size)
