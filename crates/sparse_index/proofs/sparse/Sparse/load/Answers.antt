use Rattle.std.proofs.Common.{◌∙◌, ◌/◌, length, ap, arith}
use Rattle.blk_base.specs.declared.geometry.Geometry.{Geometry}
use Rattle.uds_index.proofs.BookLaws.{kept_room}
use Rattle.sparse_index.proofs.sparse.Sparse.load.Goals as goal

pub list-requires-clause-few : goal.list-requires-clause-few
list-requires-clause-few g c =
    let room = kept_room c.in_ok-volume.volume c.kept.ensures.order in
    let same = ap length c.kept.ensures.value in
    let places = c.in_ok-volume.ensures.book.3.places ∙ ap (λ (geometry : Geometry). geometry.index / 4) c.of-layout.ensures in
    omega (arith, room, same, places)
