use Rattle.std.proofs.Common.{ap, length, arith}
use Rattle.uds_index.specs.declared.index_search.Region.{Region}
use Rattle.uds_index.proofs.BookLaws.{kept_room}
use Rattle.sparse_index.proofs.sparse.follow.Goals as goal

pub follow-requires-clause-few : goal.follow-requires-clause-few
follow-requires-clause-few c =
    let room = kept_room c.args.volume.now c.kept-kept.ensures.order in
    let same = ap length c.kept-kept.ensures.value in
    let places = ap (λ (r : Region). r.places) c.region-places.ensures in
    omega (arith, room, same, places)
