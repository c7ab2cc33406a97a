use Rattle.session_opening.proofs.PageLaws.{pages_made}
use Rattle.session_opening.proofs.PlaceLaws.{inner_levels}
use Rattle.session_opening.proofs.pages.pages_of.Goals as goal

pub push_inner-requires : goal.push_inner-requires
push_inner-requires c = inner_levels _ c.in_ok-places.places c.in_ok-places.ensures

pub returns : goal.returns
returns c =
    let are = c.in_ok-places.ensures in
    pages_made c.args.layout.now.geometry _ c.in_ok-places.places c.push_roots.new.pages.items _ are
    (rw c.in_ok-pages.ensures.items at (c.in_ok-push_roots.ensures _ are)) (c.in_ok-push_inner.ensures _ are)
