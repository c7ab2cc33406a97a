use Rattle.std.proofs.Common.{refl, inl}
use Rattle.replay_map.proofs.FormLaws.{visited}
use Rattle.replay_map.proofs.MappedLaws.{up_to_none}
use Rattle.replay_map.proofs.UnderLaws.{no_slots_yet}
use Rattle.replay_map.proofs.WalkLaws.{walked_one}
use Rattle.replay_map.specs.Sums.{maps_up_to}
use Rattle.replay_map.specs.Walks.{IsUpTo}
use Rattle.replay_map.proofs.tree_walk.visit.Goals as goal

pub returns-clause-walked : goal.returns-clause-walked
returns-clause-walked g c =
    let top = c.args.top in
    let shown = c.in_ok-read_linked.ensures.read in (
      shown.0,
      shown.1,
      λ image has linked.
          let read = shown.2 image has in (
            walked_one image (IsUpTo top.page 0) (maps_up_to image top.page 0) top.page top.at c.args.found.now c.take_page.new.found
                (λ other over. no_slots_yet top.page other over) (inl refl) linked (λ block. up_to_none image top.page block) read.good
                (c.in-Ok.ensures.taken image linked has.newest read),
            read,
          ),
    )

pub returns-clause-form : goal.returns-clause-form
returns-clause-form g c =
    visited c.args.layout.now.geometry c.args.top.page c.read_linked.new.into c.args.changes.now c.args.found.now c.take_page.new.found c.requires.place c.in_ok-read_linked.ensures.data c.in-Ok.ensures.exact

pub returns-clause-links : goal.returns-clause-links
returns-clause-links g c = c.in-Ok.ensures.exact.links
