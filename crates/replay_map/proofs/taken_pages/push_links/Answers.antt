use Rattle.std.proofs.Common.{List, ◌++◌, ◌∙◌, ap}
use Rattle.replay_map.proofs.TakenLaws.{links_gained}
use Rattle.replay_map.specs.declared.links.Link.{Link}
use Rattle.replay_map.proofs.taken_pages.push_links.Goals as goal

pub returns-clause-gained : goal.returns-clause-gained
returns-clause-gained c image there read =
    links_gained image c.args.page.now.page c.args.links.now.items c.extend_from_slice.new.self.items c.in_ok-below.below.items
    (c.in_ok-extend_from_slice.ensures.items ∙ ap (λ (more : List Link). c.args.links.now.items ++ more) c.as_slice.ensures.value) (c.in_ok-below.ensures.links image there read)

pub returns-clause-exact : goal.returns-clause-exact
returns-clause-exact c = λ some.
    c.in_ok-extend_from_slice.ensures.items ∙ ap (λ (more : List Link). c.args.links.now.items ++ more) c.as_slice.ensures.value
    ∙ ap (λ (more : List Link). c.args.links.now.items ++ more) (c.in_ok-below.ensures.slots some)
