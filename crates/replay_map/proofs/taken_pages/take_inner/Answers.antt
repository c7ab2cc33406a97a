use Rattle.std.proofs.Common.{arith, refl}
use Rattle.replay_map.proofs.PageLaws.{where_ok}
use Rattle.replay_map.proofs.TakenLaws.{inner_took}
use Rattle.replay_map.proofs.taken_pages.take_inner.Goals as goal

pub returns-clause-taken : goal.returns-clause-taken
returns-clause-taken c =
    where_ok c.push_changes.result c.push_changes.ensures.gained (λ slots image there newest read.
    inner_took image c.args.page.now c.args.mappings.now c.args.changes.now c.requires.low newest read c.args.found.now
    (record { links = c.push_links.new.links; slots = c.push_changes.new.slots; mapped = c.args.found.now.mapped }) c.requires.inner refl slots
    (c.in_ok-push_links.ensures.gained image there read))

pub returns-clause-exact : goal.returns-clause-exact
returns-clause-exact c =
    where_ok c.push_changes.result c.push_changes.ensures.exact (λ slots. record {
      leaf = λ none. absurd (omega (arith, none, c.requires.inner));
      links = c.in_ok-push_links.ensures.exact;
      slots = slots;
    })
