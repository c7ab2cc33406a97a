use Rattle.std.proofs.Common.{refl, arith}
use Rattle.replay_map.proofs.PageLaws.{where_ok}
use Rattle.replay_map.proofs.TakenLaws.{leaf_took}
use Rattle.replay_map.proofs.taken_pages.take_leaf.Goals as goal

pub returns-clause-taken : goal.returns-clause-taken
returns-clause-taken c =
    where_ok c.push_changes.result c.push_changes.ensures.gained (λ slots image there newest read.
    leaf_took image c.args.page.now c.args.mappings.now c.args.changes.now (omega (arith, c.requires)) newest read c.args.found.now
    (record { links = c.args.found.now.links; slots = c.push_changes.new.slots; mapped = c.push_mapped.new.mapped }) there c.requires refl slots c.in_ok-push_mapped.ensures)

pub returns-clause-exact : goal.returns-clause-exact
returns-clause-exact c =
    where_ok c.push_changes.result c.push_changes.ensures.exact (λ slots. record {
      leaf = λ none. refl;
      links = λ some. absurd (omega (arith, some, c.requires));
      slots = slots;
    })
