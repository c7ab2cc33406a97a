use Rattle.std.proofs.Common.{◌≡◌, length, drop, ap, arith}
use Rattle.std.proofs.lemmas.List.{take_at}
use Rattle.std.specs.Vec.{with_items}
use Rattle.audit.proofs.ReportLaws.{number_again, place_inside}
use Rattle.audit.proofs.TallyLaws.{few_counted, marked_tallied}
use Rattle.audit.specs.Tallies.{number_in, place_of_number}
use Rattle.audit.specs.declared.tallies.MappingCounts.{MappingCounts}
use Rattle.audit.proofs.tallies.count_mappings.Goals as goal

pub count_all-requires-clause-tallied : goal.count_all-requires-clause-tallied
count_all-requires-clause-tallied c =
    let v = c.in_ok-low.low in
    let marked = c.mark_all.new.counts in
    let start : MappingCounts = record { low = with_items v marked; more = c.new.result } in
    let size : length marked ≡ v.len = omega (arith, c.mark_all.auto.counts, c.deref_mut.ensures.len) in (
      c.args.links.now,
      marked_tallied c.args.layout.now.geometry c.args.links.now marked start c.new.ensures.empty (take_at marked (drop (length marked) v.items) v.len size) c.mark_all.ensures,
    )

pub returns-clause-few : goal.returns-clause-few
returns-clause-few c = λ n below.
    let g = c.args.layout.now.geometry in
    let v = c.in_ok-low.low in
    let marked = c.mark_all.new.counts in
    let start : MappingCounts = record { low = with_items v marked; more = c.new.result } in
    let size : length marked ≡ v.len = omega (arith, c.mark_all.auto.counts, c.deref_mut.ensures.len) in
    let first =
    marked_tallied g c.args.links.now marked start c.new.ensures.empty (take_at marked (drop (length marked) v.items) v.len size) c.mark_all.ensures in
    let are = c.in_ok-count_all.ensures.tallied c.args.links.now first in
    let counts = number_in c.count_all.new.tally in
    let few = few_counted g c.args.links.now c.args.mapped.now counts (place_of_number g n) (place_inside g c.args.layout.now.sizes n below) are in
    let same = ap counts (number_again g c.args.layout.now.sizes n) in
    let short = c.requires in
    omega (arith, few, same, short)
