use Rattle.std.proofs.Common.{ℕ, ◌≡◌, ◌∙◌, ◌<◌, ◌≤◌, length, sym, subst, arith, Ok, slice_index}
use Rattle.std.proofs.lemmas.Grind.{get_or_default_zero}
use Rattle.blk_base.specs.Counters.{limit_of}
use Rattle.image_model.specs.Counts.{block_of_data}
use Rattle.count_updates.proofs.PointLaws.{none_of, without_updates}
use Rattle.count_updates.specs.Counted.{commit_in}
use Rattle.count_updates.specs.Listed.{IsCounted}
use Rattle.count_updates.specs.Numbers.{block_number, sector_number}
use Rattle.count_updates.proofs.block_counts.count_of.Goals as goal

pub returns-then-from-limit-clause-counted : goal.returns-then-from-limit-clause-counted
returns-then-from-limit-clause-counted c =
    let g = c.args.layout.now.geometry in
    let at = (block_of_data g c.args.place).0 in
    let commit = commit_in c.args.found.now.commits.items (sector_number g c.args.place) in
    let counter = slice_index c.args.found.now.counters.items (block_number g c.args.place) in
    let none = none_of c.args.updates.now (sym c.is_empty.ensures ∙ c.if-is_empty.true) in
    let there = rw c.block_number.ensures.number at c.index-counter.ensures in
    let inside : block_number g c.args.place < length c.args.found.now.counters.items = let low = c.block_number.ensures.inside in let number = c.block_number.ensures.number in let size = c.requires.counters in
    omega (arith, low, number, size) in
    let zero = get_or_default_zero c.args.found.now.counters.items (block_number g c.args.place) c.index-counter.result.now inside in
    let less = c.if-from-limit.true in
    let first = c.from.ensures in
    let most = c.limit.ensures in
    let given = c.from-then-from-limit.ensures in
    let same : c.from-then-from-limit.result ≡ counter = omega (arith, given, there, zero) in
    let fits : counter ≤ limit_of g = omega (arith, less, first, most, there, zero) in
    subst (λ (count : ℕ). IsCounted (limit_of g) c.args.updates.now at commit counter (Ok count)) (sym same)
    (without_updates (limit_of g) at commit counter c.args.updates.now none fits)
