use Rattle.std.proofs.Common.{ℕ, ◌≡◌, ◌+◌, arith}
use Rattle.replay_map.proofs.PageLaws.{both_ok, where_ok}
use Rattle.count_updates.proofs.NumberLaws.{block_inside}
use Rattle.audit.specs.Tallies.{number_in}
use Rattle.audit.proofs.TallyLaws.{changed_at, changed_nothing}
use Rattle.audit.proofs.tallies.count.Goals as goal

pub returns-in-None-clause-counted : goal.returns-in-None-clause-counted
returns-in-None-clause-counted c = changed_nothing c.args.layout.now.geometry c.args.at (λ n. n + 1) (number_in c.args.tally.now) c.in-None.ensures.none

pub add_one-requires-clause-inside : goal.add_one-requires-clause-inside
add_one-requires-clause-inside c =
    let is = c.in-Some.ensures.some in
    let below = block_inside c.args.layout.now.geometry is.0 is.1 in
    let number = is.3 in
    let size = c.requires.size in
    omega (arith, below, number, size)

pub add_one-requires-clause-few : goal.add_one-requires-clause-few
add_one-requires-clause-few c = let is = c.in-Some.ensures.some in rw is.3 (c.requires.room is.0 is.1)

pub returns-in-Some-clause-counted : goal.returns-in-Some-clause-counted
returns-in-Some-clause-counted c =
    let is = c.in-Some.ensures.some in
    let n = c.in-Some.n in
    let old = number_in c.args.tally.now in
    let new = number_in c.add_one.new.self in
    where_ok c.add_one.result
    (both_ok (new n ≡ old n + 1) ((k : ℕ) → (k ≡ n → ⊥) → new k ≡ old k) c.add_one.result c.add_one.ensures.here c.add_one.ensures.others)
    (λ added. changed_at c.args.layout.now.geometry c.args.at (λ k. k + 1) old new is.0 n is.1 is.2 is.3 added.0 added.1)
