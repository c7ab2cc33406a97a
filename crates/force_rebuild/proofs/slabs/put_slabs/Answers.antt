use Rattle.std.proofs.Common.{ℕ, ◌≡◌, ap, ap₂, arith}
use Rattle.image_format.specs.Calls.{calls_below}
use Rattle.image_format.proofs.RunLaws.{failed_as, is_failed, made_as, turn_failed}
use Rattle.force_rebuild.specs.Calls.{slab_calls, slabs_below}
use Rattle.force_rebuild.proofs.slabs.put_slabs.Goals as goal

pub put_slab-requires-clause-room : goal.put_slab-requires-clause-room
put_slab-requires-clause-room g c = let size = c.loop-slab.invariant.stays.size in let room = c.requires.room in omega (arith, size, room)

pub returns-in_err-put_slab : goal.returns-in_err-put_slab
unfolding slabs_below
returns-in_err-put_slab g c =
    let sizes = c.args.layout.now.geometry in
    is_failed _ _ _ _ c.from_residual.result c.from_residual.ensures.0
    (failed_as _ _ _ _ _ (ap (λ (p : ℕ). calls_below (slab_calls sizes p c.args.counters.now) sizes.slabs) c.commit_point-commit.ensures)
    (turn_failed _ _ _ _ (slab_calls sizes c.commit_point-commit.result.0 c.args.counters.now) c.loop-slab.slab sizes.slabs c.loop-slab-test.true c.loop-slab.invariant c.in_err-put_slab.ensures))

pub returns : goal.returns
unfolding slabs_below
returns g c =
    let sizes = c.args.layout.now.geometry in
    let ended = c.loop-slab-test.false in
    let within = c.loop-slab.auto.slab-end in
    let all : c.loop-slab.slab ≡ sizes.slabs = omega (arith, ended, within) in
    made_as _ _ _ _ _ (ap₂ (λ (p n : ℕ). calls_below (slab_calls sizes p c.args.counters.now) n) c.commit_point-commit.ensures all) c.loop-slab.invariant
