use Rattle.std.proofs.Common.{ℕ, ◌≡◌, Ok, Err, arith, subst}
use Rattle.rebuild.proofs.ActLaws.{still_failed}
use Rattle.rebuild.proofs.TurnLaws.{no_slabs, one_slab_more}
use Rattle.rebuild.specs.Acts.{Acts, recovery}
use Rattle.rebuild.specs.Done.{AreSlabsDone, HasTheseCounts}
use Rattle.rebuild.proofs.counters.put_slabs.Goals as goal

pub loop-slab-init : goal.loop-slab-init
loop-slab-init g c = no_slabs _ _ _ _ _

pub loop-slab-preserved : goal.loop-slab-preserved
loop-slab-preserved g c = one_slab_more _ _ _ _ _ _ _ _ (Ok tt) c.loop-slab.invariant c.in_ok-put_slab.ensures

pub returns-in_err-put_slab : goal.returns-in_err-put_slab
returns-in_err-put_slab g c =
    still_failed _ _ _ _ _ _ _ _ c.from_residual.result c.from_residual.ensures.0
    (one_slab_more _ _ _ _ _ _ _ _ (Err _) c.loop-slab.invariant c.in_err-put_slab.ensures)

pub put_slab-requires-clause-room : goal.put_slab-requires-clause-room
put_slab-requires-clause-room g c = let size = c.loop-slab.invariant.stays.size in let room = c.requires.room in omega (arith, size, room)

pub returns : goal.returns
returns g c =
    let ended = c.loop-slab-test.false in
    let within = c.loop-slab.auto.slab-end in
    let all : c.loop-slab.slab ≡ c.args.layout.now.geometry.slabs = omega (arith, ended, within) in
    let disk = g.D.Disk in
    let counts = c.args.counts.now in
    subst (λ (n : ℕ). Acts disk.trust.tells (recovery disk.trust) (disk.seen c.args.device.now) (disk.seen c.loop-slab.device) (HasTheseCounts c.args.layout.now.geometry counts.counts.items counts.sectors.items)
    (AreSlabsDone c.args.layout.now.geometry counts.sectors.items n) (Ok tt)) all c.loop-slab.invariant
