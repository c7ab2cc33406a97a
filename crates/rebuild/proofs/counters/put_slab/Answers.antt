use Rattle.std.proofs.Common.{ℕ, ◌≡◌, Ok, Err, arith, subst}
use Rattle.rebuild.proofs.ActLaws.{still_failed}
use Rattle.rebuild.proofs.TurnLaws.{no_blocks, one_block_more}
use Rattle.blk_base.specs.Regions.{references_of}
use Rattle.rebuild.specs.Acts.{Acts, recovery}
use Rattle.rebuild.specs.Done.{HasTheseCounts, IsSlabDone}
use Rattle.rebuild.proofs.counters.put_slab.Goals as goal

pub loop-i-init : goal.loop-i-init
loop-i-init g c = no_blocks _ _ _ _ _ _

pub loop-i-preserved : goal.loop-i-preserved
loop-i-preserved g c = one_block_more _ _ _ _ _ _ _ _ _ (Ok tt) c.loop-i.invariant c.in_ok-put_block.ensures

pub returns-in_err-put_block : goal.returns-in_err-put_block
returns-in_err-put_block g c =
    still_failed _ _ _ _ _ _ _ _ c.from_residual.result c.from_residual.ensures.0
    (one_block_more _ _ _ _ _ _ _ _ _ (Err _) c.loop-i.invariant c.in_err-put_block.ensures)

pub put_block-requires-clause-room : goal.put_block-requires-clause-room
put_block-requires-clause-room g c = let size = c.loop-i.invariant.stays.size in let room = c.requires.room in omega (arith, size, room)

pub returns : goal.returns
returns g c =
    let ended = c.loop-i-test.false in
    let within = c.loop-i.auto.i-end in
    let count = c.references-i-end.ensures in
    let all : c.loop-i.i ≡ references_of c.args.layout.now.geometry = omega (arith, ended, within, count) in
    let disk = g.D.Disk in
    let counts = c.args.counts.now in
    subst (λ (n : ℕ). Acts disk.trust.tells (recovery disk.trust) (disk.seen c.args.device.now) (disk.seen c.loop-i.device) (HasTheseCounts c.args.layout.now.geometry counts.counts.items counts.sectors.items)
    (IsSlabDone c.args.layout.now.geometry counts.sectors.items c.args.slab n) (Ok tt)) all c.loop-i.invariant
