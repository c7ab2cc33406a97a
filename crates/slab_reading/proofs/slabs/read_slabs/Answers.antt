use Rattle.std.proofs.Common.{[], ◌∷◌, refl, sym, subst, arith, ℕ}
use Rattle.disk_model.proofs.SinceLaws.{untouched_yet, untouched_on}
use Rattle.slab_reading.specs.Found.{Took}
use Rattle.slab_reading.specs.Reads.{IsSlabRead, SlabsFail}
use Rattle.slab_reading.proofs.FoundLaws.{found_none, found_more, slabs_fail, passed_on}
use Rattle.count_updates.specs.FoundLists.{lists_of}
use Rattle.slab_reading.proofs.slabs.read_slabs.Goals as goal

pub loop-slab-init : goal.loop-slab-init
loop-slab-init g c = record {
  reads = [];
  count = refl;
  read = refl;
  found = found_none _ _ _ _ c.requires.no_counters c.requires.no_commits;
  untouched = untouched_yet _ _;
}

pub loop-slab-preserved : goal.loop-slab-preserved
loop-slab-preserved g c =
    let was = c.loop-slab.invariant in
    let taken = c.in_ok-add_slab.ensures.taken in
    record {
      reads = taken.0 ∷ was.reads;
      count = omega (arith, was.count);
      read = (
        g.D.Disk.seen c.loop-slab.device,
        was.read,
        subst (λ (slab : ℕ). IsSlabRead g.D.Disk.trust c.args.layout.now.geometry slab (g.D.Disk.seen c.loop-slab.device) (g.D.Disk.seen c.add_slab.new.device) taken.0) (sym was.count) taken.1,
      );
      found = found_more c.args.layout.now.geometry was.reads taken.0 _ _ _ _ _ _ _ was.found
          (subst (λ (slab : ℕ). Took c.args.layout.now.geometry slab taken.0 (lists_of c.loop-slab.found) (lists_of c.add_slab.new.found)) (sym was.count) taken.2);
      untouched = untouched_on _ _ _ _ was.untouched c.add_slab.ensures.untouched;
    }

pub returns-in_err-add_slab-clause-untouched : goal.returns-in_err-add_slab-clause-untouched
returns-in_err-add_slab-clause-untouched g c = untouched_on _ _ _ _ c.loop-slab.invariant.untouched c.add_slab.ensures.untouched

pub returns-in_err-add_slab-clause-fault : goal.returns-in_err-add_slab-clause-fault
returns-in_err-add_slab-clause-fault g c =
    let was = c.loop-slab.invariant in
    passed_on c.from_residual.result (SlabsFail g.D.Disk.trust c.args.layout.now.geometry (g.D.Disk.seen c.args.device.now) (g.D.Disk.seen c.add_slab.new.device)) c.in_err-add_slab.field-0.0 c.from_residual.ensures.1
    (slabs_fail _ _ was.reads c.loop-slab.slab _ _ _ c.in_err-add_slab.field-0.0 was.count (omega (arith, c.loop-slab-test.true)) was.read c.in_err-add_slab.ensures.fault)
