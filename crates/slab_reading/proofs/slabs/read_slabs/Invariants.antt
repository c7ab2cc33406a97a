use Rattle.std.proofs.Common.{◌≡◌, List, length}
use Rattle.disk_model.specs.Log.{Blocks}
use Rattle.disk_model.specs.Since.{IsUntouched}
use Rattle.slab_reading.specs.Found.{IsFound}
use Rattle.slab_reading.specs.Reads.{SlabsRead}
use Rattle.count_updates.specs.FoundLists.{lists_of}
use Rattle.slab_reading.proofs.slabs.read_slabs.Given as goal

abbrev pub invariant-loop-slab : goal.invariant-loop-slab
invariant-loop-slab g l =
    let disk = g.D.Disk in
    record {
      reads : List Blocks;
      count : length reads ≡ l.slab;
      read : SlabsRead disk.trust l.layout.geometry (disk.seen l.fn.device) (disk.seen l.device) reads;
      found : IsFound l.layout.geometry reads l.initial.found.updates.items (lists_of l.found);
      untouched : IsUntouched disk.trust.tells (disk.seen l.fn.device) (disk.seen l.device);
    }
