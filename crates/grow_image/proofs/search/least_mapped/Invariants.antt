use Rattle.std.proofs.Common.{take}
use Rattle.disk_model.specs.Since.{IsUntouched}
use Rattle.grow_image.specs.NewAddresses.{IsLeastMapped, IsShownBy}
use Rattle.grow_image.proofs.search.least_mapped.Given as goal

abbrev pub invariant-loop-leaf : goal.invariant-loop-leaf
invariant-loop-leaf g l =
    let disk = g.D.Disk in
    record {
      shown : IsShownBy disk.trust l.sizes (disk.seen l.fn.device) (disk.seen l.device)
          (λ blocks. IsLeastMapped l.sizes l.range (take l.leaf-index l.leaves) blocks l.least);
      untouched : IsUntouched disk.trust.tells (disk.seen l.fn.device) (disk.seen l.device);
    }
