use Rattle.std.proofs.Common.{◌≡◌, map, length, take, vec_len}
use Rattle.std.specs.Vec.{vec_capacity}
use Rattle.disk_model.specs.Since.{IsUntouched}
use Rattle.crash_images.specs.Maps.{OfMap}
use Rattle.crash_images.specs.Values.{address_of, value_in}
use Rattle.crash_images.proofs.values.values_of.Given as goal

abbrev pub invariant-loop-at : goal.invariant-loop-at
invariant-loop-at g l =
    let disk = g.D.Disk in
    record {
      untouched : IsUntouched disk.trust.tells (disk.seen l.fn.device) (disk.seen l.device);
      addresses : map address_of l.values.items ≡ take l.at-index l.addresses;
      values : OfMap disk.trust (disk.seen l.fn.device) l.found (λ image. l.values.items ≡ map (value_in image) (take l.at-index l.addresses));
      count : vec_len l.values ≡ l.at-index;
      room : vec_capacity l.values ≡ length l.addresses;
    }
