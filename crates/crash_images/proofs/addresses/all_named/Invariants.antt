use Rattle.std.proofs.Common.{◌≡◌, ◌++◌, flat_map, drop}
use Rattle.std.specs.List.{filter_map}
use Rattle.crash_images.specs.Addresses.{address_below}
use Rattle.crash_images.proofs.addresses.all_named.Given as goal

abbrev pub invariant-loop-stream : goal.invariant-loop-stream
invariant-loop-stream l = l.named.items ++ flat_map (filter_map (address_below l.logical)) (drop l.stream l.requests) ≡ flat_map (filter_map (address_below l.logical)) l.requests
