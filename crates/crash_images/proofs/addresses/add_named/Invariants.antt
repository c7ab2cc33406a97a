use Rattle.std.proofs.Common.{◌≡◌, ◌++◌, drop}
use Rattle.std.specs.List.{filter_map}
use Rattle.crash_images.specs.Addresses.{address_below}
use Rattle.crash_images.proofs.addresses.add_named.Given as goal

abbrev pub invariant-loop-request : goal.invariant-loop-request
invariant-loop-request l =
    l.named.items ++ filter_map (address_below l.logical) (drop l.request-index l.requests) ≡ l.fn.named.items ++ filter_map (address_below l.logical) l.requests
