use Rattle.std.proofs.Common.{ℕ, List, map, subst, sym, ◌∙◌, ap}
use Rattle.blk_base.specs.Forms.{lba}
use Rattle.crash_images.specs.Addresses.{AreAddresses}
use Rattle.crash_images.proofs.AddressLaws.{addresses_are}
use Rattle.crash_images.proofs.addresses.addresses_of.Goals as goal

pub returns : goal.returns
returns c =
    let moved = rw c.in_ok-named.ensures at c.sort_unstable.ensures.permutation in
    let numbers : List ℕ = c.dedup.new.self.items in
    subst (AreAddresses c.args.requests.now c.args.logical) (sym (c.in_ok-addresses_at.ensures ∙ ap (λ (ns : List ℕ). map lba ns) c.deref.ensures.value))
    (addresses_are c.args.requests.now c.args.logical c.sort_unstable.new.self.items numbers moved c.sort_unstable.ensures.sorted c.dedup.ensures.filtered)
