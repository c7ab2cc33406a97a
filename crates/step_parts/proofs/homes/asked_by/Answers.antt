use Rattle.std.proofs.Common.{ℕ, length, ap}
use Rattle.std.proofs.Math.Nat.{add-mod-mod}
use Rattle.blk_base.specs.declared.place.ZoneId.TheVariants as id
use Rattle.step_parts.proofs.homes.asked_by.Goals as goal

pub returns : goal.returns
returns c =
    let tickets = length c.args.vio.now.tickets in
    let place = c.args.vio.now.place in
    rw (c.from-zones.ensures, c.from.ensures, c.len.ensures) (ap (λ (n : ℕ). id.Physical n) (add-mod-mod tickets place c.args.sizes.now.physical))
