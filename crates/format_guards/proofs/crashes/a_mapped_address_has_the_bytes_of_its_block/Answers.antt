use Rattle.format_guards.proofs.CrashFacts.{of_its_value}
use Rattle.format_guards.proofs.crashes.a_mapped_address_has_the_bytes_of_its_block.Goals as goal

pub returns : goal.returns
returns g c = of_its_value g.D.Disk.trust (g.D.Disk.seen c.args.device.now) c.args.found.now c.args.at.0 c.value_at.result c.value_at.ensures.value
