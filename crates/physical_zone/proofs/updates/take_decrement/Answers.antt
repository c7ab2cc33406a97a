use Rattle.std.proofs.Common.{rules, [], ◌∷◌, refl}
use Rattle.core_model.specs.PhysicalRules.PhysicalTakes.{removes, is_stray}
use Rattle.core_model.specs.Trace.{Removes, Strays}
use Rattle.physical_zone.proofs.ActLaws.{is_own}
use Rattle.zone_counts.specs.ByBlock.{served_ticket}
use Rattle.physical_zone.proofs.updates.take_decrement.Goals as goal

pub returns-in-Ok : goal.returns-in-Ok
returns-in-Ok c =
    let taken = c.in-Ok.ensures.taken in
    let own = is_own _ c.args.zone.now c.args.entry c.in-At.at c.in-At.is c.requires.rule in
    (Removes c.args.entry (served_ticket taken.2.serves) ∷ [], removes c.in-At.at taken.0 c.apply.new.self c.in-At.is own taken.1 taken.2 refl refl (search rules))

pub returns-in-Err : goal.returns-in-Err
returns-in-Err c =
    let own = is_own _ c.args.zone.now c.args.entry c.in-At.at c.in-At.is c.requires.rule in
    (Strays c.args.entry ∷ [], is_stray c.in-At.at c.in-At.is own c.in-Err.ensures.stray (search rules) refl (search rules))
