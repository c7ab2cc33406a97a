use Rattle.format_guards.proofs.blocks.a_slot_gets_its_mapping.Goals as goal

pub returns : goal.returns
returns c = λ slot mapping inside is. c.put_changes.ensures.put slot mapping inside inside is
