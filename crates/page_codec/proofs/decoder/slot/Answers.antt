use Rattle.std.proofs.Common.{ℕ, List, IfErr, subst}
use Rattle.page_codec.specs.Grammar.{IsSlotFault}
use Rattle.page_codec.proofs.ReadLaws.{slot_outside}
use Rattle.page_codec.proofs.decoder.slot.Goals as goal

pub returns-clause-outside : goal.returns-clause-outside
returns-clause-outside c =
    slot_outside c.args.want.now c.args.block.now c.args.slot c.read_slot.result
    (subst (λ (b : List ℕ). IfErr c.read_slot.result (λ fault. IsSlotFault c.args.want.now b c.args.slot fault)) c.block.view_is c.read_slot.ensures.fault)
