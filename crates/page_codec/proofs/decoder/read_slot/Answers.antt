use Rattle.std.proofs.Common.{◌∙◌, ◌+◌, ◌*◌, refl, sym, arith}
use Rattle.byte_fields.proofs.MappingLaws.{state_at, target_at, spelled_by_fields}
use Rattle.page_codec.proofs.ReadLaws.{page_holds}
use Rattle.page_codec.proofs.decoder.read_slot.Goals as goal

pub returns-in-Some-clause-ok : goal.returns-in-Some-clause-ok
returns-in-Some-clause-ok c =
    let found = c.in-Some.ensures.some in
    record {
      headed = c.requires.head;
      spelled = spelled_by_fields (36 + 5 * c.args.slot) c.args.bytes.now c.in-Some.mapping (omega arith) (λ k. omega (arith, c.type_inv.bytes k))
          (found.0 ∙ c.read_u8-first.ensures) (found.1 ∙ c.read_u32.ensures);
      held = found.2;
    }

pub returns-in-None-clause-fault : goal.returns-in-None-clause-fault
returns-in-None-clause-fault c =
    let at = 36 + 5 * c.args.slot in
    let first = c.read_u8-first.ensures in (
      c.requires.head,
      refl,
      omega (arith, first),
      λ m is. c.in-None.ensures.none m (sym (state_at at c.args.bytes.now m is.spelled) ∙ sym first)
          (sym (target_at at c.args.bytes.now m (page_holds c.args.want.now m is.held) is.spelled) ∙ sym c.read_u32.ensures) is.held,
    )
