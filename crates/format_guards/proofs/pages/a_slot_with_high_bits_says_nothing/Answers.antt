use Rattle.std.proofs.Common.{ℕ, ◌+◌, ◌*◌, ◌∙◌, ap, arith}
use Rattle.byte_fields.specs.Fields.{number_at}
use Rattle.byte_fields.proofs.MappingLaws.{state_at, state_small}
use Rattle.format_guards.proofs.pages.a_slot_with_high_bits_says_nothing.Goals as goal

pub returns-in-Ok : goal.returns-in-Ok
returns-in-Ok c =
    let at = 36 + 5 * c.args.number in
    let mapping = c.in-Ok.field-0 in
    let state = c.read_u8.ensures ∙ ap (λ (n : ℕ). number_at 1 (36 + 5 * n) c.block.inside.bytes) c.from.ensures
    ∙ ap (number_at 1 at) c.block.view_is ∙ state_at at c.args.block.now mapping c.in-Ok.ensures.ok.spelled in
    let small = state_small mapping in
    omega (arith, state, small)
