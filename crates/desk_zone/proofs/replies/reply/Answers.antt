use Rattle.std.proofs.Common.{◌≡◌, ◌∙◌, ap, sym, false, Some, [], ◌∷◌, refl}
use Rattle.blk_base.specs.declared.request.Answer.TheVariants.{NoSpace}
use Rattle.vdo_model.specs.declared.report.DeskLine.TheVariants as line
use Rattle.data_vio.specs.declared.items.Asks.TheVariants.{Flush}
use Rattle.core_model.specs.DeskRules.DeskServes.{answers, lacks, marks}
use Rattle.core_model.specs.DeskRules.{is_marked, is_no_space, mark_of_vio}
use Rattle.core_model.specs.Trace.{Says, Flushes}
use Rattle.desk_zone.proofs.replies.reply.Goals as goal

pub returns-then-is_marked : goal.returns-then-is_marked
returns-then-is_marked c =
    let is = c.is_marked.ensures.so c.if-is_marked.true in
    let asks : c.args.vio.asks ≡ Flush = rw c.get.ensures at is.0 in
    let given : c.args.vio.answer ≡ Some c.in-Some.given = rw c.get-2.ensures at c.in-Some.is in
    (Flushes (mark_of_vio c.args.vio) ∷ [], marks c.requires.phase asks (given ∙ ap Some is.1) c.mark.ensures refl refl)

pub returns-then-is_no_space : goal.returns-then-is_no_space
returns-then-is_no_space c =
    let given : c.args.vio.answer ≡ Some c.in-Some.given = rw c.get-2.ensures at c.in-Some.is in
    let answer : c.args.vio.answer ≡ Some NoSpace = given ∙ ap Some (c.is_no_space.ensures.so c.if-is_no_space.true) in
    (Says (line.Answer c.args.vio.request NoSpace) ∷ [], lacks c.requires.phase answer c.lack.ensures refl refl)

pub returns-else-is_no_space : goal.returns-else-is_no_space
returns-else-is_no_space c =
    let answer : c.args.vio.answer ≡ Some c.in-Some.given = rw c.get-2.ensures at c.in-Some.is in
    let marked : is_marked c.args.vio.asks c.in-Some.given ≡ false = rw c.get.ensures at (sym c.is_marked.ensures.is ∙ c.if-is_marked.false) in
    let spaced : is_no_space c.in-Some.given ≡ false = sym c.is_no_space.ensures.is ∙ c.if-is_no_space.false in (
      Says (line.Answer c.args.vio.request c.in-Some.given) ∷ [],
      answers c.in-Some.given c.requires.phase answer (c.requires.notified c.in-Some.given answer) marked spaced (c.answer.ensures c.in-Some.given answer) refl refl,
    )
