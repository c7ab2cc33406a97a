use Rattle.std.proofs.Common.{rules, arith, reverse}
use Rattle.std.proofs.lemmas.Grind.{common_steps}
use Rattle.vdo_model.specs.declared.report.DeskLine.TheVariants.{Answer, Begin}
use Rattle.core_model.specs.DeskCounts.{CountBegun}
use Rattle.core_model.proofs.CountLaws.{answers, answers_none_begun, begins, begins_none_answered, few_answered, few_begun, more_begun, still_begun}
use Rattle.core_model.proofs.desk.Desk.answer_at_once.Goals as goal

pub raise-requires : goal.raise-requires
raise-requires c = let few = few_begun c.self.inside.begun c.self.inside.lines.items c.args.request.stream c.self.invariant.begun in grind (arith, common_steps)

pub raise-requires-2 : goal.raise-requires-2
raise-requires-2 c = let few = few_answered c.self.inside.answered c.self.inside.lines.items c.args.request.stream c.self.invariant.answered in grind (arith, common_steps)

pub invariant_of-self : goal.invariant_of-self
invariant_of-self c =
    let begun : CountBegun c.raise.new.self (reverse c.push_reserved.new.self.items) =
    rw (c.raise.ensures, c.push_reserved.ensures.items) (begins c.self.inside.begun c.self.inside.lines.items c.args.request c.self.invariant.begun) in
    let counted : CountBegun c.raise.new.self (reverse c.push_reserved-2.new.self.items) =
    rw c.push_reserved-2.ensures.items (answers_none_begun c.raise.new.self c.push_reserved.new.self.items c.args.request c.args.answer begun) in
    let begun_stays = still_begun c.self.inside.requests c.self.inside.lines.items (Begin c.args.request) c.self.inside.streams_left c.self.invariant.left in
    let stays = still_begun c.self.inside.requests c.push_reserved.new.self.items (Answer c.args.request c.args.answer) c.self.inside.streams_left (rw c.push_reserved.ensures.items begun_stays) in
    record {
      counted = search rules;
      few = search rules;
      lines_room = search rules;
      boxes = grind (arith, common_steps);
      begun = counted;
      answered = let now = answers _ c.push_reserved.new.self.items c.args.request c.args.answer (rw (c.push_reserved.ensures.items) (begins_none_answered _ c.self.inside.lines.items c.args.request c.self.invariant.answered)) in rw (c.raise-2.ensures, c.push_reserved-2.ensures.items) now;
      few_left = omega (arith, c.left_after-self-inside.ensures.fewer, c.self.invariant.few_left);
      known_left = omega (arith, c.left_after-self-inside.ensures.fewer, c.self.invariant.known_left);
      left = more_begun c.self.inside.requests (reverse c.push_reserved-2.new.self.items) c.raise.new.self c.self.inside.streams_left c.left_after-self-inside.result
          c.self.invariant.few_left counted c.left_after-self-inside.ensures.passed (rw c.push_reserved-2.ensures.items stays);
      marks_room = search rules;
      receipts_room = search rules;
      most = search rules;
      spare_room = search rules;
      spare = grind (arith, common_steps);
    }
