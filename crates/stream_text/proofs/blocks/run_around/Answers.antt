use Rattle.std.proofs.Common.{sym, ◌∙◌, ap, Err}
use Rattle.stream_text.specs.RunParts.{run_said}
use Rattle.std.proofs.lemmas.Result.{err_from_is_err_and}
use Rattle.stream_text.proofs.RunWordLaws.{run_no_byte, run_fault, run_right}
use Rattle.stream_text.proofs.blocks.run_around.Goals as goal

pub returns-in_default : goal.returns-in_default
returns-in_default c = sym (run_no_byte c.args.count.now c.args.digits.now (sym c.digits_byte.ensures ∙ c.in_default.is))

pub returns : goal.returns
returns c = sym (run_right c.args.count.now c.args.digits.now _ _ (sym c.digits_byte.ensures ∙ c.in-Some.is) (sym c.number_within.ensures ∙ c.in_ok-count.was))

pub returns-in_err-count : goal.returns-in_err-count
returns-in_err-count c =
    let p = err_from_is_err_and c.from_residual.result c.from_residual.ensures.1 in
    ap run_said p.1 ∙ ap Err p.2
    ∙ sym (run_fault c.args.count.now c.args.digits.now _ _ (sym c.digits_byte.ensures ∙ c.in-Some.is) (sym c.number_within.ensures ∙ c.in_err-count.was))
