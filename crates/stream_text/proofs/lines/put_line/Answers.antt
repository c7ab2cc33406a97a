use Rattle.std.proofs.Common.{ℕ, ◌≡◌, ◌++◌, Option, codes}
use Rattle.std.specs.Prelude.{decimal, Some}
use Rattle.blk_base.specs.declared.request.Request.{Request}
use Rattle.blk_base.specs.declared.request.Answer.{Answer as Reply}
use Rattle.vdo_model.specs.declared.report.Placed.{Placed}
use Rattle.stream_text.specs.Texts.{request_text, answer_text, place_text, line_text, writer}
use Rattle.std.proofs.lemmas.Result.{err_from_is_err_and}
use Rattle.stream_text.proofs.PutLaws.{line_pieces, put-err, put-first, put-last, put-next, put-part, puts-same}
use Rattle.stream_text.proofs.lines.put_line.Goals as goal

-- what is put is the text of the line
same_line : (stream number : ℕ) (request : Request) (answer : Reply) (place : Option Placed)
    → decimal stream ++ codes " " ++ decimal number ++ codes " " ++ (request_text request ++ codes " ") ++ answer_text answer ++ (place_text place ++ codes "\n")
    ≡ line_text (writer stream number) request (Some answer) place
same_line stream number request answer place =
    line_pieces (decimal stream ++ codes " " ++ decimal number ++ codes " ") (request_text request) (codes " ") (answer_text answer) (place_text place) (codes "\n")

pub returns-in_err-put_name : goal.returns-in_err-put_name
returns-in_err-put_name g c =
    puts-same (same_line c.args.stream c.args.number c.args.request.now c.args.answer.now c.args.place)
    (put-err (err_from_is_err_and c.from_residual.result c.from_residual.ensures.1).1 (put-part _ (put-part _ (put-part _ c.in_err-put_name.ensures))))

pub returns-in_err-put_request : goal.returns-in_err-put_request
returns-in_err-put_request g c =
    puts-same (same_line c.args.stream c.args.number c.args.request.now c.args.answer.now c.args.place)
    (put-err (err_from_is_err_and c.from_residual-in_err-put_request.result c.from_residual-in_err-put_request.ensures.1).1
    (put-part _ (put-part _ (put-last (put-first c.in_ok-put_name.ensures) c.in_err-put_request.ensures))))

pub returns-in_err-put_answer : goal.returns-in_err-put_answer
returns-in_err-put_answer g c =
    puts-same (same_line c.args.stream c.args.number c.args.request.now c.args.answer.now c.args.place)
    (put-err (err_from_is_err_and c.from_residual-in_err-put_answer.result c.from_residual-in_err-put_answer.ensures.1).1
    (put-part _ (put-last (put-next (put-first c.in_ok-put_name.ensures) c.in_ok-put_request.ensures) c.in_err-put_answer.ensures)))

pub returns : goal.returns
returns g c =
    puts-same (same_line c.args.stream c.args.number c.args.request.now c.args.answer.now c.args.place)
    (put-last (put-next (put-next (put-first c.in_ok-put_name.ensures) c.in_ok-put_request.ensures) c.in_ok-put_answer.ensures) c.put_ending.ensures)
