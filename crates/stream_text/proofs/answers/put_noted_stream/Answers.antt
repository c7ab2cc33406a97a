use Rattle.std.proofs.Common.{reverse, ap}
use Rattle.std.proofs.lemmas.List.{drop_all}
use Rattle.stream_text.specs.Texts.{stream_text}
use Rattle.std.proofs.lemmas.Result.{err_from_is_err_and}
use Rattle.stream_text.proofs.PutLaws.{but-all, but-failed, but-next, but-none}
use Rattle.stream_text.proofs.NoteLaws.{stream_text-noted}
use Rattle.stream_text.proofs.answers.put_noted_stream.Goals as goal

pub returns-in_err-put_noted : goal.returns-in_err-put_noted
returns-in_err-put_noted g c =
    but-failed _ (stream_text-noted (reverse c.args.desk.now) (reverse c.args.places.now) c.args.placed.now c.args.stream c.loop-number.number c.args.requests.now
    c.index-requests-number.result c.loop-number-test.true c.requires.room_placed c.index-requests-number.is c.requires.places)
    (err_from_is_err_and c.from_residual.result c.from_residual.ensures.1).1 c.loop-number.invariant c.in_err-put_noted.ensures

pub loop-number-init : goal.loop-number-init
loop-number-init g c = but-all

pub loop-number-preserved : goal.loop-number-preserved
loop-number-preserved g c =
    but-next
    (stream_text-noted (reverse c.args.desk.now) (reverse c.args.places.now) c.args.placed.now c.args.stream c.loop-number.number c.args.requests.now
    c.index-requests-number.result c.loop-number-test.true c.requires.room_placed c.index-requests-number.is c.requires.places)
    c.loop-number.invariant c.in_ok-put_noted.ensures

pub returns : goal.returns
returns g c =
    but-none
    (ap (λ t. stream_text (reverse c.args.desk.now) (reverse c.args.places.now) c.args.stream c.loop-number.number t)
    (drop_all c.loop-number.number c.args.requests.now c.loop-number-test.false))
    c.loop-number.invariant
