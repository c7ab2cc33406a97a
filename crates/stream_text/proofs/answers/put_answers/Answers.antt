use Rattle.std.proofs.Common.{◌≡◌, ◌+◌, ◌++◌, reverse, refl, sym, ◌∙◌, ap, arith}
use Rattle.vdo_model.specs.Scripts.{stream_of}
use Rattle.stream_text.specs.Texts.{stream_text}
use Rattle.std.proofs.lemmas.Result.{err_from_is_err_and}
use Rattle.stream_text.proofs.PutLaws.{put-failed, put-last, put-next, put-none, puts-same}
use Rattle.stream_text.proofs.TextLaws.{streams_text-none, streams_text-next, streams_text-more}
use Rattle.stream_text.proofs.answers.put_answers.Goals as goal

pub loop-stream-init : goal.loop-stream-init
loop-stream-init g c = record {
  put = rw (streams_text-none c.args.requests.now c.args.report.now.desk c.args.report.now.places) put-none;
  room = refl;
}

pub returns-in_err-put_stream : goal.returns-in_err-put_stream
returns-in_err-put_stream g c =
    let requests = c.args.requests.now in
    let desk = c.args.report.now.desk in
    let places = c.args.report.now.places in
    let stream = c.loop-stream.stream in
    let text : stream_text (reverse c.as_slice-desk.result.now) (reverse c.as_slice-places.result.now) stream 0 c.stream.result.now
    ≡ stream_text desk places stream 0 (stream_of requests stream) =
    rw (c.as_slice-desk.ensures, c.as_slice-places.ensures, c.stream.ensures) refl in
    let after = streams_text-more requests desk places (stream + 1) 16 (omega arith) in
    puts-same (sym (after.same ∙ ap (λ t. t ++ after.more) (streams_text-next requests desk places stream)))
    (put-failed after.more (err_from_is_err_and c.from_residual.result c.from_residual.ensures.1).1
    (put-last c.loop-stream.invariant.put (puts-same text c.in_err-put_stream.ensures.puts)))

pub loop-stream-preserved : goal.loop-stream-preserved
loop-stream-preserved g c =
    let requests = c.args.requests.now in
    let desk = c.args.report.now.desk in
    let places = c.args.report.now.places in
    let stream = c.loop-stream.stream in
    let text : stream_text (reverse c.as_slice-desk.result.now) (reverse c.as_slice-places.result.now) stream 0 c.stream.result.now
    ≡ stream_text desk places stream 0 (stream_of requests stream) =
    rw (c.as_slice-desk.ensures, c.as_slice-places.ensures, c.stream.ensures) refl in
    record {
      put = rw (streams_text-next requests desk places stream)
          (put-next c.loop-stream.invariant.put (puts-same text c.in_ok-put_stream.ensures.puts));
      room = c.put_stream.ensures.room ∙ c.loop-stream.invariant.room;
    }
