use Rattle.std.proofs.Common.{true, false}
use Rattle.std.proofs.lemmas.Result.{on_ok_weaker, on_err_weaker}
use Rattle.disk_model.specs.declared.call.Call.TheVariants as call
use Rattle.device_zone.proofs.Calls.{write_called, flush_called}
use Rattle.device_zone.proofs.block_work.make_call.Goals as goal

pub returns-in-Write : goal.returns-in-Write
returns-in-Write g c =
    let bytes = c.sealed_bytes-bytes.ensures in
    record {
      stays = c.write_block.ensures.stays;
      ok = on_ok_weaker c.write_block.result (λ called. (call.Write c.args.slot c.sealed_bytes-bytes.result true, write_called c.args.sizes.now c.args.block.now c.args.slot true _ c.in-Write.is bytes, called)) c.write_block.ensures.ok;
      err = on_err_weaker c.write_block.result (λ failed. (call.Write c.args.slot c.sealed_bytes-bytes.result false, write_called c.args.sizes.now c.args.block.now c.args.slot false _ c.in-Write.is bytes, failed)) c.write_block.ensures.err;
    }

pub returns-in_default : goal.returns-in_default
returns-in_default g c = record {
  stays = c.flush.ensures.stays;
  ok = on_ok_weaker c.flush.result (λ called. (call.Flush true, flush_called c.args.sizes.now c.args.block.now c.args.slot true _ c.requires.needed c.in_default.not-Write, called)) c.flush.ensures.ok;
  err = on_err_weaker c.flush.result (λ failed. (call.Flush false, flush_called c.args.sizes.now c.args.block.now c.args.slot false _ c.requires.needed c.in_default.not-Write, failed)) c.flush.ensures.err;
}
