use Rattle.std.proofs.Common.{true, false, refl}
use Rattle.std.proofs.lemmas.Result.{on_ok_weaker, on_err_weaker}
use Rattle.disk_model.specs.declared.call.Call.TheVariants as call
use Rattle.device_zone.proofs.ActLaws.{flush_is}
use Rattle.device_zone.proofs.superblock.make_call.Goals as goal

pub returns-in-AsOpened-clause-err : goal.returns-in-AsOpened-clause-err
returns-in-AsOpened-clause-err g c =
    on_err_weaker c.write_block.result (λ failed. (call.Write (record { 0 = 0 }) c.superblock.result false, rw (c.in-AsOpened.is, c.superblock.ensures) refl, failed)) c.write_block.ensures.err

pub returns-in-Written : goal.returns-in-Written
returns-in-Written g c = record {
  stays = c.flush.ensures.stays;
  ok = on_ok_weaker c.flush.result (λ called. (call.Flush true, flush_is c.args.sizes.now c.args.stage true c.requires.awaited c.in-Written.is, called)) c.flush.ensures.ok;
  err = on_err_weaker c.flush.result (λ failed. (call.Flush false, flush_is c.args.sizes.now c.args.stage false c.requires.awaited c.in-Written.is, failed)) c.flush.ensures.err;
}
