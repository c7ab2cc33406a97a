-- A request is answered as stopped only where the device's zone has stopped the session.
use Rattle.std.proofs.Common.{◌≡◌, ℕ, ◌≤◌, Bool, true, false, cond, Some, slice_get, refl, ap, sym, ◌∙◌, subst, arith}
use Rattle.blk_base.specs.declared.request.Answer.TheVariants as reply
use Rattle.core_laws.proofs.Common.{DataOk, DeviceZone, Session, Writer, Zone, ZoneData, answer_of, desk_number, given, heard_at, lines, notice_token, notified_by, notified_zones, total-get, total_alone, weight}
use Rattle.core_model.specs.declared.zones.ZoneData.TheVariants as at
use Rattle.core_model.specs.Legal.{Legal}
use Rattle.core_model.specs.Steps.{Core}
use Rattle.core_laws.proofs.kept.ZoneKinds.{desk_sits, no_words}

some_words : (b : Bool) (n : ℕ) → 1 ≤ cond b n 0 → b ≡ true
some_words true n some = refl
some_words false n some = absurd (omega (arith, some))

pub stopped_at_device : (s : Session) (core : Core) (w : Writer) (n : ℕ) (z : Zone) (d : DeviceZone) → Legal s core → answer_of (lines core.trace) w ≡ Some reply.Stopped
    → slice_get core.zones n ≡ Some z → z.keeps ≡ at.Device d → d.stopped ≡ true
stopped_at_device s core w n z d legal is had keeps =
    let desk = desk_sits s core.trace core.zones legal.each legal.count in
    let k : DataOk s core.trace desk_number (at.Desk desk.it) = subst (λ (e : ZoneData). DataOk s core.trace desk_number e) desk.keeps (legal.each desk_number desk.zone desk.had).own in
    let enough = k.sound.stops_notified w (ap (λ log. answer_of log w) k.lists.log_is ∙ is) in
    let here = total-get (weight (notice_token s.sizes)) core.zones desk_number desk.zone desk.had in
    let heard = ap heard_at desk.keeps in
    let own = subst (λ (e : ZoneData). DataOk s core.trace n e) keeps (legal.each n z had).own in
    let alone = total_alone (given (notice_token s.sizes)) core.zones n z had (λ j y there ne. no_words s core.trace j y.keeps (λ at_device. ne (at_device ∙ sym own.number_is)) (legal.each j y there).own) in
    let notified = ap (notified_by s.sizes) keeps in
    let balance = legal.stop_notices in
    some_words d.stopped (notified_zones s.sizes) (omega (arith, enough, here, heard, alone, notified, balance))
