use Rattle.std.proofs.Common.{◌≡◌, refl}
use Rattle.vdo_cli.specs.Texts.{fault_text}
use Rattle.vdo_cli.proofs.endings.put_fault.Goals.{in-Usage, in-Device, in-Memory, in-Read, in-Sink}
use Rattle.vdo_cli.proofs.endings.put_fault.Goals as goal

pub returns : goal.returns
returns g c =
    let same : c.match-fault.line.now ≡ fault_text c.args.fault.now =
    elim c.match-fault.branch [
      | in-Usage w ↦ rw (w.line-is, w.in-Usage.is) refl
      | in-Device w ↦ rw (w.line-is, w.in-Device.is) refl
      | in-Memory w ↦ rw (w.line-is, w.in-Memory.is) refl
      | in-Read w ↦ rw (w.line-is, w.in-Read.is) refl
      | in-Sink w ↦ rw (w.line-is, w.in-Sink.is) refl
    ] in
    rw same at c.put.ensures

pub returns-in-Script : goal.returns-in-Script
returns-in-Script g c = rw c.in-Script.is (rw c.script_fault_end.ensures at c.put_script_line.ensures)

pub returns-in-Image : goal.returns-in-Image
returns-in-Image g c = rw c.in-Image.is c.put_image_fault.ensures

pub returns-in-Differs : goal.returns-in-Differs
returns-in-Differs g c = rw c.in-Differs.is c.put_differs.ensures
