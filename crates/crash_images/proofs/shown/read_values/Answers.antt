use Rattle.std.proofs.Common.{◌≡◌, map, inl, inr}
use Rattle.image_model.specs.declared.fault.ImageFault.{ImageFault}
use Rattle.crash_images.specs.Addresses.{AreAddresses}
use Rattle.crash_images.specs.Maps.{OfMap}
use Rattle.crash_images.specs.Shows.{AreValues, IsNoPage, ValueFails, ValuesFail}
use Rattle.crash_images.specs.Values.{address_of, value_in}
use Rattle.crash_images.proofs.ShownLaws.{handed_on, of_both, of_both_faults}
use Rattle.crash_images.proofs.ValueLaws.{has_values, said_of_map}
use Rattle.crash_images.proofs.shown.read_values.Goals as goal

pub returns-in_err-found-clause-fault : goal.returns-in_err-found-clause-fault
returns-in_err-found-clause-fault g c =
    let disk = g.D.Disk in
    handed_on c.from_residual.result (ValuesFail disk.trust (disk.seen c.args.device.now) (disk.seen c.read_map.new.device)) c.in_err-found.field-0.0 c.from_residual.ensures.1
    (inl c.in_err-found.ensures.fault)

pub returns-clause-values : goal.returns-clause-values
returns-clause-values g c =
    let disk = g.D.Disk in
    let found = c.in_ok-found.found in
    let script = c.args.requests.now in
    let before = disk.seen c.args.device.now in
    let behind = disk.seen c.read_map.new.device in
    let read = c.in_ok-found.ensures.map in
    of_both c.values_in.result (λ values. AreAddresses script found.head.geometry.logical (map address_of values.items))
    (λ values. OfMap disk.trust behind found (λ image. values.items ≡ map (value_in image) (map address_of values.items)))
    (λ values. AreValues disk.trust script before values.items)
    (λ values named right. record {
      found = found;
      behind = behind;
      read = read;
      named = named;
      says = λ blocks is. has_values disk.trust before behind found read blocks is values.items right;
    }) c.values_in.ensures.named c.values_in.ensures.right

pub returns-clause-fault : goal.returns-clause-fault
returns-clause-fault g c =
    let disk = g.D.Disk in
    let found = c.in_ok-found.found in
    let before = disk.seen c.args.device.now in
    let behind = disk.seen c.read_map.new.device in
    let now = disk.seen c.values_in.new.device in
    let read = c.in_ok-found.ensures.map in
    of_both_faults c.values_in.result (ValueFails found behind now) (λ (why : ImageFault). OfMap disk.trust behind found (λ image. IsNoPage why))
    (ValuesFail disk.trust before now)
    (λ why cause undamaged. inr (record {
      found = found;
      behind = behind;
      read = read;
      cause = cause;
      undamaged = λ blocks is. said_of_map disk.trust before behind found read blocks is (λ image. IsNoPage why) undamaged;
    })) c.values_in.ensures.fault c.values_in.ensures.undamaged
