use Rattle.std.proofs.Common.{ap, length, ◌∙◌, refl, sym}
use Rattle.std.proofs.lemmas.Result.{IfOk-weaker}
use Rattle.data_vio.specs.Zones.{zone_count}
use Rattle.vdo_core.proofs.StartLaws.{first_desk, no_zone}
use Rattle.vdo_core.proofs.start.begin.Goals as goal

pub returns : goal.returns
returns c = IfOk-weaker c.from_vec.result _ _ (λ zones same s is.
    (let sizes = is.sizes_is in
    let desk = c.in_ok-add.ensures.first s sizes (first_desk s c.in_ok-desk.desk c.args.requests c.in_ok-desk.ensures is.script_is) (rw c.new-zones.ensures.items (no_zone s)) in
    let logical = c.in_ok-add_logical.ensures.first s sizes is.links_is desk in
    let physical = c.in_ok-add_physical.ensures.first s sizes is.counters_are logical in
    let all = c.in_ok-add_last.ensures.first s sizes physical in
    record {
      count = ap length same ∙ c.in_ok-add_last.ensures.count ∙ ap zone_count (sym sizes);
      each = rw same all;
      trace_is = refl;
    })) c.from_vec.ensures
