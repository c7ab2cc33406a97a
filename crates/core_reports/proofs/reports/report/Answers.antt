use Rattle.std.proofs.Common.{ℕ, Bool, List, [], Option, ◌≡◌, ◌<◌, ◌≤◌, ◌^◌, ◌∙◌, ap, length, map, reverse, subst, sym}
use Rattle.vdo_model.specs.declared.report.DeskLine.{DeskLine}
use Rattle.vdo_model.specs.declared.report.Placed.{Placed}
use Rattle.vdo_model.specs.Histories.{histories_of}
use Rattle.core_model.specs.Reports.{progress_of}
use Rattle.core_model.specs.SessionLimits.{most_requests}
use Rattle.core_model.specs.Trace.{damage_in, journaled}
use Rattle.core_model.specs.declared.zones.Zone.{Zone}
use Rattle.core_reports.specs.Found.{AreEntered, AreFound}
use Rattle.core_reports.specs.Listed.{HasDamage, HasDesk, HasEntered, HasGeometry, places_of_all, used_by_all}
use Rattle.core_reports.specs.Rooms.{IsRoomFor}
use Rattle.core_reports.proofs.ReportLaws.{all_used, its_damage, its_desk, its_entries, its_geometry, places_few_enough, places_found, report_is}
use Rattle.core_reports.proofs.UsedLaws.{few_used}
use Rattle.core_reports.proofs.reports.report.Goals as goal

pub returns : goal.returns
returns c s t session legal answered for =
    let zones = c.args.zones.items in
    let desk = its_desk s t zones session legal in
    let listed = c.list_places.new.places in
    let slice = reverse c.as_slice.result.now in
    let room : List ℕ = map length c.deref_mut.result.now in
    -- the places
    let fits : length (places_of_all c.deref.result.now) ≤ most_requests
    = subst (λ (zs : List Zone). length (places_of_all zs) ≤ most_requests) (sym c.deref.ensures.value) (places_few_enough s t zones session legal) in
    let placed : listed ≡ places_of_all zones = c.list_places.ensures c.room.invariant.places fits ∙ ap places_of_all c.deref.ensures.value in
    -- the histories
    let room_is : c.args.room ≡ room = sym c.room.view_is ∙ ap (λ (notes : List (List (Option ℕ))). map length notes) (sym c.deref_mut.ensures.value) in
    let enough : IsRoomFor room s.script = subst (λ (counts : List ℕ). IsRoomFor counts s.script) room_is for in
    let found : AreFound desk.desk.log room (journaled t) (progress_of t) slice
    = subst (λ (log : List DeskLine). AreFound log room (journaled t) (progress_of t) slice) (sym desk.log_is)
    (places_found s t zones session legal room slice enough answered (sym c.as_slice.ensures ∙ placed)) in
    let has : HasDesk desk.desk c.deref-2.result.now = subst (λ (zs : List Zone). HasDesk desk.desk zs) (sym c.deref-2.ensures.value) desk.has in
    let entries : HasEntered (journaled t) c.deref-2.result.now
    = subst (λ (zs : List Zone). HasEntered (journaled t) zs) (sym c.deref-2.ensures.value) (its_entries s t zones session legal) in
    let unset : AreEntered [] room c.deref_mut-2.result.now
    = subst (λ (entered : List (List Bool)). AreEntered [] room entered) (sym c.deref_mut-2.ensures.value)
    (subst (λ (notes : List (List (Option ℕ))). AreEntered [] (map length notes) c.room.inside.entered.items) (sym c.deref_mut.ensures.value) c.room.invariant.entered) in
    let histories : c.list_histories.new.histories ≡ histories_of desk.desk.requests desk.desk.log (progress_of t) listed
    = c.list_histories.ensures desk.desk (journaled t) (progress_of t) has entries c.room.invariant.histories unset found
    ∙ ap (λ (ps : List Placed). histories_of desk.desk.requests desk.desk.log (progress_of t) ps) (sym c.as_slice.ensures) in
    let damaged : HasDamage (damage_in t) c.deref-3.result.now = subst (λ (zs : List Zone). HasDamage (damage_in t) zs) (sym c.deref-3.ensures.value) (its_damage s t zones session legal) in
    let few : used_by_all c.deref-4.result.now < 2 ^ 32
    = subst (λ (zs : List Zone). used_by_all zs < 2 ^ 32) (sym c.deref-4.ensures.value) (rw (all_used s t zones session legal) (few_used s t session.sizes)) in
    let used = c.used_space-used.ensures few ∙ ap used_by_all c.deref-4.ensures.value in
    let sized : HasGeometry s.sizes.geometry c.deref-5.result.now = subst (λ (zs : List Zone). HasGeometry s.sizes.geometry zs) (sym c.deref-5.ensures.value) (its_geometry s t zones session legal) in
    let total = c.total_space-total.ensures s.sizes.geometry sized in
    report_is s t zones session legal c.desk_report-desk.result c.into_list.result c.into_list-2.result c.damage-damage.result c.used_space-used.result c.total_space-total.result
    (c.desk_report-desk.ensures desk.desk desk.has) (c.into_list.ensures ∙ placed)
    (c.into_list-2.ensures ∙ histories ∙ ap (λ (ps : List Placed). histories_of desk.desk.requests desk.desk.log (progress_of t) ps) (sym c.into_list.ensures))
    (c.damage-damage.ensures (damage_in t) damaged) used total
