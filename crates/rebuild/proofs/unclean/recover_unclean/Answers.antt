use Rattle.std.proofs.Common.{List, inl, inr, sym, subst}
use Rattle.blk_base.specs.declared.journal_entry.CommittedEntry.{CommittedEntry}
use Rattle.disk_model.proofs.SinceLaws.{untouched_on}
use Rattle.blk_base.specs.declared.geometry.Geometry.{Geometry}
use Rattle.replay_map.specs.Forms.{HasForm}
use Rattle.replay_map.specs.Changes.{AreNewest}
use Rattle.rebuild.proofs.UncleanLaws.{passed_as, read_refused, recovered_as, write_failed_as}
use Rattle.rebuild.proofs.unclean.recover_unclean.Goals as goal

pub returns-in_err-window : goal.returns-in_err-window
returns-in_err-window g c =
    passed_as _ _ _ _ _ c.from_residual.result c.from_residual.ensures.1
    (read_refused _ _ _ _ c.in_err-window.field-0.0 (inl c.in_err-window.ensures.fault) c.read_window.ensures.untouched)

pub returns-in_default : goal.returns-in_default
returns-in_default g c =
    let read = c.in_ok-window.ensures.window in
    read_refused _ _ _ _ _ (inr (inl (g.D.Disk.seen c.read_window.new.device, c.in_ok-window.window, read, tt))) c.read_window.ensures.untouched

pub returns-in_err-contents : goal.returns-in_err-contents
returns-in_err-contents g c =
    let read = c.in_ok-window.ensures.window in
    passed_as _ _ _ _ _ c.from_residual-in_err-contents.result c.from_residual-in_err-contents.ensures.1
    (read_refused _ _ _ _ c.in_err-contents.field-0.0 (inr (inl (g.D.Disk.seen c.read_window.new.device, c.in_ok-window.window, read, c.in_err-contents.ensures.fault)))
    (untouched_on _ _ _ _ c.read_window.ensures.untouched c.contents_with.ensures.untouched))

pub returns-in_default-write_contents : goal.returns-in_default-write_contents
returns-in_default-write_contents g c =
    write_failed_as _ _ _ (g.D.Disk.seen c.read_window.new.device) (g.D.Disk.seen c.contents_with.new.device) _ c.in_ok-window.window c.in-Ok.changes c.in_ok-contents.contents
    c.in_ok-window.ensures.window c.in_ok-contents.ensures.contents c.contents_with.ensures.untouched
    (subst (λ (entries : List CommittedEntry). AreNewest entries c.in-Ok.changes) (sym c.entries.ensures) c.in-Ok.ensures) c.requires.room
    c.of-layout.result.geometry c.last.result _ c.of-layout.ensures c.last.ensures c.in_default-write_contents.ensures

pub returns : goal.returns
returns g c =
    recovered_as _ _ _ (g.D.Disk.seen c.read_window.new.device) (g.D.Disk.seen c.contents_with.new.device) _ c.in_ok-window.window c.in-Ok.changes c.in_ok-contents.contents
    c.in_ok-window.ensures.window c.in_ok-contents.ensures.contents c.contents_with.ensures.untouched
    (subst (λ (entries : List CommittedEntry). AreNewest entries c.in-Ok.changes) (sym c.entries.ensures) c.in-Ok.ensures) c.requires.room
    c.of-layout.result.geometry c.last.result c.of-layout.ensures c.last.ensures c.in-Ok-write_contents.ensures

pub write_contents-requires-clause-form : goal.write_contents-requires-clause-form
write_contents-requires-clause-form g c =
    let map = c.in_ok-contents.contents.map in
    subst (λ (g' : Geometry). HasForm g' map.links.items map.slots.items) (sym c.of-layout.ensures) c.in_ok-contents.ensures.form

pub contents_with-requires-clause-newest : goal.contents_with-requires-clause-newest
contents_with-requires-clause-newest g c = subst (λ (entries : List CommittedEntry). AreNewest entries c.in-Ok.changes) (sym c.entries.ensures) c.in-Ok.ensures
