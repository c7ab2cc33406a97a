use Rattle.std.proofs.Common.{List, arith, get_or, reverse, subst, sym, take, take_all}
use Rattle.std.proofs.lemmas.List.{get_or_default}
use Rattle.vdo_model.proofs.NoteLaws.{one_more}
use Rattle.data_vio.specs.declared.logged.Logged.{Logged}
use Rattle.blk_base.specs.declared.place.Mapping.TheVariants.{Unmapped}
use Rattle.data_vio.specs.declared.logged.Logged.TheVariants.{Remaps}
use Rattle.core_reports.specs.Found.{AreEntered}
use Rattle.core_reports.proofs.entered.note_entries.Goals as goal

-- what a read past the end would give
abbrev none : Logged
none = Remaps (record { request = record { stream = 0; number = 0 }; at = record { 0 = 0 }; place = 0; old = Unmapped; new = Unmapped })

pub loop-logged-preserved : goal.loop-logged-preserved
loop-logged-preserved c room unset =
    let entries = c.args.entries.now in
    let n = c.loop-logged.logged-index in
    let logged = get_or entries n none in
    let within = c.loop-logged-test.true in
    subst (λ (es : List Logged). AreEntered es room c.note_entry.new.entered) (sym (one_more entries n logged within (get_or_default entries n none logged within)))
    (c.note_entry.ensures (reverse (take n entries)) room (c.loop-logged.invariant room unset))

pub returns : goal.returns
returns c room unset =
    subst (λ (es : List Logged). AreEntered (reverse es) room c.loop-logged.entered) (take_all c.loop-logged.logged-index c.args.entries.now (omega (arith, c.loop-logged-test.false)))
    (c.loop-logged.invariant room unset)
