use Rattle.std.proofs.Common.{◌≡◌, ◌<◌, ◌≤◌, ◌∙◌, length, ap, sym, subst, arith}
use Rattle.uds_chapters.specs.declared.entry.Record.{Record}
use Rattle.uds_chapters.specs.Names.{AreRising}
use Rattle.index_advice.proofs.TableLaws.{tabled, found_in, new_in, none_in, rising_new}
use Rattle.index_advice.proofs.table.TableAdvisor.learn.Goals as goal

pub invariant_of-self-then-len-self : goal.invariant_of-self-then-len-self
invariant_of-self-then-len-self c =
    let records = c.self.inside.records.items in
    let one : Record = record { name = c.args.name.now; at = c.args.at } in
    let done = c.in-Ok-insert.ensures in
    let len = done.len in
    let grown = done.capacity in
    record {
      few = omega (arith, len, c.len.ensures, c.if-len-self.true);
      capacity = omega (arith, grown, c.self.invariant.capacity);
      rising = subst AreRising (sym done.items) (rising_new records c.deref.result.now one c.in-Err.place c.deref.ensures.value c.in-Err.ensures.bound c.in-Err.ensures.gap c.self.invariant.rising);
    }

pub returns-in-Ok : goal.returns-in-Ok
returns-in-Ok c =
    found_in c.self.inside.room c.self.inside.records.items c.deref.result.now (record { name = c.args.name.now; at = c.args.at }) c.in-Ok.place c.args.self.now
    c.self.view_is c.deref.ensures.value c.self.invariant.rising c.in-Ok.ensures.bound c.in-Ok.ensures.found

pub returns-in-Ok-insert : goal.returns-in-Ok-insert
returns-in-Ok-insert c =
    let records = c.self.inside.records.items in
    let one : Record = record { name = c.args.name.now; at = c.args.at } in
    let size : length records ≡ c.len.result = ap length (sym c.deref.ensures.value) ∙ c.deref.ensures.len ∙ sym c.len.ensures in
    let few : length records < c.self.inside.room = omega (arith, size, c.if-len-self.true) in
    ap (tabled c.self.inside.room) c.in-Ok-insert.ensures.items
    ∙ new_in c.self.inside.room records c.deref.result.now one c.in-Err.place c.args.self.now c.self.view_is c.deref.ensures.value c.in-Err.ensures.bound c.in-Err.ensures.gap few

pub returns-else-len-self : goal.returns-else-len-self
returns-else-len-self c =
    let records = c.self.inside.records.items in
    let one : Record = record { name = c.args.name.now; at = c.args.at } in
    let size : length records ≡ c.len.result = ap length (sym c.deref.ensures.value) ∙ c.deref.ensures.len ∙ sym c.len.ensures in
    let full : c.self.inside.room ≤ length records = omega (arith, size, c.if-len-self.false) in
    none_in c.self.inside.room records c.deref.result.now one c.in-Err.place c.args.self.now c.self.view_is c.deref.ensures.value c.in-Err.ensures.gap full
