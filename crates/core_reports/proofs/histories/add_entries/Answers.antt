use Rattle.std.proofs.Common.{◌∙◌, List, ap, reverse, map, length, sym, take_all, arith}
use Rattle.std.proofs.lemmas.List.{length-reverse}
use Rattle.vdo_model.specs.declared.report.Placed.{Placed}
use Rattle.vdo_model.specs.Histories.{histories_of}
use Rattle.core_reports.specs.Found.{IsFound}
use Rattle.core_reports.proofs.FoundLaws.{entries_more, found_at}
use Rattle.core_reports.proofs.histories.add_entries.Goals as goal

-- what a read past the end would give
abbrev none : Placed
none = record { request = record { stream = 0; number = 0 }; zone = 0; place = 0 }

pub loop-placed-preserved : goal.loop-placed-preserved
loop-placed-preserved c progress entries empty noted entered found =
    let desk = c.args.desk.now in
    let places = c.args.places.now in
    let n = c.loop-placed.placed-index in
    let within = c.loop-placed-test.true in
    let here = found_at (λ (p : Placed). IsFound (reverse desk) (map length c.args.notes.now) p.request) places n none within found.found in
    entries_more c.args.requests.now (reverse desk) progress places n none c.loop-placed.histories c.add_entry.new.histories within
    (omega (arith, found.few, length-reverse places))
    (c.loop-placed.invariant progress entries empty noted entered found)
    (c.add_entry.ensures progress (λ stopped. found.handed _ stopped ∙ sym (entered.told _ here.number)) noted here)

pub returns : goal.returns
returns c progress entries empty noted entered found =
    c.loop-placed.invariant progress entries empty noted entered found
    ∙ ap (λ (places : List Placed). histories_of c.args.requests.now (reverse c.args.desk.now) progress (reverse places))
    (take_all c.loop-placed.placed-index c.args.places.now (omega (arith, c.loop-placed-test.false)))
