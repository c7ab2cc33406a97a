use Rattle.std.proofs.Common.{◌∙◌, sym}
use Rattle.rebuild.proofs.CheckLaws.{first_differs, is_its_first, no_first, none_differ}
use Rattle.rebuild.proofs.clean_image.check_counts.Goals as goal

pub returns-in-None-clause-all : goal.returns-in-None-clause-all
returns-in-None-clause-all c image same has_map has_counts =
    none_differ image c.args.contents.now.map c.args.contents.now.counts.counts.items c.args.contents.now.counts.sectors.items c.in-Ok.report has_map has_counts
    (c.in-Ok.ensures.report image same has_map has_counts) (sym c.deref.ensures.value ∙ no_first _ c.in-None.ensures.value)

pub returns-clause-fault : goal.returns-clause-fault
returns-clause-fault c image same has_map has_counts =
    let list = is_its_first c.in-Some.first.now _ c.in-Some.ensures.value in
    first_differs image c.args.contents.now.map c.args.contents.now.counts.counts.items c.args.contents.now.counts.sectors.items c.in-Ok.report has_map has_counts
    (c.in-Ok.ensures.report image same has_map has_counts) c.in-Some.first.now list.0 (sym c.deref.ensures.value ∙ list.1)
