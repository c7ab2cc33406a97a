use Rattle.std.proofs.Common.{◌≡◌, ◌<◌, ◌∙◌, List, length, subst}
use Rattle.std.proofs.lemmas.List.{get_or_default}
use Rattle.slab_counts.specs.Counts.{Counts, IsOfSlab, with_page}
use Rattle.zone_counts.specs.Zone.{nowhere, slab_at}
use Rattle.zone_counts.proofs.PageNotes.{page_noted, page_passed}
use Rattle.zone_counts.proofs.opened_slabs.note_page.Goals as goal

pub returns-in-Some-clause-opened : goal.returns-in-Some-clause-opened
returns-in-Some-clause-opened c counters pages count opened =
    let slabs = c.args.slabs.now.items in
    let k = c.in-Some.place in
    let at = c.args.at in
    let slab = c.index_mut-slab.result.now in
    let inside : k < length slabs = subst (λ (xs : List Counts). k < length xs) c.deref.ensures.value c.in-Some.ensures.inside in
    let own : IsOfSlab (slab_at slabs k) at = subst (λ (xs : List Counts). IsOfSlab (slab_at xs k) at) c.deref.ensures.value c.in-Some.ensures.slab in
    let read : slab ≡ slab_at slabs k = c.index_mut-slab.ensures.value ∙ get_or_default slabs k slab nowhere inside in
    let noted : c.note_page.new.self ≡ with_page (slab_at slabs k) at
    = subst (λ (s : Counts). IsOfSlab s at → c.note_page.new.self ≡ with_page s at) read c.note_page.ensures.own own in
    page_noted c.args.layout.now.geometry c.args.zone c.args.zones slabs at c.requires k c.note_page.new.self inside own noted c.note_page.ensures.within counters pages count opened

pub returns-in_default-clause-opened : goal.returns-in_default-clause-opened
returns-in_default-clause-opened c counters pages count opened =
    page_passed c.args.layout.now.geometry c.args.zone c.args.zones c.args.slabs.now.items c.args.at c.requires counters pages count c.in_default.ensures.none opened
