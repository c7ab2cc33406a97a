use Rattle.std.proofs.Common.{[], List, subst, sym}
use Rattle.blk_base.specs.declared.geometry.Geometry.{Geometry}
use Rattle.blk_base.specs.declared.place.Pbn.{Pbn}
use Rattle.zone_counts.specs.Zone.{AreOpenedWith, slabs_of_zone}
use Rattle.zone_counts.proofs.opened_slabs.opening_slabs.Goals as goal

pub returns : goal.returns
returns c =
    let opened = c.args.opened.now in
    let g = opened.head.geometry in
    let counters = opened.counters.items in
    let zone = c.args.zone in
    let zones = c.args.zones in
    let count = slabs_of_zone g zone zones in
    let slabs = c.note_pages.new.slabs.items in
    let first : AreOpenedWith c.of-layout.result.geometry counters [] zone zones count c.in_ok-slabs.slabs.items
    = subst (λ (h : Geometry). AreOpenedWith h counters [] zone zones count c.in_ok-slabs.slabs.items) (sym c.of-layout.ensures) c.in_ok-slabs.ensures in
    subst (λ (pages : List Pbn). AreOpenedWith g counters pages zone zones count slabs) c.deref.ensures.value
    (subst (λ (h : Geometry). AreOpenedWith h counters c.deref.result.now zone zones count slabs) c.of-layout.ensures (c.note_pages.ensures counters count first))
