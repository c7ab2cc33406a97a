use Rattle.std.proofs.Common.{List, arith, subst, sym, take, take_all}
use Rattle.std.proofs.lemmas.List.{take_more}
use Rattle.blk_base.specs.declared.place.Pbn.{Pbn}
use Rattle.zone_counts.specs.Zone.{AreOpenedWith}
use Rattle.zone_counts.proofs.opened_slabs.note_pages.Goals as goal

-- what a read past the end would give
abbrev none : Pbn
none = record { 0 = 0 }

pub loop-at-preserved : goal.loop-at-preserved
loop-at-preserved c =
    let among = c.args.among.now in
    let n = c.loop-at.at-index in
    record {
      slabs = c.note_page.ensures.slabs;
      opened = λ counters count first.
          subst (λ (pages : List Pbn). AreOpenedWith c.args.layout.now.geometry counters pages c.args.zone c.args.zones count c.note_page.new.slabs.items)
          (sym (take_more among n none c.loop-at-test.true))
          (c.note_page.ensures.opened counters (take n among) count (c.loop-at.invariant.opened counters count first));
    }

pub returns : goal.returns
returns c counters count first =
    subst (λ (pages : List Pbn). AreOpenedWith c.args.layout.now.geometry counters pages c.args.zone c.args.zones count c.loop-at.slabs.items)
    (take_all c.loop-at.at-index c.args.among.now (omega (arith, c.loop-at-test.false)))
    (c.loop-at.invariant.opened counters count first)
