use Rattle.std.proofs.Common.{List, arith, get_or, subst, sym, take, take_all}
use Rattle.std.proofs.lemmas.List.{take_more}
use Rattle.blk_base.specs.declared.place.Pbn.{Pbn}
use Rattle.slab_counts.specs.Counts.{IsOpening}
use Rattle.slab_counts.proofs.OpeningLaws.{page_more}
use Rattle.slab_counts.proofs.counts.note_pages.Goals as goal

-- what a read past the end would give
abbrev none : Pbn
none = record { 0 = 0 }

pub loop-at-preserved : goal.loop-at-preserved
loop-at-preserved c =
    let among = c.args.among.now in
    let n = c.loop-at.at-index in
    record {
      within = c.note_page.ensures.within;
      opening = λ geometry slab counters first.
          subst (λ (pages : List Pbn). IsOpening geometry slab counters pages c.note_page.new.self) (sym (take_more among n none c.loop-at-test.true))
          (page_more geometry slab counters (take n among) c.loop-at.counts (get_or among n none) (c.loop-at.invariant.opening geometry slab counters first) c.note_page.new.self
          c.loop-at.invariant.within c.note_page.ensures.own c.note_page.ensures.foreign);
    }

pub returns-clause-opening : goal.returns-clause-opening
returns-clause-opening c geometry slab counters first =
    subst (λ (pages : List Pbn). IsOpening geometry slab counters pages c.loop-at.counts) (take_all c.loop-at.at-index c.args.among.now (omega (arith, c.loop-at-test.false)))
    (c.loop-at.invariant.opening geometry slab counters first)
