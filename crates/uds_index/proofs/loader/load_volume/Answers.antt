use Rattle.std.proofs.Common.{◌+◌, List, length, ap, sym, subst, arith}
use Rattle.index_advice.specs.Books.{Book}
use Rattle.uds_chapters.specs.declared.entry.Record.{Record}
use Rattle.uds_index.specs.Held.{IsLoading, KeepsPage, loaded_page}
use Rattle.uds_index.proofs.LoadLaws.{held_by, few_records, loading_start, loading_none, loading_page}
use Rattle.uds_index.proofs.loader.load_volume.Goals as goal
use Rattle.uds_index.proofs.loader.load_volume.Goals.{in-Some, in_default}

pub loop-number-init : goal.loop-number-init
loop-number-init g c = loading_start c.args.layout.now.geometry g.D.Disk.trust (g.D.Disk.seen c.args.device.now) c.index_block-first.result.0 c.in_ok-volume.volume
    c.in_ok-volume.ensures c.index_block-first.ensures.block

pub keep-requires-clause-few : goal.keep-requires-clause-few
keep-requires-clause-few g c =
    let read = c.in-Some.ensures.read in
    let held = held_by c.args.layout.now.geometry c.loop-number.number read.0 (loaded_page c.in-Some.page) read.2 in
    let few = few_records c.args.layout.now.geometry g.D.Disk.trust _ _ c.loop-number.number c.loop-number.volume held.0 (loaded_page c.in-Some.page) c.loop-number.invariant held.2 in
    omega (arith, few, ap length c.as_slice.ensures.value)

pub loop-number-preserved : goal.loop-number-preserved
loop-number-preserved g c =
    let d = g.D.Disk in
    let geometry = c.args.layout.now.geometry in
    elim c.match-load_page.branch [
      | in-Some w ↦
          let read = w.in-Some.ensures.read in
          subst (λ (b : Book). IsLoading geometry d.trust (d.seen c.args.device.now) (d.seen c.load_page.new.device) (c.loop-number.number + 1) b) (sym w.volume-is)
          (loading_page geometry d.trust (d.seen c.args.device.now) (d.seen c.loop-number.device) (d.seen c.load_page.new.device) c.loop-number.number
          c.loop-number.volume w.keep.new.self read.0 (loaded_page w.in-Some.page) c.loop-number.invariant read.1 read.2 c.load_page.ensures.untouched
          (subst (λ (rs : List Record). KeepsPage w.in-Some.page.number rs c.loop-number.volume.kept w.keep.new.self.kept) w.as_slice.ensures.value w.keep.ensures.kept)
          w.keep.ensures.same)
      | in_default w ↦
          let read = w.in_default.ensures.read in
          subst (λ (b : Book). IsLoading geometry d.trust (d.seen c.args.device.now) (d.seen c.load_page.new.device) (c.loop-number.number + 1) b) (sym w.volume-is)
          (loading_none geometry d.trust (d.seen c.args.device.now) (d.seen c.loop-number.device) (d.seen c.load_page.new.device) c.loop-number.number
          c.loop-number.volume read.0 c.loop-number.invariant read.1 read.2 c.load_page.ensures.untouched)
    ]
