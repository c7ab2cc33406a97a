use Rattle.std.proofs.Common.{◌∙◌, ℕ, List, ap, sym}
use Rattle.uds_chapters.specs.declared.entry.Record.{Record}
use Rattle.sparse_index.proofs.HookLaws.{hook_added, hook_passed, hooks_all, hooks_start}
use Rattle.sparse_index.proofs.hooks.hooks_of.Goals as goal
use Rattle.sparse_index.proofs.hooks.hooks_of.Goals.{then-is_hook, else-is_hook}

pub returns : goal.returns
returns c =
    c.close.ensures.closed
    ∙ ap (λ (n : ℕ). record { number = n; records = c.loop-record.hooks }) c.number.ensures
    ∙ ap (λ (rs : List Record). record { number = c.args.chapter.now.number; records = rs })
    (c.loop-record.invariant ∙ hooks_all c.records-record-items.result.now c.args.chapter.now.records c.loop-record.record-index c.records-record-items.ensures.value c.loop-record-test.false)

pub loop-record-init : goal.loop-record-init
loop-record-init c = c.new-hooks.ensures ∙ hooks_start c.args.chapter.now.records

pub loop-record-preserved : goal.loop-record-preserved
loop-record-preserved c = elim c.if-is_hook.branch [
  | then-is_hook w ↦ w.hooks-is ∙ hook_added c.records-record-items.result.now c.args.chapter.now.records c.loop-record.record-index c.record-item.result c.loop-record.hooks
      c.records-record-items.ensures.value c.loop-record-test.true c.record-item.is c.loop-record.invariant w.add.new.self w.add.result c.records-record-items.ensures.rising
      c.records-record-items.ensures.few (sym c.is_hook.ensures ∙ w.if-is_hook.true) w.add.ensures
  | else-is_hook w ↦ w.hooks-is ∙ hook_passed c.records-record-items.result.now c.args.chapter.now.records c.loop-record.record-index c.record-item.result c.loop-record.hooks
      c.records-record-items.ensures.value c.loop-record-test.true c.record-item.is c.loop-record.invariant (sym c.is_hook.ensures ∙ w.if-is_hook.false)
]
