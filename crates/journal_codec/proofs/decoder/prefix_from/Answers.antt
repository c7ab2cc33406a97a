use Rattle.std.proofs.Common.{ℕ, ◌≡◌, ◌∙◌, ◌++◌, List, false, subst, ap, sym, arith}
use Rattle.blk_base.specs.declared.journal_entry.Entry.{Entry}
use Rattle.journal_codec.specs.Grammar.{IsRun, IsPrefix}
use Rattle.journal_codec.proofs.PrefixLaws.{run-first, prefix_partial, prefix_whole}
use Rattle.journal_codec.proofs.decoder.prefix_from.Goals as goal

pub loop-count-init : goal.loop-count-init
loop-count-init c =
    let a = c.args in
    let f = a.first.now in
    subst (λ (es : List Entry). IsRun a.nonce a.block.now f.sequence f.head 1 es)
    (sym (c.extend_from_slice.ensures ∙ ap (λ es. es ++ c.as_slice.result.now) c.new-entries.ensures ∙ c.as_slice.ensures.value))
    (run-first a.nonce a.block.now f.sequence f.head f.entries c.requires)

pub returns-then-not-add_next : goal.returns-then-not-add_next
returns-then-not-add_next c =
    let a = c.args in
    let f = a.first.now in
    let ended = c.add_next.ensures.ended c.if-not-add_next.true in
    subst (λ (es : List Entry). IsPrefix a.nonce a.block.now f.sequence f.head es false) (sym ended.0)
    (prefix_partial a.nonce a.block.now f.sequence f.head c.loop-count.count c.loop-count.entries (omega arith) (omega arith) c.loop-count.invariant ended.1)

pub returns : goal.returns
returns c =
    let a = c.args in
    let f = a.first.now in
    let last : c.loop-count.count ≡ 8 = omega arith in
    prefix_whole a.nonce a.block.now f.sequence f.head c.loop-count.entries
    (subst (λ (n : ℕ). IsRun a.nonce a.block.now f.sequence f.head n c.loop-count.entries) last c.loop-count.invariant)
