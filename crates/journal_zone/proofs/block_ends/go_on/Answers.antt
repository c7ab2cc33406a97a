use Rattle.journal_zone.proofs.ActLaws.{is_due, seals_next}
use Rattle.journal_zone.proofs.Oldest.{oldest_of}
use Rattle.journal_zone.proofs.block_ends.go_on.Goals as goal

pub seal_next-requires-clause-due : goal.seal_next-requires-clause-due
seal_next-requires-clause-due c =
    let first = oldest_of c.args.zone.now.filling (λ none. let yes = rw c.if-is_unfilled.false at (c.is_unfilled.ensures.1 none) in cc) in
    (is_due _ _ c.args.block c.requires.stage c.requires.done first.0 first.1 first.2 c.requires.rule).sealable

pub returns-else-is_unfilled : goal.returns-else-is_unfilled
returns-else-is_unfilled c =
    let first = oldest_of c.args.zone.now.filling (λ none. let yes = rw c.if-is_unfilled.false at (c.is_unfilled.ensures.1 none) in cc) in
    seals_next _ _ c.args.block c.requires.stage c.requires.done first.0 first.1 first.2 _ _
    (is_due _ _ c.args.block c.requires.stage c.requires.done first.0 first.1 first.2 c.requires.rule) c.seal_next.ensures.zone c.seal_next.ensures.posts
