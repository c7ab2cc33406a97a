use Rattle.std.proofs.Common.{◌≡◌, ◌+◌, ◌-◌, suc, length, take, drop, ◌∙◌, arith, refl}
use Rattle.std.proofs.lemmas.List.{length-drop, take_all}
use Rattle.stream_text.proofs.NumberLaws.{parts_of-cut, parts_of-whole}
use Rattle.stream_text.proofs.cuts.cut_near.Goals as goal

pub returns-then-byte-separator-clause-parts : goal.returns-then-byte-separator-clause-parts
returns-then-byte-separator-clause-parts c =
    let line = c.args.bytes.now in
    let at = c.loop-at.at in
    let next : suc at ≡ at + 1 = omega arith in
    let all : take (length line - (at + 1)) (drop (at + 1) line) ≡ drop (at + 1) line = take_all _ _ (simp length-drop (omega arith)) in
    parts_of-cut c.args.separator line at c.loop-at-test.true c.loop-at.invariant c.if-byte-separator.true
    ∙ rw (next, all) refl

pub returns-clause-parts : goal.returns-clause-parts
returns-clause-parts c = parts_of-whole c.args.separator c.args.bytes.now (λ k below. c.loop-at.invariant k (omega arith))
