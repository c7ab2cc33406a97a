use Rattle.std.proofs.Common.{◌≡◌, ◌+◌, ◌-◌, suc, length, take, drop, ◌∙◌, arith, refl}
use Rattle.std.proofs.lemmas.Bool.{eqb-true, eq-eqb}
use Rattle.std.proofs.lemmas.List.{length-drop, take_all}
use Rattle.stream_text.proofs.NumberLaws.{parts_of-cut, parts_of-whole}
use Rattle.stream_text.proofs.cuts.cut.Goals as goal

pub returns-in-Some-clause-parts : goal.returns-in-Some-clause-parts
returns-in-Some-clause-parts c =
    let line = c.args.bytes.now in
    let at = c.in-Some.at in
    let within = c.in-Some.ensures.0.high in
    let next : suc at ≡ at + 1 = omega arith in
    let left = length-drop (at + 1) line in
    let all : take (length line - (at + 1)) (drop (at + 1) line) ≡ drop (at + 1) line = take_all (length line - (at + 1)) (drop (at + 1) line) (omega (arith, left)) in
    parts_of-cut c.args.separator line at within (λ k below same. c.in-Some.ensures.0.before k (omega arith) below (eq-eqb _ _ same)) (eqb-true _ _ c.in-Some.ensures.1)
    ∙ rw (next, all) refl

pub returns-in-None-clause-parts : goal.returns-in-None-clause-parts
returns-in-None-clause-parts c = parts_of-whole c.args.separator c.args.bytes.now (λ k below same. c.in-None.ensures k (omega arith) below (eq-eqb _ _ same))
