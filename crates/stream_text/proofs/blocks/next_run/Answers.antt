use Rattle.std.proofs.Common.{◌≡◌, ◌<◌, ◌+◌, ◌-◌, ◌∷◌, ◌∙◌, [], ℕ, List, ap, arith, drop, length, subst, sym, take}
use Rattle.std.proofs.lemmas.List.{length-drop, take_all}
use Rattle.stream_text.specs.LineWords.{run_of_pieces}
use Rattle.stream_text.specs.PlainRuns.{BeginsWith}
use Rattle.stream_text.specs.RunParts.{run_said}
use Rattle.stream_text.proofs.NumberLaws.{parts_of}
use Rattle.stream_text.proofs.PlainRunLaws.{plain_last, plain_next}
use Rattle.stream_text.proofs.blocks.next_run.Goals as goal

pub returns-then-word-at-eq3-clause-parts : goal.returns-then-word-at-eq3-clause-parts
returns-then-word-at-eq3-clause-parts c =
    let word = c.args.word.now in
    let at = c.in-Some.at in
    let width : at + 3 - (at + 1) ≡ 2 = omega arith in
    let whole : at + 3 ≡ length word = omega (arith, c.if-word-at-eq3.true) in
    plain_last word at c.in-Some.ensures _ whole
    (c.run_around-plain.ensures ∙ ap (λ (n : ℕ). run_of_pieces (take at word ∷ take n (drop (at + 1) word) ∷ [])) width)

pub returns-else-word-at-eq3-clause-parts : goal.returns-else-word-at-eq3-clause-parts
returns-else-word-at-eq3-clause-parts c =
    let word = c.args.word.now in
    let at = c.in-Some.at in
    let width : at + 3 - (at + 1) ≡ 2 = omega arith in
    let more : at + 3 < length word = omega (arith, c.if-word-at-eq3.false, c.in-Some.ensures.end.room) in
    let left = length-drop (at + 4) word in
    let all : take (length word - (at + 4)) (drop (at + 4) word) ≡ drop (at + 4) word = take_all (length word - (at + 4)) (drop (at + 4) word) (omega (arith, left)) in
    subst (λ (rest : List ℕ). BeginsWith (run_said c.run_around-plain.result) word (parts_of 43 rest)) (sym all)
    (plain_next word at c.in-Some.ensures _ more
    (c.run_around-plain.ensures ∙ ap (λ (n : ℕ). run_of_pieces (take at word ∷ take n (drop (at + 1) word) ∷ [])) width))
