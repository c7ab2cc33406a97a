use Rattle.std.proofs.Common.{◌≡◌, ◌<◌, ◌+◌, ◌-◌, ◌++◌, ◌∷◌, ◌∙◌, ℕ, List, ap, arith, drop, length, take}
use Rattle.std.proofs.lemmas.Bool.{eqb-true}
use Rattle.std.proofs.lemmas.List.{length-take-le, length-drop, take_all}
use Rattle.std.proofs.lemmas.Result.{err_from_is_err_and}
use Rattle.stream_text.specs.ReadingBytes.{goes_on_from}
use Rattle.stream_text.proofs.PartLaws.{line_before}
use Rattle.stream_text.proofs.script_reader.ReadingBytes.feed.Goals as goal

pub returns-in_err-add_part-in-Some-clause-refused : goal.returns-in_err-add_part-in-Some-clause-refused
returns-in_err-add_part-in-Some-clause-refused c =
    let was = c.lines.invariant in
    let self = c.lines.self in
    let line = c.lines.rest.now in
    let at = c.in-Some.at in
    let p = err_from_is_err_and c.from_residual.result c.from_residual.ensures.1 in
    rw (p.1, p.2) (λ rest. rw (was.same rest
    ∙ ap (λ (t : List ℕ). goes_on_from self.number self.before self.streams self.line.items t) (line_before line rest at c.in-Some.ensures.0.high (eqb-true _ _ c.in-Some.ensures.1)))
    (c.in_err-add_part-in-Some.ensures.refused (10 ∷ (take (length line - (at + 1)) (drop (at + 1) line) ++ rest))))

pub returns-in_err-add-in-Some-clause-refused : goal.returns-in_err-add-in-Some-clause-refused
returns-in_err-add-in-Some-clause-refused c =
    let was = c.lines.invariant in
    let self = c.lines.self in
    let line = c.lines.rest.now in
    let at = c.in-Some.at in
    let p = err_from_is_err_and c.from_residual-in_err-add-in-Some.result c.from_residual-in_err-add-in-Some.ensures.1 in
    rw (p.1, p.2) (λ rest. rw (was.same rest
    ∙ ap (λ (t : List ℕ). goes_on_from self.number self.before self.streams self.line.items t) (line_before line rest at c.in-Some.ensures.0.high (eqb-true _ _ c.in-Some.ensures.1))
    ∙ c.in_ok-add_part-in-Some.ensures.ok (10 ∷ (take (length line - (at + 1)) (drop (at + 1) line) ++ rest)))
    (c.in_err-add-in-Some.ensures.refused (take (length line - (at + 1)) (drop (at + 1) line) ++ rest)))

pub lines-preserved : goal.lines-preserved
lines-preserved c =
    let was = c.lines.invariant in
    let self = c.lines.self in
    let line = c.lines.rest.now in
    let at = c.in-Some.at in
    let within : at < length line = c.in-Some.ensures.0.high in
    let left = length-drop (at + 1) line in
    let all = take_all (length line - (at + 1)) (drop (at + 1) line) (omega (arith, left)) in
    let here : length (take (length line - (at + 1)) (drop (at + 1) line)) + (at + 1) ≡ length line = ap (λ (t : List ℕ). length t + (at + 1)) all ∙ omega (arith, left, within) in
    let part : length (take at line) ≡ at = length-take-le at line (omega (arith, within)) in
    record {
      sound = c.in_ok-add-in-Some.ensures.sound;
      same = λ later. was.same later
          ∙ ap (λ (t : List ℕ). goes_on_from self.number self.before self.streams self.line.items t) (line_before line later at within (eqb-true _ _ c.in-Some.ensures.1))
          ∙ c.in_ok-add_part-in-Some.ensures.ok (10 ∷ (take (length line - (at + 1)) (drop (at + 1) line) ++ later))
          ∙ c.in_ok-add-in-Some.ensures.ok (take (length line - (at + 1)) (drop (at + 1) line) ++ later);
      taken = omega (arith, was.taken, c.in_ok-add_part-in-Some.ensures.taken, c.in_ok-add-in-Some.ensures.taken, here, part);
    }
