-- The desk log: for each clause a line or a log that it accepts, and one that it refuses.
use Rattle.std.proofs.Common.{◌≡◌, ◌+◌, ◌<◌, [], ◌∷◌, Some, None, IsSome, IsNone, refl, arith, rules}
use Rattle.blk_base.specs.declared.request.Answer.TheVariants as reply
use Rattle.blk_base.specs.Sectors.{filled_block as block}
use Rattle.vdo_model.specs.declared.report.DeskLine.TheVariants.{Begin, Answer}
use Rattle.vdo_model.specs.Scripts.{request_at}
use Rattle.vdo_model.specs.DeskLog.{begun, answered, answer_of, before_begin, IsNextLine, IsDeskLog, AllAnswered}
use Rattle.vdo_model.proofs.Example.{of_a, of_b, script, first_lines, unfinished, desk, each_request}

-- begun, answered: of the first six lines two requests of each stream are begun, and two of a are answered
begun_of_a : begun 0 first_lines ≡ 2
begun_of_a = refl

begun_of_b : begun 1 first_lines ≡ 2
begun_of_b = refl

answered_of_a : answered 0 first_lines ≡ 2
answered_of_a = refl

answered_of_b : answered 1 first_lines ≡ 0
answered_of_b = refl

-- answer_of: the request's own answer, once it is there
has_answer : answer_of desk (of_b 1) ≡ Some (reply.Bytes (block 1))
has_answer = refl

no_answer_yet : answer_of first_lines (of_b 1) ≡ None
no_answer_yet = refl

-- before_begin: the lines before its own Begin, and none where it isn't begun
before_b0 : before_begin desk (of_b 0) ≡ Begin (of_a 1) ∷ Answer (of_a 0) reply.Ok ∷ Begin (of_a 0) ∷ []
before_b0 = refl

never_begun : before_begin first_lines (of_a 2) ≡ []
never_begun = refl

-- a Begin, its number: a has begun two requests, so it begins the one with number 2; it doesn't begin one again
next_number : IsNextLine 2 script (Begin (of_a 2)) first_lines
next_number = (refl, refl, omega arith)

begun_again : IsNextLine 2 script (Begin (of_a 1)) first_lines → ⊥
begun_again may = omega (arith, may.0)

begun_again_alone : IsSome (request_at script (of_a 1)) × (begun 0 first_lines < answered 0 first_lines + 2)
begun_again_alone = (refl, omega arith)

-- a Begin, its number: none is left out
first_number : IsNextLine 2 script (Begin (of_a 0)) []
first_number = (refl, refl, omega arith)

one_left_out : IsNextLine 2 script (Begin (of_a 1)) [] → ⊥
one_left_out may = omega (arith, may.0)

one_left_out_alone : IsSome (request_at script (of_a 1)) × (begun 0 [] < answered 0 [] + 2)
one_left_out_alone = (refl, omega arith)

-- a Begin, its request: the script has three requests of a, and no fourth one begins
no_such_request : IsNextLine 2 script (Begin (of_a 3)) desk → ⊥
no_such_request may = absurd (let is = may.1 in cc)

no_such_request_alone : (3 ≡ begun 0 desk) × (begun 0 desk < answered 0 desk + 2)
no_such_request_alone = (refl, omega arith)

-- a Begin, the depth: two requests of b are under way, so a third one begins at depth 3, and not at depth 2
not_so_deep : IsNextLine 3 script (Begin (of_b 2)) first_lines
not_so_deep = (refl, refl, omega arith)

too_deep : IsNextLine 2 script (Begin (of_b 2)) first_lines → ⊥
too_deep may = omega (arith, may.2)

too_deep_alone : (2 ≡ begun 1 first_lines) × IsSome (request_at script (of_b 2))
too_deep_alone = (refl, refl)

-- an Answer behind its Begin: the later request of b may be answered first; the one of a with number 2 isn't begun
answered_out_of_order : IsNextLine 2 script (Answer (of_b 1) (reply.Bytes (block 1))) first_lines
answered_out_of_order = (omega arith, refl)

answered_before_begin : IsNextLine 2 script (Answer (of_a 2) reply.Ok) first_lines → ⊥
answered_before_begin may = omega (arith, may.0)

answered_before_begin_alone : IsNone (answer_of first_lines (of_a 2))
answered_before_begin_alone = refl

-- an Answer, once: that of b with number 1 has none yet, and that of a with number 1 has one
answered_twice : IsNextLine 2 script (Answer (of_a 1) reply.Ok) first_lines → ⊥
answered_twice may = absurd (let is = may.1 in cc)

answered_twice_alone : 1 < begun 0 first_lines
answered_twice_alone = omega arith

-- a desk log, each line: the whole run; and not where an older line is wrong, though the newest is right
pub run_is_desk_log : IsDeskLog 2 script desk
run_is_desk_log = search rules

older_line_wrong : IsDeskLog 2 script (Begin (of_b 0) ∷ Begin (of_a 1) ∷ []) → ⊥
older_line_wrong log = one_left_out log.1.0

older_line_wrong_alone : IsNextLine 2 script (Begin (of_b 0)) (Begin (of_a 1) ∷ [])
older_line_wrong_alone = (refl, refl, omega arith)

-- all answered: the whole run; and not while the last flush has no answer, though that is a desk log
pub run_all_answered : AllAnswered script desk
run_all_answered = each_request (λ w. IsSome (answer_of desk w)) refl refl refl refl refl refl

one_unanswered : AllAnswered script unfinished → ⊥
one_unanswered all = absurd (let is = all (of_b 2) refl in cc)

one_unanswered_alone : IsDeskLog 2 script unfinished
one_unanswered_alone = run_is_desk_log.1
