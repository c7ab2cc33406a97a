-- A desk log has two lines for each request of its script exactly where each request is answered.
use Rattle.std.proofs.Common.{◌≡◌, ℕ, zero, suc, ◌+◌, ◌*◌, ◌<◌, ◌≤◌, Bool, if◌then◌else◌, IsNone, IsSome, List, [], ◌∷◌, length, slice_get, get_or, sym, subst, inl, inr, arith}
use Rattle.std.proofs.lemmas.Option.{slice_get_cases}
use Rattle.blk_base.specs.Forms.{writer}
use Rattle.core_laws.proofs.Common.{AllAnswered, AllByRecursion, DeskLine, IsDeskLog, Request, Script, Writer, answer_of, eqb_tells, is_answer, none_is, option_cases, request_at, same_tells, some_is, total}
use Rattle.vdo_model.specs.declared.report.DeskLine.TheVariants.{Begin, Answer}
use Rattle.core_model.specs.SessionLimits.{requests_in}
use Rattle.core_limits.proofs.StreamSums.{Apart, Inside, more_of, named, names_few, of_stream, over, over_le, over_more, over_none, over_script}
use Rattle.core_limits.proofs.DeskLimits.{answered_apart, answered_inside, answered_names, answers_few, as_many, asked_inside, begins_few, begun_few, itself, lines_are, log_few, none_named, requests_of}

-- where each is at least 1
over_all : (k : ℕ) (f : ℕ → ℕ) → ((i : ℕ) → i < k → 1 ≤ f i) → k ≤ over k f
over_all zero f ones = omega arith
over_all (suc k) f ones = let here = ones k (omega arith) in omega (arith, here, over_all k f (λ i below. ones i (omega (arith, below))))

-- one more name is counted in its stream alone, and there at its number alone
counted_once : (bound : ℕ → ℕ) (w : Writer) (names : List Writer) (i : ℕ) → of_stream itself bound (w ∷ names) i ≤ more_of w.stream (of_stream itself bound names) i
counted_once bound w names i =
    let before : ℕ → ℕ = λ n. named itself (writer i n) names in
    let now : ℕ → ℕ = λ n. named itself (writer i n) (w ∷ names) in
    let Counted : Bool → Type 0 = λ here. over (bound i) now ≤ (if here then over (bound i) before + 1 else over (bound i) before) in
    elim (eqb_tells w.stream i) [
      | inl same ↦
          let each : (n : ℕ) → now n ≤ more_of w.number before n = λ n. elim (eqb_tells w.number n) [ inl number ↦ rw (same.0, number.0) (omega arith) | inr other ↦ rw (same.0, other.0) (omega arith) ] in
          let few = over_le (bound i) now (more_of w.number before) each in
          let one : over (bound i) now ≤ over (bound i) before + 1 = elim (over_more (bound i) w.number before) [ inl more ↦ omega (arith, few, more.1) | inr none ↦ omega (arith, few, none.1) ] in
          subst Counted (sym same.0) one
      | inr other ↦
          let none = over_le (bound i) now before (λ n. rw other.0 (omega arith)) in
          subst Counted (sym other.0) none
    ]

-- so no more are counted at all numbers of all streams than there are
all_counted_once : (k : ℕ) (bound : ℕ → ℕ) (names : List Writer) → over k (of_stream itself bound names) ≤ length names
all_counted_once k bound [] = over_none k (of_stream itself bound []) (λ i. over_none (bound i) (λ n. 0) (λ n. omega arith))
all_counted_once k bound (w ∷ names) =
    let rest = all_counted_once k bound names in
    let few = over_le k (of_stream itself bound (w ∷ names)) (more_of w.stream (of_stream itself bound names)) (counted_once bound w names) in
    elim (over_more k w.stream (of_stream itself bound names)) [ inl more ↦ omega (arith, rest, few, more.1) | inr none ↦ omega (arith, rest, few, none.1) ]

-- a request with an answer is among those that are answered
some_named : (log : List DeskLine) (w : Writer) → IsSome (answer_of log w) → 1 ≤ named itself w (answered_names log)
some_named [] w some = absurd cc
some_named (Begin v ∷ older) w some = some_named older w some
some_named (Answer v a ∷ older) w some = elim (same_tells v w) [
  | inl same ↦ rw same.0 (omega arith)
  | inr other ↦ let rest = some_named older w (rw other.0 at some) in rw other.0 (omega (arith, rest))
]

-- below its length a stream has a request
pub asked_there : (requests : List Request) (n : ℕ) → n < length requests → IsSome (slice_get requests n)
asked_there requests n below = elim (slice_get_cases requests n).1 [ inl there ↦ some_is _ _ there.2 | inr past ↦ absurd (omega (arith, below, past.0)) ]

-- where each request is answered, there are as many answers
answers_many : (script : Script) (log : List DeskLine) → AllAnswered script log → requests_in script ≤ total is_answer log
answers_many script log all =
    let each : (i : ℕ) → requests_of script i ≤ of_stream itself (requests_of script) (answered_names log) i
    = λ i. over_all (requests_of script i) (λ n. named itself (writer i n) (answered_names log)) (λ n below. some_named log (writer i n) (all (writer i n) (asked_there (get_or script i []) n below))) in
    let many = over_le (length script) (requests_of script) (of_stream itself (requests_of script) (answered_names log)) each in
    omega (arith, many, all_counted_once (length script) (requests_of script) (answered_names log), as_many log, over_script script)

pub full_when_answered : (depth : ℕ) (script : Script) (log : List DeskLine) → IsDeskLog depth script log → AllAnswered script log → length log ≡ 2 * requests_in script
full_when_answered depth script log right all = omega (arith, lines_are log, answers_few depth script log right, log_few depth script log right, answers_many script log all)

-- A request of the script without an answer stands apart from those that are answered: with it they still fit the script.
room_for_one : (depth : ℕ) (script : Script) (log : List DeskLine) (w : Writer) → IsDeskLog depth script log → IsSome (request_at script w) → IsNone (answer_of log w)
    → total is_answer log + 1 ≤ requests_in script
room_for_one depth script log w right some none =
    let apart : Apart itself (w ∷ answered_names log) = (none_named log w none, answered_apart depth script log right) in
    let inside : AllByRecursion (Inside (length script) (requests_of script)) (w ∷ answered_names log)
    = (asked_inside script w some, answered_inside depth script log (requests_of script) right (λ i. begun_few depth script log i right)) in
    let few = names_few itself (length script) (requests_of script) (w ∷ answered_names log) apart inside in
    omega (arith, few, as_many log, over_script script)

pub answered_when_full : (depth : ℕ) (script : Script) (log : List DeskLine) → IsDeskLog depth script log → length log ≡ 2 * requests_in script → AllAnswered script log
answered_when_full depth script log right full w some = elim (option_cases (answer_of log w)) [
  | inl none ↦ absurd (omega (arith, full, lines_are log, begins_few depth script log right, room_for_one depth script log w right some (none_is _ none)))
  | inr there ↦ some_is _ _ there.1
]
