-- How long a desk log gets: each request of the script is begun once at most, and answered once at most.
use Rattle.std.proofs.Common.{◌≡◌, ℕ, zero, suc, true, ◌+◌, ◌*◌, ◌-◌, ◌<◌, ◌≤◌, IsNone, Some, List, [], ◌∷◌, length, get_or, refl, ap, inl, inr, arith}
use Rattle.core_laws.proofs.Common.{AllByRecursion, DeskLine, Fails, Flushes, IsDeskLog, IsNextLine, Says, Script, Trace, Writer, answer_of, answered, begun, eqb_tells, is_answer, is_begin, lines, marks, same_tells, total}
use Rattle.vdo_model.specs.declared.report.DeskLine.TheVariants.{Begin, Answer}
use Rattle.core_model.specs.SessionLimits.{most_depth, most_of_stream, most_under_way_in, requests_in}
use Rattle.core_limits.proofs.StreamSums.{Apart, Inside, named, names_few, over, over_le, over_more, over_none, over_script, over_streams, stream_there}
use Rattle.core_limits.proofs.Rooms.{all_answered, all_begun, stream_bound, under_way}
use Rattle.std.proofs.Math.Nat.{le-min}
pub use Rattle.core_limits.proofs.StreamSums.{asked_inside, requests_of}
use Rattle.core_laws.proofs.trace.Growth.{begun_more}
use Rattle.core_model.specs.Trace.{receipts}
use Rattle.blk_base.specs.declared.request.Answer.TheVariants.{NoSpace}

-- no more of a stream are begun than it has
pub begun_few : (depth : ℕ) (script : Script) (log : List DeskLine) (stream : ℕ) → IsDeskLog depth script log → begun stream log ≤ requests_of script stream
begun_few depth script [] stream right = omega arith
begun_few depth script (Begin w ∷ older) stream right = elim (eqb_tells w.stream stream) [
  | inl same ↦
      let below = (asked_inside script w right.0.1).1 in
      let number = right.0.0 in
      let a = ap (λ k. begun k older) same.1 in
      let b = ap (requests_of script) same.1 in
      rw same.0 (omega (arith, below, number, a, b))
  | inr other ↦ rw other.0 (begun_few depth script older stream right.1)
]
begun_few depth script (Answer w a ∷ older) stream right = begun_few depth script older stream right.1

-- no more are begun than the script has
pub begins_few : (depth : ℕ) (script : Script) (log : List DeskLine) → IsDeskLog depth script log → total is_begin log ≤ requests_in script
begins_few depth script log right =
    let a = all_begun depth script log right in
    let b = over_le (length script) (λ i. begun i log) (requests_of script) (λ i. begun_few depth script log i right) in
    omega (arith, a, b, over_script script)

-- what is begun of each stream is a part of all that is
pub all_counted : (k : ℕ) (log : List DeskLine) → over k (λ i. begun i log) ≤ total is_begin log
all_counted k [] = over_none k (λ i. 0) (λ i. omega arith)
all_counted k (Begin w ∷ older) =
    let rest = all_counted k older in
    elim (over_more k w.stream (λ i. begun i older)) [ inl one ↦ omega (arith, rest, one.1) | inr none ↦ omega (arith, rest, none.1) ]
all_counted k (Answer w a ∷ older) = let rest = all_counted k older in omega (arith, rest)

-- the requests that are answered
abbrev pub answered_names : List DeskLine → List Writer
answered_names [] = []
answered_names (Begin w ∷ older) = answered_names older
answered_names (Answer w a ∷ older) = w ∷ answered_names older

-- each is its own name
abbrev pub itself : Writer → Writer
itself w = w

-- as many as are answered
pub as_many : (log : List DeskLine) → length (answered_names log) ≡ total is_answer log
as_many [] = refl
as_many (Begin w ∷ older) = omega (arith, as_many older)
as_many (Answer w a ∷ older) = omega (arith, as_many older)

-- a request without an answer isn't among them
pub none_named : (log : List DeskLine) (w : Writer) → IsNone (answer_of log w) → named itself w (answered_names log) ≡ 0
none_named [] w none = refl
none_named (Begin v ∷ older) w none = none_named older w none
none_named (Answer v a ∷ older) w none = elim (same_tells v w) [
  | inl same ↦ let one : IsNone (Some a) = rw same.0 at none in absurd cc
  | inr other ↦ let rest = none_named older w (rw other.0 at none) in rw other.0 (omega (arith, rest))
]

-- each is there once, and was begun
pub answered_apart : (depth : ℕ) (script : Script) (log : List DeskLine) → IsDeskLog depth script log → Apart itself (answered_names log)
answered_apart depth script [] right = tt
answered_apart depth script (Begin w ∷ older) right = answered_apart depth script older right.1
answered_apart depth script (Answer w a ∷ older) right = (none_named older w right.0.1, answered_apart depth script older right.1)

pub answered_inside : (depth : ℕ) (script : Script) (log : List DeskLine) (bound : ℕ → ℕ) → IsDeskLog depth script log → ((i : ℕ) → begun i log ≤ bound i)
    → AllByRecursion (Inside (length script) bound) (answered_names log)
answered_inside depth script [] bound right le = tt
answered_inside depth script (Begin w ∷ older) bound right le = answered_inside depth script older bound right.1 (λ i. let more = begun_more i (Begin w) older in omega (arith, le i, more))
answered_inside depth script (Answer w a ∷ older) bound right le =
    let below = right.0.0 in
    let few = begun_few depth script older w.stream right.1 in
    ((stream_there script w.stream (omega (arith, below, few)), omega (arith, below, le w.stream)), answered_inside depth script older bound right.1 le)

-- no more are answered than begun
pub answers_few : (depth : ℕ) (script : Script) (log : List DeskLine) → IsDeskLog depth script log → total is_answer log ≤ total is_begin log
answers_few depth script log right =
    let bound : ℕ → ℕ = λ i. begun i log in
    let a = names_few itself (length script) bound (answered_names log) (answered_apart depth script log right) (answered_inside depth script log bound right (λ i. omega arith)) in
    omega (arith, a, as_many log, all_counted (length script) log)

-- each line begins or answers
pub lines_are : (log : List DeskLine) → length log ≡ total is_begin log + total is_answer log
lines_are [] = refl
lines_are (Begin w ∷ older) = omega (arith, lines_are older)
lines_are (Answer w a ∷ older) = omega (arith, lines_are older)

-- so a log has two lines for each request at most
pub log_few : (depth : ℕ) (script : Script) (log : List DeskLine) → IsDeskLog depth script log → length log ≤ 2 * requests_in script
log_few depth script log right = omega (arith, lines_are log, answers_few depth script log right, begins_few depth script log right)

-- and two fewer where a request may be begun
pub log_before : (depth : ℕ) (script : Script) (log : List DeskLine) (w : Writer) → IsDeskLog depth script log → IsNextLine depth script (Begin w) log → length log + 2 ≤ 2 * requests_in script
log_before depth script log w right next =
    let more = begins_few depth script (Begin w ∷ log) (next, right) in
    omega (arith, lines_are log, answers_few depth script log right, more)

-- fewer than all that may be are under way where a request may be begun
pub under_way_before : (depth : ℕ) (script : Script) (log : List DeskLine) (w : Writer) → IsDeskLog depth script log → IsNextLine depth script (Begin w) log
    → total is_begin log < length script * depth + total is_answer log
under_way_before depth script log w right next = let more = under_way depth script (Begin w ∷ log) (next, right) in omega (arith, more)

-- of each stream no more are under way than it has, and than may be
stream_few : (depth : ℕ) (script : Script) (log : List DeskLine) (stream : ℕ) → IsDeskLog depth script log → depth ≤ most_depth
    → begun stream log ≤ answered stream log + most_of_stream (get_or script stream [])
stream_few depth script log stream right shallow =
    let all = begun_few depth script log stream right in
    let deep = stream_bound depth script log stream right in
    let few : begun stream log - answered stream log ≤ most_of_stream (get_or script stream []) = le-min (omega (arith, all)) (omega (arith, deep, shallow)) in
    omega (arith, few)

streams_few : (depth : ℕ) (script : Script) (log : List DeskLine) (k : ℕ) → IsDeskLog depth script log → depth ≤ most_depth
    → over k (λ i. begun i log) ≤ over k (λ i. answered i log) + over k (λ i. most_of_stream (get_or script i []))
streams_few depth script log zero right shallow = omega arith
streams_few depth script log (suc k) right shallow = omega (arith, streams_few depth script log k right shallow, stream_few depth script log k right shallow)

-- so fewer than all that may be of the streams of the script are under way where a request may be begun
pub under_way_few : (depth : ℕ) (script : Script) (log : List DeskLine) (w : Writer) → depth ≤ most_depth → IsDeskLog depth script log → IsNextLine depth script (Begin w) log
    → total is_begin log < most_under_way_in script + total is_answer log
under_way_few depth script log w shallow right next =
    let more : IsDeskLog depth script (Begin w ∷ log) = (next, right) in
    let a = all_begun depth script (Begin w ∷ log) more in
    let b = streams_few depth script (Begin w ∷ log) (length script) more shallow in
    let c = all_answered (length script) (Begin w ∷ log) in
    omega (arith, a, b, c, over_streams script)

-- each mark is that of an answer
pub marks_few : (t : Trace) → length (marks t) ≤ total is_answer (lines t)
marks_few [] = omega arith
marks_few (Says line ∷ t) = omega (arith, marks_few t)
marks_few (Flushes mark ∷ t) = omega (arith, marks_few t)
marks_few (Fails w c true ∷ t) = marks_few t
marks_few (other ∷ t) = marks_few t

-- and each receipt
pub receipts_few : (t : Trace) → length (receipts t) ≤ total is_answer (lines t)
receipts_few [] = omega arith
receipts_few (Says (Answer w NoSpace) ∷ t) = omega (arith, receipts_few t)
receipts_few (Says line ∷ t) = omega (arith, receipts_few t)
receipts_few (Flushes mark ∷ t) = omega (arith, receipts_few t)
receipts_few (Fails w c true ∷ t) = receipts_few t
receipts_few (other ∷ t) = receipts_few t
