-- A desk log of which nothing is under way, and in which no stream may begin a request, is full.
use Rattle.std.proofs.Common.{◌≡◌, ℕ, ◌+◌, ◌<◌, ◌≤◌, List, [], ◌∷◌, length, get_or, refl, ap, subst, inl, inr, arith}
use Rattle.std.proofs.lemmas.Bool.{cases_lt}
use Rattle.blk_base.specs.Forms.{writer}
use Rattle.core_laws.proofs.Common.{DeskLine, IsDeskLog, IsNextLine, Script, Writer, answered, begun, bit, eqb_tells, is_answer, is_begin, same_self, same_writer, total}
use Rattle.vdo_model.specs.declared.report.DeskLine.TheVariants.{Begin, Answer}
use Rattle.core_model.specs.SessionLimits.{requests_in}
use Rattle.core_laws.proofs.trace.Growth.{begun_more}
use Rattle.core_limits.proofs.DeskLimits.{all_counted, answered_apart, answered_names, begun_few, itself, requests_of}
use Rattle.core_limits.proofs.FullLogs.{asked_there}
use Rattle.core_limits.proofs.StreamSums.{stream_there}
use Rattle.core_limits.proofs.StreamSums.{named, once, over, over_le, over_less, over_more, over_ones, over_script}

-- the answers of a stream are counted at their numbers, which are below what is begun of it
by_number : (depth : ℕ) (script : Script) (log : List DeskLine) (i bound : ℕ) → IsDeskLog depth script log → begun i log ≤ bound → answered i log ≤ over bound (λ n. named itself (writer i n) (answered_names log))
by_number depth script [] i bound right le = omega arith
by_number depth script (Begin w ∷ older) i bound right le = by_number depth script older i bound right.1 (let more = begun_more i (Begin w) older in omega (arith, le, more))
by_number depth script (Answer w a ∷ older) i bound right le =
    let rest = by_number depth script older i bound right.1 le in
    let before : ℕ → ℕ = λ n. named itself (writer i n) (answered_names older) in
    let now : ℕ → ℕ = λ n. named itself (writer i n) (w ∷ answered_names older) in
    elim (eqb_tells w.stream i) [
      | inl same ↦
          let number = right.0.0 in
          let stream = ap (λ k. begun k older) same.1 in
          let one : bit (same_writer w (writer i w.number)) ≡ 1 = subst (λ (k : ℕ). bit (same_writer w (writer k w.number)) ≡ 1) same.1 (ap bit (same_self w)) in
          let more = over_less bound w.number before now (λ n. omega arith) (omega (arith, one)) (omega (arith, number, stream, le)) in
          let said : answered i (Answer w a ∷ older) ≡ answered i older + 1 = rw same.0 refl in
          omega (arith, said, rest, more)
      | inr other ↦
          let more = over_le bound before now (λ n. omega arith) in
          let said : answered i (Answer w a ∷ older) ≡ answered i older = rw other.0 refl in
          omega (arith, said, rest, more)
    ]

-- so no more of it are answered than begun
answered_few : (depth : ℕ) (script : Script) (log : List DeskLine) (i : ℕ) → IsDeskLog depth script log → answered i log ≤ begun i log
answered_few depth script log i right =
    let counted = by_number depth script log i (begun i log) right (omega arith) in
    let ones = over_ones (begun i log) (λ n. named itself (writer i n) (answered_names log)) (λ n. once itself (writer i n) (answered_names log) (answered_apart depth script log right)) in
    omega (arith, counted, ones)

-- all answers are of streams of the script
all_answers : (depth : ℕ) (script : Script) (log : List DeskLine) → IsDeskLog depth script log → total is_answer log ≤ over (length script) (λ i. answered i log)
all_answers depth script [] right = omega arith
all_answers depth script (Begin w ∷ older) right = let rest = all_answers depth script older right.1 in omega (arith, rest)
all_answers depth script (Answer w a ∷ older) right =
    let rest = all_answers depth script older right.1 in
    let number = right.0.0 in
    let few = begun_few depth script older w.stream right.1 in
    elim (over_more (length script) w.stream (λ i. answered i older)) [
      | inl one ↦ omega (arith, rest, one.1)
      | inr none ↦ let there = stream_there script w.stream (omega (arith, number, few)) in absurd (omega (arith, none.0, there))
    ]

-- Where no more are begun than answered, that is so of each stream.
module _ (depth : ℕ) (script : Script) (log : List DeskLine) (right : IsDeskLog depth script log) (all : total is_begin log ≤ total is_answer log) where
  each_answered : (i : ℕ) → i < length script → begun i log ≤ answered i log
  each_answered i there = elim (cases_lt (answered i log) (begun i log)) [
    | inr most ↦ most
    | inl fewer ↦
        let less = over_less (length script) i (λ j. answered j log) (λ j. begun j log) (λ j. answered_few depth script log j right) fewer there in
        absurd (omega (arith, less, all_counted (length script) log, all, all_answers depth script log right))
  ]

  -- and where no stream may begin one, all that it has are begun
  module _ (some : 1 ≤ depth) (none_begins : (w : Writer) → IsNextLine depth script (Begin w) log → ⊥) where
    each_begun : (i : ℕ) → requests_of script i ≤ begun i log
    each_begun i = elim (cases_lt (begun i log) (requests_of script i)) [
      | inr most ↦ most
      | inl fewer ↦
          let there = stream_there script i (omega (arith, fewer)) in
          let answers = each_answered i there in
          absurd (none_begins (writer i (begun i log)) (refl, asked_there (get_or script i []) (begun i log) fewer, omega (arith, answers, some)))
    ]

    pub all_there : requests_in script ≤ total is_begin log
    all_there = let many = over_le (length script) (requests_of script) (λ i. begun i log) each_begun in omega (arith, many, over_script script, all_counted (length script) log)
