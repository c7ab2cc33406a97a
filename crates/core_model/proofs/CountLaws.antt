-- What the desk counts goes on with its log.
use Rattle.std.proofs.Common.{ℕ, zero, suc, refl, drop, ◌≡◌, ◌+◌, ◌<◌, ◌≤◌, ◌==◌, List, [], ◌∷◌, ◌++◌, length, reverse, get_or, set, arith, cond, inl, inr, subst, ap, sym, ◌∙◌}
use Rattle.std.proofs.lemmas.Bool.Decides.{eqb_tells}
use Rattle.std.proofs.lemmas.Bool.{cases_lt}
use Rattle.std.proofs.lemmas.List.{get_or_past, get_or-set_other, get_or-set_same, length-reverse, length-set, reverse-append}
use Rattle.blk_base.specs.declared.request.Request.{Request}
use Rattle.blk_base.specs.declared.request.Request.TheVariants.{Read}
use Rattle.blk_base.specs.declared.request.Answer.{Answer as Reply}
use Rattle.blk_base.specs.declared.request.Writer.{Writer}
use Rattle.core_model.specs.DeskCounts.{AreBegunFrom, CountAnswered, CountBegun, CountEach}
use Rattle.core_model.specs.SessionLimits.{asks_read, most_streams, reads_in, requests_in}
use Rattle.plain_laws.specs.Sums.{total}
use Rattle.vdo_model.specs.Scripts.{Script, stream_of}
use Rattle.vdo_model.specs.DeskLog.{begun, answered}
use Rattle.vdo_model.specs.declared.report.DeskLine.{DeskLine}
use Rattle.vdo_model.specs.declared.report.DeskLine.TheVariants.{Begin, Answer}

-- no more are reads than there are
few_in_row : (requests : List Request) → total asks_read requests ≤ length requests
few_in_row [] = omega arith
few_in_row (Read at ∷ rest) = omega (arith, few_in_row rest)
few_in_row (other ∷ rest) = omega (arith, few_in_row rest)

pub few_in_all : (script : Script) → reads_in script ≤ requests_in script
few_in_all [] = omega arith
few_in_all (requests ∷ script) = omega (arith, few_in_row requests, few_in_all script)

-- the reads of one more stream
pub with_row : (script : Script) (n : ℕ) → n < length script → total asks_read (get_or script n []) + total (total asks_read) (drop (n + 1) script) ≡ total (total asks_read) (drop n script)
with_row [] n within = absurd (omega (arith, within))
with_row (requests ∷ script) zero within = refl
with_row (requests ∷ script) (suc n) within =
    let place : suc n + 1 ≡ suc (n + 1) = omega arith in
    rw place (with_row script n (omega (arith, within)))

-- those of the streams up to one are no more than there are requests
pub few_with_row : (script : Script) (n count : ℕ) → n < length script → count + total (total asks_read) (drop n script) ≡ reads_in script
    → count + total asks_read (get_or script n []) ≤ requests_in script
few_with_row script n count within right = omega (arith, with_row script n within, right, few_in_all script)

-- one more of a stream
abbrev raised : List ℕ → ℕ → List ℕ
raised counts w = set counts w (get_or counts w 0 + 1)

-- one stream's number is raised by one
counts_one : (count : ℕ → ℕ) (counts : List ℕ) (w : ℕ) → CountEach count counts
    → CountEach (λ stream. cond (w == stream) (count stream + 1) (count stream)) (raised counts w)
counts_one count counts w (long, each) =
    let same_length : length (raised counts w) ≡ most_streams = length-set counts w _ ∙ long in (
      same_length,
      λ stream below. elim (eqb_tells w stream) [
        | inl same ↦ rw same.0 (
            let inside : w < length counts = omega (arith, same.1, long, below) in
            ap (λ (n : ℕ). get_or (raised counts w) n 0) (sym same.1) ∙ get_or-set_same counts w (get_or counts w 0 + 1) 0 inside
            ∙ ap (λ (n : ℕ). get_or counts n 0 + 1) same.1 ∙ ap (λ (n : ℕ). n + 1) (each stream below)
            )
        | inr other ↦ rw other.0 (get_or-set_other counts w stream (get_or counts w 0 + 1) 0 (λ is. other.1 (sym is)) ∙ each stream below)
      ],
    )

-- a line of the list behind the others is the newest of the log
newest : (lines : List DeskLine) (line : DeskLine) → line ∷ reverse lines ≡ reverse (lines ++ line ∷ [])
newest lines line = sym (reverse-append lines (line ∷ []))

-- a request is begun
pub begins : (counts : List ℕ) (lines : List DeskLine) (w : Writer) → CountBegun counts (reverse lines)
    → CountBegun (raised counts w.stream) (reverse (lines ++ Begin w ∷ []))
begins counts lines w right = subst (λ (log : List DeskLine). CountBegun (raised counts w.stream) log) (newest lines (Begin w)) (counts_one (λ stream. begun stream (reverse lines)) counts w.stream right)

pub begins_none_answered : (counts : List ℕ) (lines : List DeskLine) (w : Writer) → CountAnswered counts (reverse lines)
    → CountAnswered counts (reverse (lines ++ Begin w ∷ []))
begins_none_answered counts lines w right = subst (λ (log : List DeskLine). CountAnswered counts log) (newest lines (Begin w)) right

-- a request is answered
pub answers : (counts : List ℕ) (lines : List DeskLine) (w : Writer) (a : Reply) → CountAnswered counts (reverse lines)
    → CountAnswered (raised counts w.stream) (reverse (lines ++ Answer w a ∷ []))
answers counts lines w a right = subst (λ (log : List DeskLine). CountAnswered (raised counts w.stream) log) (newest lines (Answer w a)) (counts_one (λ stream. answered stream (reverse lines)) counts w.stream right)

pub answers_none_begun : (counts : List ℕ) (lines : List DeskLine) (w : Writer) (a : Reply) → CountBegun counts (reverse lines)
    → CountBegun counts (reverse (lines ++ Answer w a ∷ []))
answers_none_begun counts lines w a right = subst (λ (log : List DeskLine). CountBegun counts log) (newest lines (Answer w a)) right

-- no more lines speak of a stream than there are
few_lines : (stream : ℕ) (log : List DeskLine) → begun stream log + answered stream log ≤ length log
few_lines stream [] = omega arith
few_lines stream (Begin w ∷ older) =
    let rest : begun stream older + answered stream older ≤ length older = few_lines stream older in
    elim (eqb_tells w.stream stream) [ inl same ↦ rw same.0 (omega (arith, rest)) | inr other ↦ rw other.0 (omega (arith, rest)) ]
few_lines stream (Answer w a ∷ older) =
    let rest : begun stream older + answered stream older ≤ length older = few_lines stream older in
    elim (eqb_tells w.stream stream) [ inl same ↦ rw same.0 (omega (arith, rest)) | inr other ↦ rw other.0 (omega (arith, rest)) ]

-- each number is at most that of the lines, also behind the last stream
few_each : (count : ℕ → ℕ) (counts : List ℕ) (w most : ℕ) → CountEach count counts → ((stream : ℕ) → count stream ≤ most) → get_or counts w 0 ≤ most
few_each count counts w most (long, each) few = elim (cases_lt w most_streams) [
  | inl below ↦ rw (each w below) (few w)
  | inr past ↦ rw (get_or_past counts w 0 (omega (arith, past, long))) (omega arith)
]

pub few_begun : (counts : List ℕ) (lines : List DeskLine) (w : ℕ) → CountBegun counts (reverse lines) → get_or counts w 0 ≤ length lines
few_begun counts lines w right = few_each (λ stream. begun stream (reverse lines)) counts w (length lines) right (λ stream.
    let few = few_lines stream (reverse lines) in let long = length-reverse lines in omega (arith, few, long))

pub few_answered : (counts : List ℕ) (lines : List DeskLine) (w : ℕ) → CountAnswered counts (reverse lines) → get_or counts w 0 ≤ length lines
few_answered counts lines w right = few_each (λ stream. answered stream (reverse lines)) counts w (length lines) right (λ stream.
    let few = few_lines stream (reverse lines) in let long = length-reverse lines in omega (arith, few, long))

-- no stream has begun less than before
begun_stays : (line : DeskLine) (older : List DeskLine) (stream : ℕ) → begun stream older ≤ begun stream (line ∷ older)
begun_stays (Begin w) older stream = elim (eqb_tells w.stream stream) [ inl same ↦ rw same.0 (omega arith) | inr other ↦ rw other.0 (omega arith) ]
begun_stays (Answer w a) older stream = omega arith

-- the streams that have begun all their requests, at the start, behind one more line, and with one more of them
pub none_begun : (script : Script) (log : List DeskLine) → AreBegunFrom (length script) script log
none_begun script log = λ stream past. rw (get_or_past script stream [] past) (omega arith)

pub still_begun : (script : Script) (lines : List DeskLine) (line : DeskLine) (first : ℕ) → AreBegunFrom first script (reverse lines)
    → AreBegunFrom first script (reverse (lines ++ line ∷ []))
still_begun script lines line first all = subst (λ (log : List DeskLine). AreBegunFrom first script log) (newest lines line)
    (λ stream past. let before = all stream past in let stays = begun_stays line (reverse lines) stream in omega (arith, before, stays))

pub more_begun : (script : Script) (log : List DeskLine) (counts : List ℕ) (left first : ℕ) → left ≤ most_streams → CountBegun counts log
    → ((stream : ℕ) → first ≤ stream → stream < left → length (stream_of script stream) ≤ get_or counts stream 0)
    → AreBegunFrom left script log → AreBegunFrom first script log
more_begun script log counts left first few right passed all = λ stream past. elim (cases_lt stream left) [
  | inl below ↦ (let counted = right.1 stream (omega (arith, below, few)) in let told = passed stream past below in omega (arith, counted, told))
  | inr behind ↦ all stream behind
]
