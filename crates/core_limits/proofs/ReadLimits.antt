-- How many blocks a desk log has: bytes are given to reads alone, and to each once at most.
use Rattle.std.proofs.Common.{◌≡◌, ◌∙◌, ℕ, true, ◌+◌, ◌<◌, ◌≤◌, IsNone, IsSome, Option, Some, None, List, [], ◌∷◌, length, get_or, slice_get, refl, ap, sym, subst, inl, inr, arith}
use Rattle.std.proofs.lemmas.Option.{slice_get-get_or}
use Rattle.blk_base.specs.declared.place.Lba.{Lba}
use Rattle.blk_base.specs.declared.request.Answer.{Answer as Reply}
use Rattle.blk_base.specs.declared.request.Answer.TheVariants as reply
use Rattle.blk_base.specs.declared.request.Request.{Request}
use Rattle.blk_base.specs.declared.request.Request.TheVariants as request
use Rattle.blk_base.specs.Forms.{writer}
use Rattle.core_laws.proofs.Common.{AllByRecursion, DeskLine, Fails, Flushes, IsDeskLog, MayAnswer, RightTrace, Says, Script, Session, Trace, Writer, answer_of, begun, lines, request_at, same_tells, total}
use Rattle.core_laws.proofs.trace.DeskOfTrace.{desk_log_right}
use Rattle.core_model.specs.DeskLines.{is_bytes}
use Rattle.core_model.specs.SessionLimits.{asks_read, reads_in}
use Rattle.vdo_model.specs.declared.report.DeskLine.TheVariants.{Begin, Answer}
use Rattle.core_limits.proofs.DeskLimits.{begun_few, itself}
use Rattle.core_limits.proofs.StreamSums.{Apart, Inside, all_named, asked_inside, named, of_stream, over, over_first, over_le, requests_of}

-- the requests that are answered with bytes
abbrev given_names : List DeskLine → List Writer
given_names [] = []
given_names (Begin w ∷ older) = given_names older
given_names (Answer w (reply.Bytes bytes) ∷ older) = w ∷ given_names older
given_names (Answer w other ∷ older) = given_names older

-- as many as there are blocks
as_many : (log : List DeskLine) → total is_bytes log ≡ length (given_names log)
as_many [] = refl
as_many (Begin w ∷ older) = omega (arith, as_many older)
as_many (Answer w (reply.Bytes bytes) ∷ older) = omega (arith, as_many older)
as_many (Answer w other ∷ older) = omega (arith, as_many older)

-- a request without an answer isn't among them
none_given : (log : List DeskLine) (w : Writer) → IsNone (answer_of log w) → named itself w (given_names log) ≡ 0
none_given [] w none = refl
none_given (Begin v ∷ older) w none = none_given older w none
none_given (Answer v (reply.Bytes bytes) ∷ older) w none = elim (same_tells v w) [
  | inl same ↦ let one : IsNone (Some (reply.Bytes bytes)) = rw same.0 at none in absurd cc
  | inr other ↦ let rest = none_given older w (rw other.0 at none) in rw other.0 (omega (arith, rest))
]
none_given (Answer v a ∷ older) w none = elim (same_tells v w) [
  | inl same ↦ let one : IsNone (Some a) = rw same.0 at none in absurd cc
  | inr other ↦ none_given older w (rw other.0 at none)
]

-- each is there once
given_apart : (depth : ℕ) (script : Script) (log : List DeskLine) → IsDeskLog depth script log → Apart itself (given_names log)
given_apart depth script [] right = tt
given_apart depth script (Begin w ∷ older) right = given_apart depth script older right.1
given_apart depth script (Answer w (reply.Bytes bytes) ∷ older) right = (none_given older w right.0.1, given_apart depth script older right.1)
given_apart depth script (Answer w other ∷ older) right = given_apart depth script older right.1

-- a request of the script that reads
abbrev IsReadOf : Script → Writer → Type 0
IsReadOf script w = (address : Lba) × (request_at script w ≡ Some (request.Read address))

-- bytes are the answer of a read
bytes_read : (s : Session) (t : Trace) (w : Writer) (r : Request) (bytes : List ℕ) → MayAnswer s t w r (reply.Bytes bytes) → (address : Lba) × (r ≡ request.Read address)
bytes_read s t w (request.Read address) bytes may = (address, refl)
bytes_read s t w (request.Write address block fua) bytes may = absurd may
bytes_read s t w (request.Discard address) bytes may = absurd may
bytes_read s t w request.Flush bytes may = absurd may

-- a request that is begun is one of the script
begun_there : (depth : ℕ) (script : Script) (log : List DeskLine) (w : Writer) → IsDeskLog depth script log → w.number < begun w.stream log
    → request_at script w ≡ Some (get_or (get_or script w.stream []) w.number request.Flush)
begun_there depth script log w right below =
    let few = begun_few depth script log w.stream right in
    slice_get-get_or (get_or script w.stream []) w.number request.Flush (omega (arith, below, few))

-- each of them reads
given_reads : (s : Session) (t : Trace) → RightTrace s t → AllByRecursion (IsReadOf s.script) (given_names (lines t))
given_reads s [] right = tt
given_reads s (Says (Begin w) ∷ t) right = given_reads s t right.2
given_reads s (Says (Answer w (reply.Bytes bytes)) ∷ t) right =
    let there = begun_there s.sizes.depth s.script (lines t) w (desk_log_right s t right.2) right.0.0.0 in
    let reads = bytes_read s t w _ bytes (right.0.1 _ there) in
    ((reads.0, there ∙ ap Some reads.1), given_reads s t right.2)
given_reads s (Says (Answer w other) ∷ t) right = given_reads s t right.2
given_reads s (Flushes mark ∷ t) right = given_reads s t right.2
given_reads s (Fails w c true ∷ t) right = given_reads s t right.2
given_reads s (other ∷ t) right = given_reads s t right.2

-- 1 where it is a read
abbrev read_bit : Option Request → ℕ
read_bit None = 0
read_bit (Some r) = asks_read r

-- each request is there once at most, and only where it reads
once_read : (script : Script) (w : Writer) (names : List Writer) → Apart itself names → AllByRecursion (IsReadOf script) names
    → named itself w names ≤ read_bit (request_at script w)
once_read script w [] apart reads = omega arith
once_read script w (v ∷ names) apart reads = elim (same_tells v w) [
  | inl same ↦
      let none : named itself w names ≡ 0 = subst (λ (x : Writer). named itself x names ≡ 0) same.1 apart.0 in
      let is : request_at script w ≡ Some (request.Read reads.0.0) = subst (λ (x : Writer). request_at script x ≡ Some (request.Read reads.0.0)) same.1 reads.0.1 in
      let one : read_bit (request_at script w) ≡ 1 = ap read_bit is in
      rw same.0 (omega (arith, none, one))
  | inr other ↦ rw other.0 (omega (arith, once_read script w names apart.1 reads.1))
]

-- each is a request of the script
given_inside : (script : Script) (names : List Writer) → AllByRecursion (IsReadOf script) names → AllByRecursion (Inside (length script) (requests_of script)) names
given_inside script [] reads = tt
given_inside script (w ∷ names) reads =
    (asked_inside script w (subst (λ (o : Option Request). IsSome o) (sym reads.0.1) refl), given_inside script names reads.1)

-- the reads of a stream, and of all
row_reads : (requests : List Request) → over (length requests) (λ n. read_bit (slice_get requests n)) ≡ total asks_read requests
row_reads [] = refl
row_reads (r ∷ rest) = omega (arith, over_first (length rest) (λ n. read_bit (slice_get (r ∷ rest) n)), row_reads rest)

abbrev reads_of : Script → ℕ → ℕ
reads_of script i = over (requests_of script i) (λ n. read_bit (request_at script (writer i n)))

all_reads : (script : Script) → over (length script) (reads_of script) ≡ reads_in script
all_reads [] = refl
all_reads (requests ∷ script) = omega (arith, over_first (length script) (reads_of (requests ∷ script)), row_reads requests, all_reads script)

-- so a log has no more blocks than its script has reads
pub bytes_few : (s : Session) (t : Trace) → RightTrace s t → total is_bytes (lines t) ≤ reads_in s.script
bytes_few s t right =
    let names = given_names (lines t) in
    let apart = given_apart s.sizes.depth s.script (lines t) (desk_log_right s t right) in
    let reads = given_reads s t right in
    let counted = all_named itself (length s.script) (requests_of s.script) names (given_inside s.script names reads) in
    let few = over_le (length s.script) (of_stream itself (requests_of s.script) names) (reads_of s.script) (λ i.
    over_le (requests_of s.script i) (λ n. named itself (writer i n) names) (λ n. read_bit (request_at s.script (writer i n))) (λ n. once_read s.script (writer i n) names apart reads)) in
    omega (arith, as_many (lines t), counted, few, all_reads s.script)
