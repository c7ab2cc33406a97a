-- What the log of the recovery journal has, as the session goes on.
use Rattle.std.proofs.Common.{ℕ, ◌+◌, ◌<◌, ◌≡◌, List, [], ◌∷◌, ◌++◌, length, map, reverse, take, refl, sym, ◌∙◌, ap, arith, length-append}
use Rattle.std.proofs.lemmas.List.{reverse-append}
use Rattle.std.proofs.Math.Seq.{take-append_seam}
use Rattle.blk_base.specs.declared.journal_entry.CommittedEntry.{CommittedEntry}
use Rattle.core_laws.proofs.Common.{Commits, Enters, Entry, IsLogOf, Logged, RightTrace, Seals, Session, Trace, Vio, all_logged, all_of, entry_of, filled, sealed, durable}
use Rattle.core_laws.proofs.trace.DeskOfTrace.{committed_sealed}
use Rattle.core_laws.proofs.journal.SealedBlocks.{block_length, logged_length, map_both, map_length, reverse_more}
use Rattle.core_model.specs.JournalRules.{HasNext, IsSealable, appended, handed_out, sealed_log}
use Rattle.core_model.specs.Sessions.{said_by}
use Rattle.core_model.specs.Start.{first_log}
use Rattle.recovery_journal.specs.Log.{Log, first_sequence, head_of, placed}

-- The entries of a block are those that stood in it.

said_placed : (sequence number : ℕ) (entries : List Entry) → said_by (placed sequence number entries) ≡ entries
said_placed sequence number [] = refl
said_placed sequence number (e ∷ es) = ap (λ (xs : List Entry). e ∷ xs) (said_placed sequence (number + 1) es)

said_more : (older : List CommittedEntry) (sequence : ℕ) (entries : List Entry) → said_by (older ++ placed sequence 0 entries) ≡ said_by older ++ entries
said_more older sequence entries = map_both (λ (c : CommittedEntry). c.entry) older (placed sequence 0 entries) ∙ ap (λ (xs : List Entry). said_by older ++ xs) (said_placed sequence 0 entries)

-- a block that is sealed with an entry leaves the head where it was
first_stays : (older : List CommittedEntry) (sequence : ℕ) (entries : List Entry) → 0 < length entries → first_sequence (older ++ placed sequence 0 entries) (sequence + 1) ≡ first_sequence older sequence
first_stays (c ∷ older) sequence entries some = refl
first_stays [] sequence [] some = absurd (omega (arith, some))
first_stays [] sequence (e ∷ entries) some = omega arith

head_stays : (log : Log) → 0 < length log.filling → head_of (sealed_log log) ≡ head_of log
head_stays log some = first_stays log.entries log.sequence log.filling some

-- how many entries it has
pub filling_length : (s : Session) (t : Trace) (log : Log) → IsLogOf s t log → length log.filling ≡ length (filled t)
filling_length s t log k = ap length k.filling_is ∙ block_length s (filled t)

entries_length : (s : Session) (t : Trace) (log : Log) → IsLogOf s t log → length log.entries ≡ length (all_of (sealed t))
entries_length s t log k = sym (map_length (λ (c : CommittedEntry). c.entry) log.entries) ∙ ap length k.entries_are ∙ block_length s (all_of (sealed t))

-- At the start of a session.
pub log_at_start : (s : Session) (log : Log) → log ≡ first_log s.sizes → IsLogOf s [] log
log_at_start s log is =
    rw is (record {
      size_is = refl;
      sequence_is = omega arith;
      head_is = refl;
      filling_is = refl;
      entries_are = refl;
      handed_is = refl;
      durable_is = λ all. refl;
    })

-- Where these lists stay, so does what it has.
pub log_over : (s : Session) (t u : Trace) (log : Log) → filled u ≡ filled t → sealed u ≡ sealed t → durable u ≡ durable t → IsLogOf s t log → IsLogOf s u log
log_over s t u log same_filled same_sealed same_committed k = record {
  size_is = k.size_is;
  sequence_is = k.sequence_is ∙ ap (λ (blocks : List (List Logged)). s.sizes.start + (length blocks)) (sym same_sealed);
  head_is = k.head_is;
  filling_is = k.filling_is ∙ ap (λ (es : List Logged). reverse (map entry_of es)) (sym same_filled);
  entries_are = k.entries_are ∙ ap (λ (blocks : List (List Logged)). reverse (map entry_of (all_of blocks))) (sym same_sealed);
  handed_is = k.handed_is ∙ ap length (sym same_committed);
  durable_is = λ all. k.durable_is (sym (ap all_of same_sealed) ∙ all ∙ same_committed);
}

-- An entry is handed in.
pub log_entered : (s : Session) (t : Trace) (log : Log) (e : Logged) → IsLogOf s t log → IsLogOf s (Enters e ∷ t) (appended (entry_of e) log)
log_entered s t log e k = record {
  size_is = k.size_is;
  sequence_is = k.sequence_is;
  head_is = k.head_is;
  filling_is = ap (λ (es : List Entry). es ++ entry_of e ∷ []) k.filling_is ∙ sym (reverse_more (entry_of e) (map entry_of (filled t)));
  entries_are = k.entries_are;
  handed_is = k.handed_is;
  durable_is = k.durable_is;
}

-- The next one is committed.
pub log_committed : (s : Session) (t : Trace) (log : Log) (e : Logged) → IsLogOf s t log → IsLogOf s (Commits e ∷ t) (handed_out log)
log_committed s t log e k = record {
  size_is = k.size_is;
  sequence_is = k.sequence_is;
  head_is = k.head_is;
  filling_is = k.filling_is;
  entries_are = k.entries_are;
  handed_is = let handed = k.handed_is in omega (arith, handed);
  durable_is = λ all. refl;
}

-- The block being filled is sealed.
module _ (s : Session) (t : Trace) (log : Log) (k : IsLogOf s t log) (some : 0 < length (filled t)) (all_committed : all_of (sealed t) ≡ durable t) where
  log_some : 0 < length log.filling
  log_some = let count = filling_length s t log k in omega (arith, some, count)

  pub log_sealed : IsLogOf s (Seals ∷ t) (sealed_log log)
  log_sealed = record {
    size_is = k.size_is;
    sequence_is = let sequence = k.sequence_is in omega (arith, sequence);
    head_is = head_stays log log_some ∙ k.head_is;
    filling_is = refl;
    entries_are =
        said_more log.entries log.sequence log.filling ∙ ap (λ (xs : List Entry). xs ++ log.filling) k.entries_are ∙ ap (λ (xs : List Entry). reverse (map entry_of (all_of (sealed t))) ++ xs) k.filling_is
        ∙ sym (reverse-append (map entry_of (filled t)) (map entry_of (all_of (sealed t)))) ∙ ap reverse (sym (map_both entry_of (filled t) (all_of (sealed t))));
    handed_is = k.handed_is;
    durable_is = λ all.
        let longer = length-append (filled t) (all_of (sealed t)) in
        let same = ap length all in
        let before = ap length all_committed in
        absurd (omega (arith, longer, same, before, some));
  }

-- It can be sealed where it has an entry, and all others are committed.
pub is_sealable : (s : Session) (t : Trace) (log : Log) → IsLogOf s t log → 0 < length log.filling → all_of (sealed t) ≡ durable t → IsSealable log
is_sealable s t log k some all_committed = record { some = some; durable = k.durable_is all_committed }

-- There is a next entry where not all are committed.
pub has_next : (s : Session) (t : Trace) (log : Log) (vs : List Vio) → IsLogOf s t log → all_of (sealed t) ≡ all_logged vs ++ durable t → 0 < length vs → HasNext log
has_next s t log vs k left some =
    let handed = k.handed_is in
    let entries = entries_length s t log k in
    let all = ap length left in
    omega (arith, handed, entries, all, length-append (all_logged vs) (durable t), logged_length vs, some)

-- What was handed out is what is committed, since all others stand behind it.

pub log_handed : (s : Session) (t : Trace) (log : Log) → RightTrace s t → IsLogOf s t log → take log.handed (said_by log.entries) ≡ reverse (map entry_of (durable t))
log_handed s t log right k =
    let left = committed_sealed s t right in
    let done = reverse (map entry_of (durable t)) in
    let all : said_by log.entries ≡ done ++ reverse (map entry_of left.0) =
    k.entries_are ∙ ap (λ (es : List Logged). reverse (map entry_of es)) left.1 ∙ ap reverse (map_both entry_of left.0 (durable t)) ∙ reverse-append (map entry_of left.0) (map entry_of (durable t)) in
    let count : log.handed ≡ length done = k.handed_is ∙ sym (block_length s (durable t)) in
    ap (λ (n : ℕ). take n (said_by log.entries)) count ∙ ap (take (length done)) all ∙ take-append_seam done (reverse (map entry_of left.0))
