-- What the calls of a function do to an image whose blocks it writes: for each clause a small case that it accepts, and
-- one that breaks it and is refused.
use Rattle.std.proofs.Common.{ℕ, ◌≡◌, ◌⊎◌, ◌<◌, ◌+◌, ◌^◌, Bool, true, false, List, [], ◌∷◌, ◌++◌, length, length-append, Some, Ok, Err, refl, ap, inl, inr, arith}
use Rattle.std.specs.List.{AllByRecursion}
use Rattle.blk_base.specs.Regions.{Place, IsPlace, block_of}
use Rattle.blk_base.specs.Sectors.{zero_block}
use Rattle.blk_base.specs.declared.geometry.Geometry.{Geometry}
use Rattle.blk_base.specs.declared.geometry.Super.{Super as Superblock}
use Rattle.blk_base.specs.declared.place.PageId.{PageId}
use Rattle.blk_base.specs.declared.place.Pbn.{Pbn}
use Rattle.blk_base.specs.Forms.{pbn}
use Rattle.blk_base.proofs.Example.{root}
use Rattle.disk_model.specs.declared.call.Call.{Call}
use Rattle.disk_model.specs.declared.call.Call.TheVariants.{Read, Write, Flush}
use Rattle.disk_model.specs.declared.call.Failed.{Failed}
use Rattle.disk_model.specs.Log.{Blocks, block_at}
use Rattle.disk_model.specs.Seen.{Seen}
use Rattle.disk_model.specs.Trust.{trust_of}
use Rattle.image_format.specs.Runs.{as_failed}
use Rattle.image_layout.specs.Opened.{super_of_image}
use Rattle.image_model.specs.Empty.{IsMade, made_block}
use Rattle.image_model.specs.Maps.{Image, page_at}
use Rattle.image_model.proofs.FaultExample.{zeros_unheaded}
use Rattle.image_model.proofs.MapExample.{with_root}
use Rattle.image_model.proofs.LookedLaws.{looked_first}
use Rattle.recovery_laws.proofs.OpenedExample.{opened_is_to_recover, opened_super}
use Rattle.recovery_laws.specs.Calls.{IsPut}
use Rattle.recovery_laws.specs.Recoverable.{as_recoverable, recoverable_image}
use Rattle.recovery_laws.specs.Written.{IsFullPage}
use Rattle.rebuild.proofs.ActLaws.{acts_yet, none_made}
use Rattle.rebuild.proofs.Rows.{called_after, flushed, last_is_not, seen}
use Rattle.rebuild.specs.Acts.{Acts, AreMade, Grows, HasStopped, IsFlush, IsPageCall, IsPageStart, IsStart, Stopped, Went, Writes, recovery}

-- A log grows, where the device tells: what was in it isn't lost.
grows_by_none : Grows true flushed flushed
grows_by_none = λ told. ([], refl)

log_lost : Grows true flushed seen → ⊥
log_lost grows = let since = grows refl in let size = ap (λ (log : List Call). length log) since.1 in omega (arith, size, length-append since.0 (Flush true ∷ []))

-- nothing is said of a device that doesn't tell
untold_grows : Grows false flushed seen
untold_grows = λ told. absurd (cc told)

-- A start: an image that was opened and stopped before anything was written to it.
module _ (g : Geometry) (blocks : Blocks) (accepted : super_of_image blocks ≡ Ok (opened_super g)) (named : g.nonce < 2 ^ 64)
    (made : (place : Place) → IsPlace g place → IsMade place → block_at blocks (block_of g place) ≡ made_block g place)
    (whole : (b : ℕ) → b < length blocks → length (block_at blocks b) ≡ 4096) where
  pub opened_starts : IsStart (trust_of true true) (record seen { opening = blocks }) blocks
  opened_starts = record { told = refl; fair = refl; to = as_recoverable blocks [] blocks (opened_is_to_recover g blocks accepted made named whole) }

module _ (first : Seen) (blocks : Blocks) where
  -- told, fair
  untold_start : IsStart (trust_of false true) first blocks → ⊥
  untold_start start = let told = start.told in absurd (cc told)

  unfair_start : IsStart (trust_of true false) first blocks → ⊥
  unfair_start start = let fair = start.fair in absurd (cc fair)

  -- to: nothing is pending, and the last session wasn't closed
  closed_start : (head : Superblock) → super_of_image blocks ≡ Ok head → head.clean ≡ true → IsStart (trust_of true true) first blocks → ⊥
  closed_start head accepted clean start =
      let accepted_too = start.to.is.opens.accepted in
      let same_head : start.to.is.head ≡ head = cc (accepted, accepted_too) in
      let here = ap (λ (h : Superblock). h.clean) same_head in
      let unclean = start.to.unclean in
      absurd (cc (here, clean, unclean))

pending_start : IsStart (trust_of true true) (record seen { opening = zero_block ∷ []; log = Write (pbn 0) [] true ∷ [] }) (zero_block ∷ []) → ⊥
pending_start start = let only = (start.to.one.only 0 (omega arith) (looked_first (zero_block ∷ []))).0 in let whole = start.to.one.whole 0 (omega arith) in let size = ap length only in omega (arith, size, whole)

-- A call that failed. each: those before it are reads and recovery's writes.
none_taken : (call : Call) → Flush true ≡ as_failed call → ⊥
none_taken (Read at bytes ok) same = absurd (cc same)
none_taken (Write at bytes ok) same = absurd (cc same)
none_taken (Flush ok) same = absurd (cc same)

one_flush : (image : Image) (ok : Bool) (calls newer log : List Call) → Flush ok ∷ (newer ++ log) ≡ calls ++ log → AllByRecursion (IsPut image) calls → ⊥
one_flush image ok [] newer log same each = let size = ap (λ (l : List Call). length l) same in omega (arith, size, length-append newer log)
one_flush image ok (Flush taken ∷ calls) newer log same each = each.0
one_flush image ok (Read at bytes taken ∷ calls) newer log same each = absurd (cc same)
one_flush image ok (Write at bytes taken ∷ calls) newer log same each = absurd (cc same)

read_before : (image : Image) → HasStopped (IsPut image) IsFlush seen (record seen { log = Flush false ∷ Read (pbn 9) [] true ∷ [] })
read_before image = record { calls = Read (pbn 9) [] true ∷ []; each = (tt, tt); call = Flush true; kind = inr refl; logged = inl refl }

flush_before : (image : Image) → HasStopped (IsPut image) IsFlush seen (record seen { log = Flush false ∷ Flush true ∷ [] }) → ⊥
flush_before image stopped = elim stopped.logged [
  | inl stands ↦ one_flush image true stopped.calls [] [] (behind (as_failed stopped.call) stopped.calls stands) stopped.each
  | inr lost ↦ one_flush image false stopped.calls (Flush true ∷ []) [] lost.0 stopped.each
]
  where
    behind : (call : Call) (calls : List Call) → Flush false ∷ Flush true ∷ [] ≡ call ∷ (calls ++ []) → Flush true ∷ [] ≡ calls ++ []
    behind call calls same = cc same

-- kind: the one that failed is one of those, or a flush
other_write_failed : (image : Image) → HasStopped (IsPut image) IsFlush seen (record seen { log = Write (pbn 9) [] false ∷ [] }) → ⊥
other_write_failed image stopped = elim stopped.logged [
  | inl stands ↦ of_call stopped.call stopped.kind (front (as_failed stopped.call) (stopped.calls ++ []) stands)
  | inr lost ↦ of_calls stopped.calls stopped.each lost.0
]
  where
    front : (call : Call) (older : List Call) → Write (pbn 9) [] false ∷ [] ≡ call ∷ older → Write (pbn 9) [] false ≡ call
    front call older same = cc same

    too_short : (at : Pbn) (bytes : List ℕ) (ok : Bool) → [] ≡ bytes → IsPut image (Write at bytes ok) → ⊥
    too_short at bytes true same is = let size = is.0 in let none = ap length same in omega (arith, size, none)
    too_short at bytes false same is = is

    of_call : (call : Call) → IsPut image call ⊎ (call ≡ Flush true) → Write (pbn 9) [] false ≡ as_failed call → ⊥
    of_call (Read at bytes ok) kind same = absurd (cc same)
    of_call (Flush ok) kind same = absurd (cc same)
    of_call (Write at bytes ok) kind same = elim kind [ inl is ↦ too_short at bytes ok (cc same) is | inr flush ↦ absurd (cc flush) ]

    of_calls : (calls : List Call) → AllByRecursion (IsPut image) calls → Write (pbn 9) [] false ∷ [] ≡ calls ++ [] → ⊥
    of_calls [] each same = absurd (cc same)
    of_calls (Flush ok ∷ calls) each same = each.0
    of_calls (Read at bytes ok ∷ calls) each same = absurd (cc same)
    of_calls (Write at bytes true ∷ calls) each same = absurd (cc same)
    of_calls (Write at bytes false ∷ calls) each same = each.0

-- logged: it stands in the log as one that failed
taken_and_failed : (image : Image) (first : Seen) → HasStopped (IsPut image) IsFlush first (record first { log = Flush true ∷ first.log }) → ⊥
taken_and_failed image first stopped = elim stopped.logged [
  | inl stands ↦ none_taken stopped.call (front (as_failed stopped.call) (stopped.calls ++ first.log) stands)
  | inr lost ↦ one_flush image true stopped.calls [] first.log lost.0 stopped.each
]
  where
    front : (call : Call) (older : List Call) → Flush true ∷ first.log ≡ call ∷ older → Flush true ≡ call
    front call older same = cc same

-- What is needed, and done: anything, and nothing.
abbrev any : Image → Type 0
any image = Unit {0}

abbrev yet : Image → List Call → Type 0
yet image calls = Unit {0}

abbrev never : Image → List Call → Type 0
never image calls = ⊥

-- From a start on.
module _ (first : Seen) (blocks : Blocks) (start : IsStart (trust_of true true) first blocks) (fault : Failed) where
  abbrev started : Image
  started = recoverable_image blocks start.to.is

  abbrev with_flush : Seen
  with_flush = record first { log = Flush true ∷ first.log }

  abbrev with_failed : Seen
  with_failed = record first { log = Flush false ∷ first.log; faults = first.faults + 1 }

  -- More such calls were made, or none; and no other.
  went_yet : Went true (recovery (trust_of true true)) first first any yet
  went_yet told other from calls made needs = ([], made, tt)

  flush_made : Went true (recovery (trust_of true true)) first with_flush any yet → ⊥
  flush_made went = let more = went refl first (blocks, start) [] (none_made (IsPut started) first) tt in one_flush started true (more.0 ++ []) [] first.log more.1.logged more.1.each

  -- it is done
  not_done : Went true (recovery (trust_of true true)) first first any never → ⊥
  not_done went = (went refl first (blocks, start) [] (none_made (IsPut started) first) tt).2

  -- where the image has what is needed
  none_needed : Went true (recovery (trust_of true true)) first with_flush (λ image. ⊥) yet
  none_needed told other from calls made needs = absurd needs

  -- of a device that tells and is honest
  untold_went : Went false (recovery (trust_of false true)) first with_flush any yet
  untold_went told other from calls made needs = absurd (cc told)

  unfair_went : Went true (recovery (trust_of true false)) first with_flush any yet
  unfair_went told other from calls made needs = let fair = from.1.fair in absurd (cc fair)

  -- and the calls made before are among those by which it is done
  abbrev with_read : Seen
  with_read = record first { log = Read (pbn 9) [] true ∷ first.log }

  read_is_made : AreMade (IsPut started) first with_read (Read (pbn 9) [] true ∷ [])
  read_is_made = record { stays = record { opening = refl; size = refl }; logged = refl; each = (tt, tt) }

  read_forgotten : Went true (recovery (trust_of true true)) with_read with_read any (λ image calls. length calls ≡ 0) → ⊥
  read_forgotten went =
      let more = went refl first (blocks, start) (Read (pbn 9) [] true ∷ []) read_is_made tt in
      let size = more.2 in omega (arith, size, length-append more.0 (Read (pbn 9) [] true ∷ []))

  -- One failed, a flush too; and not one that succeeded.
  flush_stopped : Stopped true (recovery (trust_of true true)) first with_failed any
  flush_stopped told other from calls made needs = record {
    calls = calls;
    each = made.each;
    call = Flush true;
    kind = inr refl;
    logged = inl (ap (λ (log : List Call). Flush false ∷ log) made.logged);
  }

  taken_stopped : Stopped true (recovery (trust_of true true)) first with_flush any → ⊥
  taken_stopped stopped = taken_and_failed started first (stopped refl first (blocks, start) [] (none_made (IsPut started) first) tt)

  none_stopped : Stopped true (recovery (trust_of true true)) first with_flush (λ image. ⊥)
  none_stopped told other from calls made needs = absurd needs

  untold_stopped : Stopped false (recovery (trust_of false true)) first with_flush any
  untold_stopped told other from calls made needs = absurd (cc told)

  -- An answer is for what is done; after a refusal nothing is said of that, but that a call failed.
  answered : Writes true (recovery (trust_of true true)) first first any yet (Ok tt)
  answered = went_yet

  answered_undone : Writes true (recovery (trust_of true true)) first first any never (Ok tt) → ⊥
  answered_undone = not_done

  refused_undone : Writes true (recovery (trust_of true true)) first with_failed any never (Err fault)
  refused_undone = flush_stopped

  refused_taken : Writes true (recovery (trust_of true true)) first with_flush any yet (Err fault) → ⊥
  refused_taken = taken_stopped

  -- The whole: an answer with no call, and a refusal after one that failed.
  acted : Acts true (recovery (trust_of true true)) first first any yet (Ok tt)
  acted = acts_yet true (recovery (trust_of true true)) first any yet (λ told other from calls made needs. tt)

  refused : Acts true (recovery (trust_of true true)) first with_failed any never (Err fault)
  refused = record {
    stays = record { opening = refl; size = refl };
    later = record { faults = omega arith; unkept = omega arith };
    grows = λ told. (Flush false ∷ [], refl);
    failed = record { rose = omega arith; logged = λ told. (Flush false, [], refl, inl refl) };
    writes = flush_stopped;
  }

  -- writes
  acted_otherwise : Acts true (recovery (trust_of true true)) first with_flush any yet (Ok tt) → ⊥
  acted_otherwise acts = flush_made acts.writes

-- stays: the device has as many blocks, of any device
other_size : (honest : Bool) → Acts false (recovery (trust_of false honest)) seen (record seen { size = 3 }) any yet (Ok tt) → ⊥
other_size honest acts = let size = acts.stays.size in omega (arith, size)

-- later: no count falls
fewer_faults : (honest : Bool) → Acts false (recovery (trust_of false honest)) (record seen { faults = 4 }) seen any yet (Ok tt) → ⊥
fewer_faults honest acts = let less = acts.later.faults in omega (arith, less)

-- grows
log_is_lost : (honest : Bool) → Acts true (recovery (trust_of true honest)) flushed seen any yet (Ok tt) → ⊥
log_is_lost honest acts = log_lost acts.grows

-- failed: a refusal comes with a fault, and it is the last call that failed
refused_for_nothing : (honest : Bool) (fault : Failed) → Acts false (recovery (trust_of false honest)) seen seen any yet (Err fault) → ⊥
refused_for_nothing honest fault acts = let rose = acts.failed.rose in omega (arith, rose)

refused_and_went_on : (honest : Bool) (fault : Failed) → Acts true (recovery (trust_of true honest)) seen called_after any yet (Err fault) → ⊥
refused_and_went_on honest fault acts = last_is_not acts.failed

-- Pages are written whole and where they stand, with reads among them; no flush, no write that failed, and no part of a block
page_call : (image : Image) (which : PageId) (at : Pbn) (bytes : List ℕ) → length bytes ≡ 4096 → page_at image which ≡ Some at → IsFullPage image which at bytes
    → IsPageCall image (Write at bytes true)
page_call image which at bytes size there full = (size, (which, there, full))

read_among : (image : Image) → IsPageCall image (Read (pbn 9) [] false)
read_among image = tt

no_flush : (image : Image) → IsPageCall image (Flush true) → ⊥
no_flush image is = is

no_failed : (image : Image) → IsPageCall image (Write (pbn 9) zero_block false) → ⊥
no_failed image is = is

no_part : (image : Image) → IsPageCall image (Write (pbn 9) [] true) → ⊥
no_part image is = let size = is.0 in omega (arith, size)

-- Where they may be written: on an honest device (fair), where no two stand at one block (one), each as it may be read with what it
-- says with the window (parts).
unfair_pages : (first : Seen) (image : Image) → IsPageStart false first image → ⊥
unfair_pages first image start = let fair = start.fair in absurd (cc fair)

two_at_one : (honest : Bool) (first : Seen) (image : Image) (page other : PageId) → page_at image page ≡ Some (pbn 9) → page_at image other ≡ Some (pbn 9) → (page ≡ other → ⊥)
    → IsPageStart honest first image → ⊥
two_at_one honest first image page other there other_there apart start = apart (start.one page other (pbn 9) there other_there)

page_lost : (honest : Bool) → IsPageStart honest (record seen { log = Write (pbn 9) zero_block true ∷ [] }) (with_root zero_block []) → ⊥
page_lost honest start = zeros_unheaded (start.parts root (pbn 9) refl).0.headed
