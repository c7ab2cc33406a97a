-- Calls that write blocks of an image, one after the other.
use Rattle.std.proofs.Common.{ℕ, ◌≡◌, ◌+◌, Bool, IsTrue, true, false, List, [], ◌∷◌, ◌++◌, Result, Ok, Err, IsErr, refl, sym, ◌∙◌, ap, subst, inl, inr, append_assoc}
use Rattle.std.specs.List.{AllByRecursion}
use Rattle.blk_base.specs.declared.place.Pbn.{Pbn}
use Rattle.disk_model.specs.declared.call.Call.{Call}
use Rattle.disk_model.specs.declared.call.Call.TheVariants.{Read, Write, Flush}
use Rattle.disk_model.specs.declared.call.Failed.{Failed}
use Rattle.disk_model.specs.Log.{IsWritten}
use Rattle.disk_model.specs.Seen.{Later, Seen, Stays}
use Rattle.disk_model.specs.Trust.{Trust}
use Rattle.disk_model.specs.Since.{IsUntouched, OnlyReads, WereRead, NextFailed, reads_of}
use Rattle.disk_model.proofs.SeenLaws.{stays_on, later_on, stays_yet, later_yet}
use Rattle.image_format.proofs.FormatLaws.{last_failed}
use Rattle.image_format.specs.Calls.{put}
use Rattle.image_format.specs.Runs.{as_failed, Makes}
use Rattle.image_model.specs.Maps.{Image}
use Rattle.rebuild.proofs.FailLaws.{failed_behind, failed_on, on_err, read_is_last}
use Rattle.rebuild.specs.Acts.{Acts, AreMade, Grows, Stopped, Went, Writes, Writing}

-- What was written stays written.
pub still_written : (more calls : List Call) (b : ℕ) → IsWritten calls b → IsWritten (more ++ calls) b
still_written [] calls b written = written
still_written (Read at bytes ok ∷ more) calls b written = still_written more calls b written
still_written (Flush ok ∷ more) calls b written = still_written more calls b written
still_written (Write at bytes ok ∷ more) calls b written = inr (still_written more calls b written)

-- reads are among the calls
reads_are : (w : Writing) (image : Image) (reads calls : List Call) → OnlyReads reads → AllByRecursion (w.Kind image) calls → AllByRecursion (w.Kind image) (reads ++ calls)
reads_are w image [] calls only each = each
reads_are w image (Read at bytes ok ∷ reads) calls only each = (w.reads image at bytes ok, reads_are w image reads calls only each)
reads_are w image (Write at bytes ok ∷ reads) calls only each = absurd only
reads_are w image (Flush ok ∷ reads) calls only each = absurd only

pub read_made : (tells : Bool) (w : Writing) (image : Image) (first before now : Seen) (calls : List Call) → IsTrue tells → AreMade (w.Kind image) first before calls → IsUntouched tells before now
    → (reads : List Call) × AreMade (w.Kind image) first now (reads ++ calls)
read_made tells w image first before now calls told made untouched =
    let since = untouched.reads told in (
      since.0,
      record {
        stays = stays_on first before now made.stays untouched.stays;
        logged = since.1 ∙ ap (λ (log : List Call). since.0 ++ log) made.logged ∙ sym (append_assoc since.0 calls first.log);
        each = reads_are w image since.0 calls since.2 made.each;
      },
    )

pub none_made : (Kind : Call → Type 0) (first : Seen) → AreMade Kind first first []
none_made Kind first = record { stays = stays_yet first; logged = refl; each = tt }

-- A log grows over calls, however they end.
pub grows_on : (tells : Bool) (before middle now : Seen) → Grows tells before middle → Grows tells middle now → Grows tells before now
grows_on tells before middle now old new = λ told.
    let older = old told in
    let newer = new told in
    (newer.0 ++ older.0, newer.1 ∙ ap (λ (log : List Call). newer.0 ++ log) older.1 ∙ sym (append_assoc newer.0 older.0 before.log))

pub untouched_grows : (tells : Bool) (before now : Seen) → IsUntouched tells before now → Grows tells before now
untouched_grows tells before now untouched = λ told. let since = untouched.reads told in (since.0, since.1)

pub made_grows : (tells : Bool) (before now : Seen) (calls : List Call) (result : Result (Unit {0}) Failed) → Makes tells before now calls result → Grows tells before now
made_grows tells before now calls (Ok _) made = λ told. (calls, made.logged told)
made_grows tells before now calls (Err _) made = λ told. elim (made.logged told) [
  | inl stands ↦ (as_failed made.call ∷ made.done, stands)
  | inr lost ↦ (made.done, lost.0)
]

pub made_stays : (tells : Bool) (before now : Seen) (calls : List Call) (result : Result (Unit {0}) Failed) → Makes tells before now calls result → Stays before now × Later before now
made_stays tells before now calls (Ok _) made = (made.stays, made.later)
made_stays tells before now calls (Err _) made = (made.stays, made.later)

pub failed_grows : (trust : Trust) (from : ℕ) (before now : Seen) → NextFailed trust from before now [] → Grows trust.tells before now
failed_grows trust from before now failed = λ told.
    let logged = failed.logged told in
    elim logged.1 [
      | inl stands ↦ (Read (record { 0 = from + 0 }) logged.0 false ∷ [], stands)
      | inr lost ↦ ([], lost.0)
    ]

-- No call, where nothing is left to do.
pub acts_yet : (tells : Bool) (w : Writing) (seen : Seen) (Needs : Image → Type 0) (Done : Image → List Call → Type 0)
    → (IsTrue tells → (first : Seen) (from : w.From first) (calls : List Call) → AreMade (w.Kind (w.image first from)) first seen calls
    → Needs (w.image first from) → Done (w.image first from) calls)
    → Acts tells w seen seen Needs Done (Ok tt)
acts_yet tells w seen Needs Done all = record {
  stays = stays_yet seen;
  later = later_yet seen;
  grows = λ told. ([], refl);
  failed = tt;
  writes = λ told first from calls made needs. ([], made, all told first from calls made needs);
}

writes_as : (tells : Bool) (w : Writing) (before now : Seen) (N N' : Image → Type 0) (D D' : Image → List Call → Type 0) (result : Result (Unit {0}) Failed)
    → Writes tells w before now N D result → ((image : Image) → N' image → N image) → ((image : Image) (calls : List Call) → N' image → D image calls → D' image calls)
    → Writes tells w before now N' D' result
writes_as tells w before now N N' D D' (Ok _) is needs done = λ told first from calls made has.
    let went = is told first from calls made (needs (w.image first from) has) in
    (went.0, went.1, done (w.image first from) (went.0 ++ calls) has went.2)
writes_as tells w before now N N' D D' (Err _) is needs done = λ told first from calls made has.
    is told first from calls made (needs (w.image first from) has)

pub acts_as : (tells : Bool) (w : Writing) (before now : Seen) (N N' : Image → Type 0) (D D' : Image → List Call → Type 0) (result : Result (Unit {0}) Failed)
    → Acts tells w before now N D result → ((image : Image) → N' image → N image) → ((image : Image) (calls : List Call) → N' image → D image calls → D' image calls)
    → Acts tells w before now N' D' result
acts_as tells w before now N N' D D' result acts needs done = record {
  stays = acts.stays;
  later = acts.later;
  grows = acts.grows;
  failed = acts.failed;
  writes = writes_as tells w before now N N' D D' result acts.writes needs done;
}

-- More calls after others.
module _ (tells : Bool) (w : Writing) (before middle now : Seen) (N : Image → Type 0) (D₁ D₂ D : Image → List Call → Type 0) where
  then_writes : (result : Result (Unit {0}) Failed) → Went tells w before middle N D₁ → Writes tells w middle now N D₂ result
      → ((image : Image) (more calls : List Call) → N image → D₁ image calls → D₂ image (more ++ calls) → D image (more ++ calls))
      → Writes tells w before now N D result
  then_writes (Ok _) old new both = λ told first from calls made has.
      let image = w.image first from in
      let one = old told first from calls made has in
      let two = new told first from (one.0 ++ calls) one.1 has in
      let same = append_assoc two.0 one.0 calls in (
        two.0 ++ one.0,
        subst (AreMade (w.Kind image) first now) (sym same) two.1,
        subst (D image) (sym same) (both image two.0 (one.0 ++ calls) has one.2 two.2),
      )
  then_writes (Err _) old new both = λ told first from calls made has.
      let one = old told first from calls made has in
      new told first from (one.0 ++ calls) one.1 has

  pub then_acts : (result : Result (Unit {0}) Failed) → Acts tells w before middle N D₁ (Ok tt) → Acts tells w middle now N D₂ result
      → ((image : Image) (more calls : List Call) → N image → D₁ image calls → D₂ image (more ++ calls) → D image (more ++ calls))
      → Acts tells w before now N D result
  then_acts result old new both = record {
    stays = stays_on before middle now old.stays new.stays;
    later = later_on before middle now old.later new.later;
    grows = grows_on tells before middle now old.grows new.grows;
    failed = failed_on tells before middle now result old.later old.grows new.failed;
    writes = then_writes result old.writes new.writes both;
  }

-- Where one failed nothing is said of what was done.
pub still_failed : (tells : Bool) (w : Writing) (before now : Seen) (N : Image → Type 0) (D D' : Image → List Call → Type 0) (fault : Failed) (result : Result (Unit {0}) Failed) → IsErr result
    → Acts tells w before now N D (Err fault) → Acts tells w before now N D' result
still_failed tells w before now N D D' fault (Ok _) is acts = absurd (cc is)
still_failed tells w before now N D D' fault (Err _) is acts = record { stays = acts.stays; later = acts.later; grows = acts.grows; failed = acts.failed; writes = acts.writes }

-- A block is read, and then written.

pub one_of_one : (one : Call) (newer done : List Call) (call : Call) → one ∷ [] ≡ newer ++ (call ∷ done) → (call ≡ one) × (done ≡ [])
one_of_one one [] done call is = (cc is, cc is)
one_of_one one (other ∷ []) done call is = absurd (cc is)
one_of_one one (other ∷ another ∷ newer) done call is = absurd (cc is)

pub read_failed : (trust : Trust) (w : Writing) (before now : Seen) (at : Pbn) (N : Image → Type 0) → NextFailed trust at.0 before now [] → Stopped trust.tells w before now N
read_failed trust w before now at N failed = λ told first from calls made has.
    let logged = failed.logged told in
    record {
      calls = calls;
      each = made.each;
      call = Read (record { 0 = at.0 + 0 }) logged.0 true;
      kind = inl (w.reads (w.image first from) (record { 0 = at.0 + 0 }) logged.0 true);
      logged = elim logged.1 [
        | inl is ↦ inl (is ∙ ap (λ (log : List Call). Read (record { 0 = at.0 + 0 }) logged.0 false ∷ log) made.logged)
        | inr lost ↦ inr (lost.0 ∙ made.logged, tt)
      ];
    }

module _ (trust : Trust) (w : Writing) (before middle now : Seen) (at : Pbn) (given bytes : List ℕ) (N : Image → Type 0) where
  abbrev Puts : Type 0
  Puts = IsTrue trust.tells → (first : Seen) (from : w.From first) (calls : List Call) → AreMade (w.Kind (w.image first from)) first before calls
      → N (w.image first from) → w.Kind (w.image first from) (put at.0 bytes)

  log_then : IsTrue trust.tells → (first : Seen) (from : w.From first) (calls : List Call) → WereRead trust at.0 before middle (given ∷ [])
      → AreMade (w.Kind (w.image first from)) first before calls → middle.log ≡ Read (record { 0 = at.0 + 0 }) given true ∷ (calls ++ first.log)
  log_then told first from calls read made =
      read.logged told ∙ ap (λ (log : List Call). Read (record { 0 = at.0 + 0 }) given true ∷ log) made.logged

  written_writes : (result : Result (Unit {0}) Failed) → WereRead trust at.0 before middle (given ∷ []) → Makes trust.tells middle now (put at.0 bytes ∷ []) result → Puts
      → Writes trust.tells w before now N (λ image calls. IsWritten calls at.0) result
  written_writes (Ok _) read made is = λ told first from calls were has.
      let image = w.image first from in (
        put at.0 bytes ∷ Read (record { 0 = at.0 + 0 }) given true ∷ [],
        record {
          stays = stays_on first middle now (stays_on first before middle were.stays read.stays) made.stays;
          logged = made.logged told ∙ ap (λ (log : List Call). put at.0 bytes ∷ log) (log_then told first from calls read were);
          each = (is told first from calls were has, (w.reads image (record { 0 = at.0 + 0 }) given true, were.each));
        },
        inl refl,
      )
  written_writes (Err _) read made is = λ told first from calls were has.
      let image = w.image first from in
      let one = one_of_one (put at.0 bytes) made.newer made.done made.call made.parts in
      let before_it = log_then told first from calls read were in
      let log : made.done ++ middle.log ≡ Read (record { 0 = at.0 + 0 }) given true ∷ (calls ++ first.log) =
      ap (λ (done : List Call). done ++ middle.log) one.1 ∙ before_it in
      record {
        calls = Read (record { 0 = at.0 + 0 }) given true ∷ calls;
        each = (w.reads image (record { 0 = at.0 + 0 }) given true, were.each);
        call = put at.0 bytes;
        kind = inl (is told first from calls were has);
        logged = elim (made.logged told) [
          | inl stands ↦ inl (stands ∙ ap (λ (call : Call). as_failed call ∷ (made.done ++ middle.log)) one.0 ∙ ap (λ (l : List Call). as_failed (put at.0 bytes) ∷ l) log)
          | inr lost ↦ inr (lost.0 ∙ log, tt)
        ];
      }

  read_grows : WereRead trust at.0 before middle (given ∷ []) → Grows trust.tells before middle
  read_grows read = λ told. (reads_of at.0 (given ∷ []), read.logged told)

  grows_both : (result : Result (Unit {0}) Failed) → WereRead trust at.0 before middle (given ∷ []) → Makes trust.tells middle now (put at.0 bytes ∷ []) result
      → Grows trust.tells before now
  grows_both result read made = grows_on trust.tells before middle now (read_grows read) (made_grows trust.tells middle now (put at.0 bytes ∷ []) result made)

  pub written : (result : Result (Unit {0}) Failed) → WereRead trust at.0 before middle (given ∷ []) → Makes trust.tells middle now (put at.0 bytes ∷ []) result → Puts
      → Acts trust.tells w before now N (λ image calls. IsWritten calls at.0) result
  written (Ok u) read made is = record {
    stays = stays_on before middle now read.stays made.stays;
    later = later_on before middle now read.later made.later;
    grows = grows_both (Ok u) read made;
    failed = tt;
    writes = written_writes (Ok u) read made is;
  }
  written (Err e) read made is = record {
    stays = stays_on before middle now read.stays made.stays;
    later = later_on before middle now read.later made.later;
    grows = grows_both (Err e) read made;
    failed = failed_behind trust.tells before middle now read.later (read_grows read) (last_failed trust.tells middle now (put at.0 bytes ∷ []) made);
    writes = written_writes (Err e) read made is;
  }

writes_err : (trust : Trust) (w : Writing) (before now : Seen) (N : Image → Type 0) (D : Image → List Call → Type 0) (result : Result (Unit {0}) Failed) → IsErr result → Stopped trust.tells w before now N
    → Writes trust.tells w before now N D result
writes_err trust w before now N D (Ok _) is stopped = absurd (cc is)
writes_err trust w before now N D (Err _) is stopped = stopped

pub read_stops : (trust : Trust) (w : Writing) (before now : Seen) (at : Pbn) (N : Image → Type 0) (D : Image → List Call → Type 0) (result : Result (Unit {0}) Failed) → IsErr result
    → NextFailed trust at.0 before now [] → Acts trust.tells w before now N D result
read_stops trust w before now at N D result is failed = record {
  stays = failed.stays;
  later = failed.later;
  grows = failed_grows trust at.0 before now failed;
  failed = on_err trust.tells before now result (read_is_last trust at.0 before now [] failed);
  writes = writes_err trust w before now N D result is (read_failed trust w before now at N failed);
}
