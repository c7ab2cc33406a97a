-- What reads leave as it was, and what they gave.
use Rattle.std.proofs.Common.{ℕ, ◌≡◌, ◌≤◌, ◌<◌, ◌+◌, ◌++◌, Bool, true, false, IsTrue, List, [], ◌∷◌, length, take, reverse, refl, sym, ◌∙◌, ap, subst, inl, inr, arith, append_assoc, length-append}
use Rattle.std.proofs.Math.Seq.{take-suc}
use Rattle.std.proofs.lemmas.Grind.{reverse_onto}
use Rattle.std.proofs.lemmas.List.{length-reverse, reverse-append}
use Rattle.blk_base.specs.Sectors.{zero_block}
use Rattle.blk_base.specs.declared.place.Pbn.{Pbn}
use Rattle.disk_model.specs.declared.call.Call.{Call}
use Rattle.disk_model.specs.declared.call.Call.TheVariants.{Read, Write, Flush}
use Rattle.disk_model.specs.Causes.{Rose}
use Rattle.disk_model.specs.Images.{IsImage, IsMixOf}
use Rattle.disk_model.specs.Log.{Blocks, block_at, settled, contents}
use Rattle.disk_model.specs.Seen.{Seen, Stays, Later}
use Rattle.disk_model.specs.Trust.{Trust}
use Rattle.disk_model.specs.Since.{SinceThen, OnlyReads, IsUntouched, reads_of, AreGiven, WereRead, NextFailed}
use Rattle.disk_model.specs.LogSteps.{FailedInLog}
use Rattle.disk_model.proofs.ImageLaws.{block_of_mix, settled_are_contents}
use Rattle.disk_model.proofs.SeenLaws.{stays_on, later_on, stays_yet, later_yet}

-- Reads change no image.

reads_append : (calls older : List Call) → OnlyReads calls → OnlyReads older → OnlyReads (calls ++ older)
reads_append [] older new old = old
reads_append (Read at bytes ok ∷ calls) older new old = reads_append calls older new old
reads_append (Write at bytes ok ∷ calls) older new old = absurd new
reads_append (Flush ok ∷ calls) older new old = absurd new

pub reads_on : (first middle now : List Call) → SinceThen OnlyReads first middle → SinceThen OnlyReads middle now → SinceThen OnlyReads first now
reads_on first middle now (older, middle_is, old) (calls, now_is, new) =
    (calls ++ older, now_is ∙ ap (λ (log : List Call). calls ++ log) middle_is ∙ sym (append_assoc calls older first), reads_append calls older new old)

pub same_contents : (opening : Blocks) (calls log : List Call) (b : ℕ) → OnlyReads calls → contents opening (calls ++ log) b ≡ contents opening log b
same_contents opening [] log b reads = refl
same_contents opening (Read at bytes ok ∷ calls) log b reads = same_contents opening calls log b reads
same_contents opening (Write at bytes ok ∷ calls) log b reads = absurd reads
same_contents opening (Flush ok ∷ calls) log b reads = absurd reads

-- a stop before reads or within them leaves what it would have left before
pub image_before : (opening : Blocks) (log reads : List Call) (image : Blocks) → OnlyReads reads → IsImage opening (reads ++ log) image → IsImage opening log image
image_before opening log reads image only is = record {
  size = is.size;
  whole = is.whole;
  sectors = λ b below. subst (λ (options : List (List ℕ)). IsMixOf options (block_at image b)) (same_contents opening reads log b only) (is.sectors b below);
}

pub read_since : (old now : List Call) (at : Pbn) (bytes : List ℕ) (ok : Bool) → now ≡ Read at bytes ok ∷ old → SinceThen OnlyReads old now
read_since old now at bytes ok is = (Read at bytes ok ∷ [], is, tt)

pub failed_since : (old now : List Call) (at : Pbn) (bytes : List ℕ) (lost : Type 0) → FailedInLog old now (Read at bytes false) lost → SinceThen OnlyReads old now
failed_since old now at bytes lost (inl is) = read_since old now at bytes false is
failed_since old now at bytes lost (inr same) = ([], same.0, tt)

pub untouched_yet : (tells : Bool) (seen : Seen) → IsUntouched tells seen seen
untouched_yet tells seen = record { stays = stays_yet seen; later = later_yet seen; reads = λ told. ([], refl, tt) }

pub untouched_on : (tells : Bool) (first middle now : Seen) → IsUntouched tells first middle → IsUntouched tells middle now → IsUntouched tells first now
untouched_on tells first middle now old new = record {
  stays = stays_on first middle now old.stays new.stays;
  later = later_on first middle now old.later new.later;
  reads = λ told. reads_on first.log middle.log now.log (old.reads told) (new.reads told);
}

-- Blocks that were read one after the other.

pub only_reads : (from : ℕ) (blocks : List (List ℕ)) → OnlyReads (reads_of from blocks)
only_reads from [] = tt
only_reads from (bytes ∷ older) = only_reads from older

pub were_only_read : (trust : Trust) (from : ℕ) (before now : Seen) (blocks : List (List ℕ)) → WereRead trust from before now blocks → IsUntouched trust.tells before now
were_only_read trust from before now blocks read = record {
  stays = read.stays;
  later = read.later;
  reads = λ told. (reads_of from blocks, read.logged told, only_reads from blocks);
}

failed_reads : (log now older : List Call) (at : Pbn) (bytes : List ℕ) (lost : Type 0) → OnlyReads older → FailedInLog (older ++ log) now (Read at bytes false) lost → SinceThen OnlyReads log now
failed_reads log now older at bytes lost reads (inl is) = (Read at bytes false ∷ older, is, reads)
failed_reads log now older at bytes lost reads (inr same) = (older, same.0, reads)

pub next_only_read : (trust : Trust) (from : ℕ) (before now : Seen) (blocks : List (List ℕ)) → NextFailed trust from before now blocks → IsUntouched trust.tells before now
next_only_read trust from before now blocks failed = record {
  stays = failed.stays;
  later = failed.later;
  reads = λ told. let is = failed.logged told in failed_reads before.log now.log (reads_of from blocks) _ is.0 _ (only_reads from blocks) is.1;
}

-- no block yet, and one more
pub none_read : (trust : Trust) (from : ℕ) (seen : Seen) → (IsTrue trust.tells → length seen.opening ≡ seen.size) → WereRead trust from seen seen []
none_read trust from seen told = record { told = told; stays = stays_yet seen; later = later_yet seen; given = tt; logged = λ tells. refl }

-- one read
pub one_read : (trust : Trust) (from : ℕ) (before now : Seen) (at : Pbn) (bytes : List ℕ) → at.0 ≡ from → (IsTrue trust.tells → length before.opening ≡ before.size)
    → Stays before now → Later before now → length bytes ≡ 4096 → (IsTrue trust.tells → IsTrue trust.honest → IsMixOf (settled before.opening before.log at.0) bytes)
    → (IsTrue trust.tells → now.log ≡ Read at bytes true ∷ before.log) → WereRead trust from before now (bytes ∷ [])
one_read trust from before now at bytes place told stays later whole given logged =
    let here : at.0 ≡ from + 0 = omega (arith, place) in record {
      told = told;
      stays = stays;
      later = later;
      given = (whole, (λ tells honest. subst (λ (b : ℕ). IsMixOf (settled before.opening before.log b) bytes) here (given tells honest)), tt);
      logged = λ tells. logged tells ∙ ap (λ (b : ℕ). Read (record { 0 = b }) bytes true ∷ before.log) here;
    }

-- a read that failed
pub one_failed : (trust : Trust) (from : ℕ) (before now : Seen) (at : Pbn) (bytes : List ℕ) → at.0 ≡ from
    → Stays before now → Later before now → Rose before.faults now.faults
    → (IsTrue trust.tells → FailedInLog before.log now.log (Read at bytes false) (Rose before.unkept now.unkept)) → NextFailed trust from before now []
one_failed trust from before now at bytes place stays later rose logged =
    let here : at.0 ≡ from + 0 = omega (arith, place) in record {
      stays = stays;
      later = later;
      given = tt;
      rose = rose;
      logged = λ tells. (bytes, subst (λ (b : ℕ). FailedInLog before.log now.log (Read (record { 0 = b }) bytes false) (Rose before.unkept now.unkept)) here (logged tells));
    }

same_settled : (opening : Blocks) (from : ℕ) (blocks : List (List ℕ)) (log : List Call) (b : ℕ) → settled opening (reads_of from blocks ++ log) b ≡ settled opening log b
same_settled opening from [] log b = refl
same_settled opening from (bytes ∷ older) log b = same_settled opening from older log b

-- a log is not longer than itself
pub longer : (call : Call) (calls log : List Call) → log ≡ call ∷ (calls ++ log) → ⊥
longer call calls log same = let size = ap length same in omega (arith, size, length-append calls log)

-- the same reads gave the same blocks
pub reads_are_one : (from : ℕ) (xs ys : List (List ℕ)) (log : List Call) → reads_of from xs ++ log ≡ reads_of from ys ++ log → xs ≡ ys
reads_are_one from [] [] log same = refl
reads_are_one from [] (y ∷ ys) log same = absurd (longer (Read (record { 0 = from + length ys }) y true) (reads_of from ys) log same)
reads_are_one from (x ∷ xs) [] log same = absurd (longer (Read (record { 0 = from + length xs }) x true) (reads_of from xs) log (sym same))
reads_are_one from (x ∷ xs) (y ∷ ys) log same =
    let heads : x ≡ y = cc in
    let others : xs ≡ ys = reads_are_one from xs ys log cc in
    rw (heads, others) refl

pub read_are_one : (trust : Trust) (from : ℕ) (before now : Seen) (xs ys : List (List ℕ)) → IsTrue trust.tells → WereRead trust from before now xs → WereRead trust from before now ys → xs ≡ ys
read_are_one trust from before now xs ys told one other = reads_are_one from xs ys before.log (sym (one.logged told) ∙ other.logged told)

module _ (trust : Trust) (from : ℕ) (before middle now : Seen) (blocks : List (List ℕ)) (was : WereRead trust from before middle blocks) where
  -- what is settled after the reads was settled before them
  settled_before : IsTrue trust.tells → (b : ℕ) → settled middle.opening middle.log b ≡ settled before.opening before.log b
  settled_before told b =
      ap (λ (opening : Blocks). settled opening middle.log b) was.stays.opening
      ∙ ap (λ (log : List Call). settled before.opening log b) (was.logged told)
      ∙ same_settled before.opening from blocks before.log b

  append_given : (more : List (List ℕ)) → AreGiven trust (from + length blocks) middle more → AreGiven trust from before (more ++ blocks)
  append_given [] given = was.given
  append_given (bytes ∷ more) given =
      let place : from + length blocks + length more ≡ from + length (more ++ blocks) = omega (arith, length-append more blocks) in (
        given.0,
        λ told fair. subst (λ (options : List (List ℕ)). IsMixOf options bytes) (settled_before told _ ∙ ap (settled before.opening before.log) place) (given.1 told fair),
        append_given more given.2,
      )

  append_reads : (more : List (List ℕ)) → reads_of (from + length blocks) more ++ reads_of from blocks ≡ reads_of from (more ++ blocks)
  append_reads [] = refl
  append_reads (bytes ∷ more) =
      let place : from + length blocks + length more ≡ from + length (more ++ blocks) = omega (arith, length-append more blocks) in
      let here : ℕ → Call = λ (b : ℕ). Read (record { 0 = b }) bytes true in
      ap (λ (calls : List Call). here (from + length blocks + length more) ∷ calls) (append_reads more)
      ∙ ap (λ (b : ℕ). here b ∷ reads_of from (more ++ blocks)) place

  log_before : IsTrue trust.tells → (more : List (List ℕ)) → reads_of (from + length blocks) more ++ middle.log ≡ reads_of from (more ++ blocks) ++ before.log
  log_before told more =
      ap (λ (log : List Call). reads_of (from + length blocks) more ++ log) (was.logged told)
      ∙ sym (append_assoc (reads_of (from + length blocks) more) (reads_of from blocks) before.log)
      ∙ ap (λ (calls : List Call). calls ++ before.log) (append_reads more)

  -- what a read that failed behind others adds to the log
  moved_log : IsTrue trust.tells → (more : List (List ℕ)) (bytes : List ℕ)
      → FailedInLog (reads_of (from + length blocks) more ++ middle.log) now.log (Read (record { 0 = from + length blocks + length more }) bytes false) (Rose middle.unkept now.unkept)
      → FailedInLog (reads_of from (more ++ blocks) ++ before.log) now.log (Read (record { 0 = from + length (more ++ blocks) }) bytes false) (Rose before.unkept now.unkept)
  moved_log told more bytes fails =
      let place : from + length blocks + length more ≡ from + length (more ++ blocks) = omega (arith, length-append more blocks) in
      let log_is = log_before told more in
      let failed : ℕ → Call = λ (b : ℕ). Read (record { 0 = b }) bytes false in
      elim fails [
        | inl is ↦ inl (is ∙ ap (λ (log : List Call). failed (from + length blocks + length more) ∷ log) log_is
            ∙ ap (λ (b : ℕ). failed b ∷ (reads_of from (more ++ blocks) ++ before.log)) place)
        | inr (same, rose) ↦ inr (same ∙ log_is, omega (arith, was.later.unkept, rose))
      ]

  -- blocks that were read behind others
  pub read_on : (more : List (List ℕ)) → WereRead trust (from + length blocks) middle now more → WereRead trust from before now (more ++ blocks)
  read_on more read = record {
    told = was.told;
    stays = stays_on before middle now was.stays read.stays;
    later = later_on before middle now was.later read.later;
    given = append_given more read.given;
    logged = λ told. read.logged told ∙ log_before told more;
  }

  -- a read that failed behind others
  pub failed_on : (more : List (List ℕ)) → NextFailed trust (from + length blocks) middle now more → NextFailed trust from before now (more ++ blocks)
  failed_on more failed = record {
    stays = stays_on before middle now was.stays failed.stays;
    later = later_on before middle now was.later failed.later;
    given = append_given more failed.given;
    rose = omega (arith, was.later.faults, failed.rose);
    logged = λ told. let is = failed.logged told in (is.0, moved_log told more is.0 is.1);
  }

module _ (trust : Trust) (from : ℕ) (first now next : Seen) (blocks : List (List ℕ)) (at : Pbn) (bytes : List ℕ) (place : at.0 ≡ from + length blocks)
    (was : WereRead trust from first now (reverse blocks)) (stays : Stays now next) (later : Later now next) where
  here : at.0 ≡ from + length (reverse blocks)
  here = omega (arith, place, length-reverse blocks)

  -- one block more
  pub one_more : length bytes ≡ 4096 → (IsTrue trust.tells → IsTrue trust.honest → IsMixOf (settled now.opening now.log at.0) bytes) → (IsTrue trust.tells → next.log ≡ Read at bytes true ∷ now.log)
      → WereRead trust from first next (reverse (blocks ++ (bytes ∷ [])))
  one_more whole given logged =
      let still : IsTrue trust.tells → length now.opening ≡ now.size = λ told. ap length was.stays.opening ∙ was.told told ∙ sym was.stays.size in
      let one = one_read trust (from + length (reverse blocks)) now next at bytes here still stays later whole given logged in
      subst (WereRead trust from first next) (sym (reverse-append blocks (bytes ∷ []))) (read_on trust from first now next (reverse blocks) was (bytes ∷ []) one)

  -- the next one couldn't be read
  pub none_more : Rose now.faults next.faults → (IsTrue trust.tells → FailedInLog now.log next.log (Read at bytes false) (Rose now.unkept next.unkept))
      → NextFailed trust from first next (reverse blocks)
  none_more rose logged =
      failed_on trust from first now next (reverse blocks) was [] (one_failed trust (from + length (reverse blocks)) now next at bytes here stays later rose logged)

module _ (trust : Trust) (from : ℕ) (first now next : Seen) (blocks : List (List ℕ)) (at : Pbn) (place : at.0 ≡ from + length blocks)
    (was : WereRead trust from first now (reverse blocks)) where
  behind : at.0 ≡ from + length (reverse blocks)
  behind = omega (arith, place, length-reverse blocks)

  -- the block behind them
  pub next_read : (bytes : List ℕ) → WereRead trust at.0 now next (bytes ∷ []) → WereRead trust from first next (reverse (blocks ++ (bytes ∷ [])))
  next_read bytes read =
      subst (WereRead trust from first next) (sym (reverse-append blocks (bytes ∷ [])))
      (read_on trust from first now next (reverse blocks) was (bytes ∷ []) (subst (λ (b : ℕ). WereRead trust b now next (bytes ∷ [])) behind read))

  -- it couldn't be read
  pub next_failed : NextFailed trust at.0 now next [] → NextFailed trust from first next (reverse blocks)
  next_failed failed =
      failed_on trust from first now next (reverse blocks) was [] (subst (λ (b : ℕ). NextFailed trust b now next []) behind failed)
