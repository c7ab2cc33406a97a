-- Whatever a stop leaves at each moment of recovery says the same.
use Rattle.std.proofs.Common.{ℕ, ◌≡◌, Bool, IsTrue, true, List, [], ◌∷◌, ◌++◌, Result, Ok, Err, refl, sym, ◌∙◌, ap, ap₂, subst, inl, inr, append_assoc}
use Rattle.std.specs.List.{AllByRecursion}
use Rattle.blk_base.specs.declared.geometry.Super.{Super as Superblock}
use Rattle.blk_base.specs.declared.journal_entry.CommittedEntry.{CommittedEntry}
use Rattle.blk_base.specs.Regions.{IndexBlock, block_of, needed_blocks}
use Rattle.disk_model.specs.declared.call.Call.{Call}
use Rattle.disk_model.specs.declared.call.Call.TheVariants.{Read, Write, Flush}
use Rattle.disk_model.specs.declared.call.Failed.{Failed}
use Rattle.disk_model.specs.Log.{Blocks, Misses}
use Rattle.disk_model.specs.Seen.{Seen}
use Rattle.disk_model.specs.Trust.{Trust}
use Rattle.disk_model.specs.Since.{IsUntouched, OnlyReads}
use Rattle.disk_model.proofs.LookedLaws.{one_in-since, one_in-unique}
use Rattle.image_format.specs.Calls.{put}
use Rattle.image_format.specs.Runs.{Makes, WereMade, OneFailed, as_failed}
use Rattle.image_layout.specs.Superblock.{super_block}
use Rattle.image_layout.specs.Values.{journal_of}
use Rattle.image_model.proofs.WindowLaws.{one_window}
use Rattle.image_model.specs.Maps.{Image}
use Rattle.image_model.specs.Sound.{IsSound, Opens, image_of}
use Rattle.image_model.specs.Windows.{IsWindow}
use Rattle.image_model.specs.Looked.{HasOneImageButIndex, looked_in}
use Rattle.recovery_laws.proofs.AlikeLaws.{alike_is_kept}
use Rattle.recovery_laws.proofs.ShowLaws.{begun_still}
use Rattle.recovery_laws.proofs.UntouchedLaws.{alike_still}
use Rattle.recovery_laws.proofs.WholeLaws.{begun_kept}
use Rattle.recovery_laws.specs.Calls.{ArePuts, IsPut, call_failed, first_calls, put_failed, some_puts, recovery_calls}
use Rattle.recovery_laws.specs.Kept.{IsHeadKept, IsToRecover, PutsOnly, image_in, recovered_super}
use Rattle.recovery_laws.specs.Recoverable.{IsRecoverable, recoverable_image, sound_recoverable}
use Rattle.recovery_laws.proofs.InsideLaws.{reads_below}
use Rattle.rebuild.specs.Acts.{AreMade, HasStopped, IsFlush, IsStart}
use Rattle.rebuild.specs.Outcomes.{Ends, IsAllMade, IsBegunSince, IsKeptSince, IsStillSince}

-- Where there were only reads.

pub reads_behind : (newer older : List Call) → OnlyReads (newer ++ older) → OnlyReads older
reads_behind [] older reads = reads
reads_behind (Read at bytes ok ∷ newer) older reads = reads_behind newer older reads
reads_behind (Write at bytes ok ∷ newer) older reads = absurd reads
reads_behind (Flush ok ∷ newer) older reads = absurd reads

pub reads_miss : (b : ℕ) (calls : List Call) → OnlyReads calls → AllByRecursion (λ call. Misses call b) calls
reads_miss b [] reads = tt
reads_miss b (Read at bytes ok ∷ calls) reads = (tt, reads_miss b calls reads)
reads_miss b (Write at bytes ok ∷ calls) reads = absurd reads
reads_miss b (Flush ok ∷ calls) reads = absurd reads

pub reads_put_nothing : (b : ℕ) (P : List ℕ → Type 0) (calls : List Call) → OnlyReads calls → AllByRecursion (PutsOnly b P) calls
reads_put_nothing b P [] reads = tt
reads_put_nothing b P (Read at bytes ok ∷ calls) reads = (tt, reads_put_nothing b P calls reads)
reads_put_nothing b P (Write at bytes ok ∷ calls) reads = absurd reads
reads_put_nothing b P (Flush ok ∷ calls) reads = absurd reads

pub untouched_kept : (tells : Bool) (before now : Seen) (blocks : Blocks) (sound : IsSound blocks) → IsTrue tells → HasOneImageButIndex before.opening before.log blocks → IsUntouched tells before now
    → IsKeptSince blocks sound before now
untouched_kept tells before now blocks sound told one untouched =
    let since = untouched.reads told in (
      since.0,
      since.1,
      record {
        kept = λ newer older image same is.
            let reads = reads_behind newer older (subst OnlyReads same since.2) in
            let still = one_in-since (looked_in blocks) before.opening before.log (older ++ before.log) blocks (older, refl, reads) one in
            alike_is_kept blocks image sound (one_in-unique (looked_in blocks) before.opening (older ++ before.log) blocks image still is);
        heads = reads_put_nothing 0 (IsHeadKept blocks sound) since.0 since.2;
        index = λ i below. reads_miss (block_of sound.head.geometry (IndexBlock i)) since.0 since.2;
        inside = reads_below (needed_blocks sound.head.geometry) since.0 since.2;
      },
    )

pub untouched_still : (tells : Bool) (before now : Seen) (blocks : Blocks) (able : IsRecoverable blocks) → IsTrue tells → HasOneImageButIndex before.opening before.log blocks
    → IsUntouched tells before now → IsStillSince blocks able before now
untouched_still tells before now blocks able told one untouched =
    let since = untouched.reads told in (
      since.0,
      since.1,
      record {
        still = λ newer older image same is.
            let reads = reads_behind newer older (subst OnlyReads same since.2) in
            let there = one_in-since (looked_in blocks) before.opening before.log (older ++ before.log) blocks (older, refl, reads) one in
            alike_still blocks image able (one_in-unique (looked_in blocks) before.opening (older ++ before.log) blocks image there is);
        index = λ i below. reads_miss (block_of able.head.geometry (IndexBlock i)) since.0 since.2;
      },
    )

module _ (trust : Trust) (first : Seen) (blocks : Blocks) (start : IsStart trust first blocks) where
  abbrev image : Image
  image = recoverable_image blocks start.to.is

  abbrev last : ℕ
  last = start.to.is.last

  pub made_begun : (now : Seen) (calls : List Call) → AreMade (IsPut image) first now calls → IsBegunSince image last first now
  made_begun now calls made = (calls, made.logged, some_puts made.each)

  pub stopped_begun : (now : Seen) → HasStopped (IsPut image) IsFlush first now → IsBegunSince image last first now
  stopped_begun now stopped = elim stopped.logged [
    | inl is ↦ (as_failed stopped.call ∷ stopped.calls, is, put_failed stopped.calls stopped.call refl stopped.each stopped.kind)
    | inr lost ↦ (stopped.calls, lost.0, some_puts stopped.each)
  ]

  pub all_begun : (now : Seen) → IsAllMade image last first now → IsBegunSince image last first now
  all_begun now (puts, are, logged) = (recovery_calls image last puts, logged, first_calls puts [] are refl)

  -- While it is closed.
  module _ (before now : Seen) (puts : List Call) (made : AreMade (IsPut image) first before puts) (are : ArePuts image puts) where
    abbrev closing : List Call
    closing = Flush true ∷ put 0 (super_block (recovered_super image.geometry last)) ∷ Flush true ∷ []

    pub closed_made : WereMade trust.tells before now closing → IsAllMade image last first now
    closed_made closes = (puts, are, closes.logged start.told ∙ ap (λ (log : List Call). closing ++ log) made.logged)

    pub closing_failed : OneFailed trust.tells before now closing → IsBegunSince image last first now
    closing_failed failed =
        let whole : recovery_calls image last puts ≡ failed.newer ++ (failed.call ∷ (failed.done ++ puts)) =
        ap (λ (calls : List Call). calls ++ puts) failed.parts ∙ append_assoc failed.newer (failed.call ∷ failed.done) puts in
        let log : failed.done ++ before.log ≡ (failed.done ++ puts) ++ first.log =
        ap (λ (log : List Call). failed.done ++ log) made.logged ∙ sym (append_assoc failed.done puts first.log) in
        elim (failed.logged start.told) [
          | inl is ↦ (
            as_failed failed.call ∷ (failed.done ++ puts),
            is ∙ ap (λ (l : List Call). as_failed failed.call ∷ l) log,
            call_failed puts failed.newer (failed.done ++ puts) failed.call refl are whole,
          )
          | inr lost ↦ (
            failed.done ++ puts,
            lost.0 ∙ log,
            first_calls puts (failed.newer ++ (failed.call ∷ [])) are (whole ∙ sym (append_assoc failed.newer (failed.call ∷ []) (failed.done ++ puts))),
          )
        ]

    pub closes_to : (result : Result (Unit {0}) Failed) → Makes trust.tells before now closing result → Ends image last first now result
    closes_to (Ok _) makes = closed_made makes
    closes_to (Err _) makes = closing_failed makes

  -- Wherever it ended.
  pub still_since : (now : Seen) → IsBegunSince image last first now → IsStillSince blocks start.to.is first now
  still_since now (calls, logged, begun) = (calls, logged, begun_still first.opening blocks first.log start.to calls begun)

-- and of a sound image
pub kept_since : (first now : Seen) (blocks : Blocks) (to : IsToRecover first.opening first.log blocks) → IsBegunSince (image_in blocks to.sound) to.sound.last first now
    → IsKeptSince blocks to.sound first now
kept_since first now blocks to (calls, logged, begun) = (calls, logged, begun_kept first.opening blocks first.log to calls begun)

-- An image is opened in one way.

pub opened_as : (blocks : Blocks) (able : IsRecoverable blocks) (head : Superblock) (last : ℕ) (window : List CommittedEntry) → Opens blocks head last window
    → (head ≡ able.head) × (last ≡ able.last) × (window ≡ able.window)
opened_as blocks able head last window opens =
    let accepted = opens.accepted in
    let own = able.opens.accepted in
    let same : head ≡ able.head = cc (accepted, own) in
    let there = subst (λ (h : Superblock). IsWindow h.geometry h.start (journal_of h.geometry blocks) last window) same opens.is_window in
    let one = one_window able.head.geometry able.head.start (journal_of able.head.geometry blocks) last able.last window able.window there able.opens.is_window in
    (same, one.0, one.1)

pub image_as : (blocks : Blocks) (able : IsRecoverable blocks) (head : Superblock) (last : ℕ) (window : List CommittedEntry) → Opens blocks head last window
    → image_of head blocks window ≡ recoverable_image blocks able
image_as blocks able head last window opens =
    let one = opened_as blocks able head last window opens in
    ap₂ (λ (h : Superblock) (w : List CommittedEntry). image_of h blocks w) one.0 one.2

pub opened_alike : (blocks : Blocks) (sound : IsSound blocks) (head : Superblock) (last : ℕ) (window : List CommittedEntry) → Opens blocks head last window
    → (head ≡ sound.head) × (last ≡ sound.last) × (window ≡ sound.window)
opened_alike blocks sound = opened_as blocks (sound_recoverable blocks sound)

pub image_alike : (blocks : Blocks) (sound : IsSound blocks) (head : Superblock) (last : ℕ) (window : List CommittedEntry) → Opens blocks head last window
    → image_of head blocks window ≡ image_in blocks sound
image_alike blocks sound = image_as blocks (sound_recoverable blocks sound)
