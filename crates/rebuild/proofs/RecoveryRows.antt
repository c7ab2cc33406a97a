-- What is promised of a recovery: for each clause that `Rows` hasn't, a small case that it accepts, and one that breaks it
-- and is refused.
use Rattle.std.proofs.Common.{ℕ, zero, suc, ◌≡◌, ◌<◌, ◌^◌, Bool, true, false, List, [], ◌∷◌, ◌++◌, length, length-append, replicate, reverse, Ok, Err, refl, sym, ◌∙◌, ap, ap₂, subst, inl, inr, arith}
use Rattle.replay_counts.proofs.ReadRows.{no_entries}
use Rattle.audit.specs.Audits.{BothShow}
use Rattle.audit.specs.Reports.{HasNoFault}
use Rattle.blk_base.specs.Regions.{Place, JournalSlot, IsPlace, block_of}
use Rattle.blk_base.specs.Sectors.{zero_block}
use Rattle.blk_base.specs.declared.geometry.Geometry.{Geometry}
use Rattle.blk_base.specs.declared.geometry.Super.{Super as Superblock}
use Rattle.disk_model.proofs.ImageLaws.{block_of_mix, contents-write_other}
use Rattle.disk_model.proofs.OneImageLaws.{one_image-is_image, one_image-opening}
use Rattle.disk_model.proofs.SinceLaws.{untouched_yet}
use Rattle.disk_model.specs.declared.call.Call.{Call}
use Rattle.disk_model.specs.declared.call.Call.TheVariants.{Write, Flush}
use Rattle.disk_model.specs.Images.{HasOneImage, IsImage, IsMixOf}
use Rattle.disk_model.specs.Log.{Blocks, block_at, contents}
use Rattle.disk_model.specs.Seen.{Seen}
use Rattle.disk_model.specs.Trust.{Trust, trust_of}
use Rattle.disk_model.specs.Since.{reads_of}
use Rattle.disk_model.proofs.LookedLaws.{one_in-all, one_in-unique}
use Rattle.image_layout.specs.Opened.{super_of_image}
use Rattle.image_layout.specs.Superblock.{super_block, super_of}
use Rattle.image_model.proofs.EmptyLaws.{sizes_of_image, the_image, window_is}
use Rattle.image_model.specs.Empty.{IsMade, made_block}
use Rattle.image_model.specs.Maps.{Image}
use Rattle.image_model.specs.Sound.{IsSound, Opens}
use Rattle.image_model.specs.declared.fault.ImageFault.TheVariants.{Window, Counts, Device, Unclean, Memory}
use Rattle.image_model.specs.Looked.{HasOneImageButIndex, looked_in}
use Rattle.image_model.proofs.LookedLaws.{looked_first}
use Rattle.image_model.proofs.ReadExample.{next_failed, failed}
use Rattle.image_model.proofs.WholeExample.{zero_super}
use Rattle.image_opening.specs.Heads.{IsHeadRead}
use Rattle.recovery_laws.proofs.OpenedExample.{nothing_to_put, opened_super, whole_run}
use Rattle.recovery_laws.proofs.ShowLaws.{closed_still}
use Rattle.recovery_laws.proofs.UntouchedLaws.{same_super}
use Rattle.recovery_laws.specs.Calls.{ArePuts, recovery_calls}
use Rattle.recovery_laws.specs.Kept.{IsRecovered, image_in}
use Rattle.recovery_laws.specs.Recoverable.{HasRecoverable, IsRecoverable, recoverable_image}
use Rattle.recovery_laws.proofs.AlikeLaws.{alike_super}
use Rattle.rebuild.proofs.KeptLaws.{image_alike, image_as, opened_alike, opened_as}
use Rattle.rebuild.proofs.OutcomeRows.{kept_yet, never_unclean, none_of_zeros, opened, still_yet}
use Rattle.audit.proofs.ReadExample.{head_is_read, head_of, says_head}
use Rattle.image_layout.proofs.SpellingLaws.{super_size}
use Rattle.blk_base.proofs.SectorLaws.{zero_size}
use Rattle.blk_base.specs.Forms.{pbn}
use Rattle.rebuild.proofs.ShownLaws.{both_logged}
use Rattle.rebuild.proofs.Rows.{flushed, none_flushed, seen}
use Rattle.rebuild.specs.Recoveries.{Answers, AreStopsRecoverable, AreStopsSound, IsAnswer, IsRecovery, IsRefusal, IsResult, IsTold, IsUnclean, LeavesClosed, LeavesTheSame, RecoverFails}
use Rattle.rebuild.specs.declared.forms.Recovered.TheVariants.{Clean, Entries}

-- Answers, of any device. Clean: block 0 was read, it says that the session was closed, and nothing was written.
clean_read : (honest : Bool) → Answers (trust_of false honest) seen seen Clean
clean_read honest = (head_of true, head_is_read honest true, refl, untouched_yet false seen)

nothing_read : (honest : Bool) (now : Seen) → Answers (trust_of true honest) now now Clean → ⊥
nothing_read honest now (head, read, clean, untouched) = let more = ap length (read.read.logged refl) in omega (arith, more)

clean_written : (honest : Bool) → Answers (trust_of true honest) seen flushed Clean → ⊥
clean_written honest (head, read, clean, untouched) = let since = untouched.reads refl in none_flushed since.0 since.1 since.2

-- A device that tells and is honest, with a superblock in block 0.
abbrev pub with_head : Bool → Seen
with_head clean = record { opening = super_block (head_of clean) ∷ replicate 153 zero_block; size = 154; log = []; faults = 3; unkept = 0 }

pub head_there : (clean : Bool) (now : Seen) (head : Superblock) → IsHeadRead (trust_of true true) (with_head clean) now head → head ≡ head_of clean
head_there clean now head read =
    let given = read.read.given in
    let block : read.block ≡ super_block (head_of clean) =
    block_of_mix (super_block (head_of clean) ∷ []) (super_block (head_of clean)) read.block (super_size (head_of clean)) given.0 (given.1 refl refl) (refl, tt) in
    let says = read.is.says in
    let here = ap (λ (b : List ℕ). super_of b 154) block ∙ says_head clean in
    cc (says, here)

unclean_isnt_clean : (now : Seen) → Answers (trust_of true true) (with_head false) now Clean → ⊥
unclean_isnt_clean now (head, read, clean, untouched) =
    let same = ap (λ (h : Superblock). h.clean) (head_there false now head read) in absurd (cc (same, clean))

-- Entries: it says that the session wasn't closed, and the window has so many
zeros_read : (honest : Bool) → BothShow (trust_of false honest) (head_of false) no_entries seen seen HasNoFault → Answers (trust_of false honest) seen seen (Entries 0)
zeros_read honest right = (head_of false, seen, head_is_read honest false, refl, none_of_zeros honest false right)

-- and both reads stand in the log of a device that tells
entries_unread : (honest : Bool) (now : Seen) (count : ℕ) → Answers (trust_of true honest) now now (Entries count) → ⊥
entries_unread honest now count (head, middle, read, unclean, has) =
    let first = ap length (read.read.logged refl) in
    let journal = ap length (has.read.1.read.logged refl) in
    let more = ap length (has.grows refl).1 in
    let second = length-append (reads_of 1 (reverse has.read.0)) middle.log in
    let third = length-append (has.grows refl).0 has.behind.log in
    let goes_on = both_logged honest head has.window has.middle has.behind HasNoFault has.right in
    let fourth = ap length goes_on.1 in
    let fifth = length-append goes_on.0 has.middle.log in
    omega (arith, first, journal, more, second, third, fourth, fifth)

clean_isnt_unclean : (now : Seen) (count : ℕ) → Answers (trust_of true true) (with_head true) now (Entries count) → ⊥
clean_isnt_unclean now count (head, middle, read, unclean, entries) =
    let same = ap (λ (h : Superblock). h.clean) (head_there true middle head read) in absurd (cc (same, unclean))

-- Refusals, of any device: of the superblock, which wasn't read; or behind it.
head_failed : (honest : Bool) → RecoverFails (trust_of false honest) seen failed Device
head_failed honest = inl (next_failed honest 0)

pub behind_head : (honest : Bool) → RecoverFails (trust_of false honest) seen seen Memory
behind_head honest = inr (head_of false, seen, head_is_read honest false, refl, inl tt)

-- of an unclean one alone
clean_fails : (now : Seen) → RecoverFails (trust_of true true) (with_head true) now Memory → ⊥
clean_fails now fails = elim fails [
  | inl none ↦ none
  | inr (head, middle, read, unclean, why) ↦ let same = ap (λ (h : Superblock). h.clean) (head_there true middle head read) in absurd (cc (same, unclean))
]

pub never_refused_so : (trust : Trust) (before now : Seen) → RecoverFails trust before now Unclean → ⊥
never_refused_so trust before now fails = elim fails [ inl none ↦ none | inr (head, middle, read, unclean, why) ↦ never_unclean trust head middle now why ]

-- Refusals by the image: of a clean one neither a window's fault nor a count's.
module _ (blocks : Blocks) (head : Superblock) (accepted : super_of_image blocks ≡ Ok head) where
  unclean_is : head.clean ≡ false → IsUnclean blocks
  unclean_is unclean = (head, accepted, unclean)

  clean_isnt : head.clean ≡ true → IsUnclean blocks → ⊥
  clean_isnt clean (other, is, unclean) =
      let same : other ≡ head = cc (is, accepted) in
      let here = ap (λ (h : Superblock). h.clean) same in absurd (cc (here, clean, unclean))

  unclean_has_memory : head.clean ≡ false → IsRefusal blocks seen seen Memory
  unclean_has_memory unclean = (head, accepted, unclean)

  clean_has_no_window : (sequence : ℕ) → head.clean ≡ true → IsRefusal blocks seen seen (Window sequence) → ⊥
  clean_has_no_window sequence clean is = clean_isnt clean is.0

never_counts : (blocks : Blocks) → IsRefusal blocks seen seen (Counts (pbn 86) 2 1) → ⊥
never_counts blocks is = is

-- Results: an answer is one, and a refusal one
result_is_answer : (blocks : Blocks) → IsResult blocks seen seen (Ok Clean) → IsAnswer blocks Clean
result_is_answer blocks is = is

result_is_refusal : (blocks : Blocks) → IsResult blocks seen seen (Err Unclean) → ⊥
result_is_refusal blocks is = is

-- Of an honest device: it tells, is honest, and nothing is pending.
abbrev one_block : Blocks
one_block = zero_block ∷ []

zero_whole : (b : ℕ) → b < 1 → length (block_at one_block b) ≡ 4096
unfolding zero_block
zero_whole b below = let first : b ≡ 0 = omega (arith, below) in rw first refl

told_is : IsTold (trust_of true true) (opened one_block) one_block
told_is = record { told = refl; fair = refl; one = one_in-all (looked_in one_block) one_block [] one_block (one_image-opening one_block zero_whole) }

untold : (blocks : Blocks) → IsTold (trust_of false true) seen blocks → ⊥
untold blocks is = let told = is.told in absurd (cc told)

unfair : (blocks : Blocks) → IsTold (trust_of true false) seen blocks → ⊥
unfair blocks is = let fair = is.fair in absurd (cc fair)

-- a write is pending, of which a stop may leave nothing
pending : IsTold (trust_of true true) (record (opened one_block) { log = Write (pbn 0) [] true ∷ [] }) one_block → ⊥
pending is = let only = (is.one.only 0 (omega arith) (looked_first one_block)).0 in let whole = is.one.whole 0 (omega arith) in let size = ap length only in omega (arith, size, whole)

-- Each way it ends: what a sound image says is kept, and of one that isn't sound nothing is said.
unsound : IsSound [] → ⊥
unsound sound = let accepted = sound.opens.accepted in absurd (cc accepted)

nothing_sound : AreStopsSound [] flushed seen
nothing_sound sound = absurd (unsound sound)

module _ (blocks : Blocks) (one : HasOneImage blocks [] blocks) where
  sound_yet : AreStopsSound blocks (opened blocks) (opened blocks)
  sound_yet sound = kept_yet blocks sound one

  log_forgotten : IsSound blocks → AreStopsSound blocks flushed seen → ⊥
  log_forgotten sound stops =
      let since = stops sound in let size = ap (λ (l : List Call). length l) since.1 in omega (arith, size, length-append since.0 (Flush true ∷ []))

  -- After recovery its superblock says that the session was closed; of a clean one nothing is left to do.
  clean_leaves : LeavesClosed blocks (opened blocks) Clean
  clean_leaves = tt

  still_unclean : (sound : IsSound blocks) (count : ℕ) → sound.head.clean ≡ false → LeavesClosed blocks (opened blocks) (Entries count) → ⊥
  still_unclean sound count unclean leaves =
      let left = leaves sound in
      let alike = one_in-unique (looked_in left.0) blocks [] left.0 blocks left.1 (one_image-is_image blocks [] blocks one) in
      let accepted = alike_super left.0 blocks left.2.kept.sound alike in
      let own = sound.opens.accepted in
      let head : left.2.kept.sound.head ≡ sound.head = cc (accepted, own) in
      let clean = ap (λ (h : Superblock). h.clean) left.2.closed in
      let here = ap (λ (h : Superblock). h.clean) head in
      absurd (cc (clean, here, unclean))

-- The same where it can be recovered, sound or not; of what can't, nothing is said.
unable : IsRecoverable [] → ⊥
unable able = let accepted = able.opens.accepted in absurd (cc accepted)

nothing_recoverable : AreStopsRecoverable [] flushed seen
nothing_recoverable able = absurd (unable able)

module _ (blocks : Blocks) (one : HasOneImage blocks [] blocks) where
  recoverable_yet : AreStopsRecoverable blocks (opened blocks) (opened blocks)
  recoverable_yet able = still_yet blocks able one

  log_dropped : IsRecoverable blocks → AreStopsRecoverable blocks flushed seen → ⊥
  log_dropped able stops =
      let since = stops able in let size = ap (λ (l : List Call). length l) since.1 in omega (arith, size, length-append since.0 (Flush true ∷ []))

  clean_leaves_it : LeavesTheSame blocks (opened blocks) Clean
  clean_leaves_it = tt

  still_not_closed : (able : IsRecoverable blocks) (count : ℕ) → able.head.clean ≡ false → LeavesTheSame blocks (opened blocks) (Entries count) → ⊥
  still_not_closed able count unclean leaves =
      let left = leaves able in
      let alike = one_in-unique (looked_in left.0) blocks [] left.0 blocks left.1 (one_image-is_image blocks [] blocks one) in
      let accepted = same_super left.0 blocks left.2.still.is alike in
      let own = able.opens.accepted in
      let head : left.2.still.is.head ≡ able.head = cc (accepted, own) in
      let clean = ap (λ (h : Superblock). h.clean) left.2.closed in
      let here = ap (λ (h : Superblock). h.clean) head in
      absurd (cc (clean, here, unclean))

-- An image that was opened, and whose recovery was run.
module _ (g : Geometry) (blocks : Blocks) (accepted : super_of_image blocks ≡ Ok (opened_super g)) (named : g.nonce < 2 ^ 64)
    (made : (place : Place) → IsPlace g place → IsMade place → block_at blocks (block_of g place) ≡ made_block g place)
    (whole : (b : ℕ) → b < length blocks → length (block_at blocks b) ≡ 4096) where
  opens : Opens blocks (opened_super g) 0 []
  opens = record {
    accepted = accepted;
    sequences = λ unclean. omega arith;
    is_window = window_is g blocks (sizes_of_image blocks (opened_super g) accepted) (λ slot inside. made (JournalSlot slot) inside tt);
  }

  run_leaves : (count : ℕ) → LeavesClosed blocks (record (opened blocks) { log = recovery_calls (the_image g blocks) 0 [] ++ [] }) (Entries count)
  run_leaves count sound =
      let run = whole_run g blocks accepted made named whole in
      let image : the_image g blocks ≡ image_in blocks sound = image_alike blocks sound (opened_super g) 0 [] opens in
      let last : 0 ≡ sound.last = (opened_alike blocks sound (opened_super g) 0 [] opens).1 in
      (run.0, run.1, subst (λ (i : Image). IsRecovered i sound.last run.0) image (subst (λ (n : ℕ). IsRecovered (the_image g blocks) n run.0) last run.2))

  run_leaves_it : (count : ℕ) → LeavesTheSame blocks (record (opened blocks) { log = recovery_calls (the_image g blocks) 0 [] ++ [] }) (Entries count)
  run_leaves_it count able =
      let image : the_image g blocks ≡ recoverable_image blocks able = image_as blocks able (opened_super g) 0 [] opens in
      let one = opened_as blocks able (opened_super g) 0 [] opens in
      let head : opened_super g ≡ able.head = one.0 in
      let last : 0 ≡ able.last = one.1 in
      let to : HasRecoverable blocks [] blocks = record {
        one = one_in-all (looked_in blocks) blocks [] blocks (one_image-opening blocks whole);
        is = able;
        unclean = ap (λ (h : Superblock). h.clean) (sym head);
        named = subst (λ (h : Superblock). h.geometry.nonce < 2 ^ 64) head named;
      } in
      let left = closed_still blocks blocks [] to [] (subst (λ (i : Image). ArePuts i []) image (nothing_to_put g blocks accepted made)) in
      let calls : recovery_calls (recoverable_image blocks able) able.last [] ≡ recovery_calls (the_image g blocks) 0 [] =
      ap₂ (λ (i : Image) (n : ℕ). recovery_calls i n []) (sym image) (sym last) in
      (left.0, subst (λ (log : List Call). HasOneImageButIndex blocks (log ++ []) left.0) calls left.1, left.2)

-- The whole, of a device that doesn't tell: an answer, and a refusal.
clean_recovery : (honest : Bool) → IsRecovery (trust_of false honest) seen seen (Ok Clean)
clean_recovery honest = record {
  stays = record { opening = refl; size = refl };
  later = record { faults = omega arith; unkept = omega arith };
  grows = λ told. absurd (cc told);
  answers = clean_read honest;
  fails = tt;
  nothing = tt;
  says = λ blocks is. let told = is.told in absurd (cc told);
  stops = λ blocks is. let told = is.told in absurd (cc told);
  closed = λ blocks is. let told = is.told in absurd (cc told);
  stands = λ blocks is. let told = is.told in absurd (cc told);
  left = λ blocks is. let told = is.told in absurd (cc told);
}

refused_recovery : (honest : Bool) → IsRecovery (trust_of false honest) seen failed (Err Device)
refused_recovery honest = record {
  stays = record { opening = refl; size = refl };
  later = record { faults = omega arith; unkept = omega arith };
  grows = λ told. absurd (cc told);
  answers = tt;
  fails = head_failed honest;
  nothing = inl refl;
  says = λ blocks is. let told = is.told in absurd (cc told);
  stops = λ blocks is. let told = is.told in absurd (cc told);
  closed = tt;
  stands = λ blocks is. let told = is.told in absurd (cc told);
  left = tt;
}

-- stays, later
other_size : (honest : Bool) → IsRecovery (trust_of false honest) seen (record seen { size = 3 }) (Ok Clean) → ⊥
other_size honest is = let size = is.stays.size in omega (arith, size)

fewer_faults : (honest : Bool) → IsRecovery (trust_of false honest) failed seen (Ok Clean) → ⊥
fewer_faults honest is = let less = is.later.faults in omega (arith, less)

-- answers, fails
answered_unread : (honest : Bool) (now : Seen) → IsRecovery (trust_of true honest) now now (Ok Clean) → ⊥
answered_unread honest now is = nothing_read honest now is.answers

counted_unread : (honest : Bool) (now : Seen) (count : ℕ) → IsRecovery (trust_of true honest) now now (Ok (Entries count)) → ⊥
counted_unread honest now count is = entries_unread honest now count is.answers

refused_as_unclean : (honest : Bool) → IsRecovery (trust_of false honest) seen seen (Err Unclean) → ⊥
refused_as_unclean honest is = never_refused_so (trust_of false honest) seen seen is.fails

-- says, stops, closed: of an honest device, by its one image
module _ (before now : Seen) (blocks : Blocks) (told : IsTold (trust_of true true) before blocks) where
  clean_is_said : (head : Superblock) → super_of_image blocks ≡ Ok head → head.clean ≡ false → IsRecovery (trust_of true true) before now (Ok Clean) → ⊥
  clean_is_said head accepted unclean is =
      let answer = is.says blocks told in
      let own = answer.1 in
      let same : answer.0 ≡ head = cc (own, accepted) in
      let here = ap (λ (h : Superblock). h.clean) same in
      let clean = answer.2 in absurd (cc (here, clean, unclean))

  refusal_is_said : IsRecovery (trust_of true true) before now (Err Unclean) → ⊥
  refusal_is_said is = is.says blocks told

module _ (blocks : Blocks) (sound : IsSound blocks) (one : HasOneImage blocks [] blocks) where
  told_here : IsTold (trust_of true true) (opened blocks) blocks
  told_here = record { told = refl; fair = refl; one = one_in-all (looked_in blocks) blocks [] blocks one }

  left_unclean : (count : ℕ) → sound.head.clean ≡ false → IsRecovery (trust_of true true) (opened blocks) (opened blocks) (Ok (Entries count)) → ⊥
  left_unclean count unclean is = still_unclean blocks one sound count unclean (is.closed blocks told_here)

-- stands, left: the same of one that can be recovered, sound or not
module _ (blocks : Blocks) (able : IsRecoverable blocks) (one : HasOneImage blocks [] blocks) where
  left_not_closed : (count : ℕ) → able.head.clean ≡ false → IsRecovery (trust_of true true) (opened blocks) (opened blocks) (Ok (Entries count)) → ⊥
  left_not_closed count unclean is =
      still_not_closed blocks one able count unclean (is.left blocks (record { told = refl; fair = refl; one = one_in-all (looked_in blocks) blocks [] blocks one }))

-- stops, stands: zeros were written over the superblock, whatever is answered
zeros_whole : (block : List ℕ) (more : Blocks) → ((b : ℕ) → b < length (block ∷ more) → length (block_at (block ∷ more) b) ≡ 4096)
    → (b : ℕ) → b < length (block ∷ more) → length (block_at (zero_block ∷ more) b) ≡ 4096
zeros_whole block more whole zero below = zero_size
zeros_whole block more whole (suc b) below = whole (suc b) below

zeros_mixed : (block : List ℕ) (more : Blocks) (b : ℕ) → IsMixOf (contents (block ∷ more) (Write (pbn 0) zero_block true ∷ []) b) (block_at (zero_block ∷ more) b)
zeros_mixed block more zero = λ i below. inl refl
zeros_mixed block more (suc b) =
    let other = contents-write_other (block ∷ more) [] (pbn 0) zero_block true (suc b) (λ same. omega (arith, same)) in
    subst (λ (options : List (List ℕ)). IsMixOf options (block_at more b)) (sym other) (λ i below. inl refl)

zeros_stand : (block : List ℕ) (more : Blocks) → ((b : ℕ) → b < length (block ∷ more) → length (block_at (block ∷ more) b) ≡ 4096)
    → IsImage (block ∷ more) (Write (pbn 0) zero_block true ∷ []) (zero_block ∷ more)
zeros_stand block more whole = record { size = refl; whole = zeros_whole block more whole; sectors = λ b below. zeros_mixed block more b }

written_over : (block : List ℕ) (more : Blocks) → IsSound (block ∷ more) → HasOneImage (block ∷ more) [] (block ∷ more)
    → IsRecovery (trust_of true true) (opened (block ∷ more)) (record (opened (block ∷ more)) { log = Write (pbn 0) zero_block true ∷ [] }) (Err Device) → ⊥
written_over block more sound one is =
    let since = is.stops (block ∷ more) (record { told = refl; fair = refl; one = one_in-all (looked_in (block ∷ more)) (block ∷ more) [] (block ∷ more) one }) sound in
    let stands = subst (λ (log : List Call). IsImage (block ∷ more) log (zero_block ∷ more)) since.1 (zeros_stand block more one.whole) in
    let kept = since.2.kept [] since.0 (zero_block ∷ more) refl stands in
    let accepted = kept.sound.opens.accepted in
    let none = zero_super (length (zero_block ∷ more)) in
    absurd (cc (accepted, none))

wiped : (block : List ℕ) (more : Blocks) → IsRecoverable (block ∷ more) → HasOneImage (block ∷ more) [] (block ∷ more)
    → IsRecovery (trust_of true true) (opened (block ∷ more)) (record (opened (block ∷ more)) { log = Write (pbn 0) zero_block true ∷ [] }) (Err Device) → ⊥
wiped block more able one is =
    let since = is.stands (block ∷ more) (record { told = refl; fair = refl; one = one_in-all (looked_in (block ∷ more)) (block ∷ more) [] (block ∷ more) one }) able in
    let there = subst (λ (log : List Call). IsImage (block ∷ more) log (zero_block ∷ more)) since.1 (zeros_stand block more one.whole) in
    let still = since.2.still [] since.0 (zero_block ∷ more) refl there in
    let accepted = still.is.opens.accepted in
    let none = zero_super (length (zero_block ∷ more)) in
    absurd (cc (accepted, none))
