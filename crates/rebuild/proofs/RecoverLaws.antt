-- What recovery promises, by how it ended.
use Rattle.std.proofs.Common.{ℕ, ◌≡◌, ◌<◌, ◌^◌, ◌++◌, IsTrue, true, false, List, Result, Ok, Err, IsErrAnd, length, sym, subst, inl, inr}
use Rattle.blk_base.specs.declared.geometry.Super.{Super as Superblock}
use Rattle.disk_model.specs.declared.call.Call.{Call}
use Rattle.disk_model.specs.Log.{Blocks}
use Rattle.disk_model.specs.Seen.{Seen, Stays}
use Rattle.disk_model.specs.Trust.{Trust}
use Rattle.disk_model.specs.Since.{IsUntouched}
use Rattle.disk_model.proofs.SeenLaws.{later_on, stays_on}
use Rattle.disk_model.proofs.SinceLaws.{untouched_on}
use Rattle.image_layout.specs.Opened.{super_of_image}
use Rattle.image_model.specs.Sound.{IsSound}
use Rattle.image_model.specs.declared.fault.ImageFault.{ImageFault}
use Rattle.image_model.specs.Looked.{HasOneImageButIndex}
use Rattle.image_opening.proofs.HeadLaws.{head_shown}
use Rattle.image_opening.specs.Heads.{HeadFails, IsHeadRead}
use Rattle.recovery_laws.proofs.ShowLaws.{closed_still}
use Rattle.recovery_laws.proofs.WholeLaws.{recovered}
use Rattle.recovery_laws.specs.Calls.{recovery_calls}
use Rattle.recovery_laws.specs.Kept.{IsToRecover, image_in}
use Rattle.recovery_laws.specs.Recoverable.{IsRecoverable, recoverable_image, sound_recoverable}
use Rattle.rebuild.proofs.ActLaws.{grows_on, untouched_grows}
use Rattle.rebuild.proofs.KeptLaws.{all_begun, kept_since, still_since, untouched_kept, untouched_still}
use Rattle.rebuild.proofs.ShownLaws.{clean_answer, entries_answer, head_refused, unclean_refused}
use Rattle.rebuild.specs.Acts.{IsStart}
use Rattle.rebuild.specs.Outcomes.{RecoversUnclean}
use Rattle.rebuild.specs.Recoveries.{IsRecovery, IsTold}
use Rattle.rebuild.specs.declared.forms.Recovered.{Recovered}
use Rattle.rebuild.specs.declared.forms.Recovered.TheVariants.{Clean, Entries}

module _ (trust : Trust) (before : Seen) where
  pub head_failed : (now : Seen) (why : ImageFault) → (IsTrue trust.tells → length before.opening ≡ before.size) → HeadFails trust before now why → IsUntouched trust.tells before now
      → IsRecovery trust before now (Err why)
  head_failed now why told fails untouched = record {
    stays = untouched.stays;
    later = untouched.later;
    grows = untouched_grows trust.tells before now untouched;
    answers = tt;
    fails = inl fails;
    nothing = inr untouched;
    says = λ blocks is. head_refused trust before blocks is now why (told is.told) fails;
    stops = λ blocks is sound. untouched_kept trust.tells before now blocks sound is.told is.one untouched;
    closed = tt;
    stands = λ blocks is able. untouched_still trust.tells before now blocks able is.told is.one untouched;
    left = tt;
  }

  pub was_clean : (now : Seen) (head : Superblock) → IsHeadRead trust before now head → head.clean ≡ true → IsUntouched trust.tells before now → IsRecovery trust before now (Ok Clean)
  was_clean now head read clean untouched = record {
    stays = untouched.stays;
    later = untouched.later;
    grows = untouched_grows trust.tells before now untouched;
    answers = (head, read, clean, untouched);
    fails = tt;
    nothing = tt;
    says = λ blocks is. clean_answer trust before blocks is now head read clean;
    stops = λ blocks is sound. untouched_kept trust.tells before now blocks sound is.told is.one untouched;
    closed = λ blocks is. tt;
    stands = λ blocks is able. untouched_still trust.tells before now blocks able is.told is.one untouched;
    left = λ blocks is. tt;
  }

  module _ (middle now : Seen) (head : Superblock) (read : IsHeadRead trust before middle head) (unclean : head.clean ≡ false) (untouched : IsUntouched trust.tells before middle)
      (named : head.geometry.nonce < 2 ^ 64) where
    accepted : (blocks : Blocks) → IsTold trust before blocks → super_of_image blocks ≡ Ok head
    accepted blocks is = head_shown trust before middle blocks is.told is.fair is.one head read

    same_head : (blocks : Blocks) → IsTold trust before blocks → (able : IsRecoverable blocks) → head ≡ able.head
    same_head blocks is able = let here = accepted blocks is in let own = able.opens.accepted in cc (here, own)

    abbrev start_of : (blocks : Blocks) (is : IsTold trust before blocks) (able : IsRecoverable blocks) → IsStart trust before blocks
    start_of blocks is able =
        let same = same_head blocks is able in
        record {
          told = is.told;
          fair = is.fair;
          to = record {
            one = is.one;
            is = able;
            unclean = subst (λ (h : Superblock). h.clean ≡ false) same unclean;
            named = subst (λ (h : Superblock). h.geometry.nonce < 2 ^ 64) same named;
          };
        }

    -- of a sound image
    abbrev sound_start : (blocks : Blocks) (is : IsTold trust before blocks) (sound : IsSound blocks) → IsStart trust before blocks
    sound_start blocks is sound = start_of blocks is (sound_recoverable blocks sound)

    abbrev to_recover : (blocks : Blocks) (is : IsTold trust before blocks) (sound : IsSound blocks) → IsToRecover before.opening before.log blocks
    to_recover blocks is sound =
        let to = (sound_start blocks is sound).to in record { one = to.one; sound = sound; unclean = to.unclean; named = to.named }

    -- the one image behind these calls is that of this moment
    one_then : (now : Seen) (calls : List Call) (image : Blocks) → Stays before now → now.log ≡ calls ++ before.log → HasOneImageButIndex before.opening (calls ++ before.log) image
        → HasOneImageButIndex now.opening now.log image
    one_then now calls image stay logged one =
        subst (λ (log : List Call). HasOneImageButIndex now.opening log image) (sym logged)
        (subst (λ (opening : Blocks). HasOneImageButIndex opening (calls ++ before.log) image) (sym stay.opening) one)

    pub was_recovered : (count : ℕ) → RecoversUnclean trust head middle now (Ok count) → IsRecovery trust before now (Ok (Entries count))
    was_recovered count is_so =
        let stay = stays_on before middle now untouched.stays is_so.stays in record {
          stays = stay;
          later = later_on before middle now untouched.later is_so.later;
          grows = grows_on trust.tells before middle now (untouched_grows trust.tells before middle untouched) is_so.grows;
          answers = (head, middle, read, unclean, is_so.entries);
          fails = tt;
          nothing = tt;
          says = λ blocks is. entries_answer trust before blocks is middle head read now count unclean is_so.entries;
          stops = λ blocks is sound.
              let start = sound_start blocks is sound in
              kept_since before now blocks (to_recover blocks is sound) (all_begun trust before blocks start now (is_so.ends before blocks start untouched (accepted blocks is)));
          closed = λ blocks is sound.
              let made = is_so.ends before blocks (sound_start blocks is sound) untouched (accepted blocks is) in
              let last = recovered before.opening blocks before.log made.0 (to_recover blocks is sound) made.1 in
              (last.0, one_then now (recovery_calls (image_in blocks sound) sound.last made.0) last.0 stay made.2 last.1, last.2);
          stands = λ blocks is able.
              let start = start_of blocks is able in
              still_since trust before blocks start now (all_begun trust before blocks start now (is_so.ends before blocks start untouched (accepted blocks is)));
          left = λ blocks is able.
              let start = start_of blocks is able in
              let made = is_so.ends before blocks start untouched (accepted blocks is) in
              let last = closed_still before.opening blocks before.log start.to made.0 made.1 in
              (last.0, one_then now (recovery_calls (recoverable_image blocks able) able.last made.0) last.0 stay made.2 last.1, last.2);
        }

    pub was_refused : (why : ImageFault) → RecoversUnclean trust head middle now (Err why) → IsRecovery trust before now (Err why)
    was_refused why is_so = record {
      stays = stays_on before middle now untouched.stays is_so.stays;
      later = later_on before middle now untouched.later is_so.later;
      grows = grows_on trust.tells before middle now (untouched_grows trust.tells before middle untouched) is_so.grows;
      answers = tt;
      fails = inr (head, middle, read, unclean, is_so.fails);
      nothing = elim is_so.nothing [ inl device ↦ inl device | inr more ↦ inr (untouched_on trust.tells before middle now untouched more) ];
      says = λ blocks is. unclean_refused trust before blocks is middle head read now why unclean is_so.fails;
      stops = λ blocks is sound.
          kept_since before now blocks (to_recover blocks is sound) (is_so.ends before blocks (sound_start blocks is sound) untouched (accepted blocks is));
      closed = tt;
      stands = λ blocks is able.
          let start = start_of blocks is able in
          still_since trust before blocks start now (is_so.ends before blocks start untouched (accepted blocks is));
      left = tt;
    }

-- what holds of a refusal holds where it is passed on
pub refused_as : (trust : Trust) (before now : Seen) (why : ImageFault) (result : Result Recovered ImageFault) → IsErrAnd result (λ e. e ≡ why) → IsRecovery trust before now (Err why)
    → IsRecovery trust before now result
refused_as trust before now why (Ok x) is recovery = absurd is
refused_as trust before now why (Err e) is recovery = subst (λ (f : ImageFault). IsRecovery trust before now (Err f)) (sym is) recovery
