-- A journal has one window, or one reason why it has none.
use Rattle.std.proofs.Common.{ℕ, ◌≡◌, ◌⊎◌, refl, sym, ◌∙◌, ap, ap₂, inl, inr, arith}
use Rattle.std.specs.Prelude.{List, Result, Ok, Err, IfErr}
use Rattle.std.specs.Result.{IsErrAnd}
use Rattle.blk_base.specs.declared.geometry.Super.{Super}
use Rattle.blk_base.specs.declared.journal_entry.CommittedEntry.{CommittedEntry}
use Rattle.disk_model.specs.Log.{Blocks}
use Rattle.image_layout.specs.declared.fault.Field.TheVariants.{Start}
use Rattle.image_layout.specs.declared.fault.SuperFault.TheVariants.{BadField}
use Rattle.image_model.proofs.WindowLaws.{one_last, one_window, one_fault, not_both}
use Rattle.image_model.specs.Sound.{HasSequences}
use Rattle.image_model.specs.Windows.{IsLast, IsFirst, IsFaulty}
use Rattle.image_model.specs.declared.fault.ImageFault.{ImageFault}
use Rattle.image_model.specs.declared.fault.ImageFault.TheVariants.{Super as Superblock, Window, Page, Counter, SharedPage, Counts, Device, Unclean, Memory}
use Rattle.journal_window.specs.Replays.{IsStopped}
use Rattle.journal_window.specs.States.{WindowState}
use Rattle.journal_window.specs.Windows.{IsWindowOf, IsUsedUp, IsRefused}

pub one_window_of : (head : Super) (journal : Blocks) (window window' : WindowState) → IsWindowOf head journal window → IsWindowOf head journal window' → window ≡ window'
one_window_of head journal window window' is is' =
    let same = one_window head.geometry head.start journal window.last window'.last window.entries window'.entries is.is_window is'.is_window in
    ap₂ (λ (last : ℕ) (entries : List CommittedEntry). record { last = last; entries = entries }) same.0 same.1

-- a window has its sequences
pub not_used_up : (head : Super) (journal : Blocks) (window : WindowState) → IsWindowOf head journal window → IsUsedUp head journal → ⊥
not_used_up head journal window is used =
    let same = one_last head.geometry head.start journal window.last used.last is.is_window.is_last used.is_last in
    let below = is.sequences used.unclean in
    let past = used.past in
    omega (arith, same, below, past)

-- the three refusals
abbrev Reason : Super → Blocks → ImageFault → Type 0
Reason head journal why =
    ((why ≡ Superblock (BadField Start)) × IsUsedUp head journal)
    ⊎ ((sequence : ℕ) × (why ≡ Window sequence) × (IsUsedUp head journal → ⊥) × IsFaulty head.geometry head.start journal sequence)
    ⊎ (why ≡ Memory)

reason : (head : Super) (journal : Blocks) (why : ImageFault) → IsRefused head journal why → Reason head journal why
reason head journal (Superblock fault) (named, used) = inl (ap Superblock named, used)
reason head journal (Window sequence) (room, faulty) = inr (inl (sequence, refl, room, faulty))
reason head journal Memory is = inr (inr refl)
reason head journal (Page at fault) is = absurd is
reason head journal (Counter at point) is = absurd is
reason head journal (SharedPage at) is = absurd is
reason head journal (Counts at stored mapped) is = absurd is
reason head journal Device is = absurd is
reason head journal Unclean is = absurd is

pub one_refusal : (head : Super) (journal : Blocks) (why why' : ImageFault) → IsRefused head journal why → IsRefused head journal why'
    → (why ≡ why') ⊎ (why ≡ Memory) ⊎ (why' ≡ Memory)
one_refusal head journal why why' is is' = elim (reason head journal why is) [
  | inl used ↦ elim (reason head journal why' is') [
    | inl used' ↦ inl (used.0 ∙ sym used'.0)
    | inr other ↦ elim other [
      | inl faulty' ↦ absurd (faulty'.2 used.1)
      | inr memory' ↦ inr (inr memory')
    ]
  ]
  | inr more ↦ elim more [
    | inl faulty ↦ elim (reason head journal why' is') [
      | inl used' ↦ absurd (faulty.2 used'.1)
      | inr other ↦ elim other [
        | inl faulty' ↦
            inl (faulty.1 ∙ ap Window (one_fault head.geometry head.start journal faulty.0 faulty'.0 faulty.3 faulty'.3) ∙ sym faulty'.1)
        | inr memory' ↦ inr (inr memory')
      ]
    ]
    | inr memory ↦ inr (inl memory)
  ]
]

pub window_or_refusal : (head : Super) (journal : Blocks) (window : WindowState) (why : ImageFault) → IsWindowOf head journal window → IsRefused head journal why → why ≡ Memory
window_or_refusal head journal window why is refused = elim (reason head journal why refused) [
  | inl used ↦ absurd (not_used_up head journal window is used.1)
  | inr more ↦ elim more [
    | inl faulty ↦ absurd (not_both head.geometry head.start journal window.last window.entries faulty.0 is.is_window faulty.3)
    | inr memory ↦ memory
  ]
]

-- what holds of an error holds of it where it is passed on
pub passed_on : {T E : Type 0} (result : Result T E) (P : E → Type 0) (why : E) → IsErrAnd result (λ e. e ≡ why) → P why → IfErr result P
passed_on (Ok x) P why is holds = tt
passed_on (Err e) P why is holds = rw is holds

-- the first block that can't be replayed is the refusal, where recovery has its sequences
pub stopped_is_refused : (head : Super) (journal : Blocks) (last first : ℕ) (why : ImageFault) → IsLast head.geometry head.start journal last
    → IsFirst head.geometry head.start journal last first → HasSequences head last → IsStopped head.geometry journal last first why → IsRefused head journal why
stopped_is_refused head journal last first (Window sequence) is_last is_first room stopped = (
  λ used.
      let same = one_last head.geometry head.start journal last used.last is_last used.is_last in
      let below = room used.unclean in
      let past = used.past in
      omega (arith, same, below, past),
  record {
    last = last;
    is_last = is_last;
    first = first;
    is_first = is_first;
    inside = stopped.inside;
    bad = stopped.bad;
    good = stopped.good;
  },
)
stopped_is_refused head journal last first Memory is_last is_first room stopped = tt
stopped_is_refused head journal last first (Superblock fault) is_last is_first room stopped = absurd stopped
stopped_is_refused head journal last first (Page at fault) is_last is_first room stopped = absurd stopped
stopped_is_refused head journal last first (Counter at point) is_last is_first room stopped = absurd stopped
stopped_is_refused head journal last first (SharedPage at) is_last is_first room stopped = absurd stopped
stopped_is_refused head journal last first (Counts at stored mapped) is_last is_first room stopped = absurd stopped
stopped_is_refused head journal last first Device is_last is_first room stopped = absurd stopped
stopped_is_refused head journal last first Unclean is_last is_first room stopped = absurd stopped
