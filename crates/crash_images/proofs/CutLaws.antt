-- A device that is cut off stays so.
use Rattle.std.proofs.Common.{ℕ, ◌≡◌, ◌+◌, ◌-◌, ◌≤◌, ◌<◌, nat_le, not, ◌||◌, true, false, List, [], ◌∷◌, ◌++◌, length, take, Result, Ok, Err, OnOk, OnErr, refl, sym, ◌∙◌, ap, subst, inl, inr, arith}
use Rattle.std.proofs.Math.Bool.{or-false}
use Rattle.std.proofs.lemmas.Bool.{cases_lt}
use Rattle.std.proofs.lemmas.List.{take-append-drop}
use Rattle.disk_model.proofs.FuseLaws.{burnt-passing, cut_exactly}
use Rattle.disk_model.specs.declared.call.Call.{Call}
use Rattle.disk_model.specs.declared.faults.FaultAt.{FaultAt}
use Rattle.disk_model.specs.declared.fuse.Fuse.{Fuse}
use Rattle.disk_model.specs.declared.fuse.Fuse.TheVariants.{Passes, Spent, Unset}
use Rattle.disk_model.specs.Fuses.{burnt, burnt_all, is_cut}
use Rattle.disk_model.specs.Log.{Blocks, is_ok}
use Rattle.disk_model.specs.Memory.{Fails, Memory, Succeeds, is_to_fail, kind_of, one_more, block_of_call}
use Rattle.disk_model.specs.Picks.{counted_log}
use Rattle.disk_model.specs.Plans.{counted, named}
use Rattle.crash_images.specs.Cuts.{IsCutDisk, IsCutOff, logs_of}

-- each call left one log
count_logs : (log : List Call) → length (logs_of log) ≡ length log
count_logs [] = refl
count_logs (call ∷ older) = let rest = count_logs older in omega (arith, rest)

-- the fuse is spent exactly where so many calls were made
spent_by : (passes : ℕ) (log : List Call) → is_cut (burnt_all (Passes passes) (logs_of log)) ≡ nat_le passes (length log)
spent_by passes log = cut_exactly passes (logs_of log) ∙ ap (nat_le passes) (count_logs log)

some_unkept : (n : ℕ) → one_more n ≡ 0 → ⊥
some_unkept n none = omega (arith, none)

module _ (passes : ℕ) (old new : Memory) (is : IsCutDisk passes old) where
  -- without planned faults a call is to fail where the fuse is spent
  fails_by : (call : Call) → is_to_fail old call ≡ is_cut old.fuse
  fails_by call = ap (λ (plan : List FaultAt). is_cut old.fuse || named plan (kind_of call) (block_of_call call)) is.plan ∙ or-false (is_cut old.fuse)

  cut_by : (call : Call) → IsCutOff passes old → is_to_fail old call ≡ nat_le passes (length old.log)
  cut_by call cut = fails_by call ∙ ap is_cut cut.fuse ∙ spent_by passes old.log

  plan_stays : (call : Call) → counted old.plan (kind_of call) (block_of_call call) ≡ []
  plan_stays call = ap (λ (plan : List FaultAt). counted plan (kind_of call) (block_of_call call)) is.plan

  -- after a call that succeeded
  after_one : (call : Call) (blocks : Blocks) → is_ok call ≡ true → Succeeds old new call blocks → IsCutDisk passes new
  after_one call blocks ok did = subst (IsCutDisk passes) (sym did.effect) (record {
    plan = plan_stays call;
    cut = λ none.
        let was = is.cut none in record {
          calls = (ok ∙ sym (ap not (sym (cut_by call was) ∙ did.passes)), was.calls);
          fuse = ap (λ (fuse : Fuse). burnt fuse (call ∷ old.log)) was.fuse;
        };
  })

  -- and after one that failed
  after_failure : (call : Call) (blocks : Blocks) → is_ok call ≡ false → Fails old new call blocks → IsCutDisk passes new
  after_failure call blocks bad (inl (to_fail, effect)) = subst (IsCutDisk passes) (sym effect) (record {
    plan = plan_stays call;
    cut = λ none.
        let was = is.cut none in record {
          calls = (bad ∙ sym (ap not (sym (cut_by call was) ∙ to_fail)), was.calls);
          fuse = ap (λ (fuse : Fuse). burnt fuse (call ∷ old.log)) was.fuse;
        };
  })
  after_failure call blocks bad (inr effect) = subst (IsCutDisk passes) (sym effect) (record {
    plan = plan_stays call;
    cut = λ none. absurd (some_unkept old.unkept none);
  })

  pub after_call : {T E : Type 0} (result : Result T E) (good bad : Call) (these those : Blocks) → is_ok good ≡ true → is_ok bad ≡ false → OnOk result (Succeeds old new good these)
      → OnErr result (Fails old new bad those) → IsCutDisk passes new
  after_call (Ok x) good bad these those ok not_ok did failed = after_one good these ok did
  after_call (Err e) good bad these those ok not_ok did failed = after_failure bad those not_ok failed

-- What a stop leaves something of are the oldest calls.
pub counted_behind : (fuse : Fuse) (log : List Call) → (newer : List Call) × (log ≡ newer ++ counted_log fuse log)
counted_behind Unset log = ([], refl)
counted_behind (Passes passes) log = ([], refl)
counted_behind (Spent calls) log = (take (length log - calls) log, sym (take-append-drop (length log - calls) log))

-- Where more calls were made than go on, one more counts than those.
pub spent_at : (passes : ℕ) (log : List Call) → passes < length log → burnt_all (Passes passes) (logs_of log) ≡ Spent (passes + 1)
spent_at passes [] below = absurd (omega (arith, below))
spent_at passes (call ∷ older) below = elim (cases_lt passes (length older)) [
  | inl less ↦ ap (λ (fuse : Fuse). burnt fuse (call ∷ older)) (spent_at passes older less)
  | inr more ↦
      let count = count_logs older in
      let same : passes - length (logs_of older) ≡ 0 = omega (arith, more, below, count) in
      let size : length (call ∷ older) ≡ passes + 1 = omega (arith, more, below) in
      let left = burnt-passing passes (logs_of older) (omega (arith, more, count, below)) in
      ap (λ (fuse : Fuse). burnt fuse (call ∷ older)) (left ∙ ap Passes same) ∙ ap Spent size
]

pub fuse_cut : (passes : ℕ) (disk : Memory) → IsCutOff passes disk → passes < length disk.log → disk.fuse ≡ Spent (passes + 1)
fuse_cut passes disk is more = is.fuse ∙ spent_at passes disk.log more

pub fuse_left : (passes : ℕ) (disk : Memory) → IsCutOff passes disk → length disk.log ≤ passes → disk.fuse ≡ Passes (passes - length disk.log)
fuse_left passes disk is few =
    let count = count_logs disk.log in
    is.fuse ∙ burnt-passing passes (logs_of disk.log) (omega (arith, count, few)) ∙ ap (λ (n : ℕ). Passes (passes - n)) count
