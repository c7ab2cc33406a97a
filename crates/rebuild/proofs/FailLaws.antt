-- A call that failed as the last one: behind whatever was done before, and as what a read or other calls answer.
use Rattle.std.proofs.Common.{ℕ, ◌≡◌, ◌+◌, Bool, IsTrue, true, false, List, ◌∷◌, ◌++◌, Result, Ok, Err, OnErr, length, refl, sym, ◌∙◌, ap, inl, inr, arith, append_assoc}
use Rattle.disk_model.specs.declared.call.Call.{Call}
use Rattle.disk_model.specs.declared.call.Call.TheVariants.{Read}
use Rattle.disk_model.specs.declared.call.Failed.{Failed}
use Rattle.disk_model.specs.Causes.{Rose}
use Rattle.disk_model.specs.Seen.{Later, Seen}
use Rattle.disk_model.specs.Trust.{Trust}
use Rattle.disk_model.specs.Since.{IsUntouched, NextFailed, reads_of}
use Rattle.disk_model.specs.LogSteps.{FailedInLog}
use Rattle.image_format.proofs.FormatLaws.{last_failed}
use Rattle.image_format.specs.Formats.{LastFailed}
use Rattle.image_format.specs.Runs.{Makes}
use Rattle.rebuild.specs.Acts.{Grows}

-- Behind other calls.

stands_behind : (first middle now older done : List Call) (call : Call) (lost lost_since : Type 0) → middle ≡ older ++ first → (lost → lost_since)
    → FailedInLog (done ++ middle) now call lost → FailedInLog ((done ++ older) ++ first) now call lost_since
stands_behind first middle now older done call lost lost_since is since (inl stands) =
    inl (stands ∙ ap (λ (log : List Call). call ∷ (done ++ log)) is ∙ ap (λ (log : List Call). call ∷ log) (sym (append_assoc done older first)))
stands_behind first middle now older done call lost lost_since is since (inr unkept) =
    inr (unkept.0 ∙ ap (λ (log : List Call). done ++ log) is ∙ sym (append_assoc done older first), since unkept.1)

pub failed_behind : (tells : Bool) (before middle now : Seen) → Later before middle → Grows tells before middle → LastFailed tells middle now → LastFailed tells before now
failed_behind tells before middle now later grows failed = record {
  rose = let less = later.faults in let rose = failed.rose in omega (arith, less, rose);
  logged = λ told.
      let older = grows told in
      let last = failed.logged told in (
        last.0,
        last.1 ++ older.0,
        last.2,
        stands_behind before.log middle.log now.log older.0 last.1 last.0 (Rose middle.unkept now.unkept) (Rose before.unkept now.unkept) older.1
            (λ rose. let less = later.unkept in omega (arith, less, rose)) last.3,
      );
}

pub failed_on : (tells : Bool) (before middle now : Seen) (result : Result (Unit {0}) Failed) → Later before middle → Grows tells before middle → OnErr result (LastFailed tells middle now)
    → OnErr result (LastFailed tells before now)
failed_on tells before middle now (Ok _) later grows failed = tt
failed_on tells before middle now (Err _) later grows failed = failed_behind tells before middle now later grows failed

-- behind reads alone
pub failed_after : (tells : Bool) (before middle now : Seen) → IsUntouched tells before middle → LastFailed tells middle now → LastFailed tells before now
failed_after tells before middle now untouched failed =
    failed_behind tells before middle now untouched.later (λ told. let since = untouched.reads told in (since.0, since.1)) failed

-- What failed.

pub read_is_last : (trust : Trust) (from : ℕ) (before now : Seen) (blocks : List (List ℕ)) → NextFailed trust from before now blocks → LastFailed trust.tells before now
read_is_last trust from before now blocks failed = record {
  rose = failed.rose;
  logged = λ told. let is = failed.logged told in (Read (record { 0 = from + length blocks }) is.0 false, reads_of from blocks, refl, is.1);
}

pub makes_failed : (tells : Bool) (before now : Seen) (calls : List Call) (result : Result (Unit {0}) Failed) → Makes tells before now calls result → OnErr result (LastFailed tells before now)
makes_failed tells before now calls (Ok _) makes = tt
makes_failed tells before now calls (Err _) makes = last_failed tells before now calls makes

pub on_err : (tells : Bool) (before now : Seen) (result : Result (Unit {0}) Failed) → LastFailed tells before now → OnErr result (LastFailed tells before now)
on_err tells before now (Ok _) failed = tt
on_err tells before now (Err _) failed = failed

-- Of a device that tells.

pub told_failed : (tells : Bool) (before now : Seen) → IsTrue tells → LastFailed tells before now → LastFailed true before now
told_failed tells before now told failed = record { rose = failed.rose; logged = λ also. failed.logged told }

pub any_failed : (tells : Bool) (before now : Seen) → LastFailed true before now → LastFailed tells before now
any_failed tells before now failed = record { rose = failed.rose; logged = λ told. failed.logged refl }
