-- Calls that were made one after the other.
use Rattle.std.proofs.Common.{ℕ, zero, suc, ◌≡◌, ◌≤◌, ◌<◌, Bool, IsTrue, List, [], ◌∷◌, ◌++◌, Result, Ok, Err, OnOk, OnErr, IsErr, refl, sym, ◌∙◌, ap, subst, inl, inr, arith, append_assoc}
use Rattle.std.proofs.lemmas.Bool.{cases_lt}
use Rattle.disk_model.specs.declared.call.Call.{Call}
use Rattle.disk_model.specs.declared.call.Failed.{Failed}
use Rattle.disk_model.specs.Causes.{Rose, HasCause}
use Rattle.disk_model.specs.Seen.{Seen, Stays}
use Rattle.disk_model.specs.LogSteps.{FailedInLog}
use Rattle.disk_model.proofs.SeenLaws.{stays_on, later_on, stays_yet, later_yet}
use Rattle.image_format.specs.Calls.{calls_below}
use Rattle.image_format.specs.Runs.{as_failed, WereMade, OneFailed, Makes}

-- one call
pub made_of : (tells : Bool) (before now : Seen) (call : Call) (result : Result (Unit {0}) Failed) → Stays before now → HasCause before.faults now.faults result → before.unkept ≤ now.unkept
    → (IsTrue tells → OnOk result (now.log ≡ call ∷ before.log))
    → (IsTrue tells → OnErr result (FailedInLog before.log now.log (as_failed call) (Rose before.unkept now.unkept)))
    → Makes tells before now (call ∷ []) result
made_of tells before now call (Ok _) stays cause unkept ok err = record { stays = stays; later = record { faults = cause.later; unkept = unkept }; logged = ok }
made_of tells before now call (Err _) stays cause unkept ok err = record {
  stays = stays;
  later = record { faults = cause.later; unkept = unkept };
  rose = cause.failed;
  newer = [];
  call = call;
  done = [];
  parts = refl;
  logged = err;
}

pub none_made : (tells : Bool) (seen : Seen) → WereMade tells seen seen []
none_made tells seen = record { stays = stays_yet seen; later = later_yet seen; logged = λ told. refl }

-- calls after others
pub made_on : (tells : Bool) (before middle now : Seen) (older newer : List Call) → WereMade tells before middle older → WereMade tells middle now newer
    → WereMade tells before now (newer ++ older)
made_on tells before middle now older newer first second = record {
  stays = stays_on before middle now first.stays second.stays;
  later = later_on before middle now first.later second.later;
  logged = λ told. second.logged told ∙ ap (λ (log : List Call). newer ++ log) (first.logged told) ∙ sym (append_assoc newer older before.log);
}

same_end : (before middle now call_log : List Call) (older done : List Call) (call : Call) (rose rose_all : Type 0) → middle ≡ older ++ before → (rose → rose_all)
    → FailedInLog (done ++ middle) now call rose → FailedInLog ((done ++ older) ++ before) now call rose_all
same_end before middle now call_log older done call rose rose_all is all (inl logged) =
    inl (logged ∙ ap (λ (log : List Call). call ∷ (done ++ log)) is ∙ ap (λ (log : List Call). call ∷ log) (sym (append_assoc done older before)))
same_end before middle now call_log older done call rose rose_all is all (inr lost) =
    inr (lost.0 ∙ ap (λ (log : List Call). done ++ log) is ∙ sym (append_assoc done older before), all lost.1)

pub failed_on : (tells : Bool) (before middle now : Seen) (older newer : List Call) → WereMade tells before middle older → OneFailed tells middle now newer
    → OneFailed tells before now (newer ++ older)
failed_on tells before middle now older newer first second = record {
  stays = stays_on before middle now first.stays second.stays;
  later = later_on before middle now first.later second.later;
  rose = let less = first.later.faults in let rose = second.rose in omega (arith, less, rose);
  newer = second.newer;
  call = second.call;
  done = second.done ++ older;
  parts = ap (λ (calls : List Call). calls ++ older) second.parts ∙ append_assoc second.newer (second.call ∷ second.done) older;
  logged = λ told. same_end before.log middle.log now.log [] older second.done (as_failed second.call) (Rose middle.unkept now.unkept) (Rose before.unkept now.unkept) (first.logged told)
      (λ rose. let less = first.later.unkept in omega (arith, less, rose)) (second.logged told);
}

-- a call that failed, of more calls
pub failed_before : (tells : Bool) (before now : Seen) (older newer : List Call) → OneFailed tells before now older → OneFailed tells before now (newer ++ older)
failed_before tells before now older newer failed = record {
  stays = failed.stays;
  later = failed.later;
  rose = failed.rose;
  newer = newer ++ failed.newer;
  call = failed.call;
  done = failed.done;
  parts = ap (λ (calls : List Call). newer ++ calls) failed.parts ∙ sym (append_assoc newer failed.newer (failed.call ∷ failed.done));
  logged = failed.logged;
}

-- the calls of a loop, up to one of its turns
pub calls_split : (f : ℕ → List Call) (i n : ℕ) → i ≤ n → (front : List Call) × (calls_below f n ≡ front ++ calls_below f i)
calls_split f i zero below = let none : i ≡ 0 = omega (arith, below) in ([], ap (calls_below f) (sym none))
calls_split f i (suc n) below = elim (cases_lt i (suc n)) [
  | inl less ↦
      let rest = calls_split f i n (omega (arith, less)) in
      (f n ++ rest.0, ap (λ (calls : List Call). f n ++ calls) rest.1 ∙ sym (append_assoc (f n) rest.0 (calls_below f i)))
  | inr not_less ↦ let same : i ≡ suc n = omega (arith, below, not_less) in ([], ap (calls_below f) (sym same))
]

-- one turn more, and one that failed
pub turn_made : (tells : Bool) (before middle now : Seen) (f : ℕ → List Call) (i n : ℕ) → n ≡ suc i → WereMade tells before middle (calls_below f i) → WereMade tells middle now (f i)
    → WereMade tells before now (calls_below f n)
turn_made tells before middle now f i n next first second =
    subst (λ (k : ℕ). WereMade tells before now (calls_below f k)) (sym next) (made_on tells before middle now (calls_below f i) (f i) first second)

pub turn_failed : (tells : Bool) (before middle now : Seen) (f : ℕ → List Call) (i n : ℕ) → i < n → WereMade tells before middle (calls_below f i) → OneFailed tells middle now (f i)
    → OneFailed tells before now (calls_below f n)
turn_failed tells before middle now f i n below first second =
    let rest = calls_split f (suc i) n (omega (arith, below)) in
    subst (OneFailed tells before now) (sym rest.1)
    (failed_before tells before now (calls_below f (suc i)) rest.0 (failed_on tells before middle now (calls_below f i) (f i) first second))

-- What a function answers: a call that failed, or whatever the last of its calls answers.
pub is_failed : (tells : Bool) (before now : Seen) (calls : List Call) (result : Result (Unit {0}) Failed) → IsErr result
    → OneFailed tells before now calls → Makes tells before now calls result
is_failed tells before now calls (Ok _) is failed = absurd (cc is)
is_failed tells before now calls (Err _) is failed = failed

pub made_as : (tells : Bool) (before now : Seen) (calls other : List Call) → calls ≡ other → WereMade tells before now calls → WereMade tells before now other
made_as tells before now calls other same made = subst (WereMade tells before now) same made

pub failed_as : (tells : Bool) (before now : Seen) (calls other : List Call) → calls ≡ other → OneFailed tells before now calls → OneFailed tells before now other
failed_as tells before now calls other same failed = subst (OneFailed tells before now) same failed

pub makes_as : (tells : Bool) (before now : Seen) (calls other : List Call) (result : Result (Unit {0}) Failed) → calls ≡ other → Makes tells before now calls result
    → Makes tells before now other result
makes_as tells before now calls other result same makes = subst (λ (list : List Call). Makes tells before now list result) same makes

pub then_made : (tells : Bool) (before middle now : Seen) (older newer : List Call) (result : Result (Unit {0}) Failed) → WereMade tells before middle older
    → Makes tells middle now newer result → Makes tells before now (newer ++ older) result
then_made tells before middle now older newer (Ok _) first second = made_on tells before middle now older newer first second
then_made tells before middle now older newer (Err _) first second = failed_on tells before middle now older newer first second
