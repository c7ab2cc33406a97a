-- Events one after another.
use Rattle.std.proofs.Common.{arith, subst, ◌+◌, ◌≡◌, ℕ, zero, suc, Bool, true, false, List, [], ◌∷◌, ◌++◌, Some, slice_get, slice_set, refl, sym, ap, ◌∙◌, append_assoc, inl, inr}
use Rattle.std.proofs.lemmas.List.{append-nil}
use Rattle.std.proofs.lemmas.Option.{same_Some}
use Rattle.disk_model.specs.Seen.{Seen}
use Rattle.disk_model.specs.Trust.{Trust}
use Rattle.disk_model.specs.declared.call.Call.{Call}
use Rattle.disk_model.specs.declared.call.Call.TheVariants.{Read}
use Rattle.disk_model.specs.Images.{IsMixOf}
use Rattle.disk_model.specs.Log.{Blocks, settled}
use Rattle.disk_model.proofs.SeenLaws.{stays_on}
use Rattle.data_vio.specs.declared.sizes.Sizes.{Sizes}
use Rattle.core_model.specs.declared.zones.Zone.{Zone}
use Rattle.core_model.specs.Steps.{Core, IsIdle, Leads}
use Rattle.core_model.specs.Steps.Leads.{rests, steps, moves}
use Rattle.core_model.specs.Trace.{Trace, Calls, Fails, Harms, calls}
use Rattle.core_laws.proofs.trace.Cuts.{calls_append}
use Rattle.step_parts.specs.DeviceLog.{GivesSettled, HasCalled, failed_calls, has_calls, lost_calls}
use Rattle.step_parts.proofs.SilentLaws.{unchanged}
use Rattle.vdo_core.specs.Moves.{MovesNothing}
use Rattle.vdo_core.specs.Plays.{ComesTo, Vdo, core_with, vdo, ZoneSteps, StepsAt, MovesAll, HasNoWork, PlaysOne, Plays, LeadsTo}
use Rattle.vdo_core.specs.declared.events.Event.{Event}
use Rattle.vdo_core.specs.declared.events.Event.TheVariants as event
use Rattle.vdo_core.specs.declared.stepped.Stepped.{Stepped}
use Rattle.vdo_core.specs.declared.stepped.Stepped.TheVariants.{Did, Idle}

-- a zone that is put where it stood
pub put_same : {X : Type 0} (xs : List X) (n : ℕ) (x : X) → slice_get xs n ≡ Some x → slice_set xs n x ≡ xs
put_same [] n x h = refl
put_same (y ∷ ys) zero x h = ap (λ z. z ∷ ys) (sym (same_Some _ _ h))
put_same (y ∷ ys) (suc n) x h = ap (λ zs. y ∷ zs) (put_same ys n x h)

pub leads_on : (sizes : Sizes) (first middle last : Core) → Leads sizes first middle → Leads sizes middle last → Leads sizes first last
leads_on sizes first middle last early rests = early
leads_on sizes first middle last early (steps {before = b} step late) = steps step (leads_on sizes first middle b early late)
leads_on sizes first middle last early (moves {before = b} move late) = moves move (leads_on sizes first middle b early late)

-- the calls of what happens later are called later
failed_append : (more made : Trace) → failed_calls (more ++ made) ≡ failed_calls more + failed_calls made
failed_append [] made = omega arith
failed_append (Fails w c kept ∷ t) made = omega (arith, failed_append t made)
failed_append (other ∷ t) made = failed_append t made

lost_append : (more made : Trace) → lost_calls (more ++ made) ≡ lost_calls more + lost_calls made
lost_append [] made = omega arith
lost_append (Fails w c false ∷ t) made = omega (arith, lost_append t made)
lost_append (other ∷ t) made = lost_append t made

none_called : (more made : Trace) → has_calls (more ++ made) ≡ false → (has_calls more ≡ false) × (has_calls made ≡ false)
none_called [] made none = (refl, none)
none_called (Calls c ∷ t) made none = absurd cc
none_called (Fails w c kept ∷ t) made none = absurd cc
none_called (Harms w at bytes fault ∷ t) made none = absurd cc
none_called (other ∷ t) made none = none_called t made none

-- and what they gave is what the device may have given, which had the earlier ones
given_append : (opening : Blocks) (log : List Call) (more made : Trace) → GivesSettled opening (calls made ++ log) more → GivesSettled opening log made → GivesSettled opening log (more ++ made)
given_append opening log [] made late early = early
given_append opening log (Calls (Read at bytes true) ∷ t) made late early =
    let later : calls t ++ (calls made ++ log) ≡ calls (t ++ made) ++ log = sym (append_assoc (calls t) (calls made) log) ∙ ap (λ (cs : List Call). cs ++ log) (sym (calls_append t made)) in
    (late.0, subst (λ (cs : List Call). IsMixOf (settled opening cs at.0) bytes) later late.1, given_append opening log t made late.2 early)
given_append opening log (Harms w at bytes fault ∷ t) made late early =
    let later : calls t ++ (calls made ++ log) ≡ calls (t ++ made) ++ log = sym (append_assoc (calls t) (calls made) log) ∙ ap (λ (cs : List Call). cs ++ log) (sym (calls_append t made)) in
    (late.0, subst (λ (cs : List Call). IsMixOf (settled opening cs at.0) bytes) later late.1, given_append opening log t made late.2 early)
given_append opening log (other ∷ t) made late early = given_append opening log t made late early

called_on : (trust : Trust) (a b c : Seen) (made more : Trace) → HasCalled trust a b made → HasCalled trust b c more → HasCalled trust a c (more ++ made)
called_on trust a b c made more early late = record {
  stays = stays_on a b c early.stays late.stays;
  given = λ notified fair. given_append a.opening a.log more made (rw (← early.stays.opening, ← early.log notified) (late.given notified fair)) (early.given notified fair);
  log = λ notified. late.log notified ∙ ap (λ (cs : List Call). calls more ++ cs) (early.log notified) ∙ sym (append_assoc (calls more) (calls made) a.log) ∙ ap (λ (cs : List Call). cs ++ a.log) (sym (calls_append more made));
  faults = (let p = early.faults in let q = late.faults in omega (arith, p, q, failed_append more made));
  unkept = (let p = early.unkept in let q = late.unkept in omega (arith, p, q, lost_append more made));
  idle = λ none. (let each = none_called more made none in late.idle each.0 ∙ early.idle each.1);
}

-- this happens on the way from one core to another, whatever happened before
abbrev pub LeadsBy : Trust → Sizes → Vdo → Vdo → Trace → Type 0
LeadsBy trust sizes old new made =
    ((t : Trace) → Leads sizes (core_with old.zones t) (core_with new.zones (made ++ t))) × HasCalled trust old.seen new.seen made

-- one event, and then others
led_on : (trust : Trust) (sizes : Sizes) (a b c : Vdo) (made more : Trace) → LeadsBy trust sizes a b made → LeadsBy trust sizes b c more
    → LeadsBy trust sizes a c (more ++ made)
led_on trust sizes a b c made more (early, called) (late, called') = (
  (λ (t : Trace). rw append_assoc (leads_on sizes (core_with a.zones t) (core_with b.zones (made ++ t)) (core_with c.zones (more ++ (made ++ t))) (early t) (late (made ++ t)))),
  called_on trust a.seen b.seen c.seen made more called called',
)

-- where nothing happens, that leads nowhere else
none_leads : (trust : Trust) (sizes : Sizes) (a b : Vdo) (made : Trace) → b ≡ a → made ≡ [] → LeadsBy trust sizes a b made
none_leads trust sizes a b made same none =
    subst (λ (v : Vdo). LeadsBy trust sizes a v made) (sym same)
    (subst (λ (t : Trace). LeadsBy trust sizes a a t) (sym none) ((λ (t : Trace). rests), unchanged trust a.seen))

-- a step of a zone is one of the core
stepped_leads : (trust : Trust) (sizes : Sizes) (n : ℕ) (a b : Vdo) (made : Trace) → StepsAt trust sizes n a b made
    → LeadsBy trust sizes a b made
stepped_leads trust sizes n a b made at = (
  (λ (t : Trace). steps (record {
    number = n;
    zone = at.zone;
    zone' = at.zone';
    made = made;
    had = at.had;
    step = at.step;
    has = ap (λ (zs : List Zone). core_with zs (made ++ t)) at.has;
  }) rests),
  at.called,
)

-- a move is one of the core
moved_leads : (trust : Trust) (sizes : Sizes) (from to : ℕ) (a b : Vdo) → MovesAll from to a.zones b.zones → b.seen ≡ a.seen
    → LeadsBy trust sizes a b []
moved_leads trust sizes from to a b all silent = (
  (λ (t : Trace). moves (record {
    from = from;
    to = to;
    source = all.source;
    target = all.target;
    part = all.part;
    left = [];
    apart = all.apart;
    had_source = all.had_source;
    had_target = all.had_target;
    outbox = rw append-nil all.outbox;
    has = ap (λ (zs : List Zone). core_with zs t) all.has;
  }) rests),
  subst (λ (seen : Seen). HasCalled trust a.seen seen []) (sym silent) (unchanged trust a.seen),
)

-- after an event, whether there was work or not
-- what a step or a move comes to, by whether it was done
pub was_done : (done none same : Type 0) (stepped : Stepped) → stepped ≡ Did → ComesTo done none same stepped → done × (none → ⊥)
was_done done none same stepped did comes = subst (λ (s : Stepped). ComesTo done none same s) did comes

pub was_idle : (done none same : Type 0) (stepped : Stepped) → stepped ≡ Idle → ComesTo done none same stepped → none × same
was_idle done none same stepped idle comes = subst (λ (s : Stepped). ComesTo done none same s) idle comes

-- of which less is said
pub comes_less : (done done' none same same' : Type 0) (stepped : Stepped) → (done → done') → (same → same') → ComesTo done none same stepped → ComesTo done' none same' stepped
comes_less done done' none same same' Did less kept (did, some) = (less did, some)
comes_less done done' none same same' Idle less kept (idle, still) = (idle, kept still)

-- a step of a zone in its place among the others
pub step_of : (trust : Trust) (sizes : Sizes) (n : ℕ) (zones : List Zone) (zone zone' : Zone) (log log' : Seen) (stepped : Stepped) → slice_get zones n ≡ Some zone
    → ComesTo (ZoneSteps trust sizes zone zone' log log') (IsIdle sizes zone) ((zone' ≡ zone) × (log' ≡ log)) stepped
    → ComesTo ((made : Trace) × StepsAt trust sizes n (vdo zones log) (vdo (slice_set zones n zone') log') made) (HasNoWork sizes zones (event.Step n))
    ((slice_set zones n zone' ≡ zones) × (log' ≡ log)) stepped
step_of trust sizes n zones zone zone' log log' Did had (did, some) =
    let (made, step, called) = did in (
      (
        made,
        record {
          zone = zone;
          zone' = zone';
          had = had;
          step = step;
          called = called;
          has = refl;
        },
      ),
      (λ none. some (none zone had)),
    )
step_of trust sizes n zones zone zone' log log' Idle had (idle, still) = (
  (λ z got. subst (λ (at : Zone). IsIdle sizes at) (same_Some _ _ (sym had ∙ got)) idle),
  (rw still.0 (put_same zones n zone had), still.1),
)

-- zones and a device that stay are a VDO that stays
same_vdo : (a b : List Zone) (log log' : Seen) → b ≡ a → log' ≡ log → vdo b log' ≡ vdo a log
same_vdo a b log log' same silent = ap (λ (zones : List Zone). vdo zones log') same ∙ ap (λ (seen : Seen). vdo a seen) silent

pub step_plays : (trust : Trust) (sizes : Sizes) (n : ℕ) (a b : List Zone) (log log' : Seen) (stepped : Stepped)
    → ComesTo ((made : Trace) × StepsAt trust sizes n (vdo a log) (vdo b log') made) (HasNoWork sizes a (event.Step n)) ((b ≡ a) × (log' ≡ log)) stepped
    → (made : Trace) × PlaysOne trust sizes (event.Step n) (vdo a log) (vdo b log') made
step_plays trust sizes n a b log log' Did (done, some) = let (made, one) = done in (made, inl one)
step_plays trust sizes n a b log log' Idle (idle, still) = ([], inr (idle, same_vdo a b log log' still.0 still.1, refl))

pub move_plays : (trust : Trust) (sizes : Sizes) (from to : ℕ) (a b : List Zone) (log : Seen) (stepped : Stepped)
    → ComesTo (MovesAll from to a b) (MovesNothing a from to) (b ≡ a) stepped → (made : Trace) × PlaysOne trust sizes (event.Move from to) (vdo a log) (vdo b log) made
move_plays trust sizes from to a b log Did (all, some) = ([], inl (all, refl, refl))
move_plays trust sizes from to a b log Idle (idle, same) = ([], inr (idle, same_vdo a b log log same refl, refl))

-- what happens by an event leads on
pub played_leads : (trust : Trust) (sizes : Sizes) (e : Event) (a b : Vdo) (made : Trace) → PlaysOne trust sizes e a b made
    → LeadsBy trust sizes a b made
played_leads trust sizes (event.Step n) a b made (inl at) = stepped_leads trust sizes n a b made at
played_leads trust sizes (event.Step n) a b made (inr (idle, same, none)) = none_leads trust sizes a b made same none
played_leads trust sizes (event.Move from to) a b made (inl (all, silent, none)) =
    subst (λ (t : Trace). LeadsBy trust sizes a b t) (sym none) (moved_leads trust sizes from to a b all silent)
played_leads trust sizes (event.Move from to) a b made (inr (idle, same, none)) = none_leads trust sizes a b made same none

pub one_leads : (trust : Trust) (sizes : Sizes) (e : Event) (a b : List Zone) (log log' : Seen)
    → ((made : Trace) × PlaysOne trust sizes e (vdo a log) (vdo b log') made) → LeadsTo trust sizes a b log log'
one_leads trust sizes e a b log log' (made, one) =
    let (leads, called) = played_leads trust sizes e (vdo a log) (vdo b log') made one in (made, leads, called)

-- what happens by a list of events leads on
pub plays_lead : (trust : Trust) (sizes : Sizes) (events : List Event) (a b : Vdo) (made : Trace) → Plays trust sizes events a b made
    → LeadsBy trust sizes a b made
plays_lead trust sizes [] a b made (same, none) = none_leads trust sizes a b made same none
plays_lead trust sizes (e ∷ events) a b made (between, first, later, one, rest, is) =
    let early = played_leads trust sizes e a between first one in
    let late = plays_lead trust sizes events between b later rest in
    rw is (led_on trust sizes a between b first later early late)
