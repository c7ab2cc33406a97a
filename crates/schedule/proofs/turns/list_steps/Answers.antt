use Rattle.std.proofs.Common.{ℕ, [], ◌≡◌, ◌+◌, ◌∷◌, ◌++◌, ◌∙◌, List, ap, arith, length, map, subst, sym}
use Rattle.vdo_core.specs.declared.events.Event.TheVariants as event
use Rattle.schedule.specs.Turns.{AreReady, event_of}
use Rattle.schedule.proofs.TurnLaws.{Listed, listed_all, listed_more, step_is}
use Rattle.schedule.proofs.turns.list_steps.Goals as goal

pub loop-zone-preserved : goal.loop-zone-preserved
loop-zone-preserved c =
    let sizes = c.args.core.now.sizes in
    let zones = c.args.core.now.zones in
    let items = c.loop-zone.ready in
    let before = c.loop-zone.invariant in
    let order : 0 + c.in-Some.zone ≡ c.in-Some.zone = omega arith in
    let all : items ++ (0 + c.in-Some.zone) ∷ [] ≡ c.push.new.self = ap (λ (k : ℕ). items ++ k ∷ []) order ∙ sym c.push.ensures in
    record {
      few = before.few;
      listed = subst (λ (ks : List ℕ). Listed sizes zones 0 (λ n. event.Step n) c.take_first.new.self ks) all
          (listed_more sizes zones 0 (λ n. event.Step n) (step_is (length zones)) c.loop-zone.workers c.take_first.new.self c.in-Some.zone items c.in-Some.ensures.some before.listed);
    }

pub returns-clause-ready : goal.returns-clause-ready
returns-clause-ready c =
    let sizes = c.args.core.now.sizes in
    let zones = c.args.core.now.zones in
    let items = c.loop-zone.ready in
    let last = c.loop-zone.invariant in
    let order : 0 + length zones ≡ length zones = omega arith in
    subst (λ (k : ℕ). AreReady sizes zones k (map (event_of (length zones)) items)) order
    (listed_all sizes zones 0 (λ n. event.Step n) (step_is (length zones)) c.loop-zone.workers items c.in_default.ensures.none last.listed).1
