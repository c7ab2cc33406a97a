use Rattle.std.proofs.Common.{ℕ, [], ◌≡◌, ◌+◌, ◌*◌, ◌∷◌, ◌++◌, ◌∙◌, List, ap, arith, length, map, subst, sym}
use Rattle.vdo_core.specs.declared.events.Event.TheVariants as event
use Rattle.schedule.specs.Turns.{AreReady, event_of}
use Rattle.schedule.proofs.TurnLaws.{Listed, listed_all, listed_first, listed_more, move_is, no_move_past}
use Rattle.schedule.proofs.turns.add_moves.Goals as goal

pub loop-to-init : goal.loop-to-init
loop-to-init c =
    let sizes = c.args.core.now.sizes in
    let zones = c.args.core.now.zones in
    let from = c.args.from in
    let base : ℕ = length zones + from * length zones in
    let count = c.zone_count-zones.ensures.count in
    let few = c.zone_count-zones.ensures.few in
    record {
      first = ap (λ (k : ℕ). k + from * k) count;
      few = omega (arith, count, few);
      listed = listed_first sizes zones base (λ to. event.Move from to) (move_is (length zones) from) c.receivers-receivers.result c.args.ready.now (no_move_past sizes zones from) c.requires.room
          c.requires.ready c.receivers-receivers.ensures;
    }

pub loop-to-preserved : goal.loop-to-preserved
loop-to-preserved c =
    let sizes = c.args.core.now.sizes in
    let zones = c.args.core.now.zones in
    let from = c.args.from in
    let base : ℕ = length zones + from * length zones in
    let items = c.loop-to.ready in
    let before = c.loop-to.invariant in
    let all : items ++ (base + c.in-Some.to) ∷ [] ≡ c.push.new.self = ap (λ (k : ℕ). items ++ (k + c.in-Some.to) ∷ []) (sym before.first) ∙ sym c.push.ensures in
    record {
      first = before.first;
      few = before.few;
      listed = subst (λ (ks : List ℕ). Listed sizes zones base (λ to. event.Move from to) c.take_first.new.self ks) all
          (listed_more sizes zones base (λ to. event.Move from to) (move_is (length zones) from) c.loop-to.receivers c.take_first.new.self c.in-Some.to items c.in-Some.ensures.some before.listed);
    }

pub returns-clause-ready : goal.returns-clause-ready
returns-clause-ready c =
    let sizes = c.args.core.now.sizes in
    let zones = c.args.core.now.zones in
    let from = c.args.from in
    let base : ℕ = length zones + from * length zones in
    let items = c.loop-to.ready in
    let last = c.loop-to.invariant in
    let order : base + length zones ≡ length zones + (from + 1) * length zones = omega arith in
    subst (λ (k : ℕ). AreReady sizes zones k (map (event_of (length zones)) items)) order
    (listed_all sizes zones base (λ to. event.Move from to) (move_is (length zones) from) c.loop-to.receivers items c.in_default.ensures.none last.listed).1
