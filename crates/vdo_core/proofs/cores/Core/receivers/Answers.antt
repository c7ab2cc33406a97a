use Rattle.std.proofs.Common.{ℕ, ◌<◌, ◌≡◌, ap, arith, length, subst, sym}
use Rattle.std.proofs.lemmas.List.{get_or_default}
use Rattle.vdo_core.specs.Cores.{CoreState}
use Rattle.vdo_core.specs.Notes.{IsSetOfWork}
use Rattle.vdo_core.specs.declared.events.Event.TheVariants as event
use Rattle.vdo_core.proofs.NoteLaws.{known_receivers}
use Rattle.vdo_core.proofs.SessionLaws.{few_zones}
use Rattle.vdo_core.proofs.cores.Core.receivers.Goals as goal

pub listed : goal.listed
listed c =
    let few = few_zones c.self.inside.sizes c.self.inside.zones c.self.invariant.whole.reached in
    let same : length c.self.inside.zones ≡ length c.args.self.now.zones = ap (λ (s : CoreState). length s.zones) c.self.view_is in
    let long = c.self.told in
    omega (arith, c.requires, few, same, long)

pub bounds-self-inside-from : goal.bounds-self-inside-from
bounds-self-inside-from c =
    let few = few_zones c.self.inside.sizes c.self.inside.zones c.self.invariant.whole.reached in
    let same : length c.self.inside.zones ≡ length c.args.self.now.zones = ap (λ (s : CoreState). length s.zones) c.self.view_is in
    omega (arith, c.requires, few, same)

pub returns : goal.returns
returns c =
    let sizes = c.self.inside.sizes in
    let zones = c.self.inside.zones in
    let notes = c.self.inside.notes in
    let few = few_zones sizes zones c.self.invariant.whole.reached in
    let same : length zones ≡ length c.args.self.now.zones = ap (λ (s : CoreState). length s.zones) c.self.view_is in
    let long = c.self.told in
    let below : c.args.from < length zones = omega (arith, c.requires, same) in
    let inside : c.args.from < length notes.posted = omega (arith, below, few, long) in
    let set = known_receivers sizes zones notes.posted notes.senders c.args.from below c.self.invariant.known.posts in
    rw (← c.self.view_is)
    (subst (λ (s : ℕ). IsSetOfWork sizes zones (λ to. event.Move c.args.from to) s) (sym (get_or_default notes.posted c.args.from c.index-self-from.result 0 inside)) set)
