use Rattle.std.proofs.Common.{length}
use Rattle.vdo_core.specs.Plays.{vdo}
use Rattle.vdo_core.proofs.SessionLaws.{all_can_step, few_zones, reached_on}
use Rattle.vdo_core.proofs.NoteLaws.{played_length, played_posts, played_work}
use Rattle.vdo_core.proofs.PlayLaws.{was_done, was_idle}
use Rattle.vdo_core.proofs.cores.Core.step.Goals as goal

pub play_one-stepped-requires-clause-can : goal.play_one-stepped-requires-clause-can
play_one-stepped-requires-clause-can g c = all_can_step c.self.inside.sizes c.self.inside.zones c.self.invariant.whole.reached

pub play_one-stepped-requires-clause-few : goal.play_one-stepped-requires-clause-few
play_one-stepped-requires-clause-few g c = few_zones c.self.inside.sizes c.self.inside.zones c.self.invariant.whole.reached

pub follow-requires-clause-can : goal.follow-requires-clause-can
follow-requires-clause-can g c =
    all_can_step c.self.inside.sizes c.play_one-stepped.new.zones
    (reached_on c.self.inside.sizes c.self.inside.zones c.self.invariant.whole.reached g.D.Disk.trust c.play_one-stepped.new.zones (g.D.Disk.seen c.args.device.now) (g.D.Disk.seen c.play_one-stepped.new.disk) c.play_one-stepped.ensures.leads)

pub follow-requires-clause-few : goal.follow-requires-clause-few
follow-requires-clause-few g c =
    few_zones c.self.inside.sizes c.play_one-stepped.new.zones
    (reached_on c.self.inside.sizes c.self.inside.zones c.self.invariant.whole.reached g.D.Disk.trust c.play_one-stepped.new.zones (g.D.Disk.seen c.args.device.now) (g.D.Disk.seen c.play_one-stepped.new.disk) c.play_one-stepped.ensures.leads)

pub invariant_of-self : goal.invariant_of-self
invariant_of-self g c =
    let played = c.play_one-stepped.ensures in
    let old = vdo c.self.inside.zones (g.D.Disk.seen c.args.device.now) in
    let new = vdo c.play_one-stepped.new.zones (g.D.Disk.seen c.play_one-stepped.new.disk) in
    record {
      whole = record {
        reached = reached_on c.self.inside.sizes c.self.inside.zones c.self.invariant.whole.reached g.D.Disk.trust c.play_one-stepped.new.zones (g.D.Disk.seen c.args.device.now) (g.D.Disk.seen c.play_one-stepped.new.disk) played.leads;
        has_room = c.self.invariant.whole.has_room;
      };
      known = c.follow.ensures c.self.inside.zones (played_length g.D.Disk.trust c.self.inside.sizes c.args.event old new played.plays.0 played.plays.1)
          (played_posts (length c.play_one-stepped.new.zones) g.D.Disk.trust c.self.inside.sizes c.args.event old new played.plays.0 played.plays.1)
          (played_work g.D.Disk.trust c.self.inside.sizes c.args.event old new played.plays.0 played.plays.1) c.self.invariant.known;
    }

pub returns-clause-plays : goal.returns-clause-plays
returns-clause-plays g c = rw (← c.self.view_is) c.play_one-stepped.ensures.plays

pub returns-clause-did : goal.returns-clause-did
returns-clause-did g c did = rw (← c.self.view_is) (was_done _ _ _ _ did c.play_one-stepped.ensures.work).1

pub returns-clause-idle : goal.returns-clause-idle
returns-clause-idle g c idle = rw (← c.self.view_is) (was_idle _ _ _ _ idle c.play_one-stepped.ensures.work).0
