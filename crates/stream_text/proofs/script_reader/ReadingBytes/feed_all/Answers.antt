use Rattle.std.proofs.Common.{List, ℕ, ◌≡◌, length, take, ◌∙◌, ap, refl, arith}
use Rattle.std.proofs.lemmas.List.{length-take-le}
use Rattle.std.proofs.lemmas.Result.{err_from_is_err_and}
use Rattle.stream_text.specs.ReadingBytes.{goes_on_from}
use Rattle.stream_text.proofs.script_reader.ReadingBytes.feed_all.Goals as goal

pub pieces-init : goal.pieces-init
pieces-init g c = record { sound = c.requires; same = λ tells. refl; later = omega arith }

pub pieces-preserved : goal.pieces-preserved
pieces-preserved g c =
    let was = c.pieces.invariant in
    let self = c.pieces.self in
    record {
      sound = c.in_ok-feed.ensures.sound;
      same = λ tells. was.same tells
          ∙ ap (λ (t : List ℕ). goes_on_from self.number self.before self.streams self.line.items t) (c.in-Ok.ensures.given tells)
          ∙ c.in_ok-feed.ensures.ok (g.S.Source.seen c.take.new.self).left;
      later = omega (arith, was.later, c.in-Ok.ensures.cause.later);
    }

pub pieces-smaller : goal.pieces-smaller
pieces-smaller g c =
    let taken : length (take c.in-Ok.count c.take.new.into) ≡ c.in-Ok.count = length-take-le c.in-Ok.count c.take.new.into c.in-Ok.ensures.count in
    omega (arith, c.in_ok-feed.ensures.sound.within, taken, c.in_ok-feed.ensures.taken, c.if-count-eq0.false)

pub returns-in_err-feed-clause-refused : goal.returns-in_err-feed-clause-refused
returns-in_err-feed-clause-refused g c = λ tells.
    let was = c.pieces.invariant in
    let self = c.pieces.self in
    let p = err_from_is_err_and c.from_residual.result c.from_residual.ensures.1 in
    rw (p.1, p.2) (rw (was.same tells
    ∙ ap (λ (t : List ℕ). goes_on_from self.number self.before self.streams self.line.items t) (c.in-Ok.ensures.given tells))
    (c.in_err-feed.ensures.refused (g.S.Source.seen c.take.new.self).left))
