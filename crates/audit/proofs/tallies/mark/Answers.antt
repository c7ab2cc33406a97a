use Rattle.std.proofs.Common.{refl}
use Rattle.audit.proofs.TallyLaws.{changed_by}
use Rattle.audit.proofs.tallies.mark.Goals as goal

pub returns-in-Some : goal.returns-in-Some
returns-in-Some c =
    let is = c.in-Some.ensures.some in
    changed_by c.args.layout.now.geometry c.args.at (λ n. 1) c.args.counts.now is.0 c.in-Some.n 1 c.requires is.1 is.2 is.3 refl
