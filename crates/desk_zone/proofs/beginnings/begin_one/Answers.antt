use Rattle.std.proofs.Common.{rules, refl, arith, subst, ◌≡◌, List, Some, None, slice_get, [], ◌∷◌}
use Rattle.std.proofs.lemmas.Grind.{common_steps}
use Rattle.std.proofs.lemmas.Option.{gets}
use Rattle.blk_base.specs.declared.request.Request.{Request}
use Rattle.vdo_model.specs.Scripts.{request_at, value_written}
use Rattle.vdo_model.specs.declared.report.DeskLine.TheVariants as line
use Rattle.data_vio.specs.Beginnings.{under_way}
use Rattle.core_model.specs.DeskRules.{at_once, is_notified, vio_of}
use Rattle.core_model.specs.DeskRules.DeskBegins.{answers, sends}
use Rattle.core_model.specs.Trace.{Says}
use Rattle.desk_zone.proofs.Begun.{named, never_unserved}
use Rattle.desk_zone.proofs.beginnings.begin_one.Goals as goal

pub returns-in-Some-at_once : goal.returns-in-Some-at_once
returns-in-Some-at_once c =
    let found : slice_get c.stream-requests.result.now c.args.request.number ≡ Some c.index-requests-request.result = grind (arith, common_steps, gets) in
    let asked : request_at c.requests.result.now c.args.request ≡ Some c.index-requests-request.result =
    subst (λ (rs : List Request). slice_get rs c.args.request.number ≡ Some c.index-requests-request.result) c.stream-requests.ensures found in
    let v = under_way c.in-Some.begun (value_written (Some c.index-requests-request.result)) in
    let served : vio_of c.args.sizes.now c.args.request c.index-requests-request.result ≡ Some v = search rules in
    let once : at_once c.args.sizes.now (is_notified c.args.sizes.now c.args.desk.now) v.asks v.at.0 ≡ Some c.in-Some-at_once.given = search rules in (
      Says (line.Answer c.args.request c.in-Some-at_once.given) ∷ Says (line.Begin c.args.request) ∷ [],
      answers c.args.request c.index-requests-request.result v c.in-Some-at_once.given c.requires.next (rw c.requests.ensures at asked) served once
          c.answer_at_once.ensures refl c.requires.none,
    )

pub returns-in-None : goal.returns-in-None
returns-in-None c =
    let found : slice_get c.stream-requests.result.now c.args.request.number ≡ Some c.index-requests-request.result = grind (arith, common_steps, gets) in
    let asked : request_at c.requests.result.now c.args.request ≡ Some c.index-requests-request.result =
    subst (λ (rs : List Request). slice_get rs c.args.request.number ≡ Some c.index-requests-request.result) c.stream-requests.ensures found in
    let v = under_way c.in-Some.begun (value_written (Some c.index-requests-request.result)) in
    let served : vio_of c.args.sizes.now c.args.request c.index-requests-request.result ≡ Some v = search rules in
    let none : at_once c.args.sizes.now (is_notified c.args.sizes.now c.args.desk.now) v.asks v.at.0 ≡ None = search rules in
    let name = named c.args.sizes.now c.args.request c.index-requests-request.result v served in
    let here : request_at c.args.desk.now.requests c.args.request ≡ Some c.index-requests-request.result = rw c.requests.ensures at asked in
    let known : request_at c.args.desk.now.requests c.in-Some.begun.request ≡ Some c.index-requests-request.result = rw name here in (
      Says (line.Begin c.args.request) ∷ [],
      sends c.args.request c.index-requests-request.result v c.requires.next here served none (rw name at c.send.ensures.desk) refl (c.send.ensures.posts v (rw known refl)),
    )

pub unreachable-requires : goal.unreachable-requires
unreachable-requires c =
    let found : slice_get c.stream-requests.result.now c.args.request.number ≡ Some c.index-requests-request.result = grind (arith, common_steps, gets) in
    let asked : request_at c.requests.result.now c.args.request ≡ Some c.index-requests-request.result =
    subst (λ (rs : List Request). slice_get rs c.args.request.number ≡ Some c.index-requests-request.result) c.stream-requests.ensures found in
    never_unserved c.args.sizes.now c.args.desk.now.requests c.args.request c.index-requests-request.result c.requires.can.served (rw c.requests.ensures at asked) (search rules)
