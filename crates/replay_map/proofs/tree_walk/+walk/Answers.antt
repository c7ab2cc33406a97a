use Rattle.std.proofs.Common.{rules, ◌≡◌, ◌∙◌, sym, ap, subst, arith, ℕ, length}
use Rattle.blk_base.specs.Pages.{page_below}
use Rattle.blk_base.specs.declared.place.PageId.{PageId}
use Rattle.blk_base.specs.declared.place.Pbn.{Pbn}
use Rattle.blk_base.specs.declared.sizes.TheConstants.{PAGE_SLOTS}
use Rattle.disk_model.proofs.SinceLaws.{untouched_on}
use Rattle.image_model.specs.Maps.{Image}
use Rattle.journal_window.proofs.AnswerLaws.{passed_on}
use Rattle.replay_map.proofs.FormLaws.{all_visited, below_in_tree, leaf_visited}
use Rattle.replay_map.proofs.LeftLaws.{IsWalked, all_passed, at_link, begun, walked_more}
use Rattle.replay_map.proofs.ReadLaws.{shown_by_none}
use Rattle.replay_map.proofs.SlotLaws.{failed_slot}
use Rattle.replay_map.proofs.WholeWalkLaws.{all_walked, fails_behind, leaf_walked, top_fault}
use Rattle.replay_map.specs.Forms.{IsInTree}
use Rattle.replay_map.specs.Reads.{IsPageBlock}
use Rattle.replay_map.specs.Walks.{IsLinked, IsUnder, IsUpTo, WalkFails}
use Rattle.replay_map.specs.declared.links.Link.{Link}
use Rattle.replay_map.proofs.tree_walk.+walk.Goals as goal

pub returns-then-top-eq0-clause-walked : goal.returns-then-top-eq0-clause-walked
returns-then-top-eq0-clause-walked g t c =
    let shown = c.in_ok-visit.ensures.walked in (
      shown.0,
      shown.1,
      λ image has linked. leaf_walked image c.args.top linked c.args.found.now c.visit.new.found c.if-top-eq0.true ((shown.2 image has linked).0),
    )

pub returns-in_err-visit-clause-fault : goal.returns-in_err-visit-clause-fault
returns-in_err-visit-clause-fault g t c =
    let trust = g.D.Disk.trust in
    let sizes = c.args.layout.now.geometry in
    let changes = c.args.changes.now in
    let before = g.D.Disk.seen c.args.device.now in
    let now = g.D.Disk.seen c.visit.new.device in
    passed_on c.from_residual.result (WalkFails trust sizes changes before now (λ image. IsLinked image c.args.top) (IsUnder c.args.top.page)) c.in_err-visit.field-0.0 c.from_residual.ensures.1
    (fails_behind trust sizes changes before before now (λ (image : Image). Unit {0}) (λ (image : Image). IsLinked image c.args.top) (λ (image : Image). IsLinked image c.args.top)
    (IsUpTo c.args.top.page 0) (IsUnder c.args.top.page) c.in_err-visit.field-0.0 (shown_by_none trust sizes changes before (λ (image : Image). Unit {0}) (λ image has. tt))
    (λ image known linked. linked) (λ image at fault known linked is. top_fault image c.args.top linked at fault is) c.in_err-visit.ensures.fault)

pub returns-then-top-eq0-clause-form : goal.returns-then-top-eq0-clause-form
returns-then-top-eq0-clause-form g t c = leaf_visited c.args.layout.now.geometry c.args.top.page c.visit.new.into c.args.found.now c.visit.new.found c.in_ok-visit.ensures.form

pub loop-place-init : goal.loop-place-init
loop-place-init g t c =
    let trust = g.D.Disk.trust in
    let sizes = c.args.layout.now.geometry in
    let changes = c.args.changes.now in
    let before = g.D.Disk.seen c.args.device.now in
    let now = g.D.Disk.seen c.visit.new.device in
    let some = c.if-top-eq0.false in
    let visited = c.in_ok-visit.ensures in
    record {
      walked = subst (λ (n : ℕ). IsWalked trust sizes changes c.args.top before now c.args.found.now c.visit.new.found n c.len-place-end.result) (let ok = c.args.found.now.links.ok in let size = c.len-first.ensures in omega (arith, ok, size))
          (subst (λ (n : ℕ). IsWalked trust sizes changes c.args.top before now c.args.found.now c.visit.new.found (length c.args.found.now.links.items) n) (let ok = c.visit.new.found.links.ok in let size = c.len-place-end.ensures in omega (arith, ok, size))
          (begun trust sizes changes c.args.top (omega (arith, some)) c.visit.new.into before now c.args.found.now c.visit.new.found visited.data (visited.links (omega (arith, some)))
          visited.walked visited.form));
      untouched = visited.untouched;
    }

pub returns-clause-walked : goal.returns-clause-walked
returns-clause-walked g t c =
    let trust = g.D.Disk.trust in
    let sizes = c.args.layout.now.geometry in
    let some = c.if-top-eq0.false in
    let all = all_passed trust sizes c.args.changes.now c.args.top (omega (arith, some)) (g.D.Disk.seen c.args.device.now) (g.D.Disk.seen c.loop-place.device) c.args.found.now
    c.loop-place.found c.loop-place.place c.len-place-end.result c.loop-place.invariant.walked c.loop-place-test.false in
    let shown = all.0 in (
      shown.0,
      shown.1,
      λ image has linked. all_walked image c.args.top linked c.args.found.now c.loop-place.found (omega (arith, some)) ((shown.2 image has linked).0),
    )

pub returns-clause-form : goal.returns-clause-form
returns-clause-form g t c =
    let some = c.if-top-eq0.false in
    let walked = c.loop-place.invariant.walked in
    let all = all_passed g.D.Disk.trust c.args.layout.now.geometry c.args.changes.now c.args.top (omega (arith, some)) (g.D.Disk.seen c.args.device.now)
    (g.D.Disk.seen c.loop-place.device) c.args.found.now c.loop-place.found c.loop-place.place c.len-place-end.result walked c.loop-place-test.false in
    all_visited c.args.layout.now.geometry c.args.top.page walked.mappings PAGE_SLOTS c.args.found.now c.loop-place.found (omega (arith, some)) all.1

pub walk-requires : goal.walk-requires
walk-requires g t c κs within =
    let trust = g.D.Disk.trust in
    let sizes = c.args.layout.now.geometry in
    let changes = c.args.changes.now in
    let before = g.D.Disk.seen c.args.device.now in
    let middle = g.D.Disk.seen c.loop-place.device in
    let some = c.if-top-eq0.false in
    let at = at_link trust sizes changes c.args.top (omega (arith, some)) before middle c.args.found.now c.loop-place.found c.loop-place.place
    c.len-place-end.result c.loop-place.invariant.walked c.loop-place-test.true in
    let is : c.index-below.result.now ≡ record { page = page_below c.args.top.page at.slot; at = at.at } = c.index-below.ensures ∙ at.is c.index-below.result.now in
    let level = ap (λ (l : Link). l.page.level) is in
    let index = ap (λ (l : Link). l.page.index) is in
    let inside = at.inside in
    let measure = c.decreases in
    let size = c.loop-place.invariant.untouched.stays.size in
    let room = c.requires.room in
    let low = c.requires.low in
    let place = subst (λ (p : PageId). IsInTree sizes p) (sym (ap (λ (l : Link). l.page) is))
    (below_in_tree sizes c.args.top.page at.slot c.requires.place (omega (arith, some)) inside) in (
      omega (arith, level, some, measure),
      (
        search rules,
        (
          omega (arith, size, room),
          (
            c.requires.data,
            (
              subst (λ (p : Pbn). IsPageBlock sizes p) (sym (ap (λ (l : Link). l.at) is)) at.stands,
              (
                (λ inner. let first = c.requires.first (omega (arith, inner, level, some)) in omega (arith, index, first, inside)),
                ((λ inner. absurd (omega (arith, inner, level, low, some))), (omega (arith, level, low), place)),
              ),
            ),
          ),
        ),
      ),
    )

pub returns-in_err-walk-clause-fault : goal.returns-in_err-walk-clause-fault
returns-in_err-walk-clause-fault g t c =
    let trust = g.D.Disk.trust in
    let sizes = c.args.layout.now.geometry in
    let changes = c.args.changes.now in
    let before = g.D.Disk.seen c.args.device.now in
    let middle = g.D.Disk.seen c.loop-place.device in
    let some = c.if-top-eq0.false in
    let now = g.D.Disk.seen c.walk.new.device in
    let at = at_link trust sizes changes c.args.top (omega (arith, some)) before middle c.args.found.now c.loop-place.found c.loop-place.place
    c.len-place-end.result c.loop-place.invariant.walked c.loop-place-test.true in
    let is : c.index-below.result.now ≡ record { page = page_below c.args.top.page at.slot; at = at.at } = c.index-below.ensures ∙ at.is c.index-below.result.now in
    passed_on c.from_residual-in_err-walk.result (WalkFails trust sizes changes before now (λ image. IsLinked image c.args.top) (IsUnder c.args.top.page))
    c.in_err-walk.field-0.0 c.from_residual-in_err-walk.ensures.1
    (failed_slot trust sizes changes c.args.top at.mappings at.slot at.inside (omega (arith, some)) c.index-below.result.now at.at at.leads is
    before middle now c.args.found.now c.loop-place.found c.in_err-walk.field-0.0 at.shown c.in_err-walk.ensures.fault)

pub returns-in_err-walk-clause-untouched : goal.returns-in_err-walk-clause-untouched
returns-in_err-walk-clause-untouched g t c = untouched_on g.D.Disk.trust.tells _ _ _ c.loop-place.invariant.untouched c.walk.ensures.untouched

pub loop-place-preserved : goal.loop-place-preserved
loop-place-preserved g t c =
    let trust = g.D.Disk.trust in
    let sizes = c.args.layout.now.geometry in
    let changes = c.args.changes.now in
    let before = g.D.Disk.seen c.args.device.now in
    let middle = g.D.Disk.seen c.loop-place.device in
    let some = c.if-top-eq0.false in
    let now = g.D.Disk.seen c.walk.new.device in
    record {
      walked = walked_more trust sizes changes c.args.top (omega (arith, some)) before middle c.args.found.now c.loop-place.found c.loop-place.place
          c.len-place-end.result c.loop-place.invariant.walked c.loop-place-test.true
          now c.walk.new.found c.index-below.result.now c.index-below.ensures c.in_ok-walk.ensures.walked c.in_ok-walk.ensures.form;
      untouched = untouched_on trust.tells _ _ _ c.loop-place.invariant.untouched c.walk.ensures.untouched;
    }
