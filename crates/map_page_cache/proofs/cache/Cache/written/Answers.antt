use Rattle.std.proofs.Common.{◌≡◌, Bool, List, ap, ◌∙◌, sym, subst, refl}
use Rattle.dirty_pages.specs.declared.dirty_points.DirtyPoints.{DirtyPoints}
use Rattle.dirty_pages.specs.DirtyPoints.{clean_of, settled, dirty_points_at}
use Rattle.dirty_pages.proofs.DirtyPointLaws.{changed_here, out_inside}
use Rattle.map_page_cache.specs.contracts.cache.Cache.{the_view}
use Rattle.map_page_cache.specs.CachedPages.{CachedPages, IsWriting}
use Rattle.map_page_cache.specs.Frames.{IsAt}
use Rattle.map_page_cache.specs.Turns.{with_turn}
use Rattle.map_page_cache.proofs.StepLaws.{writes, writing_in, flags-changed, flags_turned}
use Rattle.map_page_cache.proofs.cache.Cache.written.Goals as goal

pub written-requires : goal.written-requires
written-requires c =
    writing_in (the_view c.self.inside) c.args.page c.frame_of-frame.result c.self.invariant.form
    (subst (λ (known : CachedPages). IsAt known.pages c.args.page c.frame_of-frame.result) (sym c.self.view_is) c.frame_of-frame.ensures)
    (subst (λ (known : CachedPages). IsWriting known c.args.page) (sym c.self.view_is) c.requires)

pub returns : goal.returns
returns c =
    let cache = the_view c.self.inside in
    let place = c.frame_of-frame.result in
    let at = subst (λ (known : CachedPages). IsAt known.pages c.args.page place) (sym c.self.view_is) c.frame_of-frame.ensures in
    let out = writing_in cache c.args.page place c.self.invariant.form at (subst (λ (known : CachedPages). IsWriting known c.args.page) (sym c.self.view_is) c.requires) in
    let flag : c.is_clean.result ≡ clean_of (settled (dirty_points_at cache.dirty_points place))
    = c.is_clean.ensures ∙ ap clean_of (c.dirty_points-dirty_points.ensures ∙ ap (λ (ms : List DirtyPoints). dirty_points_at ms place) c.written.ensures ∙ changed_here cache.dirty_points place settled (out_inside cache.dirty_points place out)) in
    writes c.args.self.now cache c.args.page place c.written.new.self c.set.new.self c.self.view_is c.self.invariant.form c.frame_of-frame.ensures c.written.ensures
    (c.set.ensures ∙ ap (λ (clean : Bool). with_turn place clean c.self.inside.clean) flag)

pub invariant_of-self : goal.invariant_of-self
invariant_of-self c =
    let cache = the_view c.self.inside in
    let place = c.frame_of-frame.result in
    let at = subst (λ (known : CachedPages). IsAt known.pages c.args.page place) (sym c.self.view_is) c.frame_of-frame.ensures in
    let out = writing_in cache c.args.page place c.self.invariant.form at (subst (λ (known : CachedPages). IsWriting known c.args.page) (sym c.self.view_is) c.requires) in
    record {
      form = (returns c).form;
      room = c.self.invariant.room;
      index = c.self.invariant.index;
      clean = flags-changed cache _ place settled c.is_clean.result _ _ _ c.self.invariant.form c.self.invariant.clean at.inside c.written.ensures
          (c.is_clean.ensures ∙ ap clean_of (c.dirty_points-dirty_points.ensures ∙ ap (λ (ms : List DirtyPoints). dirty_points_at ms place) c.written.ensures
          ∙ changed_here cache.dirty_points place settled (out_inside cache.dirty_points place out)))
          (flags_turned c.self.inside.clean c.set.new.self place c.is_clean.result c.set.ensures) refl;
    }
