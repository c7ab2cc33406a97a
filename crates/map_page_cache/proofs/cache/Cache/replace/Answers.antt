use Rattle.std.proofs.Common.{true, ◌≡◌, ◌<◌, length, ap, ◌∙◌, sym, subst}
use Rattle.std.proofs.lemmas.List.{length-set, set-get_or}
use Rattle.page_codec.specs.declared.forms.MapPage.{MapPage}
use Rattle.dirty_pages.specs.DirtyPoints.{clean_of, dirty_points_at, clean}
use Rattle.map_page_cache.specs.contracts.cache.Cache.{the_view}
use Rattle.map_page_cache.specs.CachedPages.{CachedPages, IsAbsent}
use Rattle.map_page_cache.proofs.FrameLaws.{at_by, absent_at, follows-replace}
use Rattle.map_page_cache.proofs.StepLaws.{gives_up, flags-changed, flags_turned}
use Rattle.map_page_cache.proofs.cache.Cache.replace.Goals as goal

pub remove-requires : goal.remove-requires
remove-requires c =
    let inside = subst (λ (known : CachedPages). c.args.frame < length known.pages) (sym c.self.view_is) c.requires.inside in
    let content = c.index_mut-content.result.now in (
      c.args.frame,
      c.self.invariant.index.all content.head.page c.args.frame
          (at_by c.self.inside.pages.items content.head.page c.args.frame content inside (ap (λ (m : MapPage). m.head.page) (sym c.index_mut-content.ensures.value))),
    )

pub insert-requires-clause-absent : goal.insert-requires-clause-absent
insert-requires-clause-absent c = λ s has.
    absent_at c.self.inside.pages.items c.args.page (subst (λ (known : CachedPages). IsAbsent known c.args.page) (sym c.self.view_is) c.requires.absent) s
    (c.self.invariant.index.pages_at c.args.page s (c.remove.ensures.only c.args.page s has))

pub returns : goal.returns
returns c =
    gives_up c.args.self.now (the_view c.self.inside) c.args.page c.args.frame c.args.from.now c.copy_page.new.into c.set.new.self c.self.view_is c.self.invariant.form c.requires.absent c.requires.named
    c.requires.held c.requires.full c.requires.inside c.requires.clean c.requires.longest c.copy_page.ensures c.set.ensures

pub invariant_of-self : goal.invariant_of-self
invariant_of-self c =
    let cache = the_view c.self.inside in
    let place = c.args.frame in
    let gone = c.index_mut-content.result.now in
    let inside = subst (λ (known : CachedPages). place < length known.pages) (sym c.self.view_is) c.requires.inside in
    let clean_is : dirty_points_at cache.dirty_points place ≡ clean = subst (λ (known : CachedPages). dirty_points_at known.dirty_points place ≡ clean) (sym c.self.view_is) c.requires.clean in
    let at = at_by cache.pages gone.head.page place gone inside (ap (λ (m : MapPage). m.head.page) (sym c.index_mut-content.ensures.value)) in
    record {
      form = (returns c).form;
      room = c.self.invariant.room;
      index = follows-replace c.self.inside.index c.remove.new.self c.insert.new.self cache.frames place cache.pages c.copy_page.new.into gone.head.page c.args.page
          c.self.invariant.index c.self.invariant.form.apart at c.remove.ensures c.insert.ensures (ap (λ (m : MapPage). m.head.page) c.copy_page.ensures ∙ c.requires.named);
      clean = flags-changed cache _ place (λ own. own) _ _ _ _ c.self.invariant.form c.self.invariant.clean inside (sym (set-get_or cache.dirty_points place clean)) (sym (ap clean_of clean_is))
          (flags_turned c.self.inside.clean c.set.new.self place true c.set.ensures) (length-set cache.pages place c.copy_page.new.into);
    }
