use Rattle.std.proofs.Common.{Option, sym, ◌∙◌, ap, subst, arith}
use Rattle.std.specs.Prelude.{is_some}
use Rattle.blk_base.specs.declared.point.Point.{Point}
use Rattle.dirty_pages.specs.declared.dirty_points.DirtyPoints.{DirtyPoints}
use Rattle.map_page_cache.specs.CachedPages.{CachedPages, IsWriting}
use Rattle.map_page_cache.specs.contracts.cache.Cache.{the_view}
use Rattle.map_page_cache.proofs.FrameLaws.{absent_at}
use Rattle.map_page_cache.proofs.CacheLaws.{no_slot_absent, in_at, being_written}
use Rattle.map_page_cache.proofs.StepLaws.{writing_in}
use Rattle.plain_laws.proofs.OptionLaws.{some_of}
use Rattle.map_page_cache.proofs.cache.Cache.is_being_written.Goals as goal

pub dirty_points-requires : goal.dirty_points-requires
dirty_points-requires c =
    let inside = (c.self.invariant.index.pages_at c.args.page c.in-Some.frame c.in-Some.ensures.some).inside in
    let size = c.self.invariant.form.dirty_points in
    let fits = c.self.invariant.form.fits in
    omega arith

pub returns-in-Some : goal.returns-in-Some
returns-in-Some c =
    let at = c.self.invariant.index.pages_at c.args.page c.in-Some.frame c.in-Some.ensures.some in (
      (λ writes.
          let some = some_of c.dirty_points.result.writing (sym c.is_some.ensures ∙ writes) in
          subst (λ (known : CachedPages). IsWriting known c.args.page) c.self.view_is
          (being_written (the_view c.self.inside) c.args.page c.in-Some.frame at
          (record { first = some.0; is = ap (λ (m : DirtyPoints). m.writing) (sym c.dirty_points.ensures) ∙ some.1 }))),
      (λ writes.
          let out = writing_in (the_view c.self.inside) c.args.page c.in-Some.frame c.self.invariant.form at (subst (λ (known : CachedPages). IsWriting known c.args.page) (sym c.self.view_is) writes) in
          c.is_some.ensures ∙ ap (λ (m : DirtyPoints). is_some m.writing) c.dirty_points.ensures ∙ ap (λ (o : Option Point). is_some o) out.is),
    )

pub returns-in-None : goal.returns-in-None
returns-in-None c =
    let absent = no_slot_absent c.self.inside.index c.self.inside.room c.self.inside.pages.items c.args.page c.self.invariant.index c.in-None.ensures.none in (
      (λ never. cc),
      (λ writes.
          let out = subst (λ (known : CachedPages). IsWriting known c.args.page) (sym c.self.view_is) writes in
          absurd (absent_at c.self.inside.pages.items c.args.page absent out.frame (in_at (the_view c.self.inside) c.args.page out.frame out.content out.stands))),
    )
