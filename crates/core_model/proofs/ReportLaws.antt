-- Who waits for the report of its decrement, and the reports that came first: what is taken out by its request.
use Rattle.std.specs.Prelude.{ℕ, ◌≡◌, Bool, true, false, List, None, Some, is_some, position, slice_index_or}
use Rattle.std.specs.List.{find, remove}
use Rattle.std.proofs.Common.{ap, sym, ◌∙◌}
use Rattle.blk_base.specs.declared.request.Writer.{Writer}
use Rattle.data_vio.specs.declared.items.Vio.{Vio}
use Rattle.data_vio.specs.declared.logged.Remapping.{Remapping}
use Rattle.core_model.specs.LogicalData.{LogicalZone}
use Rattle.core_model.specs.LogicalRules.{is_reported, settling_of, without_report, without_settling}
use Rattle.plain_laws.proofs.FirstLaws.{but_first-none, find-nowhere, find-position, remove-position}
use Rattle.vdo_model.specs.Scripts.{same_writer}

abbrev pub waits_as : Writer → Vio → Bool
waits_as w v = same_writer v.request w

abbrev pub is_of : Writer → Remapping → Bool
is_of w e = same_writer e.request w

module _ (l now : LogicalZone) (w : Writer) (is : l ≡ now) where
  -- the request that waits
  module _ (seen : List Vio) (same : seen ≡ l.settling) where
    pub settling_none : None ≡ position (waits_as w) seen → settling_of w now.settling ≡ None
    settling_none none = ap (λ (z : LogicalZone). settling_of w z.settling) (sym is) ∙ find-nowhere (waits_as w) l.settling (ap (position (waits_as w)) (sym same) ∙ sym none)

    pub settling_still : None ≡ position (waits_as w) seen → now ≡ record now { settling = without_settling w now.settling }
    settling_still none = ap (λ (vs : List Vio). record now { settling = vs }) (sym (but_first-none (waits_as w) now.settling (settling_none none)))

    module _ (place : ℕ) (gone : Vio) (found : Some place ≡ position (waits_as w) seen) where
      placed : position (waits_as w) l.settling ≡ Some place
      placed = ap (position (waits_as w)) (sym same) ∙ sym found

      pub settling_out : gone ≡ slice_index_or l.settling place gone → Some gone ≡ settling_of w now.settling
      settling_out read = sym (find-position (waits_as w) l.settling place gone placed read) ∙ ap (λ (z : LogicalZone). settling_of w z.settling) is

      pub settling_left : (left : List Vio) → left ≡ remove l.settling place → record l { settling = left } ≡ record now { settling = without_settling w now.settling }
      settling_left left cut =
          ap (λ (vs : List Vio). record l { settling = vs }) (cut ∙ remove-position (waits_as w) l.settling place placed) ∙ ap (λ (z : LogicalZone). record z { settling = without_settling w z.settling }) is

  -- the report
  module _ (seen : List Remapping) (same : seen ≡ l.reported) where
    none_reported : None ≡ position (is_of w) seen → find (is_of w) now.reported ≡ None
    none_reported none = ap (λ (z : LogicalZone). find (is_of w) z.reported) (sym is) ∙ find-nowhere (is_of w) l.reported (ap (position (is_of w)) (sym same) ∙ sym none)

    pub reported_none : None ≡ position (is_of w) seen → false ≡ is_reported w now.reported
    reported_none none = sym (ap is_some (none_reported none))

    pub reported_still : None ≡ position (is_of w) seen → now ≡ record now { reported = without_report w now.reported }
    reported_still none = ap (λ (es : List Remapping). record now { reported = es }) (sym (but_first-none (is_of w) now.reported (none_reported none)))

    module _ (place : ℕ) (gone : Remapping) (found : Some place ≡ position (is_of w) seen) where
      placed_report : position (is_of w) l.reported ≡ Some place
      placed_report = ap (position (is_of w)) (sym same) ∙ sym found

      pub reported_out : gone ≡ slice_index_or l.reported place gone → true ≡ is_reported w now.reported
      reported_out read = sym (ap is_some (find-position (is_of w) l.reported place gone placed_report read)) ∙ ap (λ (z : LogicalZone). is_reported w z.reported) is

      pub reported_left : (left : List Remapping) → left ≡ remove l.reported place → record l { reported = left } ≡ record now { reported = without_report w now.reported }
      reported_left left cut =
          ap (λ (es : List Remapping). record l { reported = es }) (cut ∙ remove-position (is_of w) l.reported place placed_report)
          ∙ ap (λ (z : LogicalZone). record z { reported = without_report w z.reported }) is
