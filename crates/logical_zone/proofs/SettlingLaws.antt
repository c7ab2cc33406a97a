-- What a logical zone keeps of reports, and of who waits for one, where none is found.
use Rattle.std.proofs.Common.{◌≡◌, ◌&&◌, Bool, true, false, not, Option, None, Some, is_some, List, if◌then◌else◌, refl}
use Rattle.blk_base.specs.declared.request.Writer.{Writer}
use Rattle.data_vio.specs.declared.items.Vio.{Vio}
use Rattle.data_vio.specs.declared.logged.Remapping.{Remapping}
use Rattle.core_model.specs.LogicalData.{LogicalZone}
use Rattle.core_model.specs.LogicalRules.{awaits_report, is_reported, reports_left, settling_of, without_report, without_settling}
use Rattle.core_model.specs.PageLinks.{block_in}
use Rattle.plain_laws.proofs.FirstLaws.{but_first-none}
use Rattle.vdo_model.specs.Scripts.{same_writer}

not_found : (o : Option Remapping) → not (is_some o) ≡ true → o ≡ None
not_found None none = refl
not_found (Some e) none = absurd cc

-- a request that waits for its report leaves the reports that came
pub reports_kept : (l : LogicalZone) (v : Vio) → awaits_report l v ≡ true → reports_left v l.reported ≡ l.reported
reports_kept l v waits = by (is_some (block_in v.old)) waits
  where
    by : (replaces : Bool) → (replaces && not (is_reported v.request l.reported)) ≡ true → (if replaces then without_report v.request l.reported else l.reported) ≡ l.reported
    by true unreported = but_first-none (λ e. same_writer e.request v.request) l.reported (not_found _ unreported)
    by false waits = refl

-- a report that nobody waits for leaves who waits for one
pub settling_kept : (w : Writer) (vs : List Vio) → settling_of w vs ≡ None → without_settling w vs ≡ vs
settling_kept w vs none = but_first-none (λ v. same_writer v.request w) vs none
