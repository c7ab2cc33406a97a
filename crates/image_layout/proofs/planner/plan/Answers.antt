use Rattle.std.proofs.Common.{ℕ, ◌≡◌, ◌∙◌, ◌∷◌, [], nat_le, Ok, ap, sym}
use Rattle.image_layout.specs.PossibleSizes.{first_failing, fits_trees}
use Rattle.image_layout.specs.declared.fault.LayoutFault.TheVariants.{LogicalTooLarge}
use Rattle.image_layout.proofs.PlanLaws.{planned_right}
use Rattle.image_layout.proofs.planner.plan.Goals as goal

pub of-layout-requires : goal.of-layout-requires
of-layout-requires c =
    let within : first_failing (fits_trees c.args.wanted.now) ≡ Ok tt =
    ap (λ (limit : ℕ). first_failing ((nat_le c.args.wanted.now.logical limit, LogicalTooLarge) ∷ [])) (sym c.logical_limit.ensures) ∙ sym c.in_ok-check.ensures in
    planned_right c.args.wanted.now (sym c.in_ok-check_sizes.ensures) within
