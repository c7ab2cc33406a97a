use Rattle.std.proofs.Common.{ap, ◌∙◌, sym, ℕ, ◌/◌, ◌%◌}
use Rattle.zone_counts.proofs.PlaceLaws.{number_is}
use Rattle.zone_counts.proofs.places.find_slab.Goals as goal

pub returns-then-data-zones-clause-own : goal.returns-then-data-zones-clause-own
returns-then-data-zones-clause-own c =
    let g = c.args.layout.now.geometry in
    let found = c.in_ok-data.data in
    let is = number_is g found.slab found.offset c.args.at c.in_ok-data.ensures.some.0.1 c.in_ok-data.ensures.some.1 in
    record {
      data_block = record { slab = found.slab; offset = found.offset; inside = c.in_ok-data.ensures.some.0; stands = c.in_ok-data.ensures.some.1 };
      own = ap (λ (n : ℕ). n % c.args.zones) is ∙ c.if-data-zones.true;
    }

pub returns-then-data-zones-clause-place : goal.returns-then-data-zones-clause-place
returns-then-data-zones-clause-place c =
    let is = number_is c.args.layout.now.geometry c.in_ok-data.data.slab c.in_ok-data.data.offset c.args.at c.in_ok-data.ensures.some.0.1 c.in_ok-data.ensures.some.1 in
    ap (λ (n : ℕ). n / c.args.zones) (sym is)

pub returns-else-data-zones-clause-none : goal.returns-else-data-zones-clause-none
returns-else-data-zones-clause-none c = λ own.
    let is = number_is c.args.layout.now.geometry c.in_ok-data.data.slab c.in_ok-data.data.offset c.args.at c.in_ok-data.ensures.some.0.1 c.in_ok-data.ensures.some.1 in
    c.if-data-zones.false (ap (λ (n : ℕ). n % c.args.zones) (sym is) ∙ own.own)
