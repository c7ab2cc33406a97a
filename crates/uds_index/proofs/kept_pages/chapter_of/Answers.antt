use Rattle.std.proofs.Common.{◌∙◌, ap, sym, option_copied}
use Rattle.uds_index.proofs.PlaceLaws.{found_at, other_at, none_at}
use Rattle.uds_index.proofs.kept_pages.chapter_of.Goals as goal

pub returns-in_err-chapter : goal.returns-in_err-chapter
returns-in_err-chapter c =
    let look = c.in_err-chapter.ensures.lookup in
    ap option_copied c.from_residual.ensures ∙ sym (none_at c.args.number c.args.kept.now c.place_among.result c.place_among.ensures look.3)

pub returns-then-number : goal.returns-then-number
returns-then-number c =
    let look = c.in_ok-chapter.ensures.lookup in
    sym (found_at c.args.number c.args.kept.now c.place_among.result c.in_ok-chapter.chapter.now c.place_among.ensures look.3.0 look.1 (sym c.number.ensures ∙ c.if-number.true))

pub returns-else-number : goal.returns-else-number
returns-else-number c =
    let look = c.in_ok-chapter.ensures.lookup in
    sym (other_at c.args.number c.args.kept.now c.place_among.result c.in_ok-chapter.chapter.now c.requires c.place_among.ensures look.3.0 look.1
    (λ same. c.if-number.false (c.number.ensures ∙ same)))
