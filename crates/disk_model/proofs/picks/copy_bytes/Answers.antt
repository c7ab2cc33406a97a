use Rattle.std.proofs.Common.{List, ℕ, ◌≡◌, ◌∙◌, ◌+◌, ◌-◌, ◌++◌, take, drop, ap, ap₂, arith}
use borrow.Rule.Slice.PartMut.{Post-is}
use Rattle.disk_model.proofs.picks.copy_bytes.Goals as goal

pub returns : goal.returns
returns c =
    let count : c.args.start + 512 - c.args.start ≡ 512 = omega arith in
    let middle = c.copy_from_slice.ensures.after ∙ ap (λ (n : ℕ). take n (drop c.args.start c.args.from.now)) count in
    ap₂ (λ (ys zs : List ℕ). take c.args.start c.args.into.now ++ (ys ++ zs)) middle
    (Post-is c.args.start (c.args.start + 512) c.args.into.now (omega arith))
