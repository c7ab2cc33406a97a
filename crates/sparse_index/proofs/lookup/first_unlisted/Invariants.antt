use Rattle.std.proofs.Common.{◌≡◌, drop, not}
use Rattle.std.specs.List.{find}
use Rattle.std.specs.Option.{option_map}
use Rattle.sparse_index.specs.Finds.{is_listed}
use Rattle.sparse_index.proofs.lookup.first_unlisted.Given as goal

abbrev pub invariant-loop-one : goal.invariant-loop-one
invariant-loop-one l = option_map (λ one. one.number) (find (λ one. not (is_listed l.numbers one.number)) l.tagged)
    ≡ option_map (λ one. one.number) (find (λ one. not (is_listed l.numbers one.number)) (drop l.one-index l.tagged))
