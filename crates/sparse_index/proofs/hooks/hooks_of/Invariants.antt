use Rattle.std.proofs.Common.{◌≡◌, filter, take}
use Rattle.sparse_index.specs.Hooks.{is_hook}
use Rattle.sparse_index.proofs.hooks.hooks_of.Given as goal

abbrev pub invariant-loop-record : goal.invariant-loop-record
invariant-loop-record l = l.hooks ≡ filter (λ one. is_hook one.name) (take l.record-index l.chapter.records)
