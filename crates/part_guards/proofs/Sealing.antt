-- No block is sealed over one with an update that isn't covered.
use Rattle.std.proofs.Common.{◌≡◌, ◌<◌, ◌≤◌, length, List, ◌∷◌, Option, None, Some, IfSome, All, refl, subst, arith}
use Rattle.slab_codec.specs.declared.forms.SlabEntry.{SlabEntry}
use Rattle.slab_codec.specs.declared.forms.SlabJournalBlock.{SlabJournalBlock}
use Rattle.slab_journal.specs.Slab.{Slab, Seals, IsCovered, commit_of, next_block}

pub none_over : (old new : Slab) (result : Option SlabJournalBlock) (entry : SlabEntry) (rest : List SlabEntry) → next_block old ≡ entry ∷ rest
    → (commit_of old.geometry old.commits entry).0 < entry.point.0 → IfSome result (Seals old new) → result ≡ None
none_over old new None entry rest there above some = refl
none_over old new (Some block) entry rest there above some =
    let all : All (IsCovered old.geometry old.commits) (entry ∷ rest) = subst (λ (xs : List SlabEntry). All (IsCovered old.geometry old.commits) xs) there some.covered in
    let inside : 0 < length (entry ∷ rest) = omega arith in
    let covered : entry.point.0 ≤ (commit_of old.geometry old.commits entry).0 = all 0 entry inside in
    absurd (omega (arith, covered, above))
