-- For each clause of what is judged and decided, a case that it accepts, and one that breaks it alone.
use Rattle.std.specs.Prelude.{ℕ, ◌≡◌, List, [], ◌∷◌, None, Some}
use Rattle.std.proofs.Common.{ap, arith, refl}
use Rattle.blk_base.specs.declared.place.Pbn.{Pbn}
use Rattle.blk_base.specs.Forms.{pbn as at}
use Rattle.verify_share.specs.declared.verdict.Verdict.TheVariants.{Same, Different}
use Rattle.verify_share.specs.declared.judged.Judged.TheVariants.{Shared, Stored}
use Rattle.verify_share.specs.Comparison.{IsVerdict, Decides}

-- two blocks, of which the one begins as the other does, and one that differs in its last byte
abbrev short : List ℕ
short = 1 ∷ 2 ∷ []

abbrev long : List ℕ
long = 1 ∷ 2 ∷ 3 ∷ []

abbrev other : List ℕ
other = 1 ∷ 2 ∷ 4 ∷ []

abbrev block_of : Pbn → ℕ
block_of place = place.0

others : ◌≡◌ {A = ℕ} 91 90 → ⊥
others same = omega arith

others' : ◌≡◌ {A = ℕ} 85 90 → ⊥
others' same = omega arith

-- the verdict
same : IsVerdict long long Same
same = refl

not_the_same : ¬ IsVerdict long other Same
not_the_same = λ same. cc

not_by_a_prefix : ¬ IsVerdict long short Same
not_by_a_prefix = λ same. cc

different : IsVerdict long other Different
different = λ same. cc

not_different : ¬ IsVerdict long long Different
not_different = λ differs. differs refl

-- a block that is shared, with and without an own one
shared : Decides (Some long) long (Some (at 85)) (at 90) (Shared (at 90) (Some (at 85)))
shared = (refl, refl, refl)

shared_without_own : Decides (Some long) long None (at 90) (Shared (at 90) None)
shared_without_own = (refl, refl, refl)

other_bytes_not_shared : ¬ Decides (Some other) long (Some (at 85)) (at 90) (Shared (at 90) (Some (at 85)))
other_bytes_not_shared = λ decided. let read = decided.0 in cc

unread_not_shared : ¬ Decides None long (Some (at 85)) (at 90) (Shared (at 90) (Some (at 85)))
unread_not_shared = λ decided. let read = decided.0 in cc

another_share : ¬ Decides (Some long) long (Some (at 85)) (at 90) (Shared (at 91) (Some (at 85)))
another_share = λ decided. others (ap block_of decided.1)

own_lost : ¬ Decides (Some long) long (Some (at 85)) (at 90) (Shared (at 90) None)
own_lost = λ decided. let spare = decided.2 in cc

-- bytes that are stored
stored : Decides (Some other) long (Some (at 85)) (at 90) (Stored (Some (at 85)) (at 90))
stored = ((λ same. cc), refl, refl)

stored_unread : Decides None long None (at 90) (Stored None (at 90))
stored_unread = ((λ same. cc), refl, refl)

same_bytes_not_stored : ¬ Decides (Some long) long (Some (at 85)) (at 90) (Stored (Some (at 85)) (at 90))
same_bytes_not_stored = λ decided. decided.0 refl

own_not_kept : ¬ Decides None long (Some (at 85)) (at 90) (Stored None (at 90))
own_not_kept = λ decided. let kept = decided.1 in cc

another_spare : ¬ Decides None long (Some (at 85)) (at 90) (Stored (Some (at 85)) (at 85))
another_spare = λ decided. others' (ap block_of decided.2)
