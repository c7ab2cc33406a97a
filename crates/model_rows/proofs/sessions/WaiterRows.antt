-- The locks of a logical zone as its rules see them: each clause on a case that it accepts, and on one that it refuses.
use Rattle.std.proofs.Common.{ℕ, ◌≡◌, false, true, [], ◌∷◌, refl, ap, subst, inl, inr, arith}
use Rattle.std.proofs.lemmas.Bool.Decides.{eqb_tells}
use Rattle.blk_base.specs.declared.place.Lba.{Lba}
use Rattle.blk_base.specs.Forms.{lba as address}
use Rattle.logical_locks.specs.declared.waiter.Waiter.{Waiter}
use Rattle.core_model.specs.LogicalData.{Lock}
use Rattle.core_model.specs.LogicalRules.{is_among}
use Rattle.core_model.specs.Waiters.{AreFree, AreOwn, IsFree, vios}
use Rattle.data_vio.specs.declared.items.Phase.TheVariants as phase
use Rattle.data_vio.specs.declared.items.Vio.{Vio}
use Rattle.model_rows.proofs.sessions.PhaseRows.{writes}

-- a write of address 0 with place 0, as one that waits for an address with a place
abbrev waits : (a n : ℕ) → Waiter Vio
waits a n = record { at = address a; place = n; vio = writes phase.Wait }

abbrev lock : Lock
lock = record { at = address 0; place = 0 }

the_vios : vios (waits 0 0 ∷ []) ≡ writes phase.Wait ∷ []
the_vios = refl

own : AreOwn (waits 0 0 ∷ [])
own = (refl, refl, tt)

own_address : AreOwn (waits 1 0 ∷ []) → ⊥
own_address is = let same = ap (λ (at : Lba). at.0) is.0 in absurd (omega (arith, same))

own_place : AreOwn (waits 0 1 ∷ []) → ⊥
own_place is = let same = is.1 in absurd (omega (arith, same))

own_each : AreOwn (waits 0 0 ∷ waits 0 1 ∷ []) → ⊥
own_each is = own_place is.2

free : IsFree (lock ∷ []) (writes phase.Wait ∷ []) 1
free = record { unheld = refl; unawaited = refl }

free_held : IsFree (lock ∷ []) [] 0 → ⊥
free_held is = let held = is.unheld in absurd cc

free_awaited : IsFree [] (writes phase.Wait ∷ []) 0 → ⊥
free_awaited is = let awaited = is.unawaited in absurd cc

among_them : (a : ℕ) → is_among a (address 1 ∷ []) ≡ true → IsFree (lock ∷ []) [] a
among_them a is = elim (eqb_tells 1 a) [
  | inl same ↦ subst (λ (n : ℕ). IsFree (lock ∷ []) [] n) same.1 (record { unheld = refl; unawaited = refl })
  | inr other ↦ absurd (let none : false ≡ true = rw other.0 at is in cc)
]

all_free : AreFree (lock ∷ []) [] (address 1 ∷ [])
all_free = among_them

not_all_free : AreFree (lock ∷ []) [] (address 1 ∷ address 0 ∷ []) → ⊥
not_all_free is = free_held (is 0 refl)
