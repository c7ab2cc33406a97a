-- Lists of calls of hash locks.
use Rattle.std.specs.Prelude.{ℕ, ◌≡◌, ◌⊎◌, List, [], ◌∷◌, None}
use Rattle.plain_laws.specs.Leads.{LeadsBy}
use Rattle.hash_locks.specs.declared.role.Role.{Role}
use Rattle.hash_locks.specs.declared.waiter.Waiter.{Waiter}
use Rattle.hash_locks.specs.LockedNames.{Sharing, HasRoom, Arrives, Leaves, Frees, first_for}

pub data Operation (V : Type 0) : Type 0 where
  Arrival : List ℕ → V → Operation V
  Settling : List ℕ → Operation V
  RollingOver : List ℕ → Operation V
  Ending : Operation V

-- what a call does, as its contract says
abbrev pub Does : {V : Type 0} → (V → List ℕ) → Operation V → Sharing V → Sharing V → Type 0
Does {V} bytes_of (Arrival name vio) old new = HasRoom old × ((role : Role V) × Arrives bytes_of old new name vio role)
Does {V} bytes_of (Settling name) old new =
    ((vio : V) × Leaves bytes_of old new (record { name = name; vio = vio })) ⊎ ((first_for name old.waiting ≡ None) × (new ≡ old))
Does {V} bytes_of (RollingOver name) old new = ((vio : V) × Leaves bytes_of old new (record { name = name; vio = vio })) ⊎ Frees old new name
Does {V} bytes_of Ending old new =
    ((waiter : Waiter V) × (old ≡ record new { waiting = waiter ∷ new.waiting })) ⊎ ((old.waiting ≡ []) × (new ≡ old))

-- these calls, the newest first, lead from the ones to the others
abbrev pub LeadTo : {V : Type 0} → (V → List ℕ) → Sharing V → List (Operation V) → Sharing V → Type 0
LeadTo {V} bytes_of old calls new = LeadsBy (Does {V = V} bytes_of) old calls new
