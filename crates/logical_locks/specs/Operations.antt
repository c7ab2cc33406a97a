-- Lists of calls of the locks, and what they keep.
use Rattle.std.specs.Prelude.{ℕ, ◌≡◌, ◌≤◌, ◌+◌, ◌⊎◌, true, false, List, [], ◌∷◌, length, All}
use Rattle.blk_base.specs.declared.place.Lba.{Lba}
use Rattle.plain_laws.specs.Leads.{LeadsBy}
use Rattle.logical_locks.specs.declared.lock.Lock.{Lock}
use Rattle.logical_locks.specs.Holders.{Holders, HasRoom, Takes, Waits, HoldsNext, Frees, is_held}

pub data Operation (V : Type 0) : Type 0 where
  Asks : Lba → V → Operation V
  Releases : Lba → Operation V

-- what a call does, as its contract says
abbrev pub Does : {V : Type 0} → Operation V → Holders V → Holders V → Type 0
Does (Asks at vio) old new = HasRoom old
    × (Takes old new (record { at = at; place = old.next }) ⊎ Waits old new (record { at = at; place = old.next; vio = vio }))
Does {V} (Releases at) old new = ((place : ℕ) × (vio : V) × HoldsNext old new (record { at = at; place = place; vio = vio })) ⊎ Frees old new at

-- these calls, the newest first, lead from the ones to the others
abbrev pub LeadTo : {V : Type 0} → Holders V → List (Operation V) → Holders V → Type 0
LeadTo {V} old calls new = LeadsBy (Does {V = V}) old calls new

-- no two of the locks are of one address
abbrev pub AreDistinct : List Lock → Type 0
AreDistinct [] = Unit {0}
AreDistinct (lock ∷ locks) = (is_held lock.at locks ≡ false) × AreDistinct locks

-- no more than there is room for; one lock for an address; and whoever waits waits for one that is held
pub record AreInOrder {V : Type 0} (locks : Holders V) : Type 0 where
  pub filled : length locks.held + length locks.waiting ≤ locks.room
  pub distinct : AreDistinct locks.held
  pub awaited : All (λ waiter. is_held waiter.at locks.held ≡ true) locks.waiting
