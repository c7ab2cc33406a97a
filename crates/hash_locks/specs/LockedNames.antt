-- Which names are locked with which bytes, and who waits for them.
use Rattle.std.specs.Prelude.{ℕ, ◌≡◌, ◌≢◌, ◌<◌, ◌≤◌, ◌+◌, List, [], ◌∷◌, ◌++◌, length, All, Option, None, Some}
use Rattle.std.specs.List.{find}
use Rattle.std.specs.Str.{bytes_eq}
use Rattle.plain_laws.specs.Firsts.{but_first}
use Rattle.hash_locks.specs.declared.role.Role.{Role}
use Rattle.hash_locks.specs.declared.role.Role.TheVariants.{Agent, Waits, Alone}
use Rattle.hash_locks.specs.declared.waiter.Waiter.{Waiter}

-- a lock: its name, and the bytes of its agent
pub record Lock : Type 0 where
  pub name : List ℕ
  pub bytes : List ℕ

-- the locks that are held, and whoever waits for them, in order
pub record Sharing (V : Type 0) : Type 0 where
  pub room : ℕ
  pub held : List Lock
  pub waiting : List (Waiter V)

-- no lock is held
abbrev pub nothing : (V : Type 0) → ℕ → Sharing V
nothing V room = record { room = room; held = []; waiting = [] }

-- there is room for one more
abbrev pub HasRoom : {V : Type 0} → Sharing V → Type 0
HasRoom locks = length locks.held + length locks.waiting < locks.room

-- the lock of a name, and the others
abbrev pub lock_of : List ℕ → List Lock → Option Lock
lock_of name held = find (λ lock. bytes_eq lock.name name) held

abbrev pub but_lock_of : List ℕ → List Lock → List Lock
but_lock_of name held = but_first (λ lock. bytes_eq lock.name name) held

-- the first that waits for a name, and those who wait but this one
abbrev pub first_for : {V : Type 0} → List ℕ → List (Waiter V) → Option (Waiter V)
first_for name waiting = find (λ waiter. bytes_eq waiter.name name) waiting

abbrev pub but_first_for : {V : Type 0} → List ℕ → List (Waiter V) → List (Waiter V)
but_first_for name waiting = but_first (λ waiter. bytes_eq waiter.name name) waiting

-- the lock for which one with this name and this block may wait
abbrev pub lock_with : {V : Type 0} → (V → List ℕ) → List ℕ → V → Lock
lock_with bytes_of name vio = record { name = name; bytes = bytes_of vio }

-- What an arrival did, by its role. As agent it holds the name, which was free. It waits behind all others where the lock
-- has its bytes. It goes alone, and nothing changes, where the lock has other bytes.
abbrev pub Arrives : {V : Type 0} → (V → List ℕ) → Sharing V → Sharing V → List ℕ → V → Role V → Type 0
Arrives bytes_of old new name vio (Agent back) =
    (back ≡ vio) × (lock_of name old.held ≡ None) × (new ≡ record old { held = old.held ++ lock_with bytes_of name vio ∷ [] })
Arrives bytes_of old new name vio Waits =
    (lock_of name old.held ≡ Some (lock_with bytes_of name vio)) × (new ≡ record old { waiting = old.waiting ++ record { name = name; vio = vio } ∷ [] })
Arrives bytes_of old new name vio (Alone back) =
    (back ≡ vio) × ((lock : Lock) × (lock_of name old.held ≡ Some lock) × (lock.bytes ≢ bytes_of vio)) × (new ≡ old)

-- This was the first that waited for the name, and waits no longer. The lock of the name is held, and has its bytes.
pub record Leaves {V : Type 0} (bytes_of : V → List ℕ) (old new : Sharing V) (waiter : Waiter V) : Type 0 where
  pub first : first_for waiter.name old.waiting ≡ Some waiter
  pub left : new ≡ record old { waiting = but_first_for waiter.name old.waiting }
  pub bytes : lock_of waiter.name old.held ≡ Some (lock_with bytes_of waiter.name waiter.vio)

-- nobody waited for the name, and its lock, if there was one, is gone
pub record Frees {V : Type 0} (old new : Sharing V) (name : List ℕ) : Type 0 where
  pub none_waits : first_for name old.waiting ≡ None
  pub less : new ≡ record old { held = but_lock_of name old.held }
  pub gone : lock_of name new.held ≡ None

-- no two locks are of one name
abbrev pub AreDistinct : List Lock → Type 0
AreDistinct [] = Unit {0}
AreDistinct (lock ∷ locks) = (lock_of lock.name locks ≡ None) × AreDistinct locks

-- no more than there is room for; one lock for a name; and whoever waits has the bytes of the lock for which it waits
pub record AreInOrder {V : Type 0} (bytes_of : V → List ℕ) (locks : Sharing V) : Type 0 where
  pub filled : length locks.held + length locks.waiting ≤ locks.room
  pub distinct : AreDistinct locks.held
  pub matched : All (λ waiter. lock_of waiter.name locks.held ≡ Some (lock_with bytes_of waiter.name waiter.vio)) locks.waiting
