-- Who holds an address, and who waits for it.
use Rattle.std.specs.Prelude.{ℕ, ◌≡◌, ◌<◌, ◌+◌, ◌-◌, ◌^◌, Bool, true, false, not, ◌==◌, List, [], ◌∷◌, ◌++◌, length, filter, Option, None, Some}
use Rattle.std.specs.List.{find, list_any}
use Rattle.plain_laws.specs.Firsts.{but_first}
use Rattle.blk_base.specs.declared.place.Lba.{Lba}
use Rattle.logical_locks.specs.declared.lock.Lock.{Lock}
use Rattle.logical_locks.specs.declared.waiter.Waiter.{Waiter}

-- `next` is the place that is drawn next; `held` has the locks that are held, and `waiting` whoever waits, in order
pub record Holders (V : Type 0) : Type 0 where
  pub room : ℕ
  pub next : ℕ
  pub held : List Lock
  pub waiting : List (Waiter V)

-- no place was drawn, and no address is held
abbrev pub nobody : (V : Type 0) → ℕ → Holders V
nobody V room = record { room = room; next = 0; held = []; waiting = [] }

-- there is room for one more, and a number for its place
pub record HasRoom {V : Type 0} (locks : Holders V) : Type 0 where
  pub fewer : length locks.held + length locks.waiting < locks.room
  pub number : locks.next < 2 ^ 64 - 1

-- whether the address is held; the locks but that of the address
abbrev pub is_held : Lba → List Lock → Bool
is_held at held = list_any (λ lock. lock.at.0 == at.0) held

abbrev pub without : Lba → List Lock → List Lock
without at held = filter (λ lock. not (lock.at.0 == at.0)) held

-- the first that waits for the address; those who wait but this one
abbrev pub first_for : {V : Type 0} → Lba → List (Waiter V) → Option (Waiter V)
first_for at waiting = find (λ waiter. waiter.at.0 == at.0) waiting

abbrev pub but_first_for : {V : Type 0} → Lba → List (Waiter V) → List (Waiter V)
but_first_for at waiting = but_first (λ waiter. waiter.at.0 == at.0) waiting

-- the lock that a waiter will hold
abbrev pub lock_of : {V : Type 0} → Waiter V → Lock
lock_of waiter = record { at = waiter.at; place = waiter.place }

-- nobody held the address, and now it is held with the place that was next
pub record Takes {V : Type 0} (old new : Holders V) (lock : Lock) : Type 0 where
  pub was_free : is_held lock.at old.held ≡ false
  pub now_held : new ≡ record old { next = old.next + 1; held = old.held ++ lock ∷ [] }

-- the address was held, and one more waits for it behind all others
pub record Waits {V : Type 0} (old new : Holders V) (waiter : Waiter V) : Type 0 where
  pub was_held : is_held waiter.at old.held ≡ true
  pub behind : new ≡ record old { next = old.next + 1; waiting = old.waiting ++ waiter ∷ [] }

-- this was the first that waited for the address, and waits no longer: now it holds it, with the place that it drew
pub record HoldsNext {V : Type 0} (old new : Holders V) (waiter : Waiter V) : Type 0 where
  pub first : first_for waiter.at old.waiting ≡ Some waiter
  pub now_held : new ≡ record old {
    held = without waiter.at old.held ++ lock_of waiter ∷ [];
    waiting = but_first_for waiter.at old.waiting;
  }

-- nobody waited for the address, and now it is free
pub record Frees {V : Type 0} (old new : Holders V) (at : Lba) : Type 0 where
  pub none_waits : first_for at old.waiting ≡ None
  pub free : new ≡ record old { held = without at old.held }
