-- The locks of a logical zone as its rules see them.
use Rattle.std.specs.Prelude.{ℕ, ◌≡◌, true, false, None, List, [], ◌∷◌}
use Rattle.blk_base.specs.declared.place.Lba.{Lba}
use Rattle.logical_locks.specs.declared.waiter.Waiter.{Waiter}
use Rattle.core_model.specs.LogicalData.{Lock}
use Rattle.core_model.specs.LogicalRules.{first_for, is_among, is_held}
use Rattle.data_vio.specs.declared.items.Vio.{Vio}

-- the requests that wait
abbrev pub vios : List (Waiter Vio) → List Vio
vios [] = []
vios (w ∷ ws) = w.vio ∷ vios ws

-- each waits for its own address, with the place that it drew
abbrev pub AreOwn : List (Waiter Vio) → Type 0
AreOwn [] = Unit {0}
AreOwn (w ∷ ws) = (w.at ≡ w.vio.at) × (w.place ≡ w.vio.place) × AreOwn ws

-- nobody holds an address, and nobody waits for it
pub record IsFree (held : List Lock) (waiting : List Vio) (a : ℕ) : Type 0 where
  pub unheld : is_held a held ≡ false
  pub unawaited : first_for a waiting ≡ None

-- so it is with each address whose lock is never released
abbrev pub AreFree : List Lock → List Vio → List Lba → Type 0
AreFree held waiting retired = (a : ℕ) → is_among a retired ≡ true → IsFree held waiting a
