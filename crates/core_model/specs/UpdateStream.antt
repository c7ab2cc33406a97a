-- The second stream: the updates of the counters of data blocks, which the journal sends to the physical zone in the order of the
-- committed entries.
use Rattle.std.specs.Prelude.{ℕ, List, [], ◌∷◌}
use Rattle.data_vio.specs.Vios.{logged}
use Rattle.data_vio.specs.Zones.{journal_number, physical_number}
use Rattle.data_vio.specs.declared.items.Item.{Item}
use Rattle.data_vio.specs.declared.items.Item.TheVariants as item
use Rattle.data_vio.specs.declared.items.Phase.{Phase}
use Rattle.data_vio.specs.declared.items.Phase.TheVariants as phase
use Rattle.data_vio.specs.declared.logged.Logged.{Logged}
use Rattle.core_model.specs.CountUpdates.{CountUpdate, Decrement, Increment, updates_in, updates_of, updates_taken}
use Rattle.core_model.specs.Sessions.{Session}
use Rattle.core_model.specs.Streams.{Stream}
use Rattle.core_model.specs.Trace.{durable}

-- a request whose entry is committed brings its increment; a decrement is one; nothing else is an update
abbrev pub counting : Phase → Logged → List CountUpdate
counting phase.Count e = Increment e ∷ []
counting other e = []

abbrev pub updating : Item → List CountUpdate
updating (item.Request v) = counting v.phase (logged v)
updating (item.Decrement e) = Decrement e ∷ []
updating other = []

abbrev pub updates_at : Session → ℕ → Stream CountUpdate
updates_at s zone =
    record {
      from = journal_number s.sizes;
      to = physical_number s.sizes zone;
      counts = λ it. updates_in s.sizes zone (updating it);
      sent = λ t. updates_in s.sizes zone (updates_of (durable t));
      taken = λ t. updates_in s.sizes zone (updates_taken t);
    }
