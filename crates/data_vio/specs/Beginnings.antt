-- How a request begins to be under way.
use Rattle.std.specs.Prelude.{ℕ, List, [], None}
use Rattle.blk_base.specs.declared.place.Mapping.TheVariants.{Unmapped}
use Rattle.data_vio.specs.declared.begun.Begun.{Begun}
use Rattle.data_vio.specs.declared.items.Vio.{Vio}

-- the request under way that was begun so, with these bytes
abbrev pub under_way : Begun → List ℕ → Vio
under_way begun bytes =
    record {
      request = begun.request;
      asks = begun.asks;
      at = begun.at;
      home = begun.home;
      phase = begun.phase;
      page = None;
      leaf = None;
      bytes = bytes;
      place = 0;
      old = Unmapped;
      latest = None;
      new = Unmapped;
      claim = None;
      tickets = [];
      receipt = None;
      answer = None;
      calls = 0;
    }
