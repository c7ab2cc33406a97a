-- What a core begins with.
use Rattle.std.specs.Prelude.{◌≡◌}
use Rattle.blk_base.specs.declared.opened.Opened.{Opened}
use Rattle.vdo_model.specs.Scripts.{Script}
use Rattle.data_vio.specs.declared.sizes.Sizes.{Sizes}
use Rattle.core_model.specs.PageLinks.{opened_page}
use Rattle.core_model.specs.Sessions.{Session}

-- a session of these sizes and requests over an image that was opened: where that links its pages, and the counters of its data blocks
pub record IsOf (s : Session) (sizes : Sizes) (script : Script) (opened : Opened) : Type 0 where
  pub sizes_is : s.sizes ≡ sizes
  pub script_is : s.script ≡ script
  pub links_is : s.links ≡ opened_page opened.pages.items
  pub counters_are : s.counters ≡ opened.counters.items
