use Rattle.std.proofs.Common.{List, sym, subst, refl}
use Rattle.blk_base.specs.declared.place.Mapping.{Mapping}
use Rattle.page_codec.specs.Grammar.{AreHeld}
use Rattle.page_codec.proofs.HeldLaws.{held_unmapped}
use Rattle.part_tests.specs.declared.caches.TheConstants.{GEOMETRY}
use Rattle.part_tests.proofs.caches.read_page.Goals as goal

pub returns-clause-held : goal.returns-clause-held
returns-clause-held c = record {
  geometry = refl;
  held = subst (λ (ms : List Mapping). AreHeld GEOMETRY c.args.page.level ms) (sym c.new.ensures) (held_unmapped GEOMETRY c.args.page.level);
}
