use Rattle.std.proofs.Common.{◌≡◌, take}
use Rattle.clap.specs.Words.{app_of}
use Rattle.vdo_words.specs.OptionMatches.{app}
use Rattle.vdo_words.proofs.clap_matches.command.Given as goal

abbrev pub invariant-loop-name : goal.invariant-loop-name
invariant-loop-name l = app_of l.command ≡ app (take l.name-index l.names)
