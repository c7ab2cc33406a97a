-- What clap makes of words that are right: it takes them, and finds what they give.
use Rattle.std.specs.Prelude.{◌≡◌, true, List, [], None, refl}
use Rattle.clap.specs.Simple.{matches_of}
use Rattle.clap.specs.Takes.{takes}
use Rattle.clap.specs.Walk.{Text, finished, first_of}
use Rattle.vdo_words.specs.Given.{find, given}
use Rattle.vdo_words.specs.OptionMatches.{app, long, text_in}
use Rattle.vdo_words.specs.Options.{are_right, spelling}
use Rattle.vdo_words.specs.declared.option_names.OptionName.{OptionName}
use Rattle.vdo_words.proofs.CommandLaws.{filled-all, free, is-simple, keeps-rows, no-defaults, optional, rules}
use Rattle.vdo_words.proofs.ReachLaws.{reached}
use Rattle.vdo_words.proofs.WalkLaws.{between, settles}
use Rattle.vdo_words.proofs.WordLaws.{spelled}

module _ (names : List OptionName) (words : List Text) (right : are_right names (given words) ≡ true) where
  pub takes-all : takes (app names) words ≡ true
  takes-all =
      let end = reached names words [] None tt right in
      let settled = settles (rules names) end.last_rows end.last end.is in
      rw (is-simple names, filled-all 1 names, end.ends, end.passes, settled, no-defaults names, free names, optional names (finished (rules names) (between end.last_rows end.last).held)) refl

  pub finds-all : (name : OptionName) → first_of (long name) (matches_of (app names) words) ≡ text_in (find (spelling name) (given words))
  finds-all name =
      let end = reached names words [] None tt right in
      rw (filled-all 1 names, end.ends, keeps-rows names, spelled name) (end.values (long name))
