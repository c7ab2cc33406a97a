use Rattle.std.proofs.Common.{◌∙◌, ap, map, string_bytes}
use Rattle.std.proofs.lemmas.Result.{IfErr-weaker, IfOk-weaker}
use Rattle.clap.proofs.WalkLemmas.{first_value-rows}
use Rattle.clap.specs.Words.{first_of, found_of, is_simple, matches_of, takes}
use Rattle.vdo_words.specs.OptionMatches.{long}
use Rattle.vdo_words.proofs.CommandLaws.{is-simple}
use Rattle.vdo_words.proofs.FindingLaws.{finds-all, takes-all}
use Rattle.vdo_words.proofs.clap_matches.matches.Goals as goal

pub returns : goal.returns
returns c =
    let names = c.args.names.now in
    let words = map string_bytes c.args.words.now in
    let app-is = c.in_ok-command.ensures in
    let parse = c.try_get_matches_from in
    record {
      finds = IfOk-weaker parse.result _ _ (λ found matched name.
          first_value-rows (found_of found) (long name)
          ∙ ap (first_of (long name)) ((matched (ap is_simple app-is ∙ is-simple names)).0 ∙ ap (λ app. matches_of app words) app-is)
          ∙ finds-all names words c.requires name) parse.ensures.matches;
      memory = IfErr-weaker parse.result _ _ (λ error only. only (ap (λ app. takes app words) app-is ∙ takes-all names words c.requires)) parse.ensures.passes;
    }
