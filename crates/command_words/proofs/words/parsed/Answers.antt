use Rattle.std.proofs.Common.{◌≡◌, true, ap, map, refl, subst, string_bytes, List, IfOk}
use Rattle.clap.specs.Words.{App, FailsBy, HasMatchesOf, Text, app_of, fault_of, is_simple_and_free}
use Rattle.command_words.specs.App.{the_app}
use Rattle.command_words.proofs.Builders.{matched, passed, refused}
use Rattle.command_words.proofs.words.parsed.Goals as goal

fails_by : (c : goal.After-try_get_matches_from) → FailsBy (fault_of the_app (map string_bytes c.args.words.now)) c.try_get_matches_from.result
fails_by c =
    let simple : is_simple_and_free (app_of c.in_ok-program.field-0) ≡ true = ap is_simple_and_free c.in_ok-program.ensures.app in
    subst (λ (a : App). FailsBy (fault_of a (map string_bytes c.args.words.now)) c.try_get_matches_from.result) c.in_ok-program.ensures.app (c.try_get_matches_from.ensures.kinds simple)

pub returns-clause-fault : goal.returns-clause-fault
returns-clause-fault c = passed c.try_get_matches_from.result _ (fails_by c)

pub returns-clause-matches : goal.returns-clause-matches
returns-clause-matches c =
    let words : List Text = map string_bytes c.args.words.now in
    matched c.try_get_matches_from.result the_app words refl
    (subst (λ (a : App). IfOk c.try_get_matches_from.result (HasMatchesOf a words)) c.in_ok-program.ensures.app c.try_get_matches_from.ensures.matches)

pub returns-clause-refused : goal.returns-clause-refused
returns-clause-refused c = refused c.try_get_matches_from.result the_app (map string_bytes c.args.words.now) (fails_by c)
