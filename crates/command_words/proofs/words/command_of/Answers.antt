use Rattle.std.proofs.Common.{◌∙◌, ⊎_elim, sym, map, string_bytes, None}
use Rattle.std.proofs.lemmas.Result.{IfErr-weaker}
use Rattle.clap.specs.Words.{found_of, rows_of}
use Rattle.command_words.proofs.AskedWords.{answers_none, answers_some, asked, command_entered, is_entered, no_command, none_asked, plain_asked}
use Rattle.command_words.proofs.NamedWords.{refused_alone}
use Rattle.command_words.proofs.words.command_of.Goals as goal

pub returns-in-Err-clause-none : goal.returns-in-Err-clause-none
returns-in-Err-clause-none c words = ⊎_elim (λ memory. absurd (c.refused_with.ensures words memory)) (λ fails. none_asked _ fails) c.in-Err.ensures.refused

pub returns-in-Err-clause-refused : goal.returns-in-Err-clause-refused
returns-in-Err-clause-refused c words = ⊎_elim (λ memory. absurd (c.refused_with.ensures words memory)) (λ fails. fails) c.in-Err.ensures.refused

pub returns-in-Err-clause-plain : goal.returns-in-Err-clause-plain
returns-in-Err-clause-plain c r plain = plain_asked _ r plain

pub asked_in-requires : goal.asked_in-requires
asked_in-requires c =
    is_entered (map string_bytes c.args.words.now) c.in-Some.name.now (rows_of (found_of c.in-Some.matches.now)) c.in-Ok.ensures.fault
    (sym c.in-Ok.ensures.matches ∙ command_entered c.in-Ok.matches _ _ c.in-Some.ensures.name c.in-Some.ensures.rows)

pub returns-in-Some-clause-some : goal.returns-in-Some-clause-some
returns-in-Some-clause-some c =
    let is = asked (map string_bytes c.args.words.now) _ c.in-Ok.ensures.fault
    (sym c.in-Ok.ensures.matches ∙ command_entered c.in-Ok.matches _ _ c.in-Some.ensures.name c.in-Some.ensures.rows) in
    answers_some _ _ c.ok_or.result (is ∙ sym c.asked_in.ensures.value) c.ok_or.ensures.value

pub returns-in-Some-clause-none : goal.returns-in-Some-clause-none
returns-in-Some-clause-none c =
    let is = asked (map string_bytes c.args.words.now) _ c.in-Ok.ensures.fault
    (sym c.in-Ok.ensures.matches ∙ command_entered c.in-Ok.matches _ _ c.in-Some.ensures.name c.in-Some.ensures.rows) in
    answers_none _ _ c.ok_or.result (is ∙ sym c.asked_in.ensures.value) c.ok_or.ensures.value

pub returns-in-Some-clause-refused : goal.returns-in-Some-clause-refused
returns-in-Some-clause-refused c = IfErr-weaker c.ok_or.result _ _ (λ e none words. refused_alone (map string_bytes c.args.words.now) (none words)) (returns-in-Some-clause-none c)

pub returns-in-Some-clause-plain : goal.returns-in-Some-clause-plain
returns-in-Some-clause-plain c r plain = plain_asked _ r plain

pub returns-clause-none : goal.returns-clause-none
returns-clause-none c _ = asked (map string_bytes c.args.words.now) None c.in-Ok.ensures.fault (sym c.in-Ok.ensures.matches ∙ no_command c.in-Ok.matches c.in-None.ensures.name)

pub returns-clause-refused : goal.returns-clause-refused
returns-clause-refused c words = refused_alone (map string_bytes c.args.words.now) (returns-clause-none c words)

pub returns-clause-plain : goal.returns-clause-plain
returns-clause-plain c r plain = plain_asked _ r plain
