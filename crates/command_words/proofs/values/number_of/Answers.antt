use Rattle.std.specs.Str.Parse.{ExplainsUnsignedError, HasUnsignedDigitsIfOk, ParsesUnsigned}
use Rattle.clap.specs.Words.{found_of}
use Rattle.command_words.proofs.OptionNumbers.{number_got}
use Rattle.command_words.proofs.values.number_of.Goals as goal

pub returns : goal.returns
returns c =
    number_got (λ bs r. ParsesUnsigned 32 10 bs r × ExplainsUnsignedError 10 bs r × HasUnsignedDigitsIfOk bs r) (λ u x gives. gives.0) (found_of c.args.matches.now) c.args.option.now.name.now
    c.get_one.result c.get_one.ensures.value c.get_one.ensures.none c.requires
