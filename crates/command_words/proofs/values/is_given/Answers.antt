use Rattle.clap.specs.Words.{found_of}
use Rattle.command_words.proofs.OptionNumbers.{flag_read}
use Rattle.command_words.proofs.values.is_given.Goals as goal

pub returns : goal.returns
returns c = flag_read (found_of c.args.matches.now) c.args.option.now.name.now c.get_flag.result c.requires c.get_flag.ensures.value c.get_flag.ensures.other
