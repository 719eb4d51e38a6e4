use Rattle.command_words.proofs.NamedWords as named
use Rattle.command_words.proofs.laws.named_or_refused.Goals as goal

pub returns : goal.returns
returns c = named.named_or_refused
