use Rattle.masked_update.proofs.TileLists.{none_taken, next_taken}
use Rattle.masked_update.proofs.member.next_member.Goals as goal

pub returns : goal.returns
returns c = record { none = λ tile list. none_taken list.size tile; next = λ tile k list x m. next_taken tile k list x m }
