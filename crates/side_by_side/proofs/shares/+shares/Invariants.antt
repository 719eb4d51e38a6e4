use Rattle.std.proofs.Common.{◌+◌, ◌-◌, ◌*◌, length}
use Rattle.side_by_side.proofs.shares.+shares.Given as goal

abbrev pub decreases-share_and_rest-back : goal.decreases-share_and_rest-back
decreases-share_and_rest-back g l = 4 * length l.rest.now + 1

abbrev pub decreases-share_and_rest : goal.decreases-share_and_rest
decreases-share_and_rest g l = 4 * (length l.share.now + length l.rest.now) - 1

abbrev pub decreases-shares_from : goal.decreases-shares_from
decreases-shares_from g l = 4 * length l.s.now
