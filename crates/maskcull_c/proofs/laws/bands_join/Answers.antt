use Rattle.maskcull_c.proofs.Joined.{drawn_joined, join, join_own, next_band, part}
use Rattle.maskcull_c.proofs.laws.bands_join.Goals as goal

pub returns : goal.returns
returns c = record {
  own = join_own;
  same = join;
  parts = part;
  drawn = drawn_joined;
  next = next_band;
}
