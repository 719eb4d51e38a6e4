use Rattle.edge_lanes.proofs.Around.{few_lanes}
use Rattle.edge_lanes.proofs.small_lanes.are_few.Goals as goal

pub returns-clause-across : goal.returns-clause-across
returns-clause-across c = λ h.
    let e = c.requires.across.are_three in let f = c.requires.down.are_three in
    (few_lanes c.args.across c.args.down c.requires.across c.requires.down (rw (e, f) at h)).0

pub returns-clause-down : goal.returns-clause-down
returns-clause-down c = λ h.
    let e = c.requires.across.are_three in let f = c.requires.down.are_three in
    (few_lanes c.args.across c.args.down c.requires.across c.requires.down (rw (e, f) at h)).1
