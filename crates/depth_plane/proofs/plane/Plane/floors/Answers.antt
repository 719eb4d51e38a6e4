use Rattle.depth_plane.specs.Plane.{sub_in}
use Rattle.depth_plane.proofs.Depths.{low_of-raised}
use Rattle.depth_plane.proofs.plane.Plane.floors.Goals as goal

pub returns-in-Some-clause-raised : goal.returns-in-Some-clause-raised
returns-in-Some-clause-raised c = λ x plane piece j lt. low_of-raised x (sub_in c.args.tile j) c.args.self.now _ plane piece (c.in-Some.ensures j lt)

pub returns-in-None-clause-raised : goal.returns-in-None-clause-raised
returns-in-None-clause-raised c = λ x plane piece j lt. low_of-raised x (sub_in c.args.tile j) c.args.self.now _ plane piece (c.floors_read.ensures j lt)
