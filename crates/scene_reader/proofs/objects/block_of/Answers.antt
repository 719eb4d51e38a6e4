use Rattle.std.proofs.Common.{rules, refl}
use Rattle.scene_reader.proofs.Shapes.{six_read}
use Rattle.scene_reader.proofs.objects.block_of.Goals as goal

pub returns : goal.returns
returns c = (refl, six_read c.args.n.now c.told-n (search rules) (search rules) (search rules) (search rules) (search rules) (search rules))
