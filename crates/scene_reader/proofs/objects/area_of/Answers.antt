use Rattle.std.proofs.Common.{w32, rules, refl, get_or, pos}
use mir.Val.{SFits}
use Rattle.scene_reader.proofs.Shapes.{six_read, area_padded, not_zero, zero_is}
use Rattle.scene_reader.proofs.objects.area_of.Goals as goal

pub returns-then-n-ne0-clause-refused : goal.returns-then-n-ne0-clause-refused
returns-then-n-ne0-clause-refused c = λ m. area_padded m c.args.n.now (not_zero (get_or c.args.n.now 5 (pos 0)) c.if-n-ne0.true)

pub returns-clause-made : goal.returns-clause-made
returns-clause-made c =
    let n = c.args.n.now in
    let last : SFits w32 (get_or n 5 (pos 0)) = search rules in
    let zero = zero_is (get_or n 5 (pos 0)) last c.if-n-ne0.false in
    (refl, rw zero at (six_read n c.told-n (search rules) (search rules) (search rules) (search rules) (search rules) last))
