use Rattle.std.proofs.Common.{◌≡◌, arith}
use Rattle.scene_reader.proofs.header.flags_of.Goals as goal

pub returns-then-version-eq1 : goal.returns-then-version-eq1
returns-then-version-eq1 c = rw c.if-version-eq1.true c.flags_of_first.ensures

pub returns : goal.returns
returns c =
    let two : c.args.version ≡ 2 = omega (arith, c.requires.some, c.requires.known, c.if-version-eq1.false) in
    rw two c.flags_of_second.ensures
