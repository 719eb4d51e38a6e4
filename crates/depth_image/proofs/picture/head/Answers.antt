use Rattle.std.specs.Prelude.{codes}
use Rattle.std.specs.Fmt.{decimal}
use Rattle.depth_image.specs.Picture.{head_text}
use Rattle.depth_image.proofs.Pictures.{head_is}
use Rattle.depth_image.proofs.picture.head.Goals as goal

pub returns-clause-value : goal.returns-clause-value
unfolding head_text
returns-clause-value c =
    rw (
      c.end-3.ensures,
      c.push_number-2.ensures.value,
      c.end-2.ensures,
      c.number.ensures.value,
      c.push_number.ensures.value,
      c.end.ensures,
      c.begin-text.ensures,
      c.from.ensures,
      c.from-2.ensures,
      c.from-3.ensures,
      c.width.ensures.value,
      c.height.ensures.value,
    )
    (head_is (codes "P2") (decimal c.args.size.width) (decimal c.args.size.height) (decimal 65535))
