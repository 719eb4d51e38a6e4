use Rattle.std.proofs.Common.{◌≡◌, ◌-◌, arith, length, subst}
use Rattle.masked_update.specs.Least.{NoneBelow}
use Rattle.masked_update.specs.TileOf.{tile_at}
use Rattle.masked_update.proofs.Walks.{row_number_on}
use Rattle.masked_update.proofs.walk.marks.Goals as goal

pub marks_from-requires-clause-within : goal.marks_from-requires-clause-within
marks_from-requires-clause-within c =
    let now = c.args.canvas.now in
    let some = c.requires.some in
    let within = c.requires.within in
    let (number, inside) = row_number_on now c.window-window.result c.args.span c.args.row c.args.column c.row_start.result (c.args.count - 1) c.window-window.ensures.value c.row_start.ensures c.window-window.ensures.whole c.requires.part
    c.requires.row.0 c.requires.row.1 c.requires.column (omega (arith, some, within)) in
    omega (arith, number, inside, some)

pub returns-clause-behind : goal.returns-clause-behind
returns-clause-behind c i lt clear =
    let now = c.args.canvas.now in
    let within = c.requires.within in
    let (number, inside) = row_number_on now c.window-window.result c.args.span c.args.row c.args.column c.row_start.result i c.window-window.ensures.value c.row_start.ensures c.window-window.ensures.whole c.requires.part
    c.requires.row.0 c.requires.row.1 c.requires.column (omega (arith, lt, within)) in
    subst (λ n. NoneBelow c.args.nearest (tile_at now.tiles n)) number (c.marks_from.ensures.behind i lt clear)

pub returns-clause-eight : goal.returns-clause-eight
returns-clause-eight c i lt =
    let now = c.args.canvas.now in
    let within = c.requires.within in
    let (number, inside) = row_number_on now c.window-window.result c.args.span c.args.row c.args.column c.row_start.result i c.window-window.ensures.value c.row_start.ensures c.window-window.ensures.whole c.requires.part
    c.requires.row.0 c.requires.row.1 c.requires.column (omega (arith, lt, within)) in
    subst (λ n. length (tile_at now.tiles n).subs ≡ 8) number (c.marks_from.ensures.eight i lt)
