use Rattle.std.proofs.Common.{◌≡◌, [], ◌+◌, ◌*◌, ◌<◌, ap, sym, subst, ◌∙◌, arith, length, set}
use Rattle.std.proofs.lemmas.Result.{on_ok_weaker}
use Rattle.std.proofs.lemmas.List.{get_or_default}
use Rattle.binning.specs.Parts.{part}
use Rattle.binning.specs.Pushed.{PushedWhere, part_at, with_index, is_bin_in_rows}
use Rattle.binning.proofs.Pushed.{pushed_in_one}
use Rattle.binning.proofs.fill.push_in_one.Goals as goal

pub returns : goal.returns
returns c =
    let screen = c.args.grid.now in
    let parts = c.args.parts.now in
    let rows = c.args.reach.rows in
    let columns = c.args.reach.columns in
    let at = rows.first * screen.cut.columns + columns.first in
    let here : c.bin_at.result ≡ at = c.bin_at.ensures.value in
    let lt : columns.first < screen.cut.columns = omega (arith, c.requires.one_column, c.requires.columns) in
    let within : at < length parts = omega (arith, here, c.bin_at.ensures.within, c.requires.parts) in
    let pushed = pushed_in_one screen rows.first columns.first c.args.index parts lt within c.requires.has_tiles in
    on_ok_weaker c.push.result
    (λ e.
    let put : c.push.new.self ≡ with_index c.args.index (part_at parts at) = e ∙ ap (with_index c.args.index) (get_or_default parts c.bin_at.result _ (part 0 0 []) (omega (arith, here, within)) ∙ ap (part_at parts) here) in
    let is : set parts c.bin_at.result c.push.new.self ≡ set parts at (with_index c.args.index (part_at parts at)) = ap (λ n. set parts n c.push.new.self) here ∙ ap (set parts at) put in
    rw (c.requires.one_row, c.requires.one_column) (subst (PushedWhere (is_bin_in_rows screen rows.first (rows.first + 1) columns.first (columns.first + 1)) c.args.index parts) (sym is) pushed))
    c.push.ensures
