use Rattle.std.proofs.Common.{subst}
use Rattle.binning.specs.Cut.{IsCut}
use Rattle.cull_base.specs.Screen.{Dimensions, IsSize}
use Rattle.bin_tiles.specs.BinViews.{TableOf}
use Rattle.bin_tiles.proofs.BinLooks.{shown}
use Rattle.bin_tiles.proofs.bin_view.BinView.of.Goals as goal

pub returns-clause-holds : goal.returns-clause-holds
returns-clause-holds c = λ t lt.
    let sized = subst (λ (s : Dimensions). IsSize s.width s.height) c.size.ensures c.width-width.ensures.valid in
    let valid = subst (λ (x : TableOf). IsCut x.cut.columns x.cut.rows) c.table.view_is c.columns-columns.ensures.valid in
    (shown c.args.list.now.list c.args.table.now c.args.bins.now t sized valid c.len-len.ensures.pieces c.requires.size c.requires.drawn lt).holds

pub returns-clause-states : goal.returns-clause-states
returns-clause-states c = λ t lt.
    let sized = subst (λ (s : Dimensions). IsSize s.width s.height) c.size.ensures c.width-width.ensures.valid in
    let valid = subst (λ (x : TableOf). IsCut x.cut.columns x.cut.rows) c.table.view_is c.columns-columns.ensures.valid in
    (shown c.args.list.now.list c.args.table.now c.args.bins.now t sized valid c.len-len.ensures.pieces c.requires.size c.requires.drawn lt).states
