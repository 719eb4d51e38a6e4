use Rattle.std.proofs.Common.{arith, refl, sym, ap, ◌∙◌, subst}
use Rattle.cull_base.specs.Screen.{Dimensions, tile_columns_of}
use Rattle.cull_base.specs.Span.{IsSpan}
use Rattle.live_check.specs.Standing.{AreWhole, TilesOf}
use Rattle.live_check.proofs.Stating.{rows_begun, rows_ended}
use Rattle.live_check.proofs.tiles.Tiles.state.Goals as goal

pub loop-row-init : goal.loop-row-init
loop-row-init g c = record {
  stays = record { size = refl; states = refl; behind = refl };
  stated = rows_begun c.args.span.now c.args.self.now _ (omega (arith, c.tile_columns-columns.ensures.some, c.tile_columns-columns.ensures.value, ap (λ (x : TilesOf). tile_columns_of x.size) c.self.view_is)) (subst AreWhole c.self.view_is c.self.invariant);
  faults = omega arith;
}

pub state_row-requires : goal.state_row-requires
state_row-requires g c = record {
  span = subst (λ (d : Dimensions). IsSpan d c.args.span.now) (sym c.loop-row.invariant.stays.size) c.requires;
  row = (c.loop-row.auto.row, c.loop-row-test.true);
}

pub loop-row-preserved : goal.loop-row-preserved
loop-row-preserved g c =
    let i = c.loop-row.invariant in
    let row = c.in_ok-state_row.ensures in
    record {
      stays = record { size = row.stays.size ∙ i.stays.size; states = row.stays.states ∙ i.stays.states; behind = row.stays.behind ∙ i.stays.behind };
      stated = row.yes c.if-not-branch.false c.args.self.now _ i.stated;
      faults = omega (arith, i.faults, row.fails.faults_stay);
    }

pub returns-then-not-branch-clause-no : goal.returns-then-not-branch-clause-no
returns-then-not-branch-clause-no g c _ = c.in_ok-state_row.ensures.no c.if-not-branch.true c.args.self.now _ c.loop-row.invariant.stated

pub returns-clause-yes : goal.returns-clause-yes
returns-clause-yes g c _ =
    let rows = c.requires.rows in let within = c.requires.rows_within in
    rows_ended c.args.span.now c.loop-row.row c.args.self.now c.loop-row.self _ _ c.requires
    (omega (arith, c.tile_columns-columns.ensures.some, c.tile_columns-columns.ensures.value, ap (λ (x : TilesOf). tile_columns_of x.size) c.self.view_is))
    (omega (arith, c.loop-row-test.false)) (omega (arith, c.loop-row.auto.row-end, rows, within)) c.loop-row.invariant.stated

pub returns-clause-stays : goal.returns-clause-stays
returns-clause-stays g c = c.loop-row.invariant.stays
