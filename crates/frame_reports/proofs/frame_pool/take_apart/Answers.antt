use Rattle.std.proofs.Common.{suc, List, arith, subst, ◌∙◌}
use Rattle.std.specs.List.{All}
use Rattle.frame_reports.specs.Windows.{HasPlaces}
use Rattle.frame_reports.specs.declared.frame_pool.Maker.{Maker}
use Rattle.frame_reports.proofs.frame_pool.take_apart.Goals as goal

pub loop-maker-preserved : goal.loop-maker-preserved
loop-maker-preserved g c =
    let i = c.loop-maker.invariant in
    let s = c.in-Some.ensures.steps in
    let left = subst (λ (ms : List (Maker g.row.P.Denot)). All (λ m. HasPlaces c.args.scene.now m.room) ms) s.0 i.6 in (
      tt,
      tt,
      omega (arith, i.2, s.1, c.push_reserved.ensures.len),
      omega (arith, i.3, s.1, c.put_last.ensures.count),
      c.push_reserved.ensures.capacity ∙ i.4,
      c.put_last.ensures.capacity ∙ i.5,
      (λ k d lt. left (suc k) d (omega (arith, lt))),
      c.put_last.ensures.places,
    )
